-- Events that are due.
use Rattle.std.proofs.Common.{◌≡◌, ℕ, Bool, true, false, refl, sym, ap, ◌∙◌, subst}
use Rattle.std.specs.Prelude.{Option, Some, None, is_some, slice_get}
use Rattle.std.specs.Option.{option_map_or}
use Rattle.fam_base.specs.declared.error.FamError.{FamError}
use Rattle.fam_model.specs.declared.call.Call.{Call}
use Rattle.fam_model.specs.declared.call.Call.TheVariants as call
use Rattle.fam_model.specs.declared.call.MetaCall.{MetaCall}
use Rattle.fam_model.specs.declared.change.Change.{Change}
use Rattle.fam_model.specs.declared.event.Event.{Event}
use Rattle.fam_model.specs.declared.event.What.{What}
use Rattle.fam_model.specs.declared.event.What.TheVariants as what
use Rattle.fam_model.specs.declared.reply.Reply.{Reply}
use Rattle.fam_model.specs.declared.reply.Reply.TheVariants as reply
use Rattle.fam_model.specs.declared.request.Request.{Request}
use Rattle.fam_model.specs.declared.rows.Rows.{Rows}
use Rattle.fam_model.specs.declared.service.Service.{Service}
use Rattle.fam_model.specs.declared.state.ProgramState.{ProgramState}
use Rattle.fam_model.specs.declared.state.Started.{Started}
use Rattle.fam_model.specs.declared.state.Started.TheVariants as begun
use Rattle.fam_model.specs.declared.state.State.{State}
use Rattle.fam_model.specs.Directory.{first_choice}
use Rattle.fam_model.specs.Earned.{is_disk_fault}
use Rattle.fam_model.specs.History.{change_in, change_served}
use Rattle.fam_model.specs.Issue.{issue_refusal}
use Rattle.fam_model.specs.Limits.{service_limits}
use Rattle.fam_model.specs.Lists.{◌>>=◌}
use Rattle.fam_model.specs.MetaStep.{told_change}
use Rattle.fam_model.specs.Operations.{result}
use Rattle.fam_model.specs.PieceStep.{due_answer}
use Rattle.fam_model.specs.Programs.{placed, program_of, request_of}
use Rattle.fam_model.specs.Step.{step}
use Rattle.fam_model.specs.Turn.{call_made}
use Rattle.fam_schedule.specs.Schedule.{begins, due_reply, event_of, first_event, loss, piece_event}
use Rattle.fam_schedule.proofs.Comes.{first_makes, is_tame}
use Rattle.fam_schedule.proofs.Options.{bind_some}
use Rattle.fam_turns.specs.declared.next.Next.{Next}
use Rattle.fam_turns.specs.Turns.{answer_of, event_with, next_by}
use Rattle.fam_steps.specs.declared.step.Step.{Step}
use Rattle.fam_steps.specs.declared.step.Step.TheVariants as asked
use Rattle.fam_keeper.specs.declared.kept.Kept.{Kept}
use Rattle.fam_keeper.specs.declared.kept.Kept.TheVariants.{Served, Refused}
use Rattle.fam_steps.specs.Steps.{Course, HasShape, IsDue, IsEnabled, MakesDue, Serves, come, event_for, least_change, piece_name, refused_what}
use Rattle.fam_steps.proofs.Enabled.{parts}
use Rattle.fam_steps.proofs.Serving.{change_is, due_is_least}
use Rattle.fam_steps.proofs.Keeping.{serves_call}

same_some : {A : Type 0} (x y : A) → Some x ≡ Some y → x ≡ y
same_some x y e = cc

tame_calm : (w : What) → is_tame w ≡ true → is_disk_fault w ≡ false
tame_calm (what.Refused asked e doubt) h = cc
tame_calm w h = refl

-- the first event of a call on the directory has the reply that is due

-- the request of a call, and the reply that is due to it
record Asks (rows : Rows) (p : ProgramState) (asked : MetaCall) (given : Reply) : Type 0 where
  pub wanted : Request
  pub request : request_of p asked ≡ Some wanted
  pub due : due_reply rows p.who wanted ≡ Some given

asks_begin : (rows : Rows) (p : ProgramState) (made : Call) (asked : MetaCall) (given : Reply) → made ≡ call.Meta asked → begins rows p made ≡ Some (what.Meta asked given) → Asks rows p asked given
asks_begin rows p made asked given is h =
    let begun : begins rows p (call.Meta asked) ≡ Some (what.Meta asked given) = ap (begins rows p) (sym is) ∙ h in
    let b = bind_some (request_of p asked) (λ wanted. due_reply rows p.who wanted >>= λ told. Some (what.Meta asked told)) (what.Meta asked given) begun in
    let c = bind_some (due_reply rows p.who b.0) (λ told. Some (what.Meta asked told)) (what.Meta asked given) b.2 in
    let same : what.Meta asked c.0 ≡ what.Meta asked given = same_some (what.Meta asked c.0) (what.Meta asked given) c.2 in
    let reply_is : c.0 ≡ given = cc in
    record { wanted = b.0; request = b.1; due = c.1 ∙ ap Some reply_is }

asks_by : (refusal : Option FamError) (rows : Rows) (p : ProgramState) (made : Call) (asked : MetaCall) (given : Reply) → made ≡ call.Meta asked →
    option_map_or (λ e. Some (what.Issue made (reply.Error e))) refusal (begins rows p made) ≡ Some (what.Meta asked given) → Asks rows p asked given
asks_by None rows p made asked given is h = asks_begin rows p made asked given is h
asks_by (Some e) rows p made asked given is h =
    let no : what.Issue made (reply.Error e) ≡ what.Meta asked given = same_some (what.Issue made (reply.Error e)) (what.Meta asked given) h in cc

-- the change that it serves has the least base
least_by : (state : State) (pe : ℕ) (p : ProgramState) (w : What) (change : Change) → program_of state pe ≡ Some p →
    ((asked : MetaCall) (given : Reply) → w ≡ what.Meta asked given → Asks state.rows p asked given) →
    change_in state pe w ≡ Some change → least_change state pe (call_made w) ≡ Some change
least_by state pe p w change there asks h =
    let c = serves_call state pe w change h in
    let a = asks c.0 c.1 c.2 in
    let served : change_in state pe (what.Meta c.0 c.1) ≡ Some change = ap (change_in state pe) (sym c.2) ∙ h in
    let told : told_change state.rows p.who a.wanted c.1 ≡ Some change =
    sym (change_is state pe p (what.Meta c.0 c.1) there ∙ ap (λ (o : Option Request). o >>= λ wanted. told_change state.rows p.who wanted c.1) a.request) ∙ served in
    ap (λ v. least_change state pe (call_made v)) c.2
    ∙ ap (λ (o : Option ProgramState). o >>= λ q. request_of q c.0 >>= λ wanted. first_choice state.rows q.who wanted) there
    ∙ ap (λ (o : Option Request). o >>= λ wanted. first_choice state.rows p.who wanted) a.request
    ∙ due_is_least state.rows p.who a.wanted c.1 change a.due told

-- what comes next of a program is tame, and a call on the directory has the reply that is due
record Comes_due (state : State) (p : ProgramState) (w : What) : Type 0 where
  pub calm : is_disk_fault w ≡ false
  pub asks : (asked : MetaCall) (given : Reply) → w ≡ what.Meta asked given → Asks state.rows p asked given

first_due : (state : State) (p : ProgramState) (made : Call) (w : What) → first_event state.service state.rows p made ≡ Some w → Comes_due state p w
first_due state p made w h =
    let makes = first_makes state.service state.rows p made w h in
    record {
      calm = tame_calm w makes.1;
      asks = λ asked given is.
          let call_is : Some made ≡ Some (call.Meta asked) = sym makes.0 ∙ ap call_made is in
          asks_by (issue_refusal state.service p made) state.rows p made asked given (same_some made (call.Meta asked) call_is) (h ∙ ap Some is);
    }

-- what makes no call asks nothing
answers_due : (state : State) (p : ProgramState) (w : What) (given : Reply) → what.Answer given ≡ w → Comes_due state p w
answers_due state p w given is =
    record {
      calm = ap is_disk_fault (sym is);
      asks = λ asked told h. let no : what.Answer given ≡ what.Meta asked told = is ∙ h in cc;
    }

next_due : (state : State) (p : ProgramState) (s : Started) (wanted : Option Call) (next : Next) → next_by state.service state.rows p s wanted ≡ Some next → Comes_due state p next.what
next_due state p begun.Nothing wanted next h =
    let made : What → Option Next = λ first. Some (record { call = p.next_call; what = first }) in
    let b = bind_some wanted (λ c. first_event state.service state.rows p c >>= made) next h in
    let c = bind_some (first_event state.service state.rows p b.0) made next b.2 in
    let same : c.0 ≡ next.what = ap (λ (n : Next). n.what) (same_some (record { call = p.next_call; what = c.0 }) next c.2) in
    subst (Comes_due state p) same (first_due state p b.0 c.0 c.1)
next_due state p (begun.Operation n) wanted next h =
    let b = bind_some (placed p n) (λ at. Some (answer_of n (result at.operation))) next h in
    answers_due state p next.what (result b.0.operation) (ap (λ (x : Next). x.what) (same_some (answer_of n (result b.0.operation)) next b.2))
next_due state p (begun.Barrier n) wanted next h =
    answers_due state p next.what reply.Passed (ap (λ (x : Next). x.what) (same_some (answer_of n reply.Passed) next h))

due_by : (state : State) (pe : ℕ) (p : ProgramState) (next : Next) (due : Event) → program_of state pe ≡ Some p → Comes_due state p next.what → event_of pe next.call next.what ≡ due →
    is_some (step service_limits state due) ≡ true → IsDue state due
due_by state pe p next due there comes same steps =
    record {
      comes = steps;
      calm = ap (λ e. is_disk_fault e.what) (sym same) ∙ comes.calm;
      least = λ change h.
          ap (λ e. least_change state e.pe.0 (call_made e.what)) (sym same)
          ∙ least_by state pe p next.what change there comes.asks (ap (change_served state) same ∙ h);
    }

-- the next event of a program
pub turn_due : (state : State) (pe : ℕ) (wanted : Option Call) (due : Event) → event_with state pe wanted ≡ Some due → is_some (step service_limits state due) ≡ true → IsDue state due
turn_due state pe wanted due h steps =
    let n = parts state pe wanted due h in
    due_by state pe n.p n.next due n.there (next_due state n.p n.p.started wanted n.next n.is_next) n.is steps

-- what serves no change is due where it is calm
quiet_due : (state : State) (due : Event) → is_some (step service_limits state due) ≡ true → is_disk_fault due.what ≡ false → ((change : Change) → change_served state due ≡ Some change → ⊥) → IsDue state due
quiet_due state due steps calm quiet = record { comes = steps; calm = calm; least = λ change h. absurd (quiet change h) }

-- the event that a step is for
pub step_due : (state : State) (wanted : Step) (due : Event) → event_for state wanted ≡ Some due → is_some (step service_limits state due) ≡ true → IsDue state due
step_due state (asked.Call pe made) due h steps =
    let last : Next → Option Event = λ next. Some (event_of pe.0 next.call next.what) in
    let b = bind_some (program_of state pe.0) (λ p. next_by state.service state.rows p begun.Nothing (Some made) >>= last) due h in
    let c = bind_some (next_by state.service state.rows b.0 begun.Nothing (Some made)) last due b.2 in
    due_by state pe.0 b.0 c.0 due b.1 (next_due state b.0 begun.Nothing (Some made) c.0 c.1) (same_some (event_of pe.0 c.0.call c.0.what) due c.2) steps
step_due state (asked.Answer pe) due h steps =
    let last : Next → Option Event = λ next. Some (event_of pe.0 next.call next.what) in
    let b = bind_some (program_of state pe.0) (λ p. next_by state.service state.rows p p.started None >>= last) due h in
    let c = bind_some (next_by state.service state.rows b.0 b.0.started None) last due b.2 in
    due_by state pe.0 b.0 c.0 due b.1 (next_due state b.0 b.0.started None c.0 c.1) (same_some (event_of pe.0 c.0.call c.0.what) due c.2) steps
step_due state (asked.Piece pe made piece) due h steps =
    let name = piece_name pe.0 made piece in
    let b = bind_some (program_of state pe.0)
    (λ p. placed p made >>= λ at. slice_get at.operation.pieces piece >>= λ left. Some (event_of pe.0 made (what.Piece piece (due_answer state.rows state.memory p.who at.operation.kind left.piece)))) due h in
    let c = bind_some (placed b.0 made)
    (λ at. slice_get at.operation.pieces piece >>= λ left. Some (event_of pe.0 made (what.Piece piece (due_answer state.rows state.memory b.0.who at.operation.kind left.piece)))) due b.2 in
    let d = bind_some (slice_get c.0.operation.pieces piece) (λ left. Some (event_of pe.0 made (what.Piece piece (due_answer state.rows state.memory b.0.who c.0.operation.kind left.piece)))) due c.2 in
    let same : event_of pe.0 made (what.Piece piece (due_answer state.rows state.memory b.0.who c.0.operation.kind d.0.piece)) ≡ due =
    same_some (event_of pe.0 made (what.Piece piece (due_answer state.rows state.memory b.0.who c.0.operation.kind d.0.piece))) due d.2 in
    quiet_due state due steps (ap (λ e. is_disk_fault e.what) (sym same))
    (λ change served. let no : None ≡ Some change = ap (change_served state) same ∙ served in cc)
step_due state (asked.Lose pe made piece) due h steps =
    let same : loss (piece_name pe.0 made piece) ≡ due = same_some (loss (piece_name pe.0 made piece)) due h in
    quiet_due state due steps (ap (λ e. is_disk_fault e.what) (sym same))
    (λ change served. let no : None ≡ Some change = ap (change_served state) same ∙ served in cc)

-- what comes

refused_call : (w : What) (doubt : Bool) → call_made (refused_what w doubt) ≡ call_made w
refused_call (what.Meta asked given) doubt = refl
refused_call (what.Issue asked given) doubt = refl
refused_call (what.Piece piece given) doubt = refl
refused_call (what.Answer given) doubt = refl
refused_call (what.OpenContext context) doubt = refl
refused_call (what.CloseContext context given) doubt = refl
refused_call (what.Fence context) doubt = refl
refused_call (what.Quiet context given) doubt = refl
refused_call (what.Wait context named given) doubt = refl
refused_call what.Arrive doubt = refl
refused_call what.Leave doubt = refl
refused_call what.Crash doubt = refl
refused_call (what.Lose piece) doubt = refl
refused_call (what.Refused asked e told) doubt = refl

-- it has the shape of what is due
come_shape : (wanted : Step) (due : Event) (kept : Kept) → HasShape wanted due → HasShape wanted (come due kept)
come_shape wanted due Served shape = shape
come_shape (asked.Call pe made) due (Refused doubt) (p, c) = (p, refused_call due.what doubt ∙ c)
come_shape (asked.Answer pe) due (Refused doubt) (p, (given, is)) = (p, (given, ap (λ w. refused_what w doubt) is))
come_shape (asked.Piece pe made piece) due (Refused doubt) (p, c, (given, is)) = (p, c, (given, ap (λ w. refused_what w doubt) is))
come_shape (asked.Lose pe made piece) due (Refused doubt) (p, c, is) = (p, c, ap (λ w. refused_what w doubt) is)

pub served : (old new : Course) (wanted : Step) (due : Event) (kept : Kept) → IsEnabled old.state wanted due → MakesDue old due (come due kept) new → Serves old wanted (come due kept) new
served old new wanted due kept e makes = record { shape = come_shape wanted due kept e.shape; due = due; is_due = e.is_due; makes = makes }
