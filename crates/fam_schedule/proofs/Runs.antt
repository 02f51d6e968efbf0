-- A history that the schedule gives is one legal run of its script.
use Rattle.std.proofs.Common.{◌≡◌, ℕ, ◌+◌, Bool, true, false, List, [], ◌∷◌, ◌++◌, refl, sym, ap, ◌∙◌, arith, subst, inl, inr}
use Rattle.std.specs.Prelude.{◌==◌, Option, Some, None, slice_get, slice_set, ◌≢◌, ◌⊎◌}
use Rattle.std.proofs.lemmas.Bool.{eqb-true}
use Rattle.rand_pcg.specs.Lcg.{Lcg}
use Rattle.fam_model.specs.declared.call.Call.{Call}
use Rattle.fam_model.specs.declared.call.Call.TheVariants as call
use Rattle.fam_model.specs.declared.call.DataOp.{DataOp}
use Rattle.fam_model.specs.declared.event.Event.{Event}
use Rattle.fam_model.specs.declared.event.What.{What}
use Rattle.fam_model.specs.declared.event.What.TheVariants as what
use Rattle.fam_model.specs.declared.reply.Reply.{Reply}
use Rattle.fam_model.specs.declared.reply.Reply.TheVariants as reply
use Rattle.fam_model.specs.declared.script.Program.{Program as Text}
use Rattle.fam_model.specs.declared.script.Script.{Script}
use Rattle.fam_model.specs.declared.state.ProgramState.{ProgramState}
use Rattle.fam_model.specs.declared.state.Started.{Started}
use Rattle.fam_model.specs.declared.state.Started.TheVariants as begun
use Rattle.fam_model.specs.declared.state.State.{State}
use Rattle.fam_model.specs.History.{reply_made}
use Rattle.fam_model.specs.Limits.{service_limits}
use Rattle.fam_model.specs.Lists.{◌>>=◌}
use Rattle.fam_model.specs.Operations.{result}
use Rattle.fam_model.specs.Programs.{placed, program_of}
use Rattle.fam_model.specs.Step.{step}
use Rattle.fam_model.specs.Text.{next_call, is_call}
use Rattle.fam_model.specs.Turn.{call_made}
use Rattle.fam_model.specs.contracts.call.CallEq.TheImpl.Laws as call_laws
use Rattle.fam_schedule.specs.Schedule.{Run, Comes, next_step, event_of, event_after, first_event, replies_to, went_on}
use Rattle.fam_schedule.proofs.Options.{bind_some}
use Rattle.fam_schedule.proofs.Told.{speaks, is_mine}
use Rattle.fam_schedule.proofs.Moves.{started_after, number_after, Moved, Moves, step_moves}
use Rattle.fam_schedule.proofs.Places.{get_set_same, get_set_other}
use Rattle.fam_schedule.proofs.Follows.{Tells, Settled, Awaits, tells_skip, tells_replied, tells_started, tells_answered}
use Rattle.fam_schedule.proofs.Comes.{IsDue, first_makes}
use Rattle.fam_schedule.proofs.Refusals.{IsRefused, IsDueOrRefused, comes_instead, disk_refusal, refused_at}

-- what holds of each program of a run
pub record TellsOne (text : Text) (run : Run) (pe : ℕ) : Type 0 where
  pub p : ProgramState
  pub there : program_of run.now pe ≡ Some p
  pub tells : Tells text pe p.next_call p.started run.before

-- of all
abbrev pub TellsAll : Script → Run → Type 0
TellsAll script run = (pe : ℕ) → (text : Text) → slice_get script.programs pe ≡ Some text → TellsOne text run pe

-- which call an event leaves started

some_same : {A : Type 0} (x y : A) → Some x ≡ Some y → x ≡ y
some_same x y e = cc

-- it has its reply, and nothing is started
pub record IsReplied (p : ProgramState) (made : What) : Type 0 where
  pub given : Reply
  pub reply_is : reply_made made ≡ Some given
  pub nothing : started_after p made ≡ begun.Nothing

-- it has no reply yet: it is the issue of an operation that is waited for, or an arrival
abbrev pub IsBegun : ProgramState → What → Type 0
IsBegun p made =
    (reply_made made ≡ None) × (((c : ℕ) × (op : DataOp) × (made ≡ what.Issue (call.Data c op true) reply.Issued)) ⊎ (made ≡ what.Arrive))

replied : (p : ProgramState) (made : What) (given : Reply) → reply_made made ≡ Some given → started_after p made ≡ begun.Nothing → IsReplied p made ⊎ IsBegun p made
replied p made given e f = inl (record { given = given; reply_is = e; nothing = f })

-- a call that is made has its reply, or is started
pub leaves : (p : ProgramState) (made : What) (asked : Call) → call_made made ≡ Some asked → IsReplied p made ⊎ IsBegun p made
leaves p (what.Meta a given) asked e = replied p (what.Meta a given) given refl refl
leaves p (what.Issue (call.Data c op true) reply.Issued) asked e = inr (refl, inl (c, op, refl))
leaves p (what.Issue (call.Data c op true) reply.Done) asked e = replied p (what.Issue (call.Data c op true) reply.Done) reply.Done refl refl
leaves p (what.Issue (call.Data c op true) (reply.Bytes b)) asked e = replied p (what.Issue (call.Data c op true) (reply.Bytes b)) (reply.Bytes b) refl refl
leaves p (what.Issue (call.Data c op true) (reply.Region b)) asked e = replied p (what.Issue (call.Data c op true) (reply.Region b)) (reply.Region b) refl refl
leaves p (what.Issue (call.Data c op true) (reply.Item b)) asked e = replied p (what.Issue (call.Data c op true) (reply.Item b)) (reply.Item b) refl refl
leaves p (what.Issue (call.Data c op true) (reply.RegionStat b)) asked e = replied p (what.Issue (call.Data c op true) (reply.RegionStat b)) (reply.RegionStat b) refl refl
leaves p (what.Issue (call.Data c op true) (reply.ItemStat b)) asked e = replied p (what.Issue (call.Data c op true) (reply.ItemStat b)) (reply.ItemStat b) refl refl
leaves p (what.Issue (call.Data c op true) (reply.Value b)) asked e = replied p (what.Issue (call.Data c op true) (reply.Value b)) (reply.Value b) refl refl
leaves p (what.Issue (call.Data c op true) (reply.Report b)) asked e = replied p (what.Issue (call.Data c op true) (reply.Report b)) (reply.Report b) refl refl
leaves p (what.Issue (call.Data c op true) reply.Passed) asked e = replied p (what.Issue (call.Data c op true) reply.Passed) reply.Passed refl refl
leaves p (what.Issue (call.Data c op true) reply.Left) asked e = replied p (what.Issue (call.Data c op true) reply.Left) reply.Left refl refl
leaves p (what.Issue (call.Data c op true) reply.Crashed) asked e = replied p (what.Issue (call.Data c op true) reply.Crashed) reply.Crashed refl refl
leaves p (what.Issue (call.Data c op true) (reply.Error b)) asked e = replied p (what.Issue (call.Data c op true) (reply.Error b)) (reply.Error b) refl refl
leaves p (what.Issue (call.Meta a) given) asked e = replied p (what.Issue (call.Meta a) given) given refl refl
leaves p (what.Issue (call.Data c op false) given) asked e = replied p (what.Issue (call.Data c op false) given) given refl refl
leaves p (what.Issue (call.OpenContext c) given) asked e = replied p (what.Issue (call.OpenContext c) given) given refl refl
leaves p (what.Issue (call.CloseContext c) given) asked e = replied p (what.Issue (call.CloseContext c) given) given refl refl
leaves p (what.Issue (call.CopyWait c n) given) asked e = replied p (what.Issue (call.CopyWait c n) given) given refl refl
leaves p (what.Issue (call.Fence c) given) asked e = replied p (what.Issue (call.Fence c) given) given refl refl
leaves p (what.Issue (call.Quiet c) given) asked e = replied p (what.Issue (call.Quiet c) given) given refl refl
leaves p (what.Issue call.Barrier given) asked e = replied p (what.Issue call.Barrier given) given refl refl
leaves p (what.Issue call.Leave given) asked e = replied p (what.Issue call.Leave given) given refl refl
leaves p (what.Issue call.Crash given) asked e = replied p (what.Issue call.Crash given) given refl refl
leaves p (what.Piece j given) asked e = cc
leaves p (what.Answer given) asked e = cc
leaves p (what.OpenContext c) asked e = replied p (what.OpenContext c) reply.Done refl refl
leaves p (what.CloseContext c given) asked e = replied p (what.CloseContext c given) given refl refl
leaves p (what.Fence c) asked e = replied p (what.Fence c) reply.Done refl refl
leaves p (what.Quiet c given) asked e = replied p (what.Quiet c given) given refl refl
leaves p (what.Wait c named given) asked e = replied p (what.Wait c named given) given refl refl
leaves p what.Arrive asked e = inr (refl, inr refl)
leaves p what.Leave asked e = replied p what.Leave reply.Left refl refl
leaves p what.Crash asked e = replied p what.Crash reply.Crashed refl refl
leaves p (what.Lose j) asked e = cc
leaves p (what.Refused a error doubt) asked e = replied p (what.Refused a error doubt) (reply.Error error) refl refl

tells_as : (text : Text) (pe n m : ℕ) (s t : Started) (history : List Event) → m ≡ n → t ≡ s → Tells text pe n s history → Tells text pe m t history
tells_as text pe n m s t history e f h =
    subst (λ k. Tells text pe k t history) (sym e) (subst (λ x. Tells text pe n x history) (sym f) h)

pub equal : (n : ℕ) → (n == n) ≡ true
equal n = grind arith

pub counted_up : (p : ProgramState) (made : What) (asked : Call) → call_made made ≡ Some asked → number_after p made ≡ p.next_call + 1
counted_up p made asked e = rw e refl

pub same_call_twice : (asked : Call) → is_call (Some asked) asked ≡ true
same_call_twice asked = call_laws.laws-law.refl asked

-- a call of the program
made_tells : (text : Text) (pe : ℕ) (p is : ProgramState) (history : List Event) (made : What) (asked : Call) → Settled text pe p.next_call history →
    call_made made ≡ Some asked → is_call (next_call text (replies_to history pe)) asked ≡ true → Moved p made is →
    IsReplied p made ⊎ IsBegun p made → Tells text pe is.next_call is.started (history ++ event_of pe p.next_call made ∷ [])
made_tells text pe p is history made asked s e due moved (inl r) =
    tells_as text pe (p.next_call + 1) is.next_call begun.Nothing is.started (history ++ event_of pe p.next_call made ∷ [])
    (moved.number ∙ counted_up p made asked e) (moved.started ∙ r.nothing)
    (tells_replied text pe p.next_call history (event_of pe p.next_call made) asked r.given s (equal pe) refl e r.reply_is due)
made_tells text pe p is history made asked s e due moved (inr (none, inl (c, op, o))) =
    tells_as text pe (p.next_call + 1) is.next_call (begun.Operation p.next_call) is.started (history ++ event_of pe p.next_call made ∷ [])
    (moved.number ∙ counted_up p made asked e) (moved.started ∙ ap (started_after p) o)
    (tells_started text pe p.next_call history (event_of pe p.next_call made) asked s (equal pe) refl e none due)
made_tells text pe p is history made asked s e due moved (inr (none, inr b)) =
    tells_as text pe (p.next_call + 1) is.next_call (begun.Barrier p.next_call) is.started (history ++ event_of pe p.next_call made ∷ [])
    (moved.number ∙ counted_up p made asked e) (moved.started ∙ ap (started_after p) b)
    (tells_started text pe p.next_call history (event_of pe p.next_call made) asked s (equal pe) refl e none due)

-- the answer of the program's started call
answer_tells : (text : Text) (pe c : ℕ) (p is : ProgramState) (history : List Event) (given : Reply) → Awaits text pe p.next_call c history →
    Moved p (what.Answer given) is → Tells text pe is.next_call is.started (history ++ event_of pe c (what.Answer given) ∷ [])
answer_tells text pe c p is history given a moved =
    tells_as text pe p.next_call is.next_call begun.Nothing is.started (history ++ event_of pe c (what.Answer given) ∷ []) moved.number moved.started
    (tells_answered text pe p.next_call c history (event_of pe c (what.Answer given)) given a (equal pe) refl refl refl)

-- the next event of the program
own_by : (script : Script) (run : Run) (text : Text) (pe : ℕ) (p is : ProgramState) (event : Event) (s : Started) → slice_get script.programs pe ≡ Some text →
    event_after script run pe p s ≡ Some event → Tells text pe p.next_call s run.before → Moved p event.what is →
    (event.pe.0 ≡ pe) × Tells text pe is.next_call is.started (run.before ++ event ∷ [])
own_by script run text pe p is event begun.Nothing there h tells moved =
    let last : Text → Call → What → Option Event = λ program asked first. Some (event_of pe p.next_call first) in
    let b = bind_some (slice_get script.programs pe)
    (λ program. next_call program (replies_to run.before pe) >>= λ asked. first_event run.now.service run.now.rows p asked >>= last program asked) event h in
    let c = bind_some (next_call b.0 (replies_to run.before pe)) (λ asked. first_event run.now.service run.now.rows p asked >>= last b.0 asked) event b.2 in
    let d = bind_some (first_event run.now.service run.now.rows p c.0) (last b.0 c.0) event c.2 in
    let same : event_of pe p.next_call d.0 ≡ event = cc in
    let text_is : b.0 ≡ text = cc in
    let made : call_made d.0 ≡ Some c.0 = (first_makes run.now.service run.now.rows p c.0 d.0 d.1).0 in
    let due : is_call (next_call text (replies_to run.before pe)) c.0 ≡ true =
    ap (λ t. is_call (next_call t (replies_to run.before pe)) c.0) (sym text_is) ∙ ap (λ o. is_call o c.0) c.1 ∙ same_call_twice c.0 in
    let moved_by : Moved p d.0 is = subst (λ e. Moved p e.what is) (sym same) moved in (
      ap (λ e. e.pe.0) (sym same),
      subst (λ e. Tells text pe is.next_call is.started (run.before ++ e ∷ [])) same
          (made_tells text pe p is run.before d.0 c.0 tells made due moved_by (leaves p d.0 c.0 made)),
    )
own_by script run text pe p is event (begun.Operation c) there h tells moved =
    let b = bind_some (placed p c) (λ at. Some (event_of pe c (what.Answer (result at.operation)))) event h in
    let same : event_of pe c (what.Answer (result b.0.operation)) ≡ event = cc in
    let moved_by : Moved p (what.Answer (result b.0.operation)) is = subst (λ e. Moved p e.what is) (sym same) moved in (
      ap (λ e. e.pe.0) (sym same),
      subst (λ e. Tells text pe is.next_call is.started (run.before ++ e ∷ [])) same (answer_tells text pe c p is run.before (result b.0.operation) tells moved_by),
    )
own_by script run text pe p is event (begun.Barrier c) there h tells moved =
    let same : event_of pe c (what.Answer reply.Passed) ≡ event = cc in
    let moved_by : Moved p (what.Answer reply.Passed) is = subst (λ e. Moved p e.what is) (sym same) moved in (
      ap (λ e. e.pe.0) (sym same),
      subst (λ e. Tells text pe is.next_call is.started (run.before ++ e ∷ [])) same (answer_tells text pe c p is run.before reply.Passed tells moved_by),
    )

-- one event more

pub apart_not_mine : (event : Event) (pe : ℕ) → (event.pe.0 == pe) ≡ false → is_mine pe event ≡ false
apart_not_mine event pe e = rw e refl

pub silent_not_mine : (event : Event) (pe : ℕ) (b : Bool) → (event.pe.0 == pe) ≡ b → speaks event.what ≡ false → is_mine pe event ≡ false
silent_not_mine event pe true e f = rw (e, f) refl
silent_not_mine event pe false e f = rw e refl

pub differ : (n m : ℕ) → (n == m) ≡ false → m ≢ n
differ n m e = grind arith

-- another program stands as it did
other_one : (text : Text) (run : Run) (event : Event) (next : State) (words : Lcg) (pe : ℕ) → TellsOne text run pe → Moves run.now event next →
    (event.pe.0 == pe) ≡ false → TellsOne text (went_on run event next words) pe
other_one text run event next words pe one moves apart =
    record {
      p = one.p;
      there = ap (λ ps. slice_get ps pe) moves.programs ∙ get_set_other run.now.programs event.pe.0 pe one.p moves.is one.there (differ event.pe.0 pe apart);
      tells = tells_skip text pe one.p.next_call one.p.started run.before event (apart_not_mine event pe apart) one.tells;
    }

-- a piece tells nothing of its program either
piece_one : (text : Text) (run : Run) (event : Event) (next : State) (words : Lcg) (pe : ℕ) → TellsOne text run pe → (moves : Moves run.now event next) →
    event.pe.0 ≡ pe → speaks event.what ≡ false → started_after moves.was event.what ≡ moves.was.started → number_after moves.was event.what ≡ moves.was.next_call →
    TellsOne text (went_on run event next words) pe
piece_one text run event next words pe one moves same silent started number =
    let was_there : program_of run.now pe ≡ Some moves.was = subst (λ k. program_of run.now k ≡ Some moves.was) same moves.there in
    let was_is : one.p ≡ moves.was = some_same one.p moves.was (sym one.there ∙ was_there) in
    record {
      p = moves.is;
      there = ap (λ ps. slice_get ps pe) (moves.programs ∙ ap (λ k. slice_set run.now.programs k moves.is) same) ∙ get_set_same run.now.programs pe one.p moves.is one.there;
      tells = tells_as text pe one.p.next_call moves.is.next_call one.p.started moves.is.started (run.before ++ event ∷ [])
          (moves.moved.number ∙ number ∙ ap (λ p. p.next_call) (sym was_is))
          (moves.moved.started ∙ started ∙ ap (λ p. p.started) (sym was_is))
          (tells_skip text pe one.p.next_call one.p.started run.before event (silent_not_mine event pe (event.pe.0 == pe) refl silent) one.tells);
    }

-- the program whose event it is
own_one : (script : Script) (text : Text) (run : Run) (event : Event) (next : State) (words : Lcg) (pe : ℕ) → slice_get script.programs pe ≡ Some text → TellsOne text run pe →
    (moves : Moves run.now event next) → event.pe.0 ≡ pe → (p : ProgramState) → program_of run.now pe ≡ Some p → event_after script run pe p p.started ≡ Some event →
    TellsOne text (went_on run event next words) pe
own_one script text run event next words pe text_there one moves same p there comes =
    let was_there : program_of run.now pe ≡ Some moves.was = subst (λ k. program_of run.now k ≡ Some moves.was) same moves.there in
    let p_is : one.p ≡ p = some_same one.p p (sym one.there ∙ there) in
    let was_is : moves.was ≡ p = some_same moves.was p (sym was_there ∙ there) in
    let moved : Moved p event.what moves.is = subst (λ q. Moved q event.what moves.is) was_is moves.moved in
    let tells : Tells text pe p.next_call p.started run.before = subst (λ q. Tells text pe q.next_call q.started run.before) p_is one.tells in
    record {
      p = moves.is;
      there = ap (λ ps. slice_get ps pe) (moves.programs ∙ ap (λ k. slice_set run.now.programs k moves.is) same) ∙ get_set_same run.now.programs pe p moves.is there;
      tells = (own_by script run text pe p moves.is event p.started text_there comes tells moved).1;
    }

-- the event of a program is its own
pub event_of_program : (script : Script) (run : Run) (pe : ℕ) (p : ProgramState) (s : Started) (event : Event) → event_after script run pe p s ≡ Some event → event.pe.0 ≡ pe
event_of_program script run pe p begun.Nothing event h =
    let last : Text → Call → What → Option Event = λ program asked first. Some (event_of pe p.next_call first) in
    let b = bind_some (slice_get script.programs pe)
    (λ program. next_call program (replies_to run.before pe) >>= λ asked. first_event run.now.service run.now.rows p asked >>= last program asked) event h in
    let c = bind_some (next_call b.0 (replies_to run.before pe)) (λ asked. first_event run.now.service run.now.rows p asked >>= last b.0 asked) event b.2 in
    let d = bind_some (first_event run.now.service run.now.rows p c.0) (last b.0 c.0) event c.2 in
    let same : event_of pe p.next_call d.0 ≡ event = cc in
    ap (λ e. e.pe.0) (sym same)
event_of_program script run pe p (begun.Operation c) event h =
    let b = bind_some (placed p c) (λ at. Some (event_of pe c (what.Answer (result at.operation)))) event h in
    let same : event_of pe c (what.Answer (result b.0.operation)) ≡ event = cc in
    ap (λ e. e.pe.0) (sym same)
event_of_program script run pe p (begun.Barrier c) event h =
    let same : event_of pe c (what.Answer reply.Passed) ≡ event = cc in
    ap (λ e. e.pe.0) (sym same)

-- the program whose next call the disk refuses
refused_one : (text : Text) (run : Run) (event : Event) (next : State) (words : Lcg) (pe : ℕ) → (one : TellsOne text run pe) → (moves : Moves run.now event next) → event.pe.0 ≡ pe →
    IsRefused text run pe one.p event → TellsOne text (went_on run event next words) pe
refused_one text run event next words pe one moves same r =
    let p = one.p in
    let made = disk_refusal r.asked r.doubt in
    let was_there : program_of run.now pe ≡ Some moves.was = subst (λ k. program_of run.now k ≡ Some moves.was) same moves.there in
    let was_is : moves.was ≡ p = some_same moves.was p (sym was_there ∙ one.there) in
    let moved : Moved p event.what moves.is = subst (λ q. Moved q event.what moves.is) was_is moves.moved in
    let moved_by : Moved p made moves.is = subst (λ e. Moved p e.what moves.is) r.is moved in
    let settled : Settled text pe p.next_call run.before = subst (λ s. Tells text pe p.next_call s run.before) r.nothing one.tells in
    let due : is_call (next_call text (replies_to run.before pe)) (call.Meta r.asked) ≡ true = ap (λ o. is_call o (call.Meta r.asked)) r.due ∙ same_call_twice (call.Meta r.asked) in
    record {
      p = moves.is;
      there = ap (λ ps. slice_get ps pe) (moves.programs ∙ ap (λ k. slice_set run.now.programs k moves.is) same) ∙ get_set_same run.now.programs pe p moves.is one.there;
      tells = subst (λ e. Tells text pe moves.is.next_call moves.is.started (run.before ++ e ∷ [])) (sym r.is)
          (made_tells text pe p moves.is run.before made (call.Meta r.asked) settled refl due moved_by (leaves p made (call.Meta r.asked) refl));
    }

mine_one : (script : Script) (text : Text) (run : Run) (event : Event) (next : State) (words : Lcg) (pe : ℕ) → slice_get script.programs pe ≡ Some text → TellsOne text run pe →
    (moves : Moves run.now event next) → event.pe.0 ≡ pe → IsDueOrRefused script run event → TellsOne text (went_on run event next words) pe
mine_one script text run event next words pe text_there one moves same (inl (inl o)) =
    let at : o.pe ≡ pe = sym (event_of_program script run o.pe o.p o.p.started event o.next) ∙ same in
    own_one script text run event next words pe text_there one moves same o.p
    (subst (λ k. program_of run.now k ≡ Some o.p) at o.there) (subst (λ k. event_after script run k o.p o.p.started ≡ Some event) at o.next)
mine_one script text run event next words pe text_there one moves same (inl (inr (inl o))) =
    piece_one text run event next words pe one moves same (ap (λ e. speaks e.what) o.is) (ap (λ e. started_after moves.was e.what) o.is) (ap (λ e. number_after moves.was e.what) o.is)
mine_one script text run event next words pe text_there one moves same (inl (inr (inr o))) =
    piece_one text run event next words pe one moves same (ap (λ e. speaks e.what) o.is) (ap (λ e. started_after moves.was e.what) o.is) (ap (λ e. number_after moves.was e.what) o.is)
mine_one script text run event next words pe text_there one moves same (inr o) =
    refused_one text run event next words pe one moves same (refused_at script run event pe text one.p same text_there one.there o)

one_by : (mine : Bool) (script : Script) (text : Text) (run : Run) (event : Event) (next : State) (words : Lcg) (pe : ℕ) → (event.pe.0 == pe) ≡ mine →
    slice_get script.programs pe ≡ Some text → TellsOne text run pe → Moves run.now event next → IsDueOrRefused script run event → TellsOne text (went_on run event next words) pe
one_by true script text run event next words pe e there one moves comes = mine_one script text run event next words pe there one moves (eqb-true event.pe.0 pe e) comes
one_by false script text run event next words pe e there one moves comes = other_one text run event next words pe one moves e

-- with one event more the calls of each program still follow its text

pub tells_instead : (script : Script) (run : Run) (event : Event) (next : State) (words : Lcg) → TellsAll script run → IsDueOrRefused script run event →
    step service_limits run.now event ≡ Some next → TellsAll script (went_on run event next words)
tells_instead script run event next words all comes steps pe text there =
    one_by (event.pe.0 == pe) script text run event next words pe refl there (all pe text there) (step_moves service_limits run.now next event steps) comes

pub tells_next : (script : Script) (run : Run) (event : Event) (next : State) (words : Lcg) → TellsAll script run → IsDue script run event →
    step service_limits run.now event ≡ Some next → TellsAll script (went_on run event next words)
tells_next script run event next words all due steps = tells_instead script run event next words all (inl due) steps

pub tells_comes : (script : Script) (run : Run) (due event : Event) (words : Lcg) (next : State) → TellsAll script run → next_step script run ≡ Some (due, words) → Comes run.now due event →
    step service_limits run.now event ≡ Some next → TellsAll script (went_on run event next words)
tells_comes script run due event words next all chosen comes steps = tells_instead script run event next words all (comes_instead script run due event words chosen comes) steps
