-- The first event of a call, and whether the program may take it.
use Rattle.std.proofs.Common.{◌≡◌, ℕ, Bool, true, false, [], ◌∷◌, refl, sym, ap, ◌∙◌}
use Rattle.std.specs.Prelude.{◌==◌, ◌&&◌, ◌||◌, not, Option, Some, None, is_some}
use Rattle.std.specs.Option.{option_map}
use Rattle.std.proofs.lemmas.Bool.{false≢true}
use Rattle.fam_base.specs.declared.error.FamError.{FamError}
use Rattle.fam_base.specs.declared.error.FamError.TheVariants.{BadHandle, Unsupported}
use Rattle.fam_model.specs.declared.call.Call.{Call}
use Rattle.fam_model.specs.declared.call.Call.TheVariants as call
use Rattle.fam_model.specs.declared.event.What.{What}
use Rattle.fam_model.specs.declared.event.What.TheVariants as what
use Rattle.fam_model.specs.declared.piece.Operation.{Operation}
use Rattle.fam_model.specs.declared.reply.Reply.{Reply}
use Rattle.fam_model.specs.declared.rows.Rows.{Rows}
use Rattle.fam_model.specs.declared.service.Service.{Service}
use Rattle.fam_model.specs.declared.state.Context.{Context}
use Rattle.fam_model.specs.declared.state.ProgramState.{ProgramState}
use Rattle.fam_model.specs.declared.state.State.{State}
use Rattle.fam_model.specs.ContextStep.{quiet_step, close_step, wait_step}
use Rattle.fam_model.specs.Directory.{first_case}
use Rattle.fam_model.specs.EndStep.{arrive_step, leave_step, may_arrive, has_pending}
use Rattle.fam_model.specs.Issue.{issue_refusal}
use Rattle.fam_model.specs.Limits.{service_limits}
use Rattle.fam_model.specs.Lists.{◌>>=◌, when, is_some_and}
use Rattle.fam_model.specs.Operations.{has_left, is_pending, result, report, reported, as_reported}
use Rattle.fam_model.specs.Programs.{is_open, open_context, with_context, with_operation, unreported_copy, counted}
use Rattle.fam_model.specs.Same.{same_reply}
use Rattle.fam_model.specs.Step.{effect}
use Rattle.fam_program.proofs.Reporting.{is_some_when}
use Rattle.fam_schedule.specs.Schedule.{begins, first_event}
use Rattle.fam_schedule.proofs.Begins.{Goes, refused_goes, meta_goes, data_goes, open_goes, fence_goes, crash_goes, opened, from_not}
use Rattle.fam_schedule.proofs.Going.{case_none, some_is, reply_same}
use Rattle.fam_schedule.proofs.Steps.{opened_at}
use Rattle.fam_turns.specs.Turns.{is_busy, may_begin}

-- the first event of a call, and whether the program may take it
abbrev pub Comes : State → ℕ → ProgramState → Call → Type 0
Comes state pe p asked =
    (made : What) × (first_event state.service state.rows p asked ≡ Some made)
    × (is_some (effect service_limits state pe p p.next_call made) ≡ may_begin state.round p asked)

-- what always goes comes
goes_comes : (state : State) (pe : ℕ) (p : ProgramState) (asked : Call) → may_begin state.round p asked ≡ true → Goes state pe p asked → Comes state pe p asked
goes_comes state pe p asked may g = (g.0, g.1, g.2 ∙ sym may)

first_is : (service : Service) (rows : Rows) (p : ProgramState) (asked : Call) (made : What) → issue_refusal service p asked ≡ None → begins rows p asked ≡ Some made →
    first_event service rows p asked ≡ Some made
first_is service rows p asked made none is = rw none is

pub some_map_is : {A B : Type 0} (f : A → B) (o : Option A) → is_some (option_map f o) ≡ is_some o
some_map_is f None = refl
some_map_is f (Some x) = refl

-- a test and that the reply is the same
pub with_reply : (b : Bool) (given : Reply) → (b && same_reply given given) ≡ b
with_reply b given = ap (λ s. b && s) (reply_same given) ∙ and_true b
  where
    and_true : (c : Bool) → (c && true) ≡ c
    and_true true = refl
    and_true false = refl

-- calls that are refused

one_case : (b : Bool) (e error : FamError) → first_case ((b, e) ∷ []) ≡ Some error → b ≡ true
one_case true e error h = refl
one_case false e error h = cc

-- a context that is not open is not busy
closed_rests : (o : Option Context) → not (is_some o) ≡ true → is_some_and o is_pending ≡ false
closed_rests None h = refl
closed_rests (Some x) h = absurd (false≢true h)

quiet_refused : (p : ProgramState) (c : ℕ) (error : FamError) → first_case ((not (is_open p c), BadHandle) ∷ []) ≡ Some error → not (is_busy p c) ≡ true
quiet_refused p c error h = ap not (closed_rests (open_context p c) (one_case (not (is_open p c)) BadHandle error h))

close_refused : (first : Bool) (p : ProgramState) (c : ℕ) (error : FamError) → first_case ((first, Unsupported) ∷ (not (is_open p c), BadHandle) ∷ []) ≡ Some error → (first || not (is_busy p c)) ≡ true
close_refused true p c error h = refl
close_refused false p c error h = quiet_refused p c error h

wait_refused : (is_open : Bool) (copy : Option Operation) (error : FamError) → first_case ((not is_open, BadHandle) ∷ (not (is_some copy), BadHandle) ∷ []) ≡ Some error →
    not (is_open && is_some_and copy has_left) ≡ true
wait_refused false copy error h = refl
wait_refused true None error h = refl
wait_refused true (Some operation) error h = cc

-- a call that is refused may always come
refused_may : (service : Service) (round : ℕ) (p : ProgramState) (asked : Call) (error : FamError) → issue_refusal service p asked ≡ Some error → may_begin round p asked ≡ true
refused_may service round p (call.Meta a) error h = refl
refused_may service round p (call.Data c op blocking) error h = refl
refused_may service round p (call.OpenContext c) error h = refl
refused_may service round p (call.CloseContext c) error h = close_refused (c == 0) p c error h
refused_may service round p (call.CopyWait c named) error h = wait_refused (is_open p c) (unreported_copy p c named) error h
refused_may service round p (call.Fence c) error h = refl
refused_may service round p (call.Quiet c) error h = quiet_refused p c error h
refused_may service round p call.Barrier error h = cc
refused_may service round p call.Leave error h = cc
refused_may service round p call.Crash error h = refl

-- calls that are not refused

quiet_comes : (state : State) (pe : ℕ) (p : ProgramState) (c : ℕ) → issue_refusal state.service p (call.Quiet c) ≡ None → Comes state pe p (call.Quiet c)
quiet_comes state pe p c none =
    let a = case_none (not (is_open p c)) BadHandle [] none in
    let context = opened p c a.0 in
    let given : Reply = report context.0 in
    let begun : begins state.rows p (call.Quiet c) ≡ Some (what.Quiet c given) = ap (λ (o : Option Context). o >>= λ x. Some (what.Quiet c (report x))) context.1 in (
      what.Quiet c given,
      first_is state.service state.rows p (call.Quiet c) (what.Quiet c given) none begun,
      some_map_is _ (quiet_step p c given)
          ∙ ap (λ (o : Option Context). is_some (o >>= λ x. when (not (is_pending x) && same_reply given (report x)) (with_context (counted p) c (reported x)))) context.1
          ∙ is_some_when (not (is_pending context.0) && same_reply given given) _
          ∙ with_reply (not (is_pending context.0)) given
          ∙ sym (ap (λ (o : Option Context). not (is_some_and o is_pending)) context.1),
    )

not_first : (first rests : Bool) → first ≡ false → (not first && rests) ≡ (first || rests)
not_first true rests h = absurd (false≢true (sym h))
not_first false rests h = refl

close_comes : (state : State) (pe : ℕ) (p : ProgramState) (c : ℕ) → issue_refusal state.service p (call.CloseContext c) ≡ None → Comes state pe p (call.CloseContext c)
close_comes state pe p c none =
    let a = case_none (c == 0) Unsupported ((not (is_open p c), BadHandle) ∷ []) none in
    let b = case_none (not (is_open p c)) BadHandle [] a.1 in
    let context = opened p c b.0 in
    let given : Reply = report context.0 in
    let begun : begins state.rows p (call.CloseContext c) ≡ Some (what.CloseContext c given) = ap (λ (o : Option Context). o >>= λ x. Some (what.CloseContext c (report x))) context.1 in
    let closed : Context → Context = λ x. record (reported x) { is_open = false } in (
      what.CloseContext c given,
      first_is state.service state.rows p (call.CloseContext c) (what.CloseContext c given) none begun,
      some_map_is _ (close_step p c given)
          ∙ ap (λ (o : Option Context). is_some (o >>= λ x. when (not (c == 0) && not (is_pending x) && same_reply given (report x)) (with_context (counted p) c (closed x)))) context.1
          ∙ is_some_when (not (c == 0) && not (is_pending context.0) && same_reply given given) _
          ∙ with_reply (not (c == 0) && not (is_pending context.0)) given
          ∙ not_first (c == 0) (not (is_pending context.0)) a.0
          ∙ sym (ap (λ (o : Option Context). (c == 0) || not (is_some_and o is_pending)) context.1),
    )

wait_comes : (state : State) (pe : ℕ) (p : ProgramState) (c named : ℕ) → issue_refusal state.service p (call.CopyWait c named) ≡ None → Comes state pe p (call.CopyWait c named)
wait_comes state pe p c named none =
    let a = case_none (not (is_open p c)) BadHandle ((not (is_some (unreported_copy p c named)), BadHandle) ∷ []) none in
    let b = case_none (not (is_some (unreported_copy p c named))) BadHandle [] a.1 in
    let context = opened p c a.0 in
    let there = opened_at p c context.0 context.1 in
    let copy = some_is (unreported_copy p c named) (from_not (is_some (unreported_copy p c named)) b.0) in
    let given : Reply = result copy.0 in
    let begun : begins state.rows p (call.CopyWait c named) ≡ Some (what.Wait c named given) = ap (λ (o : Option Operation). o >>= λ x. Some (what.Wait c named (result x))) copy.1 in
    let test : Operation → Bool = λ o. not (has_left o) && same_reply given (result o) in
    let new : Context → Operation → ProgramState = λ x o. with_context (counted p) c (with_operation x (as_reported o)) in (
      what.Wait c named given,
      first_is state.service state.rows p (call.CopyWait c named) (what.Wait c named given) none begun,
      some_map_is _ (wait_step p c named given)
          ∙ ap (λ (o : Option Context). is_some (o >>= λ x. unreported_copy p c named >>= λ q. when (test q) (new x q))) there
          ∙ ap (λ (o : Option Operation). is_some (o >>= λ q. when (test q) (new context.0 q))) copy.1
          ∙ is_some_when (test copy.0) (new context.0 copy.0)
          ∙ with_reply (not (has_left copy.0)) given
          ∙ sym (ap (λ (o : Option Context). not (is_some o && is_some_and (unreported_copy p c named) has_left)) context.1
          ∙ ap (λ (o : Option Operation). not (is_some_and o has_left)) copy.1),
    )

barrier_comes : (state : State) (pe : ℕ) (p : ProgramState) → Comes state pe p call.Barrier
barrier_comes state pe p = (what.Arrive, refl, some_map_is _ (arrive_step state.round p) ∙ is_some_when (may_arrive state.round p) _)

leave_comes : (state : State) (pe : ℕ) (p : ProgramState) → Comes state pe p call.Leave
leave_comes state pe p = (what.Leave, refl, some_map_is _ (leave_step p) ∙ is_some_when (not (has_pending p)) _)

served_comes : (state : State) (pe : ℕ) (p : ProgramState) (asked : Call) → issue_refusal state.service p asked ≡ None → Comes state pe p asked
served_comes state pe p (call.Meta a) none = goes_comes state pe p (call.Meta a) refl (meta_goes state pe p a none)
served_comes state pe p (call.Data c op blocking) none = goes_comes state pe p (call.Data c op blocking) refl (data_goes state pe p c op blocking none)
served_comes state pe p (call.OpenContext c) none = goes_comes state pe p (call.OpenContext c) refl (open_goes state pe p c none)
served_comes state pe p (call.CloseContext c) none = close_comes state pe p c none
served_comes state pe p (call.CopyWait c named) none = wait_comes state pe p c named none
served_comes state pe p (call.Fence c) none = goes_comes state pe p (call.Fence c) refl (fence_goes state pe p c none)
served_comes state pe p (call.Quiet c) none = quiet_comes state pe p c none
served_comes state pe p call.Barrier none = barrier_comes state pe p
served_comes state pe p call.Leave none = leave_comes state pe p
served_comes state pe p call.Crash none = goes_comes state pe p call.Crash refl (crash_goes state pe p)

comes_by : (o : Option FamError) (state : State) (pe : ℕ) (p : ProgramState) (asked : Call) → issue_refusal state.service p asked ≡ o → Comes state pe p asked
comes_by None state pe p asked e = served_comes state pe p asked e
comes_by (Some error) state pe p asked e = goes_comes state pe p asked (refused_may state.service state.round p asked error e) (refused_goes state pe p asked error e)

-- each call has a first event
pub comes : (state : State) (pe : ℕ) (p : ProgramState) (asked : Call) → Comes state pe p asked
comes state pe p asked = comes_by (issue_refusal state.service p asked) state pe p asked refl
