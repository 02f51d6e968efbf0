-- The event that was found for a step.
use Rattle.std.proofs.Common.{◌≡◌, ℕ, Bool, true, false, refl, sym, ap, ◌∙◌, subst}
use Rattle.std.specs.Prelude.{Result, Ok, Err, IfOk, ◌&&◌, not, Option, Some, None, is_some}
use Rattle.fam_base.specs.declared.naming.PeId.{PeId}
use Rattle.fam_model.specs.declared.call.Call.{Call}
use Rattle.fam_model.specs.declared.event.Event.{Event}
use Rattle.fam_model.specs.declared.state.ProgramState.{ProgramState}
use Rattle.fam_model.specs.declared.state.Started.{Started}
use Rattle.fam_model.specs.declared.state.Started.TheVariants as begun
use Rattle.fam_model.specs.declared.state.State.{State}
use Rattle.fam_model.specs.Limits.{service_limits}
use Rattle.fam_model.specs.Lists.{◌>>=◌, when, is_some_and}
use Rattle.fam_model.specs.Programs.{program_of, is_running}
use Rattle.fam_model.specs.Step.{step}
use Rattle.fam_model.specs.Turn.{is_idle}
use Rattle.fam_schedule.specs.Schedule.{event_of}
use Rattle.fam_schedule.proofs.Options.{bind_some, when_some}
use Rattle.fam_turns.specs.declared.next.Next.{Next}
use Rattle.fam_schedule.proofs.Begins.{from_not}
use Rattle.fam_turns.specs.Turns.{event_with, may_act, may_go, next_by, next_of}
use Rattle.fam_turns.proofs.Coming.{acts}
use Rattle.fam_steps.specs.declared.step.Step.{Step}
use Rattle.fam_steps.specs.declared.step.Step.TheVariants as asked
use Rattle.fam_model.specs.Text.{is_crash}
use Rattle.fam_steps.specs.Steps.{IsEnabled, IsFound, IsNotEnabled, event_for, has_started}
use Rattle.fam_steps.proofs.Shapes.{shape_of}
use Rattle.fam_steps.proofs.Blocked.{busy_call, idle_call, no_answer, no_program}

-- calls

pub started_call : (state : State) (pe : PeId) (a : Call) → has_started state pe.0 ≡ true → is_crash a ≡ false → IsNotEnabled state (asked.Call pe a)
started_call state pe a started crash = by_program (program_of state pe.0) refl started
  where
    not_true : (b : Bool) → not b ≡ true → b ≡ false
    not_true false e = refl
    not_true true e = cc

    by_program : (o : Option ProgramState) → program_of state pe.0 ≡ o → is_some_and o (λ p. not (is_idle p.started)) ≡ true → IsNotEnabled state (asked.Call pe a)
    by_program None e h = cc
    by_program (Some p) e h = busy_call state pe p a e crash (not_true (is_idle p.started) h)

-- the event that a step is for, and that may come
found : (state : State) (wanted : Step) (made event : Event) → event_for state wanted ≡ Some made → is_some (step service_limits state made) ≡ true → made ≡ event → IsEnabled state wanted event
found state wanted made event due comes same =
    subst (IsEnabled state wanted) same (record { shape = shape_of state wanted made due; is_due = due; comes = comes })

-- the parts of an event that comes next
pub record Next_of (state : State) (pe : ℕ) (wanted : Option Call) (event : Event) : Type 0 where
  pub p : ProgramState
  pub there : program_of state pe ≡ Some p
  pub next : Next
  pub is_next : next_of state.service state.rows p wanted ≡ Some next
  pub comes : is_some (step service_limits state (event_of pe next.call next.what)) ≡ true
  pub is : event_of pe next.call next.what ≡ event

pub parts : (state : State) (pe : ℕ) (wanted : Option Call) (event : Event) → event_with state pe wanted ≡ Some event → Next_of state pe wanted event
parts state pe wanted event h =
    let kept : Next → Option Event = λ n. when (is_some (step service_limits state (event_of pe n.call n.what))) (event_of pe n.call n.what) in
    let a = bind_some (program_of state pe) (λ p. next_of state.service state.rows p wanted >>= kept) event h in
    let b = bind_some (next_of state.service state.rows a.0 wanted) kept event a.2 in
    let w = when_some (is_some (step service_limits state (event_of pe b.0.call b.0.what))) (event_of pe b.0.call b.0.what) event b.2 in
    record { p = a.0; there = a.1; next = b.0; is_next = b.1; comes = w.0; is = w.1 }

nothing_started : (s : Started) → is_idle s ≡ true → s ≡ begun.Nothing
nothing_started begun.Nothing h = refl
nothing_started (begun.Operation n) h = cc
nothing_started (begun.Barrier n) h = cc

is_idle_there : (state : State) (pe : ℕ) (p : ProgramState) → has_started state pe ≡ false → program_of state pe ≡ Some p → is_idle p.started ≡ true
is_idle_there state pe p h there = from_not (is_idle p.started) (sym (ap (λ o. is_some_and o (λ p. not (is_idle p.started))) there) ∙ h)

call_found : (state : State) (pe : PeId) (a : Call) (event : Event) → has_started state pe.0 ≡ false → event_with state pe.0 (Some a) ≡ Some event → IsEnabled state (asked.Call pe a) event
call_found state pe a event idle h =
    let n = parts state pe.0 (Some a) event h in
    let begins : next_by state.service state.rows n.p begun.Nothing (Some a) ≡ Some n.next =
    ap (λ s. next_by state.service state.rows n.p s (Some a)) (sym (nothing_started n.p.started (is_idle_there state pe.0 n.p idle n.there))) ∙ n.is_next in
    let is_due : event_for state (asked.Call pe a) ≡ Some (event_of pe.0 n.next.call n.next.what) =
    ap (λ (o : Option ProgramState). o >>= λ p. next_by state.service state.rows p begun.Nothing (Some a) >>= λ x. Some (event_of pe.0 x.call x.what)) n.there
    ∙ ap (λ (o : Option Next). o >>= λ x. Some (event_of pe.0 x.call x.what)) begins in
    found state (asked.Call pe a) (event_of pe.0 n.next.call n.next.what) event is_due n.comes n.is

call_not_found : (state : State) (pe : PeId) (a : Call) → has_started state pe.0 ≡ false → event_with state pe.0 (Some a) ≡ None → IsNotEnabled state (asked.Call pe a)
call_not_found state pe a idle none = by_program (program_of state pe.0) refl
  where
    by_program : (o : Option ProgramState) → program_of state pe.0 ≡ o → IsNotEnabled state (asked.Call pe a)
    by_program None e = λ event shape. no_program state pe.0 event (ap (λ (x : PeId). x.0) shape.0) e
    by_program (Some p) e =
        let rests = is_idle_there state pe.0 p idle e in
        idle_call state pe p a e rests
        (ap (λ s. is_running p.standing && may_go state.round p s (Some a)) (sym (nothing_started p.started rests))
        ∙ acts state.round p (Some a) (may_act state.round p (Some a)) refl state pe.0 e refl ∙ ap is_some none)

pub found_call : (state : State) (pe : PeId) (a : Call) (event : Option Event) → has_started state pe.0 ≡ false → event ≡ event_with state pe.0 (Some a) → IsFound state (asked.Call pe a) event
found_call state pe a None idle e = call_not_found state pe a idle (sym e)
found_call state pe a (Some event) idle e = call_found state pe a event idle (sym e)

-- answers

answer_found : (state : State) (pe : PeId) (event : Event) → event_with state pe.0 None ≡ Some event → IsEnabled state (asked.Answer pe) event
answer_found state pe event h =
    let n = parts state pe.0 None event h in
    let is_due : event_for state (asked.Answer pe) ≡ Some (event_of pe.0 n.next.call n.next.what) =
    ap (λ (o : Option ProgramState). o >>= λ p. next_by state.service state.rows p p.started None >>= λ x. Some (event_of pe.0 x.call x.what)) n.there
    ∙ ap (λ (o : Option Next). o >>= λ x. Some (event_of pe.0 x.call x.what)) n.is_next in
    found state (asked.Answer pe) (event_of pe.0 n.next.call n.next.what) event is_due n.comes n.is

answer_not_found : (state : State) (pe : PeId) → event_with state pe.0 None ≡ None → IsNotEnabled state (asked.Answer pe)
answer_not_found state pe none = by_program (program_of state pe.0) refl
  where
    by_program : (o : Option ProgramState) → program_of state pe.0 ≡ o → IsNotEnabled state (asked.Answer pe)
    by_program None e = λ event shape. no_program state pe.0 event (ap (λ (x : PeId). x.0) shape.0) e
    by_program (Some p) e = no_answer state pe p e (acts state.round p None (may_act state.round p None) refl state pe.0 e refl ∙ ap is_some none)

pub found_answer : (state : State) (pe : PeId) (event : Option Event) → event ≡ event_with state pe.0 None → IsFound state (asked.Answer pe) event
found_answer state pe None e = answer_not_found state pe (sym e)
found_answer state pe (Some event) e = answer_found state pe event (sym e)

-- the next event of a program has a step
pub turn_comes : (state : State) (pe : ℕ) (wanted : Option Call) (event : Event) → event_with state pe wanted ≡ Some event → is_some (step service_limits state event) ≡ true
turn_comes state pe wanted event h = let n = parts state pe wanted event h in ap (λ e. is_some (step service_limits state e)) (sym n.is) ∙ n.comes

-- what holds of the value of a result
pub if_ok : {A E : Type 0} {P Q : A → Type 0} (r : Result A E) → ((x : A) → P x → Q x) → IfOk r P → IfOk r Q
if_ok (Ok x) h p = h x p
if_ok (Err e) h p = p
