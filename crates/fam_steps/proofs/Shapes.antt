-- The event that a step is for has the shape of the step.
use Rattle.std.proofs.Common.{◌≡◌, refl, sym, ap, ◌∙◌, subst}
use Rattle.std.specs.Prelude.{Option, Some, None, slice_get}
use Rattle.fam_model.specs.declared.call.Call.{Call}
use Rattle.fam_model.specs.declared.event.Event.{Event}
use Rattle.fam_model.specs.declared.event.What.{What}
use Rattle.fam_model.specs.declared.event.What.TheVariants as what
use Rattle.fam_model.specs.declared.piece.MarkedPiece.{MarkedPiece}
use Rattle.fam_model.specs.declared.reply.Reply.{Reply}
use Rattle.fam_model.specs.declared.reply.Reply.TheVariants as reply
use Rattle.fam_model.specs.declared.state.ProgramState.{ProgramState}
use Rattle.fam_model.specs.declared.state.Started.{Started}
use Rattle.fam_model.specs.declared.state.Started.TheVariants as begun
use Rattle.fam_model.specs.declared.state.State.{State}
use Rattle.fam_model.specs.Lists.{◌>>=◌}
use Rattle.fam_model.specs.Operations.{result}
use Rattle.fam_model.specs.PieceStep.{due_answer}
use Rattle.fam_model.specs.Programs.{Placed, placed, program_of}
use Rattle.fam_model.specs.Turn.{call_made}
use Rattle.fam_schedule.specs.Schedule.{event_of, first_event}
use Rattle.fam_schedule.proofs.Comes.{first_makes}
use Rattle.fam_schedule.proofs.Options.{bind_some}
use Rattle.fam_turns.specs.declared.next.Next.{Next}
use Rattle.fam_turns.specs.Turns.{answer_of, next_by}
use Rattle.fam_steps.specs.declared.step.Step.{Step}
use Rattle.fam_steps.specs.declared.step.Step.TheVariants as asked
use Rattle.fam_steps.specs.Steps.{HasShape, event_for}

same_next : (x y : Next) → Some x ≡ Some y → x ≡ y
same_next x y e = cc

same_event : (x y : Event) → Some x ≡ Some y → x ≡ y
same_event x y e = cc

-- the first event of a call makes it
pub makes_call : (state : State) (p : ProgramState) (a : Call) (next : Next) → next_by state.service state.rows p begun.Nothing (Some a) ≡ Some next → call_made next.what ≡ Some a
makes_call state p a next h =
    let first = bind_some (first_event state.service state.rows p a) (λ w. Some (next_at w)) next h in
    ap (λ (x : Next). call_made x.what) (sym (same_next (next_at first.0) next first.2)) ∙ (first_makes state.service state.rows p a first.0 first.1).0
  where
    next_at : What → Next
    next_at w = record { call = p.next_call; what = w }

-- what is started is answered
pub answers : (state : State) (p : ProgramState) (s : Started) (next : Next) → next_by state.service state.rows p s None ≡ Some next → (given : Reply) × (next.what ≡ what.Answer given)
answers state p begun.Nothing next h = cc
answers state p (begun.Operation n) next h =
    let b = bind_some (placed p n) (λ at. Some (answer_of n (result at.operation))) next h in
    (result b.0.operation, ap (λ (x : Next). x.what) (sym (same_next (answer_of n (result b.0.operation)) next b.2)))
answers state p (begun.Barrier n) next h = (reply.Passed, ap (λ (x : Next). x.what) (sym (same_next (answer_of n reply.Passed) next h)))

pub shape_of : (state : State) (step : Step) (event : Event) → event_for state step ≡ Some event → HasShape step event
shape_of state (asked.Call pe a) event h =
    let of_next : Next → Option Event = λ x. Some (event_of pe.0 x.call x.what) in
    let p = bind_some (program_of state pe.0) (λ p. next_by state.service state.rows p begun.Nothing (Some a) >>= of_next) event h in
    let next = bind_some (next_by state.service state.rows p.0 begun.Nothing (Some a)) of_next event p.2 in
    subst (HasShape (asked.Call pe a)) (same_event (event_of pe.0 next.0.call next.0.what) event next.2) (refl, makes_call state p.0 a next.0 next.1)
shape_of state (asked.Answer pe) event h =
    let of_next : Next → Option Event = λ x. Some (event_of pe.0 x.call x.what) in
    let p = bind_some (program_of state pe.0) (λ p. next_by state.service state.rows p p.started None >>= of_next) event h in
    let next = bind_some (next_by state.service state.rows p.0 p.0.started None) of_next event p.2 in
    subst (HasShape (asked.Answer pe)) (same_event (event_of pe.0 next.0.call next.0.what) event next.2) (refl, answers state p.0 p.0.started next.0 next.1)
shape_of state (asked.Piece pe n j) event h =
    let made : ProgramState → Placed → MarkedPiece → Event = λ p at left. event_of pe.0 n (what.Piece j (due_answer state.rows state.memory p.who at.operation.kind left.piece)) in
    let p = bind_some (program_of state pe.0) (λ p. placed p n >>= λ at. slice_get at.operation.pieces j >>= λ left. Some (made p at left)) event h in
    let at = bind_some (placed p.0 n) (λ at. slice_get at.operation.pieces j >>= λ left. Some (made p.0 at left)) event p.2 in
    let left = bind_some (slice_get at.0.operation.pieces j) (λ left. Some (made p.0 at.0 left)) event at.2 in
    subst (HasShape (asked.Piece pe n j)) (same_event (made p.0 at.0 left.0) event left.2)
    (refl, refl, (due_answer state.rows state.memory p.0.who at.0.operation.kind left.0.piece, refl))
shape_of state (asked.Lose pe n j) event h =
    subst (HasShape (asked.Lose pe n j)) (same_event (event_of pe.0 n (what.Lose j)) event h) (refl, refl, refl)
