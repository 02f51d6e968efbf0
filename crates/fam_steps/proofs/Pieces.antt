-- A piece that may come is answered as it is due, and a piece that was left is lost.
use Rattle.std.proofs.Common.{◌≡◌, ℕ, Bool, true, false, List, refl, sym, ap, ◌∙◌, subst}
use Rattle.std.specs.Prelude.{◌&&◌, Option, Some, None, is_some, slice_get, if◌then◌else◌}
use Rattle.fam_base.specs.Permission.{is_allowed}
use Rattle.fam_base.specs.declared.error.FamError.TheVariants as error
use Rattle.fam_base.specs.declared.naming.PeId.{PeId}
use Rattle.fam_base.specs.declared.naming.Who.{Who}
use Rattle.fam_machine.specs.Views.{due_at}
use Rattle.fam_model.specs.contracts.reply.PieceAnswerEq.TheImpl.Laws as answer_laws
use Rattle.fam_model.specs.declared.event.Event.{Event}
use Rattle.fam_model.specs.declared.event.What.TheVariants as what
use Rattle.fam_model.specs.declared.piece.MarkedPiece.{MarkedPiece}
use Rattle.fam_model.specs.declared.piece.PlanKind.{PlanKind}
use Rattle.fam_model.specs.declared.piece.PlanKind.TheVariants as plan
use Rattle.fam_model.specs.declared.piece.PlanPiece.{PlanPiece}
use Rattle.fam_model.specs.declared.reply.PieceAnswer.{PieceAnswer}
use Rattle.fam_model.specs.declared.reply.PieceAnswer.TheVariants as given
use Rattle.fam_model.specs.declared.rows.ItemRow.{ItemRow}
use Rattle.fam_model.specs.declared.rows.Rows.{Rows}
use Rattle.fam_model.specs.declared.state.ProgramState.{ProgramState}
use Rattle.fam_model.specs.declared.state.State.{State}
use Rattle.fam_model.specs.Directory.{Memory}
use Rattle.fam_model.specs.Limits.{Limits, service_limits}
use Rattle.fam_model.specs.Lists.{◌>>=◌, when, is_some_and}
use Rattle.fam_model.specs.Operations.{may_come}
use Rattle.fam_model.specs.PieceStep.{bytes_found, due_answer, lose_step, may_answer, memory_by_piece, piece_step, served_answer, with_answer}
use Rattle.fam_model.specs.Programs.{Placed, has_crashed, placed, program_of, with_placed, with_program}
use Rattle.fam_model.specs.Rows.{item_of, item_owner}
use Rattle.fam_model.specs.Rules.{is_due}
use Rattle.fam_model.specs.Same.{same_answer}
use Rattle.fam_model.specs.Step.{effect}
use Rattle.fam_model.specs.Turn.{is_in_turn}
use Rattle.fam_program.specs.Parts.{is_left_piece}
use Rattle.fam_schedule.specs.Schedule.{event_of}
use Rattle.fam_schedule.proofs.Options.{bind_some, when_some}
use Rattle.fam_schedule.proofs.Begins.{both_true, some_bind, some_map, some_when}
use Rattle.fam_steps.specs.declared.step.Step.TheVariants as asked
use Rattle.fam_steps.specs.Steps.{IsEnabled, IsFound}
use Rattle.fam_steps.proofs.Blocked.{loses, no_piece}

-- an answer that is due may be given
answer_same : (a : PieceAnswer) → same_answer a a ≡ true
answer_same a = answer_laws.laws-law.refl a

may_served : (limits : Limits) (kind : PlanKind) (bytes : List ℕ) → may_answer limits (served_answer kind bytes) (served_answer kind bytes) ≡ true
unfolding may_answer
may_served limits plan.Get bytes = answer_same (given.Data bytes)
may_served limits plan.Fetch bytes = answer_same (given.Data bytes)
may_served limits plan.Put bytes = answer_same given.Ok
may_served limits plan.Copy bytes = answer_same given.Ok

may_refused : (limits : Limits) → (may_answer limits (given.Refused error.Absent) (given.Refused error.Absent) ≡ true) × (may_answer limits (given.Refused error.NoPermission) (given.Refused error.NoPermission) ≡ true)
unfolding may_answer
may_refused limits = (answer_same (given.Refused error.Absent), answer_same (given.Refused error.NoPermission))

may_by : (limits : Limits) (allowed : Bool) (kind : PlanKind) (bytes : List ℕ) →
    may_answer limits (if allowed then served_answer kind bytes else given.Refused error.NoPermission) (if allowed then served_answer kind bytes else given.Refused error.NoPermission) ≡ true
may_by limits true kind bytes = may_served limits kind bytes
may_by limits false kind bytes = (may_refused limits).1

-- the same by the row of its item
due_by : Option ItemRow → (ItemRow → Bool) → PlanKind → List ℕ → PieceAnswer
due_by row allowed kind bytes = elim row [
  | None ↦ given.Refused error.Absent
  | Some r ↦ if allowed r then served_answer kind bytes else given.Refused error.NoPermission
]

may_of : (limits : Limits) (row : Option ItemRow) (allowed : ItemRow → Bool) (kind : PlanKind) (bytes : List ℕ) → may_answer limits (due_by row allowed kind bytes) (due_by row allowed kind bytes) ≡ true
unfolding due_by
may_of limits None allowed kind bytes = (may_refused limits).0
may_of limits (Some r) allowed kind bytes = may_by limits (allowed r) kind bytes

pub may_due : (limits : Limits) (rows : Rows) (memory : Memory) (who : Who) (kind : PlanKind) (piece : PlanPiece) → may_answer limits (due_answer rows memory who kind piece) (due_answer rows memory who kind piece) ≡ true
unfolding due_answer due_by
may_due limits rows memory who kind piece = may_of limits (item_of rows piece.item.0) (λ row. is_allowed (item_owner row) row.mode who piece.need) kind (bytes_found memory piece)

-- pieces

-- a piece that is due, where it stands
record Due (state : State) (pe n j : ℕ) (due : PieceAnswer) : Type 0 where
  pub p : ProgramState
  pub there : program_of state pe ≡ Some p
  pub at : Placed
  pub is_at : placed p n ≡ Some at
  pub left : MarkedPiece
  pub is_left : slice_get at.operation.pieces j ≡ Some left
  pub comes : may_come at.context at.operation j ≡ true
  pub is : due_answer state.rows state.memory p.who at.operation.kind left.piece ≡ due

stands : (state : State) (pe n j : ℕ) (due : PieceAnswer) → due_at state pe n j ≡ Some due → Due state pe n j due
stands state pe n j due h =
    let of_piece : ProgramState → Placed → MarkedPiece → Option PieceAnswer = λ p at left. when (is_due p n j) (due_answer state.rows state.memory p.who at.operation.kind left.piece) in
    let a = bind_some (program_of state pe) (λ p. placed p n >>= λ at. slice_get at.operation.pieces j >>= λ left. of_piece p at left) due h in
    let b = bind_some (placed a.0 n) (λ at. slice_get at.operation.pieces j >>= λ left. of_piece a.0 at left) due a.2 in
    let c = bind_some (slice_get b.0.operation.pieces j) (λ left. of_piece a.0 b.0 left) due b.2 in
    let w = when_some (is_due a.0 n j) (due_answer state.rows state.memory a.0.who b.0.operation.kind c.0.piece) due c.2 in
    record {
      p = a.0;
      there = a.1;
      at = b.0;
      is_at = b.1;
      left = c.0;
      is_left = c.1;
      comes = sym (ap (λ o. is_some_and o (λ x. may_come x.context x.operation j)) b.1) ∙ w.0;
      is = w.1;
    }

-- the event of a piece that is due
pub piece_found : (state : State) (pe : PeId) (n j : ℕ) (due : PieceAnswer) → due_at state pe.0 n j ≡ Some due → IsEnabled state (asked.Piece pe n j) (event_of pe.0 n (what.Piece j due))
piece_found state pe n j due h =
    let d = stands state pe.0 n j due h in
    let of_piece : ProgramState → Placed → MarkedPiece → Option Event = λ p at left. Some (event_of pe.0 n (what.Piece j (due_answer state.rows state.memory p.who at.operation.kind left.piece))) in
    let test : Placed → MarkedPiece → Bool = λ at left. may_come at.context at.operation j && may_answer service_limits (due_answer state.rows state.memory d.p.who at.operation.kind left.piece) due in
    let next : Placed → MarkedPiece → ProgramState = λ at left. with_placed d.p at (with_answer at.operation j left.piece due (bytes_found state.memory left.piece)) in
    let answers : may_answer service_limits (due_answer state.rows state.memory d.p.who d.at.operation.kind d.left.piece) due ≡ true =
    ap (λ a. may_answer service_limits (due_answer state.rows state.memory d.p.who d.at.operation.kind d.left.piece) a) (sym d.is)
    ∙ may_due service_limits state.rows state.memory d.p.who d.at.operation.kind d.left.piece in
    let stepped : is_some (piece_step service_limits state.rows state.memory d.p n j due) ≡ true =
    some_bind (placed d.p n) d.at (λ at. slice_get at.operation.pieces j >>= λ left. when (test at left) (next at left)) d.is_at
    (some_bind (slice_get d.at.operation.pieces j) d.left (λ left. when (test d.at left) (next d.at left)) d.is_left
    (some_when (test d.at d.left) (next d.at d.left) (both_true (may_come d.at.context d.at.operation j) _ d.comes answers))) in
    record {
      shape = (refl, refl, (due, refl));
      is_due =
          ap (λ (o : Option ProgramState). o >>= λ p. placed p n >>= λ at. slice_get at.operation.pieces j >>= λ left. of_piece p at left) d.there
          ∙ ap (λ (o : Option Placed). o >>= λ at. slice_get at.operation.pieces j >>= λ left. of_piece d.p at left) d.is_at
          ∙ ap (λ (o : Option MarkedPiece). o >>= λ left. of_piece d.p d.at left) d.is_left
          ∙ ap (λ a. Some (event_of pe.0 n (what.Piece j a))) d.is;
      comes =
          some_bind (program_of state pe.0) d.p (λ p. if is_in_turn p n (what.Piece j due) then effect service_limits state pe.0 p n (what.Piece j due) else None) d.there
          (some_map (with_program (record state { memory = memory_by_piece state.memory d.p n j due }) pe.0) (piece_step service_limits state.rows state.memory d.p n j due) stepped);
    }

pub piece_of : (state : State) (pe : PeId) (n j : ℕ) (due : Option PieceAnswer) (event : Option Event) → due ≡ due_at state pe.0 n j → event ≡ (due >>= λ a. Some (event_of pe.0 n (what.Piece j a))) → IsFound state (asked.Piece pe n j) event
piece_of state pe n j None event e same = subst (IsFound state (asked.Piece pe n j)) (sym same) (no_piece state pe n j (sym e))
piece_of state pe n j (Some due) event e same = subst (IsFound state (asked.Piece pe n j)) (sym same) (piece_found state pe n j due (sym e))

-- losses

pub loss_found : (state : State) (pe : PeId) (n j : ℕ) (p : ProgramState) → program_of state pe.0 ≡ Some p → (has_crashed p.standing && is_left_piece p n j) ≡ true →
    IsEnabled state (asked.Lose pe n j) (event_of pe.0 n (what.Lose j))
loss_found state pe n j p there lost =
    record {
      shape = (refl, refl, refl);
      is_due = refl;
      comes =
          some_bind (program_of state pe.0) p (λ q. if is_in_turn q n (what.Lose j) then effect service_limits state pe.0 q n (what.Lose j) else None) there
          (some_map (with_program state pe.0) (lose_step p n j) (loses p n j ∙ lost));
    }
