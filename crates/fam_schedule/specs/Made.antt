-- What holds of the operations of a program.
use Rattle.std.specs.Prelude.{◌≡◌, ℕ, ◌-◌, ◌<◌, ◌%◌, ◌||◌, ◌==◌, not, true, All, slice_get, Some}
use Rattle.fam_model.specs.declared.piece.MarkedPiece.{MarkedPiece}
use Rattle.fam_model.specs.declared.piece.Operation.{Operation}
use Rattle.fam_model.specs.declared.state.Context.{Context}
use Rattle.fam_model.specs.declared.state.ProgramState.{ProgramState}
use Rattle.fam_model.specs.Operations.{is_left, is_served, is_copy, is_copy_write}
use Rattle.fam_model.specs.PieceStep.{is_read}

-- The operation is of a call below n, and its pieces lie on so many stripes. A copy reads and writes in turn, and a
-- write is left only where its read is left, or was served.
pub record IsMade (stripes n : ℕ) (operation : Operation) : Type 0 where
  pub call : operation.call < n
  pub placed : All (λ marked. marked.piece.place.stripe < stripes) operation.pieces
  pub waits : (j : ℕ) (write : MarkedPiece) → slice_get operation.pieces j ≡ Some write → is_left write ≡ true →
      is_copy_write operation j ≡ true →
      (read : MarkedPiece) × (slice_get operation.pieces (j - 1) ≡ Some read) × ((is_left read || is_served read.mark) ≡ true)
  pub turns : (j : ℕ) (piece : MarkedPiece) → slice_get operation.pieces j ≡ Some piece → is_copy operation.kind ≡ true →
      is_read piece.piece.kind ≡ not (j % 2 == 1)

-- the operation stands at place k of context c
pub record StandsAt (p : ProgramState) (c k : ℕ) (operation : Operation) : Type 0 where
  pub context : Context
  pub there : slice_get p.contexts c ≡ Some context
  pub at : slice_get context.operations k ≡ Some operation

-- the operations of a program are well made, and each call has one at most
pub record AreMade (stripes : ℕ) (p : ProgramState) : Type 0 where
  pub each : (c k : ℕ) (operation : Operation) → StandsAt p c k operation → IsMade stripes p.next_call operation
  pub apart : (c k d j : ℕ) (one other : Operation) → StandsAt p c k one → StandsAt p d j other → one.call ≡ other.call →
      (c ≡ d) × (k ≡ j)
