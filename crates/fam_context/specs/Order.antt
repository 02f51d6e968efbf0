-- What holds of the operations of every context.
use Rattle.std.specs.Prelude.{◌≡◌, ℕ, ◌<◌, ◌≤◌, ◌^◌, Bool, true, false, not, ◌&&◌, ◌||◌, List, [], ◌∷◌, map, length, All}
use Rattle.std.specs.List.{AllPairs}
use Rattle.fam_layout.specs.declared.plan.Plan.{Plan}
use Rattle.fam_model.specs.declared.piece.MarkedPiece.{MarkedPiece}
use Rattle.fam_model.specs.declared.piece.Operation.{Operation}
use Rattle.fam_model.specs.declared.state.Context.{Context}
use Rattle.fam_model.specs.Operations.{is_copy}
use Rattle.fam_model.specs.PieceStep.{is_read}
use Rattle.fam_context.specs.declared.tracked.Tracked.{Tracked}

-- a context with what is out
abbrev pub tracked : Context → List (List Bool) → Tracked
tracked context out = record { context = context; out = out }

-- a read and a write in turn: for each piece, whether it reads
abbrev pub are_in_turn : List Bool → Bool
are_in_turn [] = true
are_in_turn (first ∷ []) = false
are_in_turn (first ∷ second ∷ others) = first && not second && are_in_turn others

-- for each piece, whether it reads
abbrev pub reads_of : List MarkedPiece → List Bool
reads_of pieces = map (λ p. is_read p.piece.kind) pieces

-- the pieces of a plan read and write in turn where it is a copy
abbrev pub is_planned_in_turn : Plan → Bool
is_planned_in_turn plan = not (is_copy plan.kind) || are_in_turn (map (λ p. is_read p.kind) plan.pieces)

-- what of an operation never changes
pub record Frame : Type 0 where
  pub call : ℕ
  pub epoch : ℕ
  pub is_copy : Bool
  pub reads : List Bool

abbrev pub frame_of : Operation → Frame
frame_of operation =
    record { call = operation.call; epoch = operation.epoch; is_copy = is_copy operation.kind; reads = reads_of operation.pieces }

-- a copy reads and writes in turn, and the numbers of pieces have 32 bits
pub record IsFrame (frame : Frame) : Type 0 where
  pub turns : not frame.is_copy || are_in_turn frame.reads ≡ true
  pub numbers : length frame.reads < 2 ^ 32

-- calls rise and epochs do not fall
pub record IsBefore (earlier later : Frame) : Type 0 where
  pub calls : earlier.call < later.call
  pub epochs : earlier.epoch ≤ later.epoch

-- operations are in order of call and of epoch, up to the context's, and each of them is well made
pub record AreInOrder (last : ℕ) (frames : List Frame) : Type 0 where
  pub pairs : AllPairs IsBefore frames
  pub latest : All (λ frame. frame.epoch ≤ last) frames
  pub each : All IsFrame frames

-- operations are in order, and each of their pieces has a flag
pub record IsOrdered (t : Tracked) : Type 0 where
  pub order : AreInOrder t.context.epoch (map frame_of t.context.operations)
  pub flags : map (length {A = Bool}) t.out ≡ map (λ frame. length frame.reads) (map frame_of t.context.operations)
