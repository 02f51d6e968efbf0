-- What is kept beside operations.
use Rattle.std.specs.Prelude.{◌≡◌, ◌≢◌, ℕ, ◌+◌, min, get_or, ◌==◌, ◌<◌, ◌≤◌, ◌^◌, Bool, true, false, not, ◌&&◌, List, map, length, take, slice_get, replicate, Some, sum_by}
use Rattle.std.specs.List.{AllZip, list_all, position_or_len}
use Rattle.fam_model.specs.Operations.{has_left}
use Rattle.fam_model.specs.declared.piece.Mark.{Mark}
use Rattle.fam_model.specs.declared.piece.Mark.TheVariants as mark
use Rattle.fam_model.specs.declared.piece.MarkedPiece.{MarkedPiece}
use Rattle.fam_model.specs.declared.piece.Operation.{Operation}
use Rattle.fam_model.specs.declared.piece.PlanKind.{PlanKind}
use Rattle.fam_model.specs.declared.piece.PlanKind.TheVariants as plan
use Rattle.fam_model.specs.declared.reply.PieceAnswer.TheVariants as answer
use Rattle.fam_model.specs.declared.state.Context.{Context}
use Rattle.fam_context.specs.declared.tracked.Pending.{Pending}
use Rattle.fam_context.specs.declared.side.Side.{Side}
use Rattle.fam_context.specs.Counting.{counts_of, marks_of, total}
use Rattle.fam_context.specs.Order.{IsOrdered, frame_of, tracked}

-- the room that a piece needs: for its bytes, where they may come or have come
abbrev pub need_by_mark : ℕ → Mark → ℕ
need_by_mark n mark.Left = n
need_by_mark n (mark.Answered (answer.Data bytes)) = length bytes
need_by_mark n _ = 0

abbrev pub need_of : MarkedPiece → ℕ
need_of p = need_by_mark p.piece.n p.mark

-- the room that pieces need
abbrev pub needed : List MarkedPiece → ℕ
needed pieces = sum_by need_of pieces

-- a get
abbrev pub is_get : PlanKind → Bool
is_get plan.Get = true
is_get _ = false

-- a blocking get whose result was not told
abbrev pub has_room : Operation → Bool
has_room operation = operation.blocking && is_get operation.kind && not operation.reported

-- there is a flag for each piece, all are counted, and there is room for the bytes of a blocking get
pub record IsSideOf (operation : Operation) (side : Side) : Type 0 where
  pub counted : side.counts ≡ counts_of (operation, side.flags)
  pub sized : length side.flags ≡ length operation.pieces
  pub few : length operation.pieces < 2 ^ 32
  pub room : has_room operation ≡ true → needed operation.pieces ≤ length side.room.items

-- the mark asks for no more room than the piece has
abbrev pub IsLean : Operation → ℕ → Mark → Type 0
IsLean operation j new = (p : MarkedPiece) → slice_get operation.pieces j ≡ Some p → need_by_mark p.piece.n new ≤ need_of p

-- nothing has happened to its pieces, of which there are so many
pub record IsFresh (operation : Operation) (count : ℕ) : Type 0 where
  pub pieces : length operation.pieces ≡ count
  pub marks : marks_of operation.pieces ≡ replicate count mark.Left
  pub reported : operation.reported ≡ false

-- so many pieces are held
abbrev pub held_only : ℕ → Pending
held_only count = record { held = count; out = 0; done = 0 }

-- none of the pieces counts as done any more
abbrev pub told_side : Side → Side
told_side side = record side { counts = record side.counts { done = 0 } }

-- the flags of all operations
abbrev pub flags_of : List Side → List (List Bool)
flags_of sides = map (λ side. side.flags) sides

-- what holds of the fields of a context
pub record IsKept (context : Context) (sides : List Side) (pending : Pending) (pieces : ℕ) : Type 0 where
  pub ordered : IsOrdered (tracked context (flags_of sides))
  pub each : AllZip IsSideOf context.operations sides
  pub counted : pending ≡ total (λ side. side.counts) sides
  pub sum : pieces ≡ sum_by (λ frame. length frame.reads) (map frame_of context.operations)

-- some piece of the operation is left, by its counts
abbrev pub is_busy : Side → Bool
is_busy side = not (side.counts.held + side.counts.out == 0)

-- no side before this place is busy, but maybe the one at another place
pub record AreIdleBut (sides : List Side) (first at : ℕ) : Type 0 where
  pub within : min first at ≤ length sides
  pub idle : (k : ℕ) (d : Side) → k < first → k ≢ at → is_busy (get_or sides k d) ≡ false

-- what holds of the fields of a context, with the place of the first operation that has a piece left
pub record IsIndexed (context : Context) (sides : List Side) (pending : Pending) (pieces first : ℕ) : Type 0 where
  pub kept : IsKept context sides pending pieces
  pub reached : first ≡ position_or_len has_left context.operations

-- the results of all operations before this place were told
pub record AreTold (operations : List Operation) (told : ℕ) : Type 0 where
  pub within : told ≤ length operations
  pub before : list_all (λ operation. operation.reported) (take told operations) ≡ true

-- what holds of the fields of a context, with a place before which all results were told
pub record IsSettled (context : Context) (sides : List Side) (pending : Pending) (pieces first told : ℕ) : Type 0 where
  pub indexed : IsIndexed context sides pending pieces first
  pub settled : AreTold context.operations told
