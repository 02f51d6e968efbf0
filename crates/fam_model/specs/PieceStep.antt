-- Pieces: what they find, what they are answered, what they change, and how they are lost.
use Rattle.std.specs.Prelude.{ℕ, ◌+◌, Bool, true, false, ◌&&◌, nat_lt, List, [], length, slice_get, slice_range, Option, Some, None, if◌then◌else◌}
use Rattle.std.specs.List.{replace_range}
use Rattle.std.specs.Option.{option_map_or}
use Rattle.fam_base.specs.Permission.{is_allowed}
use Rattle.fam_base.specs.declared.naming.Who.{Who}
use Rattle.fam_base.specs.declared.naming.ItemId.{ItemId}
use Rattle.fam_base.specs.declared.error.FamError.TheVariants.{Memory, Absent, NoPermission, HistoryFull}
use Rattle.fam_model.specs.declared.reply.PieceAnswer.{PieceAnswer}
use Rattle.fam_model.specs.declared.reply.PieceAnswer.TheVariants as answer
use Rattle.fam_model.specs.declared.piece.PlanPiece.{PlanPiece}
use Rattle.fam_model.specs.declared.piece.PieceKind.{PieceKind}
use Rattle.fam_model.specs.declared.piece.PieceKind.TheVariants as kind
use Rattle.fam_model.specs.declared.piece.PlanKind.{PlanKind}
use Rattle.fam_model.specs.declared.piece.PlanKind.TheVariants as plan
use Rattle.fam_model.specs.declared.piece.Mark.{Mark}
use Rattle.fam_model.specs.declared.piece.Mark.TheVariants as mark
use Rattle.fam_model.specs.declared.piece.MarkedPiece.{MarkedPiece}
use Rattle.fam_model.specs.declared.piece.Operation.{Operation}
use Rattle.fam_model.specs.declared.rows.Rows.{Rows}
use Rattle.fam_model.specs.declared.state.ProgramState.{ProgramState}
use Rattle.fam_model.specs.Atomic.{bytes_after}
use Rattle.fam_model.specs.Directory.{Memory as MemoryOfItems}
use Rattle.fam_model.specs.Limits.{Limits}
use Rattle.fam_model.specs.Lists.{◌>>=◌, when, find_number, change_number, change_place}
use Rattle.fam_model.specs.Operations.{is_left, may_come, is_copy}
use Rattle.fam_model.specs.Programs.{has_crashed, placed, with_placed}
use Rattle.fam_model.specs.Rows.{item_of, item_owner}
use Rattle.fam_model.specs.Same.{same_answer}

-- memory

-- memory goes by the numbers of items
abbrev pub entry_number : ItemId × List ℕ → ℕ
entry_number entry = entry.0.0

-- the bytes of an item
abbrev pub item_bytes : MemoryOfItems → ℕ → List ℕ
item_bytes memory item = option_map_or (λ entry. entry.1) (find_number entry_number item memory) []

-- the bytes that a piece finds
abbrev pub bytes_found : MemoryOfItems → PlanPiece → List ℕ
bytes_found memory piece = slice_range (item_bytes memory piece.item.0) piece.offset (piece.offset + piece.n)

-- the list with these bytes from an offset on
abbrev pub overwritten : ℕ → List ℕ → List ℕ → List ℕ
overwritten offset bytes xs = replace_range xs offset (offset + length bytes) bytes

-- memory with these bytes where the piece lies
abbrev pub with_bytes : MemoryOfItems → PlanPiece → List ℕ → MemoryOfItems
with_bytes memory piece bytes =
    change_number entry_number piece.item.0 (λ entry. (entry.0, overwritten piece.offset bytes entry.1)) memory

-- memory after a piece of this kind was served
abbrev pub memory_by_kind : PieceKind → MemoryOfItems → PlanPiece → MemoryOfItems
memory_by_kind kind.Read memory piece = memory
memory_by_kind kind.Write memory piece = with_bytes memory piece piece.bytes
memory_by_kind (kind.Atomic op width a b) memory piece =
    with_bytes memory piece (bytes_after op width a b (bytes_found memory piece))

-- answers

-- a get and a fetching atomic are answered with the bytes found
abbrev pub served_answer : PlanKind → List ℕ → PieceAnswer
served_answer plan.Get bytes = answer.Data bytes
served_answer plan.Fetch bytes = answer.Data bytes
served_answer _ bytes = answer.Ok

-- the answer of a piece that finds memory and room: the item is there, and the program has the permission now
unfoldable pub due_answer : Rows → MemoryOfItems → Who → PlanKind → PlanPiece → PieceAnswer
due_answer rows memory who plan_kind piece = elim (item_of rows piece.item.0) [
  | None ↦ answer.Refused Absent
  | Some row ↦
      if is_allowed (item_owner row) row.mode who piece.need
      then served_answer plan_kind (bytes_found memory piece)
      else answer.Refused NoPermission
]

-- the answer is due, or memory is wanting, or the history of the piece's stripe is full
unfoldable pub may_answer : Limits → PieceAnswer → PieceAnswer → Bool
may_answer limits due (answer.Refused Memory) = true
may_answer limits due (answer.Refused (HistoryFull used need)) = nat_lt limits.history (used + need)
may_answer limits due given = same_answer given due

-- the answer is an error
abbrev pub is_refused : PieceAnswer → Bool
is_refused (answer.Refused error) = true
is_refused _ = false

-- marks

-- the piece with another mark
abbrev pub marked : Mark → MarkedPiece → MarkedPiece
marked new p = record p { mark = new }

-- a copy's write once its read is answered: it has the bytes found, or is gone with a refused read
abbrev pub handed : PieceAnswer → List ℕ → MarkedPiece → MarkedPiece
handed given bytes p =
    if is_refused given then marked mark.Gone p else record p { piece = record p.piece { bytes = bytes } }

-- a read
abbrev pub is_read : PieceKind → Bool
is_read kind.Read = true
is_read _ = false

-- the read of a copy
abbrev pub is_copy_read : Operation → PlanPiece → Bool
is_copy_read operation piece = is_copy operation.kind && is_read piece.kind

-- the operation once piece j, which found these bytes, is answered
abbrev pub with_answer : Operation → ℕ → PlanPiece → PieceAnswer → List ℕ → Operation
with_answer operation j piece given bytes =
    let pieces = change_place j (marked (mark.Answered given)) operation.pieces in
    record operation {
      pieces = if is_copy_read operation piece then change_place (j + 1) (handed given bytes) pieces else pieces;
    }

-- the operation once piece j is lost, with a copy's read its write
abbrev pub without_piece : Operation → ℕ → PlanPiece → Operation
without_piece operation j piece =
    let pieces = change_place j (marked mark.Gone) operation.pieces in
    record operation {
      pieces = if is_copy_read operation piece then change_place (j + 1) (marked mark.Gone) pieces else pieces;
    }

-- steps

-- a piece: it may come, and its answer is one that it may have
abbrev pub piece_step : Limits → Rows → MemoryOfItems → ProgramState → ℕ → ℕ → PieceAnswer → Option ProgramState
piece_step limits rows memory p call j given = do
  at ← placed p call
  left ← slice_get at.operation.pieces j
  when
      (may_come at.context at.operation j
      && may_answer limits (due_answer rows memory p.who at.operation.kind left.piece) given)
      (with_placed p at (with_answer at.operation j left.piece given (bytes_found memory left.piece)))

-- memory after a piece: a served one changes its bytes, a refused one none
abbrev pub memory_by_piece : MemoryOfItems → ProgramState → ℕ → ℕ → PieceAnswer → MemoryOfItems
memory_by_piece memory p call j given =
    option_map_or (λ left. if is_refused given then memory else memory_by_kind left.piece.kind memory left.piece)
    (placed p call >>= λ at. slice_get at.operation.pieces j) memory

-- a piece that a crashed program left is lost
abbrev pub lose_step : ProgramState → ℕ → ℕ → Option ProgramState
lose_step p call j = do
  at ← placed p call
  left ← slice_get at.operation.pieces j
  when (has_crashed p.standing && is_left left) (with_placed p at (without_piece at.operation j left.piece))
