-- What holds of each state of the machine.
use Rattle.std.specs.Prelude.{◌≡◌, ℕ, ◌+◌, ◌<◌, ◌≤◌, suc, Bool, true, false, not, ◌==◌, ◌&&◌, List, map, length, Option, Some, None, [], ◌∷◌, replicate, slice_get, IsTrue, All, ⊤, ℤ}
use Rattle.fam_base.specs.declared.naming.Descriptor.{Descriptor}
use Rattle.fam_base.specs.declared.naming.ItemId.{ItemId}
use Rattle.fam_model.specs.declared.call.Op.{Op}
use Rattle.fam_model.specs.declared.call.Width.{Width}
use Rattle.fam_model.specs.declared.call.MetaCall.{MetaCall}
use Rattle.fam_model.specs.declared.call.MetaCall.TheVariants as meta
use Rattle.fam_model.specs.declared.change.Change.{Change}
use Rattle.fam_model.specs.declared.change.Change.TheVariants as change
use Rattle.fam_model.specs.declared.event.What.{What}
use Rattle.fam_model.specs.declared.event.What.TheVariants as what
use Rattle.fam_model.specs.declared.piece.MarkedPiece.{MarkedPiece}
use Rattle.fam_model.specs.declared.piece.Operation.{Operation}
use Rattle.fam_model.specs.declared.piece.PieceKind.{PieceKind}
use Rattle.fam_model.specs.declared.piece.PieceKind.TheVariants as kind
use Rattle.fam_model.specs.declared.piece.PlanKind.{PlanKind}
use Rattle.fam_model.specs.declared.piece.PlanKind.TheVariants as plan
use Rattle.fam_model.specs.declared.piece.PlanPiece.{PlanPiece}
use Rattle.fam_model.specs.declared.rows.ItemRow.{ItemRow}
use Rattle.fam_model.specs.declared.rows.Rows.{Rows}
use Rattle.fam_model.specs.declared.state.Context.{Context}
use Rattle.fam_model.specs.declared.state.ProgramState.{ProgramState}
use Rattle.fam_model.specs.declared.state.State.{State}
use Rattle.fam_model.specs.Atomic.{is_supported, is_in_range, width_bytes}
use Rattle.fam_model.specs.Limits.{max_region_size, number_end, nobody}
use Rattle.fam_model.specs.Operations.{is_copy}
use Rattle.fam_model.specs.PieceStep.{is_read}
use Rattle.fam_model.specs.Programs.{is_member, has_arrived}
use Rattle.fam_model.specs.Rows.{IsLawful, item_of, item_number}
use Rattle.fam_model.specs.Services.{is_service}

-- memory

-- the number and the length of an entry of memory
abbrev pub entry_extent : ItemId × List ℕ → ℕ × ℕ
entry_extent entry = (entry.0.0, length entry.1)

-- the number and the size of an item
abbrev pub item_extent : ItemRow → ℕ × ℕ
item_extent row = (item_number row, row.size)

-- memory has the bytes of each item that is there, in order of number
abbrev pub IsMemoryOf : List ItemRow → List (ItemId × List ℕ) → Type 0
IsMemoryOf items memory = map entry_extent memory ≡ map item_extent items

-- the bytes of a new item of this number and size: zero
abbrev pub zero_bytes : Option (ItemId × ℕ) → List (ItemId × List ℕ)
zero_bytes None = []
zero_bytes (Some new) = (new.0, replicate new.1 0) ∷ []

-- the item that a change takes away alone
abbrev pub taken_item : Change → Option ItemId
taken_item (change.Deallocate item) = Some item
taken_item _ = None

-- the change takes away a region with its items
abbrev pub takes_region : Change → Bool
takes_region (change.DestroyRegion region) = true
takes_region _ = false

-- what programs hold

-- a descriptor that was given out: its item, where it is still there, has that size
pub record IsKnown (rows : Rows) (descriptor : Descriptor) : Type 0 where
  pub number : descriptor.item.0 < rows.next_item
  pub room : descriptor.base + descriptor.size ≤ max_region_size
  pub size : (row : ItemRow) → item_of rows descriptor.item.0 ≡ Some row → row.size ≡ descriptor.size

-- an atomic
abbrev pub is_atomic : PieceKind → Bool
is_atomic (kind.Atomic op width a b) = true
is_atomic _ = false

-- an atomic has an operation of its width, arguments of it, and its number of bytes
abbrev pub is_sound_kind : PieceKind → ℕ → Bool
is_sound_kind (kind.Atomic op width a b) n =
    is_supported op width && is_in_range width a && is_in_range width b && n == width_bytes width
is_sound_kind _ n = true

-- what a sound atomic has
pub record IsSoundAtomic (op : Op) (w : Width) (a b : ℤ) (n : ℕ) : Type 0 where
  pub supported : IsTrue (is_supported op w)
  pub first : IsTrue (is_in_range w a)
  pub second : IsTrue (is_in_range w b)
  pub width : n ≡ width_bytes w

-- a piece lies inside its item, where that is still there
pub record IsSoundPiece (rows : Rows) (piece : PlanPiece) : Type 0 where
  pub number : piece.item.0 < rows.next_item
  pub inside : (row : ItemRow) → item_of rows piece.item.0 ≡ Some row → piece.offset + piece.n ≤ row.size
  pub sound_kind : IsTrue (is_sound_kind piece.kind piece.n)
  pub few : length piece.bytes ≤ piece.n

-- what a piece does, and how many bytes it has
abbrev pub piece_extent : MarkedPiece → PieceKind × ℕ
piece_extent marked = (marked.piece.kind, marked.piece.n)

-- what follows a read has as many bytes
abbrev pub ArePaired : List (PieceKind × ℕ) → Type 0
ArePaired extents =
    (j : ℕ) (read write : PieceKind × ℕ) → slice_get extents j ≡ Some read → slice_get extents (suc j) ≡ Some write →
    IsTrue (is_read read.0) → write.1 ≡ read.1

-- an operation that gives this back may have a piece that does this
abbrev pub may_have : PlanKind → PieceKind → Bool
may_have plan.Get piece = is_read piece
may_have plan.Fetch piece = is_atomic piece
may_have plan.Put piece = not (is_read piece)
may_have plan.Copy piece = not (is_atomic piece)

-- the pieces of an operation lie inside their items, and do what it does; a copy's write has as many bytes as its read
pub record IsSoundOperation (rows : Rows) (operation : Operation) : Type 0 where
  pub inside : All (λ marked. IsSoundPiece rows marked.piece) operation.pieces
  pub kinds : All (λ extent. IsTrue (may_have operation.kind extent.0)) (map piece_extent operation.pieces)
  pub paired : IsTrue (is_copy operation.kind) → ArePaired (map piece_extent operation.pieces)

-- all operations of a context are sound
abbrev pub IsSoundContext : Rows → Context → Type 0
IsSoundContext rows context = All (IsSoundOperation rows) context.operations

-- the descriptor that a slot holds, if any, is known
abbrev pub IsSoundSlot : Rows → Option Descriptor → Type 0
IsSoundSlot rows held = (descriptor : Descriptor) → held ≡ Some descriptor → IsKnown rows descriptor

-- what a program holds of the directory's rows
pub record HoldsSound (rows : Rows) (p : ProgramState) : Type 0 where
  pub slots : All (IsSoundSlot rows) p.item_slots
  pub operations : All (IsSoundContext rows) p.contexts

-- rounds

-- a program arrived at no later round, and a member has made a call in each round that has passed
pub record IsOnTime (round : ℕ) (p : ProgramState) : Type 0 where
  pub bound : p.next_call ≤ number_end
  pub arrived : (at : ℕ) → p.arrived ≡ Some at → at ≤ round
  pub passed : IsTrue (is_member p) → round ≤ p.next_call
  pub here : IsTrue (is_member p) → IsTrue (has_arrived round p) → round < p.next_call

-- states

-- what holds of a program of the machine
pub record IsSoundProgram (rows : Rows) (round : ℕ) (p : ProgramState) : Type 0 where
  pub user : p.who.uid < nobody
  pub holds : HoldsSound rows p
  pub on_time : IsOnTime round p

-- what holds of each state of the machine
pub record IsSound (state : State) : Type 0 where
  pub lawful_service : IsTrue (is_service state.service.servers state.service.stripes state.service.unit)
  pub lawful : IsLawful state.rows
  pub filled : IsMemoryOf state.rows.items state.memory
  pub sound : All (IsSoundProgram state.rows state.round) state.programs

-- events

-- the mode that a call gives, and 0 where it gives none
abbrev pub call_mode : MetaCall → ℕ
call_mode (meta.CreateRegion slot name size mode) = mode
call_mode (meta.SetRegionMode slot mode) = mode
call_mode (meta.Allocate slot name size mode region) = mode
call_mode (meta.SetItemMode slot mode) = mode
call_mode _ = 0

-- the modes that an event gives are modes
abbrev pub HasModes : What → Type 0
HasModes (what.Meta asked given) = call_mode asked ≤ 511
HasModes _ = ⊤
