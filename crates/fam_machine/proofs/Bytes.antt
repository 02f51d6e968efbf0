-- What a piece leaves of memory.
use Rattle.std.proofs.Common.{◌≡◌, ℕ, ◌+◌, ◌≤◌, List, [], ◌∷◌, map, length, set, Option, Some, None, Bool, true, false, sym, ap, subst, ◌∙◌, refl, arith, lit≤}
use Rattle.std.specs.Prelude.{◌&&◌, ◌==◌, slice_get, slice_set, IsTrue, find, ℤ, if◌then◌else◌}
use Rattle.std.specs.Option.{option_map, option_map_or}
use Rattle.std.specs.List.Sorted.{IsStrictlyIncreasing}
use Rattle.std.proofs.lemmas.Bool.{false≢true}
use Rattle.std.proofs.lemmas.Bool.Decides.{nat_tests}
use Rattle.std.proofs.lemmas.List.{map-set, set-get_or, length-append, length-take, length-drop}
use Rattle.std.proofs.lemmas.Option.{get_or_from_slice_get}
use Rattle.fam_base.specs.declared.naming.ItemId.{ItemId}
use Rattle.fam_model.specs.declared.call.Op.{Op}
use Rattle.fam_model.specs.declared.call.Width.{Width}
use Rattle.fam_model.specs.declared.call.Width.TheVariants as width
use Rattle.fam_model.specs.declared.piece.MarkedPiece.{MarkedPiece}
use Rattle.fam_model.specs.declared.piece.PieceKind.{PieceKind}
use Rattle.fam_model.specs.declared.piece.PieceKind.TheVariants as kind
use Rattle.fam_model.specs.declared.piece.PlanPiece.{PlanPiece}
use Rattle.fam_model.specs.declared.reply.PieceAnswer.{PieceAnswer}
use Rattle.fam_model.specs.declared.rows.ItemRow.{ItemRow}
use Rattle.fam_model.specs.declared.rows.Rows.{Rows}
use Rattle.fam_model.specs.declared.state.ProgramState.{ProgramState}
use Rattle.fam_model.specs.Atomic.{bytes_after, width_bytes, is_supported, is_in_range}
use Rattle.fam_model.specs.Directory.{Memory}
use Rattle.fam_model.specs.Lists.{◌>>=◌, change_place, place_of, find_number}
use Rattle.fam_model.specs.PieceStep.{entry_number, item_bytes, overwritten, with_bytes, bytes_found, memory_by_kind, memory_by_piece, is_refused}
use Rattle.fam_model.specs.Programs.{Placed, placed}
use Rattle.fam_model.specs.Rows.{IsLawful, item_of, item_number}
use Rattle.fam_machine.specs.Sound.{entry_extent, item_extent, IsMemoryOf, IsSoundPiece, HoldsSound, is_sound_kind, IsSoundAtomic}
use Rattle.fam_machine.proofs.Lists.{bind_some, All-at, find_number-find}
use Rattle.fam_machine.proofs.Changes.{extent_of, found-map, mapped_some}
use Rattle.fam_machine.proofs.Programs.{placed_sound}

-- memory and rows

pub map-map : {A B C : Type 0} (g : B → C) (f : A → B) (xs : List A) → map g (map f xs) ≡ map (λ x. g (f x)) xs
map-map g f [] = refl
map-map g f (x ∷ xs) = ap (λ ys. g (f x) ∷ ys) (map-map g f xs)

-- memory has the numbers of the items
pub memory_numbers : (rows : Rows) (memory : Memory) → IsMemoryOf rows.items memory → map entry_number memory ≡ map item_number rows.items
memory_numbers rows memory same =
    sym (map-map (λ (e : ℕ × ℕ). e.0) entry_extent memory) ∙ ap (map (λ (e : ℕ × ℕ). e.0)) same ∙ map-map (λ (e : ℕ × ℕ). e.0) item_extent rows.items

-- so its numbers rise
pub memory_rises : (rows : Rows) (memory : Memory) → IsLawful rows → IsMemoryOf rows.items memory → IsStrictlyIncreasing (map entry_number memory)
memory_rises rows memory lawful same = subst IsStrictlyIncreasing (sym (memory_numbers rows memory same)) lawful.item_numbers_rise

-- the extent of an entry of memory is that of the item
entry_of : (rows : Rows) (memory : Memory) (n : ℕ) → IsMemoryOf rows.items memory → option_map entry_extent (find_number entry_number n memory) ≡ option_map item_extent (item_of rows n)
entry_of rows memory n same =
    ap (option_map entry_extent) (find_number-find entry_number n memory) ∙ sym (found-map entry_extent (λ e. e.0 == n) memory)
    ∙ ap (find (λ e. e.0 == n)) same ∙ sym (extent_of n rows.items)

-- an entry of memory has an item of its length
pub entry_row : (rows : Rows) (memory : Memory) (n : ℕ) (entry : ItemId × List ℕ) → IsMemoryOf rows.items memory → find_number entry_number n memory ≡ Some entry → (row : ItemRow) × (item_of rows n ≡ Some row) × (row.size ≡ length entry.1)
entry_row rows memory n entry same e =
    let there = mapped_some item_extent (item_of rows n) (entry_extent entry) (sym (entry_of rows memory n same) ∙ ap (option_map entry_extent) e) in
    (there.0, there.1, ap (λ (x : ℕ × ℕ). x.1) there.2)

-- and an item has an entry of its size
pub row_entry : (rows : Rows) (memory : Memory) (n : ℕ) (row : ItemRow) → IsMemoryOf rows.items memory → item_of rows n ≡ Some row → (entry : ItemId × List ℕ) × (find_number entry_number n memory ≡ Some entry) × (length entry.1 ≡ row.size)
row_entry rows memory n row same e =
    let there = mapped_some entry_extent (find_number entry_number n memory) (item_extent row) (entry_of rows memory n same ∙ ap (option_map item_extent) e) in
    (there.0, there.1, ap (λ (x : ℕ × ℕ). x.1) there.2)

-- an item that is there has as many bytes as its size says
pub bytes_length : (rows : Rows) (memory : Memory) (n : ℕ) (row : ItemRow) → IsMemoryOf rows.items memory → item_of rows n ≡ Some row → length (item_bytes memory n) ≡ row.size
bytes_length rows memory n row same e =
    let entry = row_entry rows memory n row same e in ap (λ o. length (option_map_or (λ (entry : ItemId × List ℕ). entry.1) o [])) entry.1 ∙ entry.2

-- bytes

-- bytes written inside a list leave its length
pub length-overwritten : (offset : ℕ) (bytes xs : List ℕ) → offset + length bytes ≤ length xs → length (overwritten offset bytes xs) ≡ length xs
length-overwritten offset bytes xs le = simp (length-append, length-take, length-drop) (omega arith)

-- an atomic leaves as many bytes as its width has
pub length-bytes_after : (op : Op) (w : Width) (a b : ℤ) (old : List ℕ) → length (bytes_after op w a b old) ≡ width_bytes w
length-bytes_after op width.I32 a b old = refl
length-bytes_after op width.U32 a b old = refl
length-bytes_after op width.I64 a b old = refl
length-bytes_after op width.U64 a b old = refl
length-bytes_after op width.I128 a b old = refl
length-bytes_after op width.F32 a b old = refl
length-bytes_after op width.F64 a b old = refl

-- extents

same_there : {A B : Type 0} (h : A → B) (k : ℕ) (f : A → A) (xs : List A) → ((x : A) → slice_get xs k ≡ Some x → h (f x) ≡ h x) → (o : Option A) → slice_get xs k ≡ o → map h (option_map_or (λ x. slice_set xs k (f x)) o xs) ≡ map h xs
same_there h k f xs step None e = refl
same_there h k f xs step (Some x) e =
    let back : set xs k x ≡ xs = ap (λ y. set xs k y) (sym (get_or_from_slice_get xs k x x e)) ∙ set-get_or xs k x in
    map-set h xs k (f x) ∙ ap (λ y. set (map h xs) k y) (step x e) ∙ sym (map-set h xs k x) ∙ ap (λ ys. map h ys) back

same_found : {A B : Type 0} (h : A → B) (number : A → ℕ) (n : ℕ) (f : A → A) (xs : List A) → ((x : A) → find_number number n xs ≡ Some x → h (f x) ≡ h x) → (o : Option ℕ) → place_of number n xs ≡ o → map h (option_map_or (λ k. change_place k f xs) o xs) ≡ map h xs
same_found h number n f xs step None e = refl
same_found h number n f xs step (Some k) e =
    same_there h k f xs (λ x there. step x (ap (λ o. o >>= λ k. slice_get xs k) e ∙ there)) (slice_get xs k) refl

-- bytes that are written inside an item leave the extents of memory
pub with_bytes_extents : (rows : Rows) (memory : Memory) (piece : PlanPiece) (bytes : List ℕ) → IsMemoryOf rows.items memory → IsSoundPiece rows piece → length bytes ≤ piece.n → IsMemoryOf rows.items (with_bytes memory piece bytes)
with_bytes_extents rows memory piece bytes same sound few =
    same_found entry_extent entry_number piece.item.0 (λ entry. (entry.0, overwritten piece.offset bytes entry.1)) memory
    (λ entry e.
    let row = entry_row rows memory piece.item.0 entry same e in
    let inside = sound.inside row.0 row.1 in
    let size = row.2 in
    ap (λ n. (entry.0.0, n)) (length-overwritten piece.offset bytes entry.1 (omega arith)))
    (place_of entry_number piece.item.0 memory) refl
    ∙ same

atomic_width : (a b c d : Bool) → (a && b && c && d) ≡ true → d ≡ true
atomic_width true true true d e = e
atomic_width true true false d e = absurd (false≢true e)
atomic_width true false c d e = absurd (false≢true e)
atomic_width false b c d e = absurd (false≢true e)

-- a sound atomic has as many bytes as its width
pub sound_width : (op : Op) (w : Width) (a b : ℤ) (n : ℕ) → IsTrue (is_sound_kind (kind.Atomic op w a b) n) → n ≡ width_bytes w
sound_width op w a b n e =
    let test : (n == width_bytes w) ≡ true = atomic_width (is_supported op w) (is_in_range w a) (is_in_range w b) (n == width_bytes w) e in
    grind (arith, nat_tests)

kind_extents : (rows : Rows) (memory : Memory) (piece : PlanPiece) (k : PieceKind) → piece.kind ≡ k → IsMemoryOf rows.items memory → IsSoundPiece rows piece → IsMemoryOf rows.items (memory_by_kind k memory piece)
kind_extents rows memory piece kind.Read e same sound = same
kind_extents rows memory piece kind.Write e same sound = with_bytes_extents rows memory piece piece.bytes same sound sound.few
kind_extents rows memory piece (kind.Atomic op w a b) e same sound =
    let wide : piece.n ≡ width_bytes w = sound_width op w a b piece.n (subst (λ k. IsTrue (is_sound_kind k piece.n)) e sound.sound_kind) in
    let bytes = bytes_after op w a b (bytes_found memory piece) in
    let long : length bytes ≡ width_bytes w = length-bytes_after op w a b (bytes_found memory piece) in
    with_bytes_extents rows memory piece bytes same sound (omega arith)

served_extents : (rows : Rows) (memory : Memory) (piece : PlanPiece) (refused : Bool) → IsMemoryOf rows.items memory → IsSoundPiece rows piece → IsMemoryOf rows.items (if refused then memory else memory_by_kind piece.kind memory piece)
served_extents rows memory piece true same sound = same
served_extents rows memory piece false same sound = kind_extents rows memory piece piece.kind refl same sound

-- the piece of an operation that is there
pub piece_sound_at : (rows : Rows) (p : ProgramState) (call j : ℕ) (at : Placed) (left : MarkedPiece) → HoldsSound rows p → placed p call ≡ Some at → slice_get at.operation.pieces j ≡ Some left → IsSoundPiece rows left.piece
piece_sound_at rows p call j at left holds e f =
    All-at (λ m. IsSoundPiece rows m.piece) at.operation.pieces j left (placed_sound rows p call at holds e).operation.inside f

piece_extents : (rows : Rows) (memory : Memory) (p : ProgramState) (call j : ℕ) (given : PieceAnswer) (o : Option MarkedPiece) → (placed p call >>= λ at. slice_get at.operation.pieces j) ≡ o → IsMemoryOf rows.items memory → HoldsSound rows p → IsMemoryOf rows.items (option_map_or (λ left. if is_refused given then memory else memory_by_kind left.piece.kind memory left.piece) o memory)
piece_extents rows memory p call j given None e same holds = same
piece_extents rows memory p call j given (Some left) e same holds =
    let at = bind_some (placed p call) (λ at. slice_get at.operation.pieces j) left e in
    served_extents rows memory left.piece (is_refused given) same (piece_sound_at rows p call j at.0 left holds at.1 at.2)

-- memory keeps the extents of items as pieces come
pub memory_by_piece_extents : (rows : Rows) (memory : Memory) (p : ProgramState) (call j : ℕ) (given : PieceAnswer) → IsMemoryOf rows.items memory → HoldsSound rows p → IsMemoryOf rows.items (memory_by_piece memory p call j given)
memory_by_piece_extents rows memory p call j given same holds =
    piece_extents rows memory p call j given (placed p call >>= λ at. slice_get at.operation.pieces j) refl same holds

four_true : (a b c d : Bool) → (a && b && c && d) ≡ true → (a ≡ true) × (b ≡ true) × (c ≡ true) × (d ≡ true)
four_true true true true true e = (refl, refl, refl, refl)
four_true true true true false e = absurd (false≢true e)
four_true true true false d e = absurd (false≢true e)
four_true true false c d e = absurd (false≢true e)
four_true false b c d e = absurd (false≢true e)

pub atomic_sound : (k : PieceKind) (op : Op) (w : Width) (a b : ℤ) (n : ℕ) → k ≡ kind.Atomic op w a b → IsTrue (is_sound_kind k n) → IsSoundAtomic op w a b n
atomic_sound k op w a b n e sound =
    let parts = four_true (is_supported op w) (is_in_range w a) (is_in_range w b) (n == width_bytes w) (subst (λ k. IsTrue (is_sound_kind k n)) e sound) in
    record { supported = parts.0; first = parts.1; second = parts.2; width = sound_width op w a b n (subst (λ k. IsTrue (is_sound_kind k n)) e sound) }

-- 16 bytes hold a number of any width
pub width_small : (w : Width) → width_bytes w ≤ 16
width_small width.I32 = lit≤ tt
width_small width.U32 = lit≤ tt
width_small width.I64 = lit≤ tt
width_small width.U64 = lit≤ tt
width_small width.I128 = lit≤ tt
width_small width.F32 = lit≤ tt
width_small width.F64 = lit≤ tt

-- a sound piece whose item is there lies inside its bytes
pub found_inside : (rows : Rows) (memory : Memory) (piece : PlanPiece) (row : ItemRow) → IsMemoryOf rows.items memory → IsSoundPiece rows piece → item_of rows piece.item.0 ≡ Some row → piece.offset + piece.n ≤ length (item_bytes memory piece.item.0)
found_inside rows memory piece row same sound e =
    let long = bytes_length rows memory piece.item.0 row same e in let inside = sound.inside row e in omega arith
