-- The pieces of an operation that is not refused lie inside its items.
use Rattle.std.proofs.Common.{◌≡◌, ℕ, ◌+◌, ◌≤◌, suc, zero, List, [], ◌∷◌, length, map, take, drop, None, Bool, true, false, sym, ap, ◌∙◌, arith, refl}
use Rattle.std.specs.Prelude.{◌==◌, ◌&&◌, ◌||◌, not, nat_lt, All, IsTrue, pos, ℤ, if◌then◌else◌}
use Rattle.std.specs.Bool.{beq}
use Rattle.std.specs.List.{flat_map}
use Rattle.std.proofs.lemmas.Bool.{false≢true}
use Rattle.std.proofs.lemmas.Bool.Decides.{nat_tests, Decides-int_eq}
use Rattle.std.proofs.lemmas.List.{length-take}
use Rattle.std.proofs.lemmas.List.Elements.{All-cons, All-tail, All-head, All-nil, All-append, All-map, All-weaker}
use Rattle.std.proofs.lemmas.Option.{none-some, same_Some}
use Rattle.fam_base.specs.declared.naming.Descriptor.{Descriptor}
use Rattle.fam_base.specs.declared.error.FamError.TheVariants.{Unsupported, Unaligned, TooLarge, Range}
use Rattle.fam_model.specs.declared.call.DataOp.{DataOp}
use Rattle.fam_model.specs.declared.call.DataOp.TheVariants as data_op
use Rattle.fam_model.specs.declared.call.Op.{Op}
use Rattle.fam_model.specs.declared.call.Op.TheVariants as op
use Rattle.fam_model.specs.declared.call.Width.{Width}
use Rattle.fam_model.specs.declared.call.Width.TheVariants as width
use Rattle.fam_model.specs.declared.piece.MarkedPiece.{MarkedPiece}
use Rattle.fam_model.specs.declared.piece.Part.{Part}
use Rattle.fam_model.specs.declared.piece.PieceKind.{PieceKind}
use Rattle.fam_model.specs.declared.piece.PieceKind.TheVariants as kind
use Rattle.fam_model.specs.declared.piece.PlanKind.{PlanKind}
use Rattle.fam_model.specs.declared.piece.PlanKind.TheVariants as plan
use Rattle.fam_model.specs.declared.piece.PlanPiece.{PlanPiece}
use Rattle.fam_model.specs.declared.rows.Rows.{Rows}
use Rattle.fam_model.specs.declared.service.Service.{Service}
use Rattle.fam_model.specs.Atomic.{is_supported, is_in_range, width_bytes, is_fetching}
use Rattle.fam_model.specs.Directory.{first_case}
use Rattle.fam_model.specs.Issue.{plan_refusals, ends_past, is_unsupported, is_unaligned}
use Rattle.fam_model.specs.IssueStep.{left_piece}
use Rattle.fam_model.specs.Limits.{max_bytes, max_elements}
use Rattle.fam_model.specs.Operations.{is_copy}
use Rattle.fam_model.specs.PieceStep.{is_read}
use Rattle.fam_model.specs.Laws.{AreInRow}
use Rattle.fam_model.specs.Pieces.{pieces, part, cuts, cut_where, all_cuts, is_border, reads, dealt, writes, copies, read_piece, write_piece, piece_at, elements, copied_to, plan_kind, moved, element_count, strided, indexed}
use Rattle.fam_model.specs.Shape.{has_arguments, is_zero, is_shaped_data, is_slot}
use Rattle.fam_model.proofs.Cuts.{exact}
use Rattle.fam_machine.specs.Sound.{IsKnown, IsSoundPiece, is_sound_kind, ArePaired, piece_extent, may_have}
use Rattle.fam_machine.proofs.Lists.{both_true}

-- parts

-- a part ends at most at a place
abbrev EndsBy : ℕ → Part → Type 0
EndsBy end p = p.offset + p.n ≤ end

-- parts in a row begin before they end
in_row_rises : (start end : ℕ) (parts : List Part) → AreInRow start parts end → start ≤ end
in_row_rises start end [] row = omega arith
in_row_rises start end (p ∷ parts) row = let rest : start + p.n ≤ end = in_row_rises (start + p.n) end parts row.1 in omega arith

-- and each of them by the end
in_row_ends : (start end : ℕ) (parts : List Part) → AreInRow start parts end → All (EndsBy end) parts
in_row_ends start end [] row = All-nil (EndsBy end)
in_row_ends start end (p ∷ parts) row =
    let rest : start + p.n ≤ end = in_row_rises (start + p.n) end parts row.1 in
    let first : p.offset ≡ start = row.0 in
    All-cons (EndsBy end) p parts (omega arith) (in_row_ends (start + p.n) end parts row.1)

-- what holds of all parts of each element holds of all
All-flat_map : {A B : Type 0} (P : B → Type 0) (Q : A → Type 0) (f : A → List B) → ((x : A) → Q x → All P (f x)) → (xs : List A) → All Q xs → All P (flat_map f xs)
All-flat_map P Q f step [] all = All-nil P
All-flat_map P Q f step (x ∷ xs) all =
    All-append P (f x) (flat_map f xs) (step x (All-head Q x xs all)) (All-flat_map P Q f step xs (All-tail Q x xs all))

-- cutting parts leaves them inside
cuts_end : (unit base end : ℕ) (parts : List Part) → All (EndsBy end) parts → All (EndsBy end) (all_cuts unit base parts)
cuts_end unit base end parts all =
    All-flat_map (EndsBy end) (EndsBy end) (λ p. cuts base p.offset p.n unit)
    (λ p by. All-weaker (EndsBy (p.offset + p.n)) (EndsBy end) (λ q le. omega arith) (cuts base p.offset p.n unit)
    (in_row_ends p.offset (p.offset + p.n) (cuts base p.offset p.n unit) (exact (is_border unit base) p.offset p.n).in_row)) parts all

or_true : (b : Bool) → (b || true) ≡ true
or_true true = refl
or_true false = refl

or_false : (b : Bool) → (b || false) ≡ b
or_false true = refl
or_false false = refl

not_past : (size : ℕ) (p : Part) (rest : Bool) → (nat_lt size (p.offset + p.n) || rest) ≡ false → (p.offset + p.n ≤ size) × (rest ≡ false)
not_past size p true e = absurd (false≢true (sym e ∙ or_true (nat_lt size (p.offset + p.n))))
not_past size p false e = (grind (arith, nat_tests, sym (or_false (nat_lt size (p.offset + p.n))) ∙ e), refl)

-- no part ends past the size
none_past : (size : ℕ) (parts : List Part) → ends_past size parts ≡ false → All (EndsBy size) parts
none_past size [] e = All-nil (EndsBy size)
none_past size (p ∷ parts) e =
    let here = not_past size p (ends_past size parts) e in All-cons (EndsBy size) p parts here.0 (none_past size parts here.1)

-- pieces

-- a piece for a part of a known item
piece_sound : (rows : Rows) (service : Service) (target : Descriptor) (piece : PieceKind) (p : Part) (bytes : List ℕ) → IsKnown rows target → EndsBy target.size p → IsTrue (is_sound_kind piece p.n) → length bytes ≤ p.n → IsSoundPiece rows (piece_at service target piece p bytes)
piece_sound rows service target piece p bytes known by sound few =
    record { number = known.number; inside = λ row e. let size = known.size row e in omega arith; sound_kind = sound; few = few }

reads_sound : (rows : Rows) (service : Service) (target : Descriptor) (parts : List Part) → IsKnown rows target → All (EndsBy target.size) parts → All (IsSoundPiece rows) (reads service target parts)
reads_sound rows service target parts known all =
    All-map (IsSoundPiece rows) (read_piece service target) (all_cuts service.unit target.base parts)
    (All-weaker (EndsBy target.size) (λ p. IsSoundPiece rows (read_piece service target p)) (λ p by. piece_sound rows service target kind.Read p [] known by refl (omega arith))
    (all_cuts service.unit target.base parts) (cuts_end service.unit target.base target.size parts all))

dealt_sound : (rows : Rows) (service : Service) (target : Descriptor) (parts : List Part) (bytes : List ℕ) → IsKnown rows target → All (EndsBy target.size) parts → All (IsSoundPiece rows) (dealt service target parts bytes)
dealt_sound rows service target [] bytes known all = All-nil (IsSoundPiece rows)
dealt_sound rows service target (p ∷ parts) bytes known all =
    All-cons (IsSoundPiece rows) _ _
    (piece_sound rows service target kind.Write p (take p.n bytes) known (All-head (EndsBy target.size) p parts all) refl (omega (arith, length-take p.n bytes)))
    (dealt_sound rows service target parts (drop p.n bytes) known (All-tail (EndsBy target.size) p parts all))

writes_sound : (rows : Rows) (service : Service) (target : Descriptor) (parts : List Part) (bytes : List ℕ) → IsKnown rows target → All (EndsBy target.size) parts → All (IsSoundPiece rows) (writes service target parts bytes)
writes_sound rows service target parts bytes known all =
    dealt_sound rows service target (all_cuts service.unit target.base parts) bytes known (cuts_end service.unit target.base target.size parts all)

-- what a part of a copy is made of
abbrev copied_part : Service → Descriptor → Descriptor → ℕ → ℕ → Part → List PlanPiece
copied_part service from to from_offset to_offset p =
    read_piece service from (part (from_offset + p.offset) p.n) ∷ write_piece service to (part (to_offset + p.offset) p.n) [] ∷ []

copied_part_sound : (rows : Rows) (service : Service) (from to : Descriptor) (from_offset to_offset count : ℕ) → IsKnown rows from → IsKnown rows to → from_offset + count ≤ from.size → to_offset + count ≤ to.size → (p : Part) → EndsBy count p → All (IsSoundPiece rows) (copied_part service from to from_offset to_offset p)
copied_part_sound rows service from to from_offset to_offset count known_from known_to by_from by_to p by =
    let write = write_piece service to (part (to_offset + p.offset) p.n) [] in
    All-cons (IsSoundPiece rows) (read_piece service from (part (from_offset + p.offset) p.n)) (write ∷ [])
    (piece_sound rows service from kind.Read (part (from_offset + p.offset) p.n) [] known_from (omega arith) refl (omega arith))
    (All-cons (IsSoundPiece rows) write []
    (piece_sound rows service to kind.Write (part (to_offset + p.offset) p.n) [] known_to (omega arith) refl (omega arith))
    (All-nil (IsSoundPiece rows)))

copies_sound : (rows : Rows) (service : Service) (from to : Descriptor) (from_offset to_offset count : ℕ) → IsKnown rows from → IsKnown rows to → from_offset + count ≤ from.size → to_offset + count ≤ to.size → All (IsSoundPiece rows) (copies service from from_offset to to_offset count)
copies_sound rows service from to from_offset to_offset count known_from known_to by_from by_to =
    let test : ℕ → Bool = λ k. is_border service.unit (from.base + from_offset) k || is_border service.unit (to.base + to_offset) k in
    All-flat_map (IsSoundPiece rows) (EndsBy count) (copied_part service from to from_offset to_offset)
    (copied_part_sound rows service from to from_offset to_offset count known_from known_to by_from by_to)
    (cut_where test 0 count) (All-weaker (EndsBy (0 + count)) (EndsBy count) (λ p by. omega arith) (cut_where test 0 count) (in_row_ends 0 (0 + count) (cut_where test 0 count) (exact test 0 count).in_row))

-- a write follows its read with as many bytes
pair_behind : (read write : MarkedPiece) (extents : List (PieceKind × ℕ)) → is_read (piece_extent write).0 ≡ false → (piece_extent write).1 ≡ (piece_extent read).1 → ArePaired extents → ArePaired (piece_extent read ∷ piece_extent write ∷ extents)
pair_behind read write extents no_read same paired zero r w e f t = sym (ap (λ x. x.1) (same_Some _ w f)) ∙ same ∙ ap (λ x. x.1) (same_Some _ r e)
pair_behind read write extents no_read same paired (suc zero) r w e f t = absurd (false≢true (sym no_read ∙ ap (λ (x : PieceKind × ℕ). is_read x.0) (same_Some _ r e) ∙ t))
pair_behind read write extents no_read same paired (suc (suc j)) r w e f t = paired j r w e f t

-- the pieces of a copy come in pairs
copied_pairs : (service : Service) (from to : Descriptor) (from_offset to_offset : ℕ) (parts : List Part) → ArePaired (map piece_extent (map left_piece (flat_map (λ p. read_piece service from (part (from_offset + p.offset) p.n) ∷ write_piece service to (part (to_offset + p.offset) p.n) [] ∷ []) parts)))
copied_pairs service from to from_offset to_offset [] = λ j r w e f t. absurd (none-some r e)
copied_pairs service from to from_offset to_offset (p ∷ parts) =
    pair_behind (left_piece (read_piece service from (part (from_offset + p.offset) p.n))) (left_piece (write_piece service to (part (to_offset + p.offset) p.n) [])) _ refl refl
    (copied_pairs service from to from_offset to_offset parts)

-- what pieces do

-- all pieces do what an operation does that gives this back
abbrev AllMay : PlanKind → List PlanPiece → Type 0
AllMay given ps = All (λ p. IsTrue (may_have given p.kind)) ps

reads_may : (service : Service) (target : Descriptor) (parts : List Part) → AllMay plan.Get (map (read_piece service target) parts)
reads_may service target parts =
    All-map (λ p. IsTrue (may_have plan.Get p.kind)) (read_piece service target) parts (λ k d lt. refl)

dealt_may : (service : Service) (target : Descriptor) (parts : List Part) (bytes : List ℕ) → AllMay plan.Put (dealt service target parts bytes)
dealt_may service target [] bytes = All-nil (λ p. IsTrue (may_have plan.Put p.kind))
dealt_may service target (p ∷ parts) bytes =
    All-cons (λ p. IsTrue (may_have plan.Put p.kind)) (write_piece service target p (take p.n bytes)) (dealt service target parts (drop p.n bytes)) refl
    (dealt_may service target parts (drop p.n bytes))

copied_may : (service : Service) (from to : Descriptor) (from_offset to_offset : ℕ) (parts : List Part) → AllMay plan.Copy (flat_map (copied_part service from to from_offset to_offset) parts)
copied_may service from to from_offset to_offset [] = All-nil (λ p. IsTrue (may_have plan.Copy p.kind))
copied_may service from to from_offset to_offset (p ∷ parts) =
    let may : PlanPiece → Type 0 = λ p. IsTrue (may_have plan.Copy p.kind) in
    let read = read_piece service from (part (from_offset + p.offset) p.n) in
    let write = write_piece service to (part (to_offset + p.offset) p.n) [] in
    let others = flat_map (copied_part service from to from_offset to_offset) parts in
    All-cons may read (write ∷ others) refl (All-cons may write others refl (copied_may service from to from_offset to_offset parts))

atomic_may : (service : Service) (target : Descriptor) (o : Op) (w : Width) (a b : ℤ) (p : Part) (fetches : Bool) → AllMay (if fetches then plan.Fetch else plan.Put) (piece_at service target (kind.Atomic o w a b) p [] ∷ [])
atomic_may service target o w a b p true = All-cons (λ p. IsTrue (may_have plan.Fetch p.kind)) (piece_at service target (kind.Atomic o w a b) p []) [] refl (All-nil (λ p. IsTrue (may_have plan.Fetch p.kind)))
atomic_may service target o w a b p false = All-cons (λ p. IsTrue (may_have plan.Put p.kind)) (piece_at service target (kind.Atomic o w a b) p []) [] refl (All-nil (λ p. IsTrue (may_have plan.Put p.kind)))

-- the pieces of an operation do what it does
pub pieces_may : (service : Service) (op : DataOp) (from to : Descriptor) → AllMay (plan_kind op) (pieces service op from to)
pieces_may service (data_op.Get item offset count) from to = reads_may service from (all_cuts service.unit from.base (part offset count ∷ []))
pieces_may service (data_op.Put item offset bytes) from to = dealt_may service from (all_cuts service.unit from.base (part offset (length bytes) ∷ [])) bytes
pieces_may service (data_op.Gather item first stride size count) from to = reads_may service from (all_cuts service.unit from.base (strided first stride size count))
pieces_may service (data_op.Scatter item first stride size count bytes) from to = dealt_may service from (all_cuts service.unit from.base (strided first stride size count)) bytes
pieces_may service (data_op.GatherIndex item size places) from to = reads_may service from (all_cuts service.unit from.base (indexed size places))
pieces_may service (data_op.ScatterIndex item size places bytes) from to = dealt_may service from (all_cuts service.unit from.base (indexed size places)) bytes
pieces_may service (data_op.Copy source from_offset target to_offset count) from to =
    copied_may service from to from_offset to_offset (cut_where (λ k. is_border service.unit (from.base + from_offset) k || is_border service.unit (to.base + to_offset) k) 0 count)
pieces_may service (data_op.Atomic item offset width o a b) from to = atomic_may service from o width a b (part offset (width_bytes width)) (is_fetching o)

-- atomics

-- 0 is a number of each width
zero_in_range : (w : Width) → is_in_range w (pos 0) ≡ true
zero_in_range width.I32 = refl
zero_in_range width.U32 = refl
zero_in_range width.I64 = refl
zero_in_range width.U64 = refl
zero_in_range width.I128 = refl
zero_in_range width.F32 = refl
zero_in_range width.F64 = refl

is_zero_in_range : (w : Width) (n : ℤ) → is_zero n ≡ true → is_in_range w n ≡ true
is_zero_in_range w n e = let same : n ≡ pos 0 = (Decides-int_eq n (pos 0)).0 e in ap (is_in_range w) same ∙ zero_in_range w

-- the arguments of a well-formed atomic are numbers of its width
arguments_in_range : (o : Op) (w : Width) (a b : ℤ) → has_arguments o w a b ≡ true → (is_in_range w a && is_in_range w b) ≡ true
arguments_in_range op.Fetch w a b e = let parts = both_true (is_zero a) (is_zero b) e in ap (λ t. t && is_in_range w b) (is_zero_in_range w a parts.0) ∙ is_zero_in_range w b parts.1
arguments_in_range op.Cas w a b e = e
arguments_in_range o w a b e = let parts = both_true (is_in_range w a) (is_zero b) e in ap (λ t. t && is_in_range w b) parts.0 ∙ is_zero_in_range w b parts.1

-- operations

not_false : (b : Bool) → not b ≡ false → b ≡ true
not_false true e = refl
not_false false e = absurd (false≢true (sym e))

-- an operation that is not refused, with its descriptors
pub record MayBePlanned (rows : Rows) (op : DataOp) (from to : Descriptor) : Type 0 where
  pub known_from : IsKnown rows from
  pub known_to : IsKnown rows to
  pub blocking : Bool
  pub shaped : is_shaped_data op blocking ≡ true
  pub not_refused : first_case (plan_refusals op from to) ≡ None

-- what the tests of a plan leave
record IsInside (op : DataOp) (from to : Descriptor) : Type 0 where
  unsupported : is_unsupported op ≡ false
  from_parts : All (EndsBy from.size) (elements op)
  to_parts : All (EndsBy to.size) (copied_to op)

-- the first and the two last of six cases do not hold
six_cases : (a b c d f g : Bool) → first_case ((a, Unsupported) ∷ (b, Unaligned) ∷ (c, TooLarge) ∷ (d, TooLarge) ∷ (f, Range) ∷ (g, Range) ∷ []) ≡ None → (a ≡ false) × (f ≡ false) × (g ≡ false)
six_cases false false false false false false e = (refl, refl, refl)
six_cases false false false false false true e = absurd (none-some Range (sym e))
six_cases false false false false true g e = absurd (none-some Range (sym e))
six_cases false false false true f g e = absurd (none-some TooLarge (sym e))
six_cases false false true d f g e = absurd (none-some TooLarge (sym e))
six_cases false true c d f g e = absurd (none-some Unaligned (sym e))
six_cases true b c d f g e = absurd (none-some Unsupported (sym e))

inside : (op : DataOp) (from to : Descriptor) → first_case (plan_refusals op from to) ≡ None → IsInside op from to
inside op from to e =
    let none = six_cases (is_unsupported op) (is_unaligned op) (nat_lt max_bytes (moved op)) (nat_lt max_elements (element_count op)) (ends_past from.size (elements op)) (ends_past to.size (copied_to op)) e in
    record { unsupported = none.0; from_parts = none_past from.size (elements op) none.1; to_parts = none_past to.size (copied_to op) none.2 }

first_part : (end : ℕ) (p : Part) → All (EndsBy end) (p ∷ []) → p.offset + p.n ≤ end
first_part end p all = All-head (EndsBy end) p [] all

shaped_arguments : (slot : Bool) (arguments rest : Bool) → (slot && arguments && rest) ≡ true → arguments ≡ true
shaped_arguments true true rest e = refl
shaped_arguments true false rest e = absurd (false≢true e)
shaped_arguments false arguments rest e = absurd (false≢true e)

all_four : (a b c d : Bool) → a ≡ true → (b && c) ≡ true → d ≡ true → (a && b && c && d) ≡ true
all_four true true true true p q r = refl
all_four true true true false p q r = absurd (false≢true r)
all_four true true false d p q r = absurd (false≢true q)
all_four true false c d p q r = absurd (false≢true q)
all_four false b c d p q r = absurd (false≢true p)

same_number : (n : ℕ) → (n == n) ≡ true
same_number n = grind (arith, nat_tests)

-- the pieces of an operation that is not refused are sound
pub pieces_sound : (rows : Rows) (service : Service) (op : DataOp) (from to : Descriptor) → MayBePlanned rows op from to → All (IsSoundPiece rows) (pieces service op from to)
pieces_sound rows service (data_op.Get item offset count) from to may =
    reads_sound rows service from (part offset count ∷ []) may.known_from (inside (data_op.Get item offset count) from to may.not_refused).from_parts
pieces_sound rows service (data_op.Put item offset bytes) from to may =
    writes_sound rows service from (part offset (length bytes) ∷ []) bytes may.known_from (inside (data_op.Put item offset bytes) from to may.not_refused).from_parts
pieces_sound rows service (data_op.Gather item first stride size count) from to may =
    reads_sound rows service from (strided first stride size count) may.known_from (inside (data_op.Gather item first stride size count) from to may.not_refused).from_parts
pieces_sound rows service (data_op.Scatter item first stride size count bytes) from to may =
    writes_sound rows service from (strided first stride size count) bytes may.known_from (inside (data_op.Scatter item first stride size count bytes) from to may.not_refused).from_parts
pieces_sound rows service (data_op.GatherIndex item size places) from to may =
    reads_sound rows service from (indexed size places) may.known_from (inside (data_op.GatherIndex item size places) from to may.not_refused).from_parts
pieces_sound rows service (data_op.ScatterIndex item size places bytes) from to may =
    writes_sound rows service from (indexed size places) bytes may.known_from (inside (data_op.ScatterIndex item size places bytes) from to may.not_refused).from_parts
pieces_sound rows service (data_op.Copy source from_offset target to_offset count) from to may =
    let parts = inside (data_op.Copy source from_offset target to_offset count) from to may.not_refused in
    copies_sound rows service from to from_offset to_offset count may.known_from may.known_to
    (first_part from.size (part from_offset count) parts.from_parts) (first_part to.size (part to_offset count) parts.to_parts)
pieces_sound rows service (data_op.Atomic item offset width o a b) from to may =
    let parts = inside (data_op.Atomic item offset width o a b) from to may.not_refused in
    let p = part offset (width_bytes width) in
    let arguments = shaped_arguments (is_slot item) (has_arguments o width a b) (beq may.blocking (is_fetching o)) may.shaped in
    All-cons (IsSoundPiece rows) (piece_at service from (kind.Atomic o width a b) p []) []
    (piece_sound rows service from (kind.Atomic o width a b) p [] may.known_from (first_part from.size p parts.from_parts)
    (all_four (is_supported o width) (is_in_range width a) (is_in_range width b) (width_bytes width == width_bytes width)
    (not_false (is_supported o width) parts.unsupported) (arguments_in_range o width a b arguments) (same_number (width_bytes width)))
    (omega arith))
    (All-nil (IsSoundPiece rows))

-- and those of a copy come in pairs
pub pieces_paired : (service : Service) (op : DataOp) (from to : Descriptor) → IsTrue (is_copy (plan_kind op)) → ArePaired (map piece_extent (map left_piece (pieces service op from to)))
pieces_paired service (data_op.Copy source from_offset target to_offset count) from to e =
    copied_pairs service from to from_offset to_offset (cut_where (λ k. is_border service.unit (from.base + from_offset) k || is_border service.unit (to.base + to_offset) k) 0 count)
pieces_paired service (data_op.Atomic item offset width o a b) from to e = λ j r w p q t. absurd (none-some w q)
pieces_paired service op from to e = absurd (false≢true e)
