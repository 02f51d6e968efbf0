-- An aligned number lies in one unit, and so each piece of an operation in one row.
use Rattle.std.proofs.Common.{◌≡◌, ℕ, ◌+◌, ◌*◌, ◌/◌, ◌%◌, ◌<◌, ◌≤◌, Bool, true, false, not, [], ◌∷◌, length, refl, ap, ◌∙◌, arith}
use Rattle.std.specs.Prelude.{◌==◌, Option, Some, None, IsTrue, if◌then◌else◌}
use Rattle.std.proofs.Math.Nat.{mod-lt}
use Rattle.std.proofs.lemmas.Bool.Decides.{nat_tests}
use Rattle.std.proofs.lemmas.List.Elements.{All-cons, All-nil}
use Rattle.fam_base.specs.declared.error.FamError.{FamError}
use Rattle.fam_model.specs.declared.call.DataOp.TheVariants as data_op
use Rattle.fam_model.specs.declared.call.Width.{Width}
use Rattle.fam_model.specs.declared.call.Width.TheVariants as width
use Rattle.fam_model.specs.declared.piece.PieceKind.TheVariants as piece
use Rattle.fam_model.specs.declared.service.Service.{Service}
use Rattle.fam_model.specs.Atomic.{width_bytes, is_supported}
use Rattle.fam_model.specs.Pieces.{part, piece_at, strided, indexed}
use Rattle.fam_layout.specs.Layouts.{is_lawful}
use Rattle.fam_layout.specs.Rows.{LiesInRow, PiecesLieInRows}
use Rattle.fam_layout.proofs.Rows.{reads_fit, writes_fit, copies_fit}

-- with what is left behind a whole number of units
rest : (unit sum : ℕ) → unit % 64 ≡ 0 → unit * (sum / unit) ≡ 64 * (unit / 64 * (sum / unit))
rest unit sum e =
    let whole : unit ≡ 64 * (unit / 64) = omega arith in
    ap (λ (n : ℕ). n * (sum / unit)) whole ∙ omega arith

aligned : (w : Width) (unit base offset : ℕ) → 0 < unit → unit % 64 ≡ 0 → base % 64 ≡ 0 → offset % width_bytes w ≡ 0 →
    (base + offset) % unit + width_bytes w ≤ unit
aligned width.I32 unit base offset some e f g = let below = mod-lt (base + offset) some in omega (arith, rest unit (base + offset) e)
aligned width.U32 unit base offset some e f g = let below = mod-lt (base + offset) some in omega (arith, rest unit (base + offset) e)
aligned width.F32 unit base offset some e f g = let below = mod-lt (base + offset) some in omega (arith, rest unit (base + offset) e)
aligned width.I64 unit base offset some e f g = let below = mod-lt (base + offset) some in omega (arith, rest unit (base + offset) e)
aligned width.U64 unit base offset some e f g = let below = mod-lt (base + offset) some in omega (arith, rest unit (base + offset) e)
aligned width.F64 unit base offset some e f g = let below = mod-lt (base + offset) some in omega (arith, rest unit (base + offset) e)
aligned width.I128 unit base offset some e f g = let below = mod-lt (base + offset) some in omega (arith, rest unit (base + offset) e)

-- where no case holds, the first does not
not_first : (holds : Bool) (error : FamError) (others : Option FamError) → (if holds then Some error else others) ≡ None →
    (holds ≡ false) × (others ≡ None)
not_first true error others e = absurd (cc)
not_first false error others e = (refl, e)

no_rest : (offset w : ℕ) → not (offset % w == 0) ≡ false → offset % w ≡ 0
no_rest offset w e = grind (arith, nat_tests)

some_unit : (service : Service) → IsTrue (is_lawful service) → 0 < service.unit
some_unit service lawful = grind (arith, nat_tests)

whole_unit : (service : Service) → IsTrue (is_lawful service) → service.unit % 64 ≡ 0
whole_unit service lawful = grind (arith, nat_tests)

pub pieces_lie_in_rows : PiecesLieInRows
pieces_lie_in_rows service (data_op.Get item offset count) from to lawful base fine =
    reads_fit service from (part offset count ∷ []) (some_unit service lawful)
pieces_lie_in_rows service (data_op.Put item offset bytes) from to lawful base fine =
    writes_fit service from (part offset (length bytes) ∷ []) bytes (some_unit service lawful)
pieces_lie_in_rows service (data_op.Gather item first stride size count) from to lawful base fine =
    reads_fit service from (strided first stride size count) (some_unit service lawful)
pieces_lie_in_rows service (data_op.Scatter item first stride size count bytes) from to lawful base fine =
    writes_fit service from (strided first stride size count) bytes (some_unit service lawful)
pieces_lie_in_rows service (data_op.GatherIndex item size places) from to lawful base fine =
    reads_fit service from (indexed size places) (some_unit service lawful)
pieces_lie_in_rows service (data_op.ScatterIndex item size places bytes) from to lawful base fine =
    writes_fit service from (indexed size places) bytes (some_unit service lawful)
pieces_lie_in_rows service (data_op.Copy source from_offset target to_offset count) from to lawful base fine =
    copies_fit service from from_offset to to_offset count (some_unit service lawful)
pieces_lie_in_rows service (data_op.Atomic item offset w op a b) from to lawful base fine =
    let supported = not_first (not (is_supported op w)) _ _ fine in
    let whole = not_first (not (offset % width_bytes w == 0)) _ _ supported.1 in
    All-cons (LiesInRow service) (piece_at service from (piece.Atomic op w a b) (part offset (width_bytes w)) []) []
    (aligned w service.unit from.base offset (some_unit service lawful) (whole_unit service lawful) base
    (no_rest offset (width_bytes w) whole.0))
    (All-nil (LiesInRow service))
