-- Operations on one element.
use Rattle.std.specs.Prelude.{ℕ, ◌%◌, Bool, true, false, not, ◌==◌, nat_lt, [], ◌∷◌, Option}
use Rattle.fam_base.specs.declared.error.FamError.{FamError}
use Rattle.fam_base.specs.declared.error.FamError.TheVariants.{Unsupported, Unaligned, TooLarge, Range}
use Rattle.fam_model.specs.declared.call.DataOp.{DataOp}
use Rattle.fam_model.specs.declared.call.DataOp.TheVariants as data_op
use Rattle.fam_model.specs.declared.call.Op.{Op}
use Rattle.fam_model.specs.declared.call.Width.{Width}
use Rattle.fam_model.specs.Atomic.{is_supported, width_bytes}
use Rattle.fam_model.specs.Directory.{first_case}
use Rattle.fam_model.specs.Issue.{ends_past}
use Rattle.fam_model.specs.Limits.{max_bytes}
use Rattle.fam_model.specs.Pieces.{part}

-- a get, a put or an atomic
abbrev pub is_single : DataOp → Bool
is_single (data_op.Get item offset count) = true
is_single (data_op.Put item offset bytes) = true
is_single (data_op.Atomic item offset width op a b) = true
is_single _ = false

-- why one element is refused: first its length, then its end
abbrev pub element_refusal : ℕ → ℕ → ℕ → Option FamError
element_refusal size offset n =
    first_case ((nat_lt max_bytes n, TooLarge) ∷ (ends_past size (part offset n ∷ []), Range) ∷ [])

-- why an atomic is refused: first the operation, then its place
abbrev pub atomic_refusal : ℕ → ℕ → Width → Op → Option FamError
atomic_refusal size offset width op =
    first_case ((not (is_supported op width), Unsupported) ∷ (not (offset % width_bytes width == 0), Unaligned)
    ∷ (nat_lt max_bytes (width_bytes width), TooLarge) ∷ (ends_past size (part offset (width_bytes width) ∷ []), Range) ∷ [])
