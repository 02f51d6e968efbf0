-- Operations on several elements, and copies.
use Rattle.std.specs.Prelude.{ℕ, ◌+◌, Bool, true, false, nat_lt, List, [], ◌∷◌, Option}
use Rattle.std.specs.List.{flat_map}
use Rattle.fam_base.specs.declared.naming.Descriptor.{Descriptor}
use Rattle.fam_base.specs.declared.error.FamError.{FamError}
use Rattle.fam_base.specs.declared.error.FamError.TheVariants.{TooLarge, Range}
use Rattle.fam_model.specs.declared.call.DataOp.{DataOp}
use Rattle.fam_model.specs.declared.call.DataOp.TheVariants as data_op
use Rattle.fam_model.specs.declared.piece.Part.{Part}
use Rattle.fam_model.specs.declared.piece.PlanPiece.{PlanPiece}
use Rattle.fam_model.specs.declared.service.Service.{Service}
use Rattle.fam_model.specs.Directory.{first_case}
use Rattle.fam_model.specs.Issue.{ends_past}
use Rattle.fam_model.specs.Limits.{max_bytes, max_elements}
use Rattle.fam_model.specs.Pieces.{part, strided, read_piece, write_piece}
use Rattle.fam_vector.specs.declared.element.Strided.{Strided}

-- the parts of an item that are these elements
abbrev pub strided_parts : Strided → List Part
strided_parts elements = strided elements.first elements.stride elements.size elements.count

-- a gather or a scatter
abbrev pub is_spread : DataOp → Bool
is_spread (data_op.Gather item first stride size count) = true
is_spread (data_op.Scatter item first stride size count bytes) = true
is_spread (data_op.GatherIndex item size places) = true
is_spread (data_op.ScatterIndex item size places bytes) = true
is_spread _ = false

-- why so many elements of so many bytes are refused: first their bytes and number, then their ends
abbrev pub elements_refusal : ℕ → ℕ → ℕ → List Part → Option FamError
elements_refusal size bytes count parts =
    first_case ((nat_lt max_bytes bytes, TooLarge) ∷ (nat_lt max_elements count, TooLarge) ∷ (ends_past size parts, Range) ∷ [])

-- why a copy is refused: first its length, then the end of either side
abbrev pub copy_refusal : ℕ → ℕ → ℕ → ℕ → ℕ → Option FamError
copy_refusal from_size from_offset to_size to_offset count =
    first_case ((nat_lt max_bytes count, TooLarge)
    ∷ (ends_past from_size (part from_offset count ∷ []), Range)
    ∷ (ends_past to_size (part to_offset count ∷ []), Range)
    ∷ [])

-- the read and the write of one part of a copy
abbrev pub copied_part : Service → Descriptor → ℕ → Descriptor → ℕ → Part → List PlanPiece
copied_part service from from_offset to to_offset p =
    read_piece service from (part (from_offset + p.offset) p.n)
    ∷ write_piece service to (part (to_offset + p.offset) p.n) []
    ∷ []

-- those of all parts
abbrev pub copied : Service → Descriptor → ℕ → Descriptor → ℕ → List Part → List PlanPiece
copied service from from_offset to to_offset parts = flat_map (copied_part service from from_offset to to_offset) parts
