-- A piece lies in one row.
use Rattle.std.specs.Prelude.{◌≡◌, ◌+◌, ◌%◌, ◌≤◌, All, None, IsTrue}
use Rattle.fam_base.specs.declared.naming.Descriptor.{Descriptor}
use Rattle.fam_model.specs.declared.call.DataOp.{DataOp}
use Rattle.fam_model.specs.declared.piece.PlanPiece.{PlanPiece}
use Rattle.fam_model.specs.declared.service.Service.{Service}
use Rattle.fam_model.specs.Pieces.{pieces}
use Rattle.fam_layout.specs.Layouts.{is_lawful}
use Rattle.fam_layout.specs.Plans.{plan_refusal}

-- a piece ends in the row in which it begins
abbrev pub LiesInRow : Service → PlanPiece → Type 0
LiesInRow service piece = piece.place.at + piece.n ≤ service.unit

-- the pieces of an operation that is not refused lie in one row each; items lie at multiples of 64
abbrev pub PiecesLieInRows : Type 0
PiecesLieInRows =
    (service : Service) (op : DataOp) (from to : Descriptor) → IsTrue (is_lawful service) → from.base % 64 ≡ 0 →
    plan_refusal op from to ≡ None → All (LiesInRow service) (pieces service op from to)
