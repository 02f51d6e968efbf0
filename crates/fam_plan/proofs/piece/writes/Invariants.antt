use Rattle.std.proofs.Common.{◌≡◌, ◌++◌, drop}
use Rattle.fam_model.specs.Pieces.{dealt}
use Rattle.fam_plan.proofs.piece.writes.Given as goal

-- the pieces of the parts so far, and those of the rest
abbrev pub invariant-loop-part : goal.invariant-loop-part
invariant-loop-part l =
    l.pieces ++ dealt l.layout l.target (drop l.part-index l.part-items) l.rest ≡ dealt l.layout l.target l.fn.parts l.fn.bytes
