use Rattle.std.proofs.Common.{◌≡◌, map, take}
use Rattle.fam_model.specs.Pieces.{read_piece}
use Rattle.fam_plan.proofs.piece.reads.Given as goal

-- the pieces of the parts so far
abbrev pub invariant-loop-part : goal.invariant-loop-part
invariant-loop-part l = l.pieces ≡ map (read_piece l.layout l.target) (take l.part-index l.part-items)
