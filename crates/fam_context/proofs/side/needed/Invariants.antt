use Rattle.std.proofs.Common.{◌≡◌, take}
use Rattle.fam_context.specs.Sides.{needed}
use Rattle.fam_context.proofs.side.needed.Given as goal

abbrev pub invariant-loop-piece : goal.invariant-loop-piece
invariant-loop-piece l = l.all ≡ needed (take l.piece-index l.pieces)
