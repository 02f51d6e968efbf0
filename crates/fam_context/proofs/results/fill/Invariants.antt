use Rattle.std.proofs.Common.{◌≡◌, ◌+◌, ◌≤◌, length, take, drop}
use Rattle.std.specs.List.{flat_map}
use Rattle.fam_model.specs.Operations.{bytes_in}
use Rattle.fam_context.specs.Sides.{needed}
use Rattle.fam_context.proofs.results.fill.Given as goal

abbrev pub invariant-loop-piece : goal.invariant-loop-piece
invariant-loop-piece l =
    (take l.at l.room.items ≡ flat_map (λ p. bytes_in p.mark) (take l.piece-index l.pieces))
    × (l.at + needed (drop l.piece-index l.pieces) ≤ length l.room.items)
