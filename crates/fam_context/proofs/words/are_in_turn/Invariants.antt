use Rattle.std.proofs.Common.{◌≡◌, map, length}
use Rattle.fam_model.specs.PieceStep.{is_read}
use Rattle.fam_context.specs.Order.{are_in_turn}
use Rattle.fam_context.proofs.words.are_in_turn.Given as goal

abbrev pub invariant-loop-rest : goal.invariant-loop-rest
invariant-loop-rest l = are_in_turn (map (λ p. is_read p.kind) l.fn.pieces) ≡ are_in_turn (map (λ p. is_read p.kind) l.rest)

abbrev pub decreases-loop-rest : goal.decreases-loop-rest
decreases-loop-rest l = length l.rest
