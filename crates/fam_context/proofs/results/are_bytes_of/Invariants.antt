use Rattle.std.proofs.Common.{◌≡◌, drop}
use Rattle.std.specs.List.{flat_map}
use Rattle.fam_model.specs.Operations.{bytes_in}
use Rattle.fam_context.specs.Results.{same_bytes}
use Rattle.fam_context.proofs.results.are_bytes_of.Given as goal

abbrev pub invariant-loop-piece : goal.invariant-loop-piece
invariant-loop-piece l =
    same_bytes l.fn.bytes (flat_map (λ p. bytes_in p.mark) l.fn.pieces)
    ≡ same_bytes l.rest (flat_map (λ p. bytes_in p.mark) (drop l.piece-index l.pieces))
