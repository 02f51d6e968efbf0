use Rattle.std.proofs.Common.{◌≡◌, take}
use Rattle.std.specs.List.{flat_map}
use Rattle.fam_model.specs.Operations.{bytes_in}
use Rattle.fam_context.proofs.results.all_bytes.Given as goal

abbrev pub invariant-loop-piece : goal.invariant-loop-piece
invariant-loop-piece l = l.bytes.items ≡ flat_map (λ p. bytes_in p.mark) (take l.piece-index l.pieces)
