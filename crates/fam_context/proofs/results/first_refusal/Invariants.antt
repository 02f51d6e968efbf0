use Rattle.std.proofs.Common.{◌≡◌, slice_get, drop}
use Rattle.std.specs.List.{filter_map}
use Rattle.fam_model.specs.Operations.{refusal_in}
use Rattle.fam_context.specs.Results.{first_refusal}
use Rattle.fam_context.proofs.results.first_refusal.Given as goal

abbrev pub invariant-loop-piece : goal.invariant-loop-piece
invariant-loop-piece l =
    first_refusal l.operation ≡ slice_get (filter_map (λ p. refusal_in p.mark) (drop l.piece-index l.piece-items)) 0
