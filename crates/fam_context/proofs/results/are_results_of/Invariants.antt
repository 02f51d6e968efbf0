use Rattle.std.proofs.Common.{◌≡◌, drop}
use Rattle.fam_context.specs.Results.{same_results, results_of}
use Rattle.fam_context.proofs.results.are_results_of.Given as goal

abbrev pub invariant-loop-operation : goal.invariant-loop-operation
invariant-loop-operation l =
    same_results l.fn.given (results_of l.fn.all) ≡ same_results l.rest (results_of (drop l.operation-index l.all))
