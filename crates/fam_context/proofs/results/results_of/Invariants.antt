use Rattle.std.proofs.Common.{◌≡◌, take}
use Rattle.fam_context.specs.Results.{results_of}
use Rattle.fam_context.proofs.results.results_of.Given as goal

abbrev pub invariant-loop-operation : goal.invariant-loop-operation
invariant-loop-operation l = l.told ≡ results_of (take l.operation-index l.all)
