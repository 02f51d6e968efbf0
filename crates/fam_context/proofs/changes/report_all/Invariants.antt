use Rattle.std.proofs.Common.{◌≡◌, map, take, drop, ◌++◌}
use Rattle.fam_model.specs.Operations.{as_reported}
use Rattle.fam_context.proofs.changes.report_all.Given as goal

abbrev pub invariant-loop-at : goal.invariant-loop-at
invariant-loop-at l = l.operations ≡ map as_reported (take l.at l.initial.operations) ++ drop l.at l.initial.operations
