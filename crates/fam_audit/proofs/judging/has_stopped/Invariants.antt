use Rattle.std.proofs.Common.{◌≡◌, true, take}
use Rattle.std.specs.List.{list_all}
use Rattle.fam_audit.specs.Auditing.{is_stopped}
use Rattle.fam_audit.proofs.judging.has_stopped.Given as goal

abbrev pub invariant-loop-pe : goal.invariant-loop-pe
invariant-loop-pe l = list_all is_stopped (take l.pe l.machine.programs) ≡ true
