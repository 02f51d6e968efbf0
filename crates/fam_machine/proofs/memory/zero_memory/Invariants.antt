use Rattle.std.proofs.Common.{◌≡◌, take}
use Rattle.fam_model.specs.Opened.{zero_memory}
use Rattle.fam_machine.proofs.memory.zero_memory.Given as goal

abbrev pub invariant-loop-row : goal.invariant-loop-row
invariant-loop-row l = l.memory ≡ zero_memory (take l.row-index l.row-items)
