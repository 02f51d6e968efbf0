use Rattle.std.proofs.Common.{◌≡◌, take}
use Rattle.fam_machine.specs.Views.{states_of, new_programs}
use Rattle.fam_machine.proofs.machine.new_programs.Given as goal

abbrev pub invariant-loop-pe : goal.invariant-loop-pe
invariant-loop-pe l = states_of l.programs ≡ new_programs (take l.pe l.whos) l.local
