use Rattle.std.proofs.Common.{◌≡◌, map}
use Rattle.std.specs.Prelude.{take}
use Rattle.fam_audit.proofs.opening.users.Given as goal

-- the users of the programs so far
abbrev pub invariant-loop-program : goal.invariant-loop-program
invariant-loop-program l = l.whos.items ≡ map (λ program. program.who) (take l.program-index l.script.programs)
