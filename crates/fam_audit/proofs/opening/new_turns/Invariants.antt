use Rattle.fam_audit.specs.Auditing.{StartSoFar}
use Rattle.fam_audit.proofs.opening.new_turns.Given as goal

-- the programs so far stand before their first calls
abbrev pub invariant-loop-pe : goal.invariant-loop-pe
invariant-loop-pe l = StartSoFar l.script.programs l.pe l.turns
