use Rattle.std.proofs.Common.{subst, sym, ◌+◌}
use Rattle.fam_audit.specs.Auditing.{StartSoFar}
use Rattle.fam_audit.proofs.Openings.{one_more}
use Rattle.fam_audit.proofs.opening.new_turns.Goals as goal

pub loop-pe-preserved : goal.loop-pe-preserved
loop-pe-preserved c =
    subst (StartSoFar c.args.script.now.programs (c.loop-pe.pe + 1)) (sym c.in_ok-push.ensures.ok)
    (one_more c.args.script.now.programs c.loop-pe.pe c.loop-pe.turns c.in_ok-new.field-0 c.loop-pe.invariant c.in_ok-new.ensures)
