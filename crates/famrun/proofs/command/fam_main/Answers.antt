use Rattle.std.proofs.Common.{refl}
use Rattle.famrun.proofs.command.fam_main.Goals as goal

-- src/command.rt:41:1
pub returns-then-begins_with-3-clause-sim : goal.returns-then-begins_with-3-clause-sim
returns-then-begins_with-3-clause-sim g c no_help no_version no_audit no_make no_trial = absurd (no_trial (c.if-begins_with-3.ensures.0 refl))
