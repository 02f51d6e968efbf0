use Rattle.fam_context.proofs.Kept.{side_tell}
use Rattle.fam_context.proofs.changes.tell.Goals as goal

pub returns-clause-kept : goal.returns-clause-kept
returns-clause-kept c = side_tell c.args.operation.now c.args.side.now c.requires
