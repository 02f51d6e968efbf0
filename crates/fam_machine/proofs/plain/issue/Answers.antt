use Rattle.fam_machine.proofs.Deciding.{knows}
use Rattle.fam_machine.proofs.plain.issue.Goals as goal

pub issue_data-requires-clause-known : goal.issue_data-requires-clause-known
issue_data-requires-clause-known c = knows c.args.rows.now c.args.program.now.state c.in-Data.op c.requires.holds

pub returns-in_default : goal.returns-in_default
returns-in_default c = c.issue_other.ensures c.args.layout.now
