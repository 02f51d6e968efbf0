use Rattle.fam_turns.proofs.Coming.{acts}
use Rattle.fam_turns.proofs.acting.may_act.Goals as goal

pub returns-clause-event : goal.returns-clause-event
returns-clause-event c = acts c.args.round c.args.program.now.state c.args.asked.now c.is_able.result c.is_able.ensures
