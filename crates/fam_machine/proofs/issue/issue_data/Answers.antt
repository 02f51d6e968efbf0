use Rattle.std.proofs.Common.{rules}
use Rattle.fam_machine.specs.Issuing.{IsAccepted}
use Rattle.fam_machine.proofs.Deciding.{accepted_in_turn}
use Rattle.fam_machine.proofs.issue.issue_data.Goals as goal

pub issue-requires-clause-turns : goal.issue-requires-clause-turns
issue-requires-clause-turns c =
    let made : IsAccepted c.args.layout.now c.args.program.now.state c.args.context c.args.op.now c.in-Accepted.plan = search rules in
    accepted_in_turn c.args.layout.now c.args.program.now.state c.args.context c.args.op.now c.in-Accepted.plan made
