use Rattle.fam_ready.proofs.Found.{follows_issue_by, found_few, found_there}
use Rattle.fam_ready.proofs.update.follow_issue.Goals as goal

pub renew_operation-requires-clause-there : goal.renew_operation-requires-clause-there
renew_operation-requires-clause-there c =
    found_there c.args.program.now.state c.args.call c.in-Some.place c.in-Some-place_of.at c.in-Some-context.context.now c.operations-operations.result.now c.index-operations-at.result
    (record { holder = c.in-Some.ensures; there = c.in-Some-context.ensures; place = c.in-Some-place_of.ensures; same = c.operations-operations.ensures.value; read = c.index-operations-at.is; ordered = c.operations-operations.ensures.ordered })

pub renew_operation-requires-clause-numbers : goal.renew_operation-requires-clause-numbers
renew_operation-requires-clause-numbers c =
    found_few c.args.program.now.state c.args.call c.in-Some.place c.in-Some-place_of.at c.in-Some-context.context.now c.operations-operations.result.now c.index-operations-at.result
    (record { holder = c.in-Some.ensures; there = c.in-Some-context.ensures; place = c.in-Some-place_of.ensures; same = c.operations-operations.ensures.value; read = c.index-operations-at.is; ordered = c.operations-operations.ensures.ordered })

pub returns : goal.returns
returns c =
    follows_issue_by c.args.program.now.state c.args.call c.in-Some.place c.in-Some-place_of.at c.args.pe c.in-Some-context.context.now c.operations-operations.result.now c.index-operations-at.result
    c.args.lists.now c.renew_operation.new.lists c.renew_operation.result
    (record { holder = c.in-Some.ensures; there = c.in-Some-context.ensures; place = c.in-Some-place_of.ensures; same = c.operations-operations.ensures.value; read = c.index-operations-at.is; ordered = c.operations-operations.ensures.ordered })
    c.renew_operation.ensures
