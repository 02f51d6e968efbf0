use Rattle.fam_ready.proofs.Found.{follows_piece_by, found_few, found_there}
use Rattle.fam_ready.proofs.update.follow_piece.Goals as goal

pub renew-requires-clause-there : goal.renew-requires-clause-there
renew-requires-clause-there c =
    found_there c.args.program.now.state c.args.call c.in-Some.place c.in-Some-place_of.at c.in-Some-context.context.now c.operations-operations.result.now c.index-operations-at.result
    (record { holder = c.in-Some.ensures; there = c.in-Some-context.ensures; place = c.in-Some-place_of.ensures; same = c.operations-operations.ensures.value; read = c.index-operations-at.is; ordered = c.operations-operations.ensures.ordered })

pub renew-requires-clause-numbers : goal.renew-requires-clause-numbers
renew-requires-clause-numbers c =
    found_few c.args.program.now.state c.args.call c.in-Some.place c.in-Some-place_of.at c.in-Some-context.context.now c.operations-operations.result.now c.index-operations-at.result
    (record { holder = c.in-Some.ensures; there = c.in-Some-context.ensures; place = c.in-Some-place_of.ensures; same = c.operations-operations.ensures.value; read = c.index-operations-at.is; ordered = c.operations-operations.ensures.ordered })

pub renew-requires-2-clause-there : goal.renew-requires-2-clause-there
renew-requires-2-clause-there c =
    found_there c.args.program.now.state c.args.call c.in-Some.place c.in-Some-place_of.at c.in-Some-context.context.now c.operations-operations.result.now c.index-operations-at.result
    (record { holder = c.in-Some.ensures; there = c.in-Some-context.ensures; place = c.in-Some-place_of.ensures; same = c.operations-operations.ensures.value; read = c.index-operations-at.is; ordered = c.operations-operations.ensures.ordered })

pub renew-requires-2-clause-numbers : goal.renew-requires-2-clause-numbers
renew-requires-2-clause-numbers c =
    found_few c.args.program.now.state c.args.call c.in-Some.place c.in-Some-place_of.at c.in-Some-context.context.now c.operations-operations.result.now c.index-operations-at.result
    (record { holder = c.in-Some.ensures; there = c.in-Some-context.ensures; place = c.in-Some-place_of.ensures; same = c.operations-operations.ensures.value; read = c.index-operations-at.is; ordered = c.operations-operations.ensures.ordered })

pub returns : goal.returns
returns c =
    follows_piece_by c.args.program.now.state c.args.call c.in-Some.place c.in-Some-place_of.at c.args.pe c.args.piece c.freed-from.result.0 c.freed-from.result.1 c.in-Some-context.context.now c.operations-operations.result.now c.index-operations-at.result
    c.args.lists.now c.renew.new.lists c.renew-2.new.lists c.renew_between.new.lists c.renew_between.result
    (record { holder = c.in-Some.ensures; there = c.in-Some-context.ensures; place = c.in-Some-place_of.ensures; same = c.operations-operations.ensures.value; read = c.index-operations-at.is; ordered = c.operations-operations.ensures.ordered })
    c.in_ok-renew.ensures c.in_ok-renew-2.ensures c.freed-from.ensures.covers c.renew_between.ensures
