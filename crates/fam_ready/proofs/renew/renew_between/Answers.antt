use Rattle.fam_ready.proofs.Order.{between_all, between_more, few_pieces, operation_ordered, read_there}
use Rattle.fam_ready.proofs.renew.renew_between.Goals as goal

-- src/renew.rt:77:25
pub renew_operation-requires-clause-there : goal.renew_operation-requires-clause-there
renew_operation-requires-clause-there c =
    operation_ordered c.args.context.now c.loop-place.place c.index-operations-place.result c.operations-operations.ensures.ordered
    (read_there c.operations-operations.result.now c.args.context.now.context.operations c.loop-place.place c.args.to c.index-operations-place.result
    c.operations-operations.ensures.value c.index-operations-place.is c.loop-place-test.true c.requires.within)

-- src/renew.rt:77:25
pub renew_operation-requires-clause-numbers : goal.renew_operation-requires-clause-numbers
renew_operation-requires-clause-numbers c =
    few_pieces c.args.context.now c.loop-place.place c.index-operations-place.result c.operations-operations.ensures.ordered
    (read_there c.operations-operations.result.now c.args.context.now.context.operations c.loop-place.place c.args.to c.index-operations-place.result
    c.operations-operations.ensures.value c.index-operations-place.is c.loop-place-test.true c.requires.within)

pub loop-place-preserved : goal.loop-place-preserved
loop-place-preserved c =
    between_more c.args.context.now c.args.pe c.args.from c.loop-place.place c.index-operations-place.result c.args.lists.now c.loop-place.lists c.renew_operation.new.lists
    c.operations-operations.ensures.ordered
    (read_there c.operations-operations.result.now c.args.context.now.context.operations c.loop-place.place c.args.to c.index-operations-place.result
    c.operations-operations.ensures.value c.index-operations-place.is c.loop-place-test.true c.requires.within)
    c.loop-place.auto.place c.loop-place.invariant c.in_ok-renew_operation.ensures

pub returns : goal.returns
returns c =
    between_all c.args.context.now.context c.args.pe c.args.from c.args.to c.loop-place.place c.args.lists.now c.loop-place.lists c.requires.order
    c.loop-place.auto.place-end c.loop-place-test.false c.loop-place.invariant
