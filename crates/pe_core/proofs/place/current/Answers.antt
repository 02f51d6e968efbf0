use Rattle.std.proofs.Common.{sym}
use Rattle.pe_core.proofs.Orders.{current_some, current_there}
use Rattle.pe_core.proofs.place.current.Goals as goal

pub returns-in-Some-clause-turns : goal.returns-in-Some-clause-turns
returns-in-Some-clause-turns c =
    current_some c.args.actions.now c.args.order.now c.args.at c.at.result.now c.in-Some.action.now c.at.ensures (sym c.in-Some.ensures.value)

pub returns-in-None-clause-turns : goal.returns-in-None-clause-turns
returns-in-None-clause-turns c =
    absurd (current_there c.args.actions.now c.args.order.now c.args.at c.at.result.now c.requires c.at.ensures (sym c.in-None.ensures.value))
