use Rattle.std.proofs.Common.{sym}
use Rattle.fam_context.proofs.Reached.{past_some, past_none}
use Rattle.fam_context.proofs.words.is_past_fences.Goals as goal

pub returns-in-Some : goal.returns-in-Some
returns-in-Some c =
    past_some c.args.context.now c.args.first c.args.operation.now c.in-Some.earliest.now c.requires.order c.requires.reached (sym c.in-Some.ensures.value)

pub returns-in-None : goal.returns-in-None
returns-in-None c =
    past_none c.args.context.now c.args.first c.args.operation.now c.requires.order c.requires.reached (sym c.in-None.ensures.value)
