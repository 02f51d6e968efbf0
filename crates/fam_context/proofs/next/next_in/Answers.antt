use Rattle.fam_context.proofs.Nexts.{held_none}
use Rattle.fam_context.proofs.next.next_in.Goals as goal

pub returns-then-side-eq0 : goal.returns-then-side-eq0
returns-then-side-eq0 c = λ j. held_none c.args.context.now c.args.operation.now c.args.side.now c.args.stripe j c.requires.side c.if-side-eq0.true
