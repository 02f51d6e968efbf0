use Rattle.std.proofs.Common.{◌∙◌}
use Rattle.fam_context.proofs.Kept.{pending_is}
use Rattle.fam_context.proofs.context.Context.pending.Goals as goal

pub returns : goal.returns
returns c = rw (← c.self.view_is)
    (c.self.invariant.indexed.kept.counted ∙ pending_is c.self.inside.context c.self.inside.context.operations c.self.inside.sides.items c.self.invariant.indexed.kept.each)
