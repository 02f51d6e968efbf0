use Rattle.std.proofs.Common.{sym, ◌∙◌}
use Rattle.fam_directory.proofs.Slotted.{none_taken, one_taken}
use Rattle.fam_directory.proofs.items.Items.remove_from.Goals as goal

pub returns-then-is_in-clause-rows : goal.returns-then-is_in-clause-rows
returns-then-is_in-clause-rows c =
    c.remove.ensures.rows ∙ one_taken c.args.number c.args.region.0 c.args.self.now.rows c.is_in.ensures.rise (sym c.is_in.ensures.there ∙ c.if-is_in.true)

pub returns-else-is_in-clause-rows : goal.returns-else-is_in-clause-rows
returns-else-is_in-clause-rows c = none_taken c.args.number c.args.region.0 c.args.self.now.rows c.is_in.ensures.rise (sym c.is_in.ensures.there ∙ c.if-is_in.false)
