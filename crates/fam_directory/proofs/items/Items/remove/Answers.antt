use Rattle.std.proofs.Common.{ap, ◌∙◌}
use mir.Val.{bool_byte}
use Rattle.fam_directory.proofs.Slotted.{slots_emptied}
use Rattle.fam_directory.proofs.items.Items.remove.Goals as goal

pub invariant_of-self : goal.invariant_of-self
invariant_of-self c =
    slots_emptied c.self.inside.slots.items c.close_slots.new.slots.items c.self.inside.count c.self.inside.next c.from.result c.args.number.0 c.empty_slot-row.result c.self.invariant c.empty_slot-row.ensures.row
    (c.from.ensures ∙ ap bool_byte c.is_some.ensures)
    (c.close_slots.ensures.rows ∙ c.empty_slot-row.ensures.rows) c.close_slots.ensures.numbered
    (c.close_slots.ensures.below c.self.inside.next (c.empty_slot-row.ensures.below c.self.inside.next c.self.invariant.below))
