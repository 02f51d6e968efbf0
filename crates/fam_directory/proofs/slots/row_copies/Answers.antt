use Rattle.std.proofs.Common.{◌++◌, sym, ap, ◌∙◌}
use Rattle.std.specs.Option.{option_to_list}
use Rattle.std.proofs.lemmas.List.{take_all}
use Rattle.fam_directory.specs.Slots.{rows_in}
use Rattle.fam_directory.proofs.Slotted.{rows_more}
use Rattle.fam_directory.proofs.slots.row_copies.Goals as goal

pub loop-slot-preserved : goal.loop-slot-preserved
loop-slot-preserved c =
    c.in_ok-push_copy.ensures
    ∙ ap (λ l. l ++ option_to_list c.slot-item.result.row) c.loop-slot.invariant
    ∙ sym (rows_more c.args.slots.now c.loop-slot.slot-index c.slot-item.result c.loop-slot-test.true c.slot-item.is)

pub returns : goal.returns
returns c = c.loop-slot.invariant ∙ ap rows_in (take_all c.loop-slot.slot-index c.args.slots.now c.loop-slot-test.false)
