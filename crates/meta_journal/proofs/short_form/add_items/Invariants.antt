use Rattle.std.proofs.Common.{◌≡◌, drop}
use Rattle.meta_journal.proofs.Writing.{ItemsLeft}
use Rattle.meta_journal.proofs.short_form.add_items.Given as goal

abbrev pub invariant-loop-row : goal.invariant-loop-row
invariant-loop-row l =
    ItemsLeft l.initial.form.bytes.items l.form.bytes.items l.form.next_region l.initial.form.next_item l.form.next_item l.items (drop l.row-index l.items)
    × (l.form.next_region ≡ l.initial.form.next_region)
