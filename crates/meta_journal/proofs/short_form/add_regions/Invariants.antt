use Rattle.std.proofs.Common.{◌≡◌, drop}
use Rattle.meta_journal.proofs.Writing.{RegionsLeft}
use Rattle.meta_journal.proofs.short_form.add_regions.Given as goal

abbrev pub invariant-loop-row : goal.invariant-loop-row
invariant-loop-row l =
    RegionsLeft l.initial.form.bytes.items l.form.bytes.items l.initial.form.next_region l.form.next_region l.regions (drop l.row-index l.regions)
    × (l.form.next_item ≡ 1)
