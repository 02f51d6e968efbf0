use Rattle.std.proofs.Common.{sym, ap, ◌∙◌}
use Rattle.fam_directory.specs.declared.slots.Slot.{Slot}
use Rattle.fam_directory.proofs.Slotted.{no_row_found, row_found}
use Rattle.fam_directory.proofs.slots.row_at.Goals as goal

pub returns-in-Some : goal.returns-in-Some
returns-in-Some c =
    c.as_ref.ensures.value ∙ ap (λ (s : Slot). s.row) (sym c.index-slots-place.is)
    ∙ row_found c.args.number c.in-Some.place c.args.slots.now c.index-slots-place.result c.requires c.in-Some.ensures.place c.in-Some.ensures.within c.index-slots-place.is

pub returns-in-None : goal.returns-in-None
returns-in-None c = no_row_found c.args.number c.args.slots.now c.requires c.in-None.ensures.place
