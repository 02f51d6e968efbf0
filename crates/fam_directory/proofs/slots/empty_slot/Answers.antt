use Rattle.std.proofs.Common.{◌≡◌, ◌<◌, length, map, set, refl, ap, subst, ◌∙◌}
use Rattle.fam_model.specs.Lists.{place_of}
use Rattle.fam_rows.proofs.Edits.{changed_one}
use Rattle.fam_directory.specs.declared.slots.Slot.{Slot}
use Rattle.fam_directory.specs.Slots.{rows_in, slot_number}
use Rattle.fam_directory.proofs.Slotted.{below_still, emptied, no_row_found, none_changed, numbered_still, row_found, rows_emptied, slot_changed}
use Rattle.fam_directory.proofs.slots.empty_slot.Goals as goal

-- the slot that is emptied
abbrev left : goal.After-slots-1 → Slot
left c = record { number = c.index_mut.result.now.number; row = c.take.new.self }

changed : (c : goal.After-slots-1) → set c.args.slots.now.items c.in-Some.place (left c) ≡ map (changed_one slot_number c.args.number emptied) c.args.slots.now.items
changed c = slot_changed emptied c.args.number c.in-Some.place c.args.slots.now.items c.index_mut.result.now (left c) c.requires (c.in-Some.ensures.place ∙ ap (place_of slot_number c.args.number) c.as_slice.ensures.value) (subst (λ l. c.in-Some.place < length l) c.as_slice.ensures.value c.in-Some.ensures.within) c.index_mut.ensures.value (λ i. let s : Slot = record { number = c.index_mut.result.now.number; row = c.take.ensures.after i } in s)

pub returns-in-Some-clause-row : goal.returns-in-Some-clause-row
returns-in-Some-clause-row c = c.take.ensures.value ∙ row_found c.args.number c.in-Some.place c.args.slots.now.items c.index_mut.result.now c.requires (c.in-Some.ensures.place ∙ ap (place_of slot_number c.args.number) c.as_slice.ensures.value) (subst (λ l. c.in-Some.place < length l) c.as_slice.ensures.value c.in-Some.ensures.within) c.index_mut.ensures.value

pub returns-in-Some-clause-rows : goal.returns-in-Some-clause-rows
returns-in-Some-clause-rows c = ap rows_in (changed c) ∙ rows_emptied c.args.number c.args.slots.now.items c.requires.each

pub returns-in-Some-clause-numbered : goal.returns-in-Some-clause-numbered
returns-in-Some-clause-numbered c = numbered_still emptied c.args.number c.args.slots.now.items (set c.args.slots.now.items c.in-Some.place (left c)) (λ s. refl) (λ s right. tt) (changed c) c.requires

pub returns-in-Some-clause-below : goal.returns-in-Some-clause-below
returns-in-Some-clause-below c next all = below_still emptied c.args.number next c.args.slots.now.items (set c.args.slots.now.items c.in-Some.place (left c)) (λ s. refl) (changed c) all

pub returns-in-None-clause-row : goal.returns-in-None-clause-row
returns-in-None-clause-row c = no_row_found c.args.number c.args.slots.now.items c.requires (c.in-None.ensures.place ∙ ap (place_of slot_number c.args.number) c.as_slice.ensures.value)

pub returns-in-None-clause-rows : goal.returns-in-None-clause-rows
returns-in-None-clause-rows c =
    ap rows_in (none_changed emptied c.args.number c.args.slots.now.items c.requires (c.in-None.ensures.place ∙ ap (place_of slot_number c.args.number) c.as_slice.ensures.value))
    ∙ rows_emptied c.args.number c.args.slots.now.items c.requires.each
