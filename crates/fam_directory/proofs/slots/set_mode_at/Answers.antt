use Rattle.std.proofs.Common.{◌≡◌, ◌<◌, length, map, set, refl, sym, ap, subst, ◌∙◌}
use Rattle.fam_model.specs.Lists.{place_of}
use Rattle.fam_model.specs.Rows.{item_number}
use Rattle.fam_rows.proofs.Edits.{change_is_map, changed_one}
use Rattle.fam_directory.specs.declared.slots.Slot.{Slot}
use Rattle.fam_directory.specs.Slots.{rows_in, slot_number, with_mode}
use Rattle.fam_directory.proofs.Slotted.{below_still, moded, moded_number, none_changed, numbered_still, rows_moded, rows_rise, slot_changed}
use Rattle.fam_directory.proofs.slots.set_mode_at.Goals as goal

-- the slot whose row has another mode
abbrev now : goal.After-slots-1 → Slot
now c = record { number = c.index_mut.result.now.number; row = c.set_row_mode.new.row }

changed : (c : goal.After-slots-1) → set c.args.slots.now.items c.in-Some.place (now c) ≡ map (changed_one slot_number c.args.number (moded c.args.mode)) c.args.slots.now.items
changed c = slot_changed (moded c.args.mode) c.args.number c.in-Some.place c.args.slots.now.items c.index_mut.result.now (now c) c.requires (c.in-Some.ensures.place ∙ ap (place_of slot_number c.args.number) c.as_slice.ensures.value) (subst (λ l. c.in-Some.place < length l) c.as_slice.ensures.value c.in-Some.ensures.within) c.index_mut.ensures.value (λ i. let s : Slot = record { number = c.index_mut.result.now.number; row = c.set_row_mode.ensures i } in s)

pub returns-in-Some-clause-rows : goal.returns-in-Some-clause-rows
returns-in-Some-clause-rows c =
    ap rows_in (changed c) ∙ rows_moded c.args.number c.args.mode c.args.slots.now.items c.requires.each
    ∙ sym (change_is_map item_number c.args.number (with_mode c.args.mode) (rows_in c.args.slots.now.items) (rows_rise c.args.slots.now.items c.requires.rise c.requires.each))

pub returns-in-Some-clause-numbered : goal.returns-in-Some-clause-numbered
returns-in-Some-clause-numbered c = numbered_still (moded c.args.mode) c.args.number c.args.slots.now.items (set c.args.slots.now.items c.in-Some.place (now c)) (λ s. refl) (λ s right. moded_number c.args.mode s right) (changed c) c.requires

pub returns-in-Some-clause-below : goal.returns-in-Some-clause-below
returns-in-Some-clause-below c next all = below_still (moded c.args.mode) c.args.number next c.args.slots.now.items (set c.args.slots.now.items c.in-Some.place (now c)) (λ s. refl) (changed c) all

pub returns-in-None-clause-rows : goal.returns-in-None-clause-rows
returns-in-None-clause-rows c =
    ap rows_in (none_changed (moded c.args.mode) c.args.number c.args.slots.now.items c.requires (c.in-None.ensures.place ∙ ap (place_of slot_number c.args.number) c.as_slice.ensures.value))
    ∙ rows_moded c.args.number c.args.mode c.args.slots.now.items c.requires.each
    ∙ sym (change_is_map item_number c.args.number (with_mode c.args.mode) (rows_in c.args.slots.now.items) (rows_rise c.args.slots.now.items c.requires.rise c.requires.each))
