-- Numbers rise, so that a binary search ends at the place of the number.
use Rattle.std.proofs.Common.{◌∙◌, rules}
use Rattle.std.proofs.lemmas.List.Sorted.{answers_always}
use Rattle.fam_rows.proofs.Places.{searched}
use Rattle.fam_directory.specs.Slots.{slot_number}
use Rattle.fam_directory.proofs.Slotted.{increasing}
use Rattle.fam_directory.proofs.slots.place_of_slot.Goals as goal

pub returns-clause-place : goal.returns-clause-place
returns-clause-place c =
    let facts = c.binary_search_by_key.ensures in
    let by_key = facts.position slot_number (answers_always _ _ _ (λ f a r g called. search rules)) in
    c.ok.ensures.value ∙ searched slot_number c.args.slots.now (increasing slot_number c.args.slots.now c.requires.rise) c.args.number c.binary_search_by_key.result facts.bound by_key
