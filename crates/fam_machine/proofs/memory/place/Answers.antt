use Rattle.std.proofs.Common.{rules, ◌∙◌, sym}
use Rattle.std.proofs.lemmas.List.Sorted.{answers_always}
use Rattle.fam_model.specs.PieceStep.{entry_number}
use Rattle.fam_machine.proofs.Places.{place_found}
use Rattle.fam_machine.proofs.memory.place.Goals as goal

-- the closure gives the entry's number
pub returns : goal.returns
returns c =
    let facts = c.binary_search_by_key.ensures in
    let by_key = facts.position entry_number (answers_always _ _ _ (λ f a r g called. search rules)) in
    c.ok.ensures.value ∙ sym (rw (← c.as_slice.ensures) (place_found entry_number c.args.item.0 _ (rw c.as_slice.ensures c.requires) _ facts.bound by_key))
