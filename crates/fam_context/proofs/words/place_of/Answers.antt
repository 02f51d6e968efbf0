use Rattle.std.proofs.Common.{◌∙◌, rules}
use Rattle.std.proofs.lemmas.List.Sorted.{answers_always}
use Rattle.fam_model.specs.Programs.{call_number}
use Rattle.fam_context.proofs.Searches.{searched, calls_rise}
use Rattle.fam_context.proofs.words.place_of.Goals as goal

pub returns : goal.returns
returns c =
    let facts = c.binary_search_by_key.ensures in
    let by_key = facts.position call_number (answers_always _ _ _ (λ f a r g called. search rules)) in
    c.ok.ensures.value ∙ searched call_number c.args.context.now.operations (calls_rise c.args.context.now.operations c.requires.pairs) c.args.call c.binary_search_by_key.result
    (rw (← c.as_slice-operations.ensures) facts.bound) (rw (← c.as_slice-operations.ensures) by_key)
