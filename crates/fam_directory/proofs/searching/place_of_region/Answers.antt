-- Numbers rise, so that a binary search ends at the place of the number.
use Rattle.std.proofs.Common.{◌∙◌, rules}
use Rattle.std.proofs.lemmas.List.Sorted.{answers_always}
use Rattle.fam_rows.proofs.Places.{searched}
use Rattle.fam_directory.specs.Index.{number_of}
use Rattle.fam_directory.proofs.searching.place_of_region.Goals as goal

pub returns-clause-place : goal.returns-clause-place
returns-clause-place c =
    let facts = c.binary_search_by_key.ensures in
    let by_key = facts.position number_of (answers_always _ _ _ (λ f a r g called. search rules)) in
    c.ok.ensures.value ∙ searched number_of c.args.regions.now c.requires c.args.number.0 c.binary_search_by_key.result facts.bound by_key
