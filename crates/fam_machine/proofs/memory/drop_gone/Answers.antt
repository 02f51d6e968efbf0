use Rattle.std.proofs.Common.{Bool, ℕ, List, ap, ◌∙◌, rules}
use Rattle.std.specs.Prelude.{is_some, filter}
use Rattle.std.proofs.lemmas.Fn.{filter_same}
use Rattle.fam_base.specs.declared.naming.ItemId.{ItemId}
use Rattle.fam_model.specs.Rows.{item_of}
use Rattle.fam_machine.proofs.memory.drop_gone.Goals as goal

-- what is retained is what passes the test
pub returns : goal.returns
returns c =
    let test : ItemId × List ℕ → Bool = λ entry. is_some (item_of c.args.rows.now entry.0.0) in
    let kept = filter_same _ test _ (λ x b q called. search rules) _ _ c.retain.ensures.filtered in
    c.from_vec.ensures ∙ kept ∙ ap (filter test) (c.into_vec-entries.ensures ∙ c.replace.ensures.value)
