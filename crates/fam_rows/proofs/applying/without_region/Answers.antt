use Rattle.std.proofs.Common.{Bool, eqb, ap, ◌∙◌, rules}
use mathlib.Core.Bool.{not}
use Rattle.std.specs.List.{filter}
use Rattle.std.proofs.lemmas.Fn.{filter_same}
use Rattle.fam_model.specs.declared.rows.RegionRow.{RegionRow}
use Rattle.fam_model.specs.Rows.{region_number}
use Rattle.fam_rows.proofs.applying.without_region.Goals as goal

-- what is retained is what passes the test
pub returns : goal.returns
returns c =
    let test : RegionRow → Bool = λ x. not (eqb (region_number x) c.args.number.0) in
    let kept = filter_same _ test _ (λ x b q called. search rules) _ _ c.retain.ensures.filtered in
    c.from_vec.ensures ∙ kept ∙ ap (filter test) c.into_vec-kept.ensures
