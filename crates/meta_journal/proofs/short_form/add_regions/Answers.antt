use Rattle.std.proofs.Common.{◌≡◌, ◌+◌, ◌++◌, [], ◌∷◌, ℕ, drop, get_or, ap, sym, ◌∙◌, arith, subst}
use Rattle.std.proofs.lemmas.List.{drop_more}
use Rattle.fam_model.specs.declared.rows.RegionRow.{RegionRow}
use Rattle.fam_model.specs.Journal.{skip_to, creation}
use Rattle.fam_model.specs.Rows.{region_number}
use Rattle.meta_journal.specs.Layout.{records}
use Rattle.meta_journal.proofs.Writing.{RegionsLeft, regions_go_on}
use Rattle.meta_journal.proofs.short_form.add_regions.Goals as goal

pub loop-row-preserved : goal.loop-row-preserved
loop-row-preserved c =
    let all = c.args.regions.now in
    let old = c.loop-row.form in
    let new = c.add_region.new.self in
    let row = c.row-item.result in
    let i = c.loop-row.row-index in
    let row_is : get_or all i row ≡ row = sym c.row-item.is in
    let split : drop i all ≡ row ∷ drop (i + 1) all = drop_more all i row (omega (arith, c.loop-row-test.true)) ∙ ap (λ (x : RegionRow). x ∷ drop (i + 1) all) row_is in
    let added = c.in_ok-add_region.ensures.added in
    let one = c.loop-row.invariant.1 in
    let written : new.bytes.items ≡ old.bytes.items ++ records (skip_to old.next_region 1 (region_number row) 1 ++ creation row ∷ []) =
    subst (λ (n : ℕ). new.bytes.items ≡ old.bytes.items ++ records (skip_to old.next_region n (region_number row) n ++ creation row ∷ [])) one added.bytes in (
      subst (λ (n : ℕ). RegionsLeft c.args.form.now.bytes.items new.bytes.items c.args.form.now.next_region n all (drop (i + 1) all)) (sym added.region)
          (regions_go_on c.args.form.now.bytes.items old.bytes.items new.bytes.items c.args.form.now.next_region old.next_region all (drop i all) row (drop (i + 1) all) c.loop-row.invariant.0 split written c.in_ok-add_region.ensures.body),
      added.item ∙ one,
    )
