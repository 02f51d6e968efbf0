use Rattle.std.proofs.Common.{◌≡◌, ◌+◌, ◌∷◌, ℕ, drop, get_or, ap, sym, ◌∙◌, arith, subst}
use Rattle.std.proofs.lemmas.List.{drop_more}
use Rattle.fam_model.specs.declared.rows.ItemRow.{ItemRow}
use Rattle.meta_journal.proofs.Writing.{ItemsLeft, items_go_on}
use Rattle.meta_journal.proofs.short_form.add_items.Goals as goal

pub loop-row-preserved : goal.loop-row-preserved
loop-row-preserved c =
    let all = c.args.items.now in
    let old = c.loop-row.form in
    let new = c.add_item.new.self in
    let row = c.row-item.result in
    let i = c.loop-row.row-index in
    let first = c.args.form.now in
    let row_is : get_or all i row ≡ row = sym c.row-item.is in
    let split : drop i all ≡ row ∷ drop (i + 1) all = drop_more all i row (omega (arith, c.loop-row-test.true)) ∙ ap (λ (x : ItemRow). x ∷ drop (i + 1) all) row_is in
    let added = c.in_ok-add_item.ensures.added in (
      subst (λ (n : ℕ). ItemsLeft first.bytes.items new.bytes.items n first.next_item new.next_item all (drop (i + 1) all)) (sym added.region)
          (subst (λ (n : ℕ). ItemsLeft first.bytes.items new.bytes.items old.next_region first.next_item n all (drop (i + 1) all)) (sym added.item)
          (items_go_on first.bytes.items old.bytes.items new.bytes.items old.next_region first.next_item old.next_item all (drop i all) row (drop (i + 1) all) c.loop-row.invariant.0 split added.bytes c.in_ok-add_item.ensures.body)),
      added.region ∙ c.loop-row.invariant.1,
    )
