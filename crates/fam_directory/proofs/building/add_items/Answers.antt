use Rattle.std.proofs.Common.{◌<◌, ◌≤◌, ◌+◌, length, get_or, take, sym, ap, subst, ◌∙◌, arith}
use Rattle.std.proofs.lemmas.List.{take_all}
use Rattle.fam_model.specs.Rows.{item_number}
use Rattle.fam_directory.specs.Index.{rows_of, without_items}
use Rattle.fam_directory.proofs.TakenOver.{absent_so_far, fits_so_far, indexes_same, item_more, next_passed, next_within, rising_so_far}
use Rattle.fam_directory.proofs.building.add_items.Goals as goal

pub loop-item-init : goal.loop-item-init
loop-item-init c = record {
  copied = c.new-items.ensures.rows;
  kept = c.requires.rows;
  passed = λ d lt. (let start = c.new-items.ensures.next in omega (arith, start));
  within = (let start = c.new-items.ensures.next in omega (arith, start));
  indexes = indexes_same (without_items c.args.rows.now) (rows_of c.args.regions.now.items c.new-items.result.rows 0 0) c.args.regions.now.items (sym c.new-items.ensures.rows) c.requires.indexes;
}

pub add_item-requires-clause-rise : goal.add_item-requires-clause-rise
add_item-requires-clause-rise c = rising_so_far c.args.rows.now c.loop-item.regions.items c.requires.lawful c.loop-item.invariant.kept

pub add_item-requires-clause-indexes : goal.add_item-requires-clause-indexes
add_item-requires-clause-indexes c = c.loop-item.invariant.indexes

pub add_item-requires-clause-absent : goal.add_item-requires-clause-absent
add_item-requires-clause-absent c = absent_so_far c.args.rows.now c.loop-item.regions.items c.loop-item.items.rows c.loop-item.item-index c.item-item.result c.requires.lawful (subst (λ l. c.loop-item.item-index < length l) c.as_slice-item-items.ensures c.loop-item-test.true) (c.item-item.is ∙ ap (λ l. get_or l c.loop-item.item-index c.item-item.result) c.as_slice-item-items.ensures) (c.loop-item.invariant.copied ∙ ap (take c.loop-item.item-index) c.as_slice-item-items.ensures)

pub add_item-requires-clause-fits : goal.add_item-requires-clause-fits
add_item-requires-clause-fits c = fits_so_far c.args.rows.now c.loop-item.regions.items c.loop-item.items.rows c.loop-item.item-index c.item-item.result c.requires.lawful c.loop-item.invariant.kept (subst (λ l. c.loop-item.item-index < length l) c.as_slice-item-items.ensures c.loop-item-test.true) (c.item-item.is ∙ ap (λ l. get_or l c.loop-item.item-index c.item-item.result) c.as_slice-item-items.ensures) (c.loop-item.invariant.copied ∙ ap (take c.loop-item.item-index) c.as_slice-item-items.ensures)

pub add_item-requires-clause-next : goal.add_item-requires-clause-next
add_item-requires-clause-next c = (let le = c.loop-item.invariant.passed c.item-item.result c.loop-item-test.true in let same = ap item_number c.item-item.is in omega (arith, le, same))

pub loop-item-preserved : goal.loop-item-preserved
loop-item-preserved c = record {
  copied = c.in_ok-add_item.ensures.items ∙ item_more c.args.rows.now c.loop-item.items.rows c.loop-item.item-index c.item-item.result (subst (λ l. c.loop-item.item-index < length l) c.as_slice-item-items.ensures c.loop-item-test.true) (c.item-item.is ∙ ap (λ l. get_or l c.loop-item.item-index c.item-item.result) c.as_slice-item-items.ensures) (c.loop-item.invariant.copied ∙ ap (take c.loop-item.item-index) c.as_slice-item-items.ensures) ∙ ap (take (c.loop-item.item-index + 1)) (sym c.as_slice-item-items.ensures);
  kept = c.in_ok-add_item.ensures.rows ∙ c.loop-item.invariant.kept;
  passed = λ d lt. subst (λ m. m ≤ item_number (get_or c.as_slice-item-items.result.now (c.loop-item.item-index + 1) d)) (sym c.in_ok-add_item.ensures.next) (subst (λ l. c.loop-item.item-index + 1 < length l → item_number c.item-item.result + 1 ≤ item_number (get_or l (c.loop-item.item-index + 1) d)) (sym c.as_slice-item-items.ensures) (next_passed c.args.rows.now c.requires.lawful c.loop-item.item-index c.item-item.result d (subst (λ l. c.loop-item.item-index < length l) c.as_slice-item-items.ensures c.loop-item-test.true) (c.item-item.is ∙ ap (λ l. get_or l c.loop-item.item-index c.item-item.result) c.as_slice-item-items.ensures)) lt);
  within = subst (λ m. m ≤ c.args.rows.now.next_item) (sym c.in_ok-add_item.ensures.next) (next_within c.args.rows.now c.requires.lawful c.loop-item.item-index c.item-item.result (subst (λ l. c.loop-item.item-index < length l) c.as_slice-item-items.ensures c.loop-item-test.true) (c.item-item.is ∙ ap (λ l. get_or l c.loop-item.item-index c.item-item.result) c.as_slice-item-items.ensures));
  indexes = c.in_ok-add_item.ensures.indexes;
}

pub pass-requires : goal.pass-requires
pass-requires c = c.loop-item.invariant.within

pub returns-clause-items : goal.returns-clause-items
returns-clause-items c = c.pass.ensures.rows ∙ c.loop-item.invariant.copied ∙ take_all c.loop-item.item-index c.as_slice-item-items.result.now c.loop-item-test.false ∙ c.as_slice-item-items.ensures

pub returns-clause-rows : goal.returns-clause-rows
returns-clause-rows c = c.loop-item.invariant.kept

pub returns-clause-indexes : goal.returns-clause-indexes
returns-clause-indexes c =
    indexes_same (rows_of c.loop-item.regions.items c.loop-item.items.rows 0 0) c.args.rows.now c.loop-item.regions.items (c.loop-item.invariant.copied ∙ take_all c.loop-item.item-index c.as_slice-item-items.result.now c.loop-item-test.false ∙ c.as_slice-item-items.ensures) c.loop-item.invariant.indexes
