use Rattle.std.proofs.Common.{◌<◌, ℕ, List, ap, sym, ◌∙◌, arith, subst}
use Rattle.std.specs.List.{All}
use Rattle.fam_model.specs.declared.rows.RegionRow.{RegionRow}
use Rattle.fam_model.specs.declared.rows.ItemRow.{ItemRow}
use Rattle.fam_model.specs.Journal.{creation, allocation}
use Rattle.fam_model.specs.Limits.{number_end}
use Rattle.fam_model.specs.Rows.{region_number, item_number}
use Rattle.meta_codec.specs.Body.{HasBody}
use Rattle.meta_journal.specs.Writing.{IsOwnRow, Rises, next_behind}
use Rattle.meta_journal.proofs.Owned as owned
use Rattle.meta_journal.proofs.Restoring.{restores}
use Rattle.meta_journal.proofs.short_form.short_form.Goals as goal

pub add_regions-requires-clause-own : goal.add_regions-requires-clause-own
add_regions-requires-clause-own c = subst (λ (xs : List RegionRow). All (λ row. IsOwnRow row.uid row.name) xs) (sym c.own_regions.ensures) (owned.own_regions c.args.rows.now c.requires)

pub add_regions-requires-clause-rise : goal.add_regions-requires-clause-rise
add_regions-requires-clause-rise c = subst (λ (xs : List RegionRow). Rises region_number 1 xs) (sym c.own_regions.ensures) (owned.regions_rise c.args.rows.now c.requires)

pub add_regions-requires-clause-end : goal.add_regions-requires-clause-end
add_regions-requires-clause-end c = subst (λ (xs : List RegionRow). All (λ row. region_number row < number_end) xs) (sym c.own_regions.ensures) (owned.regions_end c.args.rows.now c.requires)

pub add_items-requires-clause-own : goal.add_items-requires-clause-own
add_items-requires-clause-own c = subst (λ (xs : List ItemRow). All (λ row. IsOwnRow row.uid row.name) xs) (sym c.own_items.ensures) (owned.own_items c.args.rows.now c.requires)

pub add_items-requires-clause-rise : goal.add_items-requires-clause-rise
add_items-requires-clause-rise c =
    subst (λ (n : ℕ). Rises item_number n c.own_items.result.now) (sym c.in_ok-add_regions.ensures.item)
    (subst (λ (xs : List ItemRow). Rises item_number 1 xs) (sym c.own_items.ensures) (owned.items_rise c.args.rows.now c.requires))

pub add_items-requires-clause-end : goal.add_items-requires-clause-end
add_items-requires-clause-end c = subst (λ (xs : List ItemRow). All (λ row. item_number row < number_end) xs) (sym c.own_items.ensures) (owned.items_end c.args.rows.now c.requires)

pub skip_to-requires-clause-region : goal.skip_to-requires-clause-region
skip_to-requires-clause-region c =
    let is = c.in_ok-add_items.ensures.region ∙ c.in_ok-add_regions.ensures.region ∙ ap (next_behind region_number 1) c.own_regions.ensures in
    omega (arith, is, owned.next_region_fits c.args.rows.now c.requires)

pub skip_to-requires-clause-item : goal.skip_to-requires-clause-item
skip_to-requires-clause-item c =
    let is = c.in_ok-add_items.ensures.item ∙ ap (λ (n : ℕ). next_behind item_number n c.own_items.result.now) c.in_ok-add_regions.ensures.item ∙ ap (next_behind item_number 1) c.own_items.ensures in
    omega (arith, is, owned.next_item_fits c.args.rows.now c.requires)

pub returns-clause-restores : goal.returns-clause-restores
returns-clause-restores c =
    restores c.args.rows.now c.requires
    (subst (λ (xs : List RegionRow). All (λ row. HasBody (creation row)) xs) c.own_regions.ensures c.in_ok-add_regions.ensures.bodies)
    (subst (λ (xs : List ItemRow). All (λ row. HasBody (allocation row)) xs) c.own_items.ensures c.in_ok-add_items.ensures.bodies)
