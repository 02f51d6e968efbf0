-- How long the short form is at most.
use Rattle.std.proofs.Common.{ℕ, ◌+◌, ◌*◌, ◌≤◌, ltb, List, [], ◌∷◌, length, drop, inl, inr, sym, ap, subst, arith}
use mathlib.Core.Bool.{◌||◌}
use Rattle.std.specs.List.{All, sum_by}
use Rattle.std.proofs.lemmas.Bool.{cases_Bool}
use Rattle.std.proofs.lemmas.List.Elements.{All-head, All-tail}
use Rattle.std.proofs.lemmas.List.Sums.{sum_by-append, sum_by-cons}
use Rattle.fam_model.specs.declared.rows.RegionRow.{RegionRow}
use Rattle.fam_model.specs.declared.rows.ItemRow.{ItemRow}
use Rattle.fam_model.specs.declared.rows.Rows.{Rows}
use Rattle.fam_model.specs.Journal.{record_length, skip_to, creation, allocation, short_items, short_regions, short_place}
use Rattle.fam_model.specs.Rows.{IsLawful, common_region, common_item, region_number, item_number}
use Rattle.meta_journal.proofs.Lists.{with_first_one}
use Rattle.meta_journal.proofs.Records.{name_short}

skip_small : (region item next_region next_item : ℕ) → sum_by record_length (skip_to region item next_region next_item) ≤ 22
skip_small region item next_region next_item = elim (cases_Bool (ltb region next_region || ltb item next_item)) [
  | inl needed ↦ rw needed (omega arith)
  | inr not_needed ↦ rw not_needed (omega arith)
]

module _ (rows : Rows) where
  items_small : (region next : ℕ) (left : List ItemRow) → All (λ row. length row.name ≤ 64) left → sum_by record_length (short_items rows region next left) ≤ 135 * length left + 22
  items_small region next [] names = omega (arith, skip_small region next rows.next_region rows.next_item)
  items_small region next (row ∷ left) names =
      let skip = skip_to region next region (item_number row) in
      let rest = short_items rows region (item_number row + 1) left in
      let name : length row.name ≤ 64 = All-head (λ x. length x.name ≤ 64) row left names in
      omega (
        arith,
        name,
        skip_small region next region (item_number row),
        sum_by-append record_length skip (allocation row ∷ rest),
        sum_by-cons record_length (allocation row) rest,
        items_small region (item_number row + 1) left (All-tail (λ x. length x.name ≤ 64) row left names),
      )

  regions_small : (next : ℕ) (left : List RegionRow) → All (λ row. length row.name ≤ 64) left → All (λ row. length row.name ≤ 64) (drop 1 rows.items)
      → sum_by record_length (short_regions rows next left) ≤ 119 * length left + 135 * length (drop 1 rows.items) + 22
  regions_small next [] names items = omega (arith, items_small next 1 (drop 1 rows.items) items)
  regions_small next (row ∷ left) names items =
      let skip = skip_to next 1 (region_number row) 1 in
      let rest = short_regions rows (region_number row + 1) left in
      let name : length row.name ≤ 64 = All-head (λ x. length x.name ≤ 64) row left names in
      omega (
        arith,
        name,
        skip_small next 1 (region_number row) 1,
        sum_by-append record_length skip (creation row ∷ rest),
        sum_by-cons record_length (creation row) rest,
        regions_small (region_number row + 1) left (All-tail (λ x. length x.name ≤ 64) row left names) items,
      )

-- all but the common ones, of which there are one less
pub small : (rows : Rows) → IsLawful rows → short_place rows ≤ 9_400_000
small rows lawful =
    let regions = with_first_one rows.regions common_region lawful.common_region_first in
    let items = with_first_one rows.items common_item lawful.common_item_first in
    let region_names : All (λ row. length row.name ≤ 64) (drop 1 rows.regions) = All-tail (λ x. length x.name ≤ 64) common_region (drop 1 rows.regions)
    (subst (λ xs. All (λ x. length x.name ≤ 64) xs) (sym regions) (λ k d in_range. let law = lawful.regions k d in_range in name_short _ law.name)) in
    let item_names : All (λ row. length row.name ≤ 64) (drop 1 rows.items) = All-tail (λ x. length x.name ≤ 64) common_item (drop 1 rows.items)
    (subst (λ xs. All (λ x. length x.name ≤ 64) xs) (sym items) (λ k d in_range. let law = lawful.items k d in_range in name_short _ law.name)) in
    let region_count : length (drop 1 rows.regions) + 1 ≤ 4096 = omega (arith, ap length regions, lawful.region_count) in
    let item_count : length (drop 1 rows.items) + 1 ≤ 65_536 = omega (arith, ap length items, lawful.item_count) in
    omega (arith, region_count, item_count, regions_small rows 1 (drop 1 rows.regions) region_names item_names)
