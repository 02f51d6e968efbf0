-- Lawful changes have bodies.
use Rattle.std.proofs.Common.{◌≡◌, ℕ, ◌+◌, ◌-◌, ◌%◌, ◌^◌, ◌<◌, Bool, true, eqb, ltb, leb, List, length, Some, is_none, sym, ◌∙◌, arith}
use mathlib.Core.Bool.{not, ◌&&◌}
use Rattle.std.specs.List.{list_all}
use Rattle.std.specs.Prelude.{IsTrue}
use Rattle.std.proofs.lemmas.Bool.{and_parts, eqb-true, ltb-true, leb-true}
use Rattle.fam_base.specs.Name.{is_good_name}
use Rattle.fam_model.specs.declared.change.Change.{Change}
use Rattle.fam_model.specs.declared.change.Change.TheVariants as change
use Rattle.fam_model.specs.declared.rows.RegionRow.{RegionRow}
use Rattle.fam_model.specs.declared.rows.ItemRow.{ItemRow}
use Rattle.fam_model.specs.declared.rows.Rows.{Rows}
use Rattle.fam_model.specs.Directory.{cuts_item}
use Rattle.fam_model.specs.Lawful.{is_lawful_change, is_good_row, is_next_number, is_common}
use Rattle.fam_model.specs.Limits.{max_region_size, max_total_size, max_regions, max_items, number_end, nobody}
use Rattle.fam_model.specs.Lists.{is_some_and}
use Rattle.fam_model.specs.Rows.{IsLawful, IsLawfulItem, region_of, item_of, region_named, item_named, region_number, item_number, total_size, room, fits, is_beside, items_in}
use Rattle.fam_rows.proofs.Searches.{passes_found, All_found, find_number_is, lawful_region}
use Rattle.fam_rows.proofs.Standing.{region_is, three_parts, four_parts, five_parts, value_tested}
use Rattle.meta_codec.specs.Body.{HasBody, IsOwned}
use Rattle.meta_journal.specs.Laws.{group_given}

module _ (rows : Rows) (lawful : IsLawful rows) where
  -- the number of a region that is there
  region_fits : (n : ℕ) (row : RegionRow) → region_of rows n ≡ Some row → n < 2 ^ 63
  region_fits n row there =
      let number : region_number row ≡ n = eqb-true _ _ (passes_found (λ z. eqb (region_number z) n) rows.regions row (sym (region_is rows n) ∙ there)) in
      let law = lawful_region rows lawful n row there in
      let below = law.number in
      omega (arith, number, below, lawful.next_region_bound)

  item_fits : (n : ℕ) (row : ItemRow) → item_of rows n ≡ Some row → n < 2 ^ 63
  item_fits n row there =
      let found = sym (find_number_is item_number n rows.items) ∙ there in
      let number : item_number row ≡ n = eqb-true _ _ (passes_found (λ z. eqb (item_number z) n) rows.items row found) in
      let law = All_found (IsLawfulItem rows) (λ z. eqb (item_number z) n) rows.items row lawful.items found in
      let below = law.number in
      omega (arith, number, below, lawful.next_item_bound)

  there_fits : (n : ℕ) (test : RegionRow → Bool) → is_some_and (region_of rows n) test ≡ true → n < 2 ^ 63
  there_fits n test holds = let found = value_tested (region_of rows n) test holds in region_fits n found.0 found.1

  item_there_fits : (n : ℕ) (test : ItemRow → Bool) → is_some_and (item_of rows n) test ≡ true → n < 2 ^ 63
  item_there_fits n test holds = let found = value_tested (item_of rows n) test holds in item_fits n found.0 found.1

  owned : (uid gid mode size : ℕ) (name : List ℕ) → is_good_row uid mode size name ≡ true → gid < 2 ^ 32 → (size < 2 ^ 64) × IsOwned uid gid mode name
  owned uid gid mode size name good group =
      let parts = four_parts (ltb uid nobody) (leb mode 511) (leb size max_region_size) (is_good_name name) good in
      (omega (arith, leb-true _ _ parts.2), record { user_fits = ltb-true _ _ parts.0; group_fits = group; mode_fits = leb-true _ _ parts.1; name_is_good = parts.3 })

  next_fits : (n next : ℕ) → is_next_number n next ≡ true → n < 2 ^ 63
  next_fits n next holds = let parts = and_parts (eqb n next) (ltb n number_end) holds in ltb-true _ _ parts.1

  pub bodies : (chosen : Change) → IsTrue (is_lawful_change rows chosen) → group_given chosen < 2 ^ 32 → HasBody chosen
  bodies (change.CreateRegion region uid gid mode size name) ok group =
      let parts = five_parts (is_next_number region.0 rows.next_region) (is_good_row uid mode size name) (is_none (region_named rows name)) (ltb (length rows.regions) max_regions) (leb (total_size rows + size) max_total_size) ok in
      let rest = owned uid gid mode size name parts.1 group in
      let number = next_fits region.0 rows.next_region parts.0 in
      (omega (arith, number), rest.0, rest.1)
  bodies (change.DestroyRegion region) ok group =
      let parts = and_parts (not (is_common region.0)) (is_some_and (region_of rows region.0) (λ row. true)) ok in
      let number = there_fits region.0 (λ row. true) parts.1 in
      omega (arith, number)
  bodies (change.ResizeRegion region size) ok group =
      let test : RegionRow → Bool = λ row. not (cuts_item rows row size) && leb (total_size rows - row.size + size) max_total_size in
      let parts = three_parts (not (is_common region.0)) (leb size max_region_size) (is_some_and (region_of rows region.0) test) ok in
      let number = there_fits region.0 test parts.2 in
      (omega (arith, number), omega (arith, leb-true _ _ parts.1))
  bodies (change.Allocate item region base size uid gid mode name) ok group =
      let parts = five_parts (is_next_number item.0 rows.next_item) (is_good_row uid mode size name) (is_none (item_named rows region.0 name)) (ltb (length rows.items) max_items) (is_some_and (region_of rows region.0) (λ row. fits rows row size base)) ok in
      let rest = owned uid gid mode size name parts.1 group in
      let number = next_fits item.0 rows.next_item parts.0 in
      let there = value_tested (region_of rows region.0) (λ row. fits rows row size base) parts.4 in
      let placed = three_parts (eqb (base % 64) 0) (leb (base + room size) there.0.size) (list_all (is_beside size base) (items_in rows (region_number there.0))) there.2 in
      let region_law = lawful_region rows lawful region.0 there.0 there.1 in
      let small = region_law.size in
      let in_region = region_fits region.0 there.0 there.1 in
      (omega (arith, number), omega (arith, in_region), omega (arith, leb-true _ _ placed.1, small), rest.0, rest.1)
  bodies (change.Deallocate item) ok group =
      let parts = and_parts (not (is_common item.0)) (is_some_and (item_of rows item.0) (λ row. true)) ok in
      let number = item_there_fits item.0 (λ row. true) parts.1 in
      omega (arith, number)
  bodies (change.SetItemMode item mode) ok group =
      let parts = three_parts (not (is_common item.0)) (leb mode 511) (is_some_and (item_of rows item.0) (λ row. true)) ok in
      let number = item_there_fits item.0 (λ row. true) parts.2 in
      (omega (arith, number), leb-true _ _ parts.1)
  bodies (change.SetRegionMode region mode) ok group =
      let parts = three_parts (not (is_common region.0)) (leb mode 511) (is_some_and (region_of rows region.0) (λ row. true)) ok in
      let number = there_fits region.0 (λ row. true) parts.2 in
      (omega (arith, number), leb-true _ _ parts.1)
  bodies (change.Skip next_region next_item) ok group =
      let parts = four_parts (leb rows.next_region next_region) (leb next_region number_end) (leb rows.next_item next_item) (leb next_item number_end) ok in
      (omega (arith, leb-true _ _ parts.1), omega (arith, leb-true _ _ parts.3))
