-- Lawful rows stay lawful under a lawful change of regions.
use Rattle.std.proofs.Common.{◌≡◌, ◌≢◌, ℕ, ◌+◌, ◌-◌, ◌<◌, ◌≤◌, Bool, true, false, eqb, ltb, leb, List, [], ◌∷◌, ◌++◌, length, get_or, Some, is_none, refl, sym, ap, ◌∙◌, subst, arith}
use mathlib.Core.Bool.{not, ◌&&◌}
use mathlib.Core.List.{map}
use Rattle.std.specs.List.{filter, find, sum_by}
use Rattle.std.specs.Option.{option_map}
use Rattle.std.specs.Str.{bytes_eq}
use Rattle.std.proofs.lemmas.Bool.{and_parts, eq-eqb, ne_eqb, eqb-true, eqb-false, ltb-true, ltb-false, leb-true, not-true, not_from_false, cond-false, cond_both}
use Rattle.std.proofs.lemmas.List.{length-append, length-map}
use Rattle.std.proofs.lemmas.List.Elements.{All-weaker, All-push, All-filter, All-map, filter_passes}
use Rattle.std.proofs.lemmas.List.Kept.{AllPairs-filter}
use Rattle.std.proofs.lemmas.List.Quantifiers.{all_pairs_push}
use Rattle.std.proofs.lemmas.List.Sums.{sum_by-append}
use Rattle.fam_base.specs.Name.{is_good_name}
use Rattle.fam_base.specs.declared.naming.RegionId.{RegionId}
use Rattle.fam_model.specs.declared.change.Change.TheVariants as change
use Rattle.fam_model.specs.declared.rows.RegionRow.{RegionRow}
use Rattle.fam_model.specs.declared.rows.ItemRow.{ItemRow}
use Rattle.fam_model.specs.declared.rows.Rows.{Rows}
use Rattle.fam_model.specs.Directory.{after, cuts_item}
use Rattle.fam_model.specs.Lawful.{is_lawful_change, is_good_row, is_next_number, is_common}
use Rattle.fam_model.specs.Limits.{max_region_size, max_total_size, max_regions, number_end, nobody}
use Rattle.fam_model.specs.Lists.{is_some_and}
use Rattle.fam_model.specs.Rows.{IsLawful, IsLawfulRegion, IsLawfulItem, AreApart, common_region, common_item, region_of, region_named, items_in, total_size, region_number, item_number, room_end}
use Rattle.fam_rows.proofs.Edits.{All_unfound, All_without_any, All_kept, find_kept, find_grown, first_kept, first_grown, first_mapped, length_kept, sum_kept, AllPairs_mapped, AllPairs_weaker, rising, changed_one, change_is_map, find_mapped, rise_mapped, sum_changed, sum_same}
use Rattle.fam_rows.proofs.Places.{rises}
use Rattle.fam_rows.proofs.Searches.{passes_found}
use Rattle.fam_rows.proofs.Standing.{three_parts, four_parts, five_parts, value_tested, nothing_there, differ, region_is, region_stands, item_stands, item_stays}

-- a new region
pub creates : (rows : Rows) (region : RegionId) (uid gid mode size : ℕ) (name : List ℕ) → IsLawful rows → is_lawful_change rows (change.CreateRegion region uid gid mode size name) ≡ true → IsLawful (after rows (change.CreateRegion region uid gid mode size name))
creates rows region uid gid mode size name lawful ok =
    let parts = five_parts (is_next_number region.0 rows.next_region) (is_good_row uid mode size name) (is_none (region_named rows name)) (ltb (length rows.regions) max_regions) (leb (total_size rows + size) max_total_size) ok in
    let numbers = and_parts (eqb region.0 rows.next_region) (ltb region.0 number_end) parts.0 in
    let next : region.0 ≡ rows.next_region = eqb-true _ _ numbers.0 in
    let end : region.0 < number_end = ltb-true _ _ numbers.1 in
    let good = four_parts (ltb uid nobody) (leb mode 511) (leb size max_region_size) (is_good_name name) parts.1 in
    let row : RegionRow = record { number = region; uid = uid; gid = gid; mode = mode; size = size; name = name } in
    let new : Rows = after rows (change.CreateRegion region uid gid mode size name) in
    let unnamed = All_unfound (λ r. bytes_eq r.name name) rows.regions (nothing_there (region_named rows name) parts.2) in
    let rise = rises region_number rows.regions lawful.region_numbers_rise in
    record {
      common_region_first = first_grown rows.regions (row ∷ []) common_region lawful.common_region_first;
      common_item_first = lawful.common_item_first;
      region_numbers_rise = rising region_number (rows.regions ++ row ∷ []) (all_pairs_push (λ a b. region_number a < region_number b) rows.regions row rise (λ k d in_range. (let below = (lawful.regions k d in_range).number in omega (arith, next, below))));
      item_numbers_rise = lawful.item_numbers_rise;
      next_region_bound = omega (arith, end);
      next_item_bound = lawful.next_item_bound;
      regions = All-push (IsLawfulRegion new) rows.regions row
          (All-weaker (IsLawfulRegion rows) (IsLawfulRegion new) (λ x h. region_stands rows new x (omega (arith, next)) h) rows.regions lawful.regions)
          (record { number = omega arith; name = good.3; mode = leb-true _ _ good.1; owner = λ _. ltb-true _ _ good.0; size = leb-true _ _ good.2 });
      items = All-weaker (IsLawfulItem rows) (IsLawfulItem new) (λ x h. item_stays rows new x (omega arith) (λ r there. region_is new x.region.0 ∙ find_grown (λ z. eqb (region_number z) x.region.0) rows.regions (row ∷ []) r (sym (region_is rows x.region.0) ∙ there)) h) rows.items lawful.items;
      region_names_differ = all_pairs_push (λ a b. a.name ≢ b.name) rows.regions row lawful.region_names_differ (λ k d in_range. differ (get_or rows.regions k d).name name (unnamed k d in_range));
      items_are_apart = lawful.items_are_apart;
      region_count = (let count = ltb-true (length rows.regions) max_regions parts.3 in omega (arith, count, length-append rows.regions (row ∷ [])));
      item_count = lawful.item_count;
      total = (let total = leb-true (total_size rows + size) max_total_size parts.4 in omega (arith, total, sum_by-append (λ r. r.size) rows.regions (row ∷ [])));
    }

-- a region goes, and its items
pub destroys : (rows : Rows) (region : RegionId) → IsLawful rows → is_lawful_change rows (change.DestroyRegion region) ≡ true → IsLawful (after rows (change.DestroyRegion region))
destroys rows region lawful ok =
    let parts = and_parts (not (is_common region.0)) (is_some_and (region_of rows region.0) (λ row. true)) ok in
    let common : eqb region.0 0 ≡ false = not-true (eqb region.0 0) parts.0 in
    let other : region.0 ≢ 0 = eqb-false _ _ common in
    let new : Rows = after rows (change.DestroyRegion region) in
    let stays : RegionRow → Bool = λ r. not (eqb (region_number r) region.0) in
    let keeps : ItemRow → Bool = λ x. not (eqb x.region.0 region.0) in
    let zero_stays : not (eqb 0 region.0) ≡ true = not_from_false (eqb 0 region.0) (ne_eqb 0 region.0 (λ e. other (sym e))) in
    record {
      common_region_first = first_kept stays rows.regions common_region lawful.common_region_first zero_stays;
      common_item_first = first_kept keeps rows.items common_item lawful.common_item_first zero_stays;
      region_numbers_rise = rising region_number (filter stays rows.regions) (AllPairs-filter (λ a b. region_number a < region_number b) stays rows.regions (rises region_number rows.regions lawful.region_numbers_rise));
      item_numbers_rise = rising item_number (filter keeps rows.items) (AllPairs-filter (λ a b. item_number a < item_number b) keeps rows.items (rises item_number rows.items lawful.item_numbers_rise));
      next_region_bound = lawful.next_region_bound;
      next_item_bound = lawful.next_item_bound;
      regions = All-weaker (IsLawfulRegion rows) (IsLawfulRegion new) (λ x h. region_stands rows new x (omega arith) h) (filter stays rows.regions) (All-filter stays (IsLawfulRegion rows) rows.regions lawful.regions);
      items = λ k d in_range.
          let x = get_or (filter keeps rows.items) k d in
          let elsewhere : eqb x.region.0 region.0 ≡ false = not-true (eqb x.region.0 region.0) (filter_passes keeps rows.items k d in_range) in
          item_stays rows new x (omega arith)
          (λ r there. region_is new x.region.0
          ∙ find_kept stays (λ z. eqb (region_number z) x.region.0) rows.regions (λ z sought. (let same = eqb-true (region_number z) x.region.0 sought in not_from_false (eqb (region_number z) region.0) (ap (λ m. eqb m region.0) same ∙ elsewhere)))
          ∙ sym (region_is rows x.region.0) ∙ there)
          (All-filter keeps (IsLawfulItem rows) rows.items lawful.items k d in_range);
      region_names_differ = AllPairs-filter (λ a b. a.name ≢ b.name) stays rows.regions lawful.region_names_differ;
      items_are_apart = AllPairs-filter AreApart keeps rows.items lawful.items_are_apart;
      region_count = (let before = lawful.region_count in omega (arith, before, length_kept stays rows.regions));
      item_count = (let before = lawful.item_count in omega (arith, before, length_kept keeps rows.items));
      total = (let before = lawful.total in omega (arith, before, sum_kept (λ r. r.size) stays rows.regions));
    }

-- regions change, each by itself, and each item still has room in its region
mapped : (rows : Rows) (g : RegionRow → RegionRow) → IsLawful rows → ((x : RegionRow) → region_number (g x) ≡ region_number x) → ((x : RegionRow) → (g x).name ≡ x.name) → g common_region ≡ common_region →
    ((x : RegionRow) → IsLawfulRegion rows x → IsLawfulRegion rows (g x)) →
    ((k : ℕ) (d : ItemRow) → k < length rows.items → (region : RegionRow) → region_of rows (get_or rows.items k d).region.0 ≡ Some region → room_end (get_or rows.items k d) ≤ region.size → room_end (get_or rows.items k d) ≤ (g region).size) →
    sum_by (λ x. x.size) (map g rows.regions) ≤ max_total_size → IsLawful (record rows { regions = map g rows.regions })
mapped rows g lawful same_number same_name same_common each ends total =
    let new : Rows = record rows { regions = map g rows.regions } in
    record {
      common_region_first = first_mapped g rows.regions common_region lawful.common_region_first same_common;
      common_item_first = lawful.common_item_first;
      region_numbers_rise = rising region_number (map g rows.regions) (rise_mapped region_number g rows.regions same_number (rises region_number rows.regions lawful.region_numbers_rise));
      item_numbers_rise = lawful.item_numbers_rise;
      next_region_bound = lawful.next_region_bound;
      next_item_bound = lawful.next_item_bound;
      regions = All-map (IsLawfulRegion new) g rows.regions (All-weaker (IsLawfulRegion rows) (λ x. IsLawfulRegion new (g x)) (λ x h. region_stands rows new (g x) (omega arith) (each x h)) rows.regions lawful.regions);
      items = λ k d in_range.
          let x = get_or rows.items k d in
          let h = lawful.items k d in_range in
          let found : find (λ z. eqb (region_number z) x.region.0) rows.regions ≡ Some h.inside.0 = sym (region_is rows x.region.0) ∙ h.inside.1 in
          item_stands rows new x (omega arith) (g h.inside.0)
          (region_is new x.region.0 ∙ find_mapped region_number x.region.0 g rows.regions same_number ∙ ap (option_map g) found)
          (ends k d in_range h.inside.0 h.inside.1 h.inside.2) h;
      region_names_differ = AllPairs_mapped (λ a b. a.name ≢ b.name) g rows.regions (AllPairs_weaker (λ a b. a.name ≢ b.name) (λ a b. (g a).name ≢ (g b).name) rows.regions (λ a b differs same. differs (sym (same_name a) ∙ same ∙ same_name b)) lawful.region_names_differ);
      items_are_apart = lawful.items_are_apart;
      region_count = (let before = lawful.region_count in omega (arith, before, length-map rows.regions g));
      item_count = lawful.item_count;
      total = total;
    }

-- the common region is not the one that is changed
common_stays : (n : ℕ) (f : RegionRow → RegionRow) → n ≢ 0 → changed_one region_number n f common_region ≡ common_region
common_stays n f other = cond-false (eqb 0 n) (f common_region) common_region (ne_eqb 0 n (λ e. other (sym e)))

-- a region has another size
pub resizes : (rows : Rows) (region : RegionId) (size : ℕ) → IsLawful rows → is_lawful_change rows (change.ResizeRegion region size) ≡ true → IsLawful (after rows (change.ResizeRegion region size))
resizes rows region size lawful ok =
    let f : RegionRow → RegionRow = λ x. record x { size = size } in
    let n = region.0 in
    let g : RegionRow → RegionRow = changed_one region_number n f in
    let parts = three_parts (not (is_common n)) (leb size max_region_size) (is_some_and (region_of rows n) (λ row. not (cuts_item rows row size) && leb (total_size rows - row.size + size) max_total_size)) ok in
    let other : n ≢ 0 = eqb-false _ _ (not-true (eqb n 0) parts.0) in
    let small : size ≤ max_region_size = leb-true _ _ parts.1 in
    let there = value_tested (region_of rows n) (λ row. not (cuts_item rows row size) && leb (total_size rows - row.size + size) max_total_size) parts.2 in
    let row = there.0 in
    let found : find (λ z. eqb (region_number z) n) rows.regions ≡ Some row = sym (region_is rows n) ∙ there.1 in
    let tests = and_parts (not (cuts_item rows row size)) (leb (total_size rows - row.size + size) max_total_size) there.2 in
    let rise = rises region_number rows.regions lawful.region_numbers_rise in
    let number : region_number row ≡ n = eqb-true _ _ (passes_found (λ z. eqb (region_number z) n) rows.regions row found) in
    let uncut = All_kept (λ x. ltb size (room_end x) ≡ false) (λ x. eqb x.region.0 (region_number row)) rows.items (All_without_any (λ x. ltb size (room_end x)) (items_in rows (region_number row)) (not-true (cuts_item rows row size) tests.0)) in
    let sum = sum_changed region_number (λ x. x.size) n f rows.regions row rise found in
    let changed = mapped rows g lawful
    (λ x. cond_both (eqb (region_number x) n) (f x) x (λ z. region_number z ≡ region_number x) (λ _. refl) (λ _. refl))
    (λ x. cond_both (eqb (region_number x) n) (f x) x (λ z. z.name ≡ x.name) (λ _. refl) (λ _. refl))
    (common_stays n f other)
    (λ x h. cond_both (eqb (region_number x) n) (f x) x (IsLawfulRegion rows) (λ _. record { number = h.number; name = h.name; mode = h.mode; owner = h.owner; size = small }) (λ _. h))
    (λ k d in_range r there_too ends. cond_both (eqb (region_number r) n) (f r) r (λ z. room_end (get_or rows.items k d) ≤ z.size)
    (λ is.
    let x = get_or rows.items k d in
    let its : region_number r ≡ x.region.0 = eqb-true _ _ (passes_found (λ z. eqb (region_number z) x.region.0) rows.regions r (sym (region_is rows x.region.0) ∙ there_too)) in
    let same : x.region.0 ≡ region_number row = sym its ∙ eqb-true (region_number r) n is ∙ sym number in
    ltb-false size (room_end x) (uncut k d in_range (eq-eqb x.region.0 (region_number row) same)))
    (λ _. ends))
    (let limit = leb-true _ _ tests.1 in omega (arith, limit, sum)) in
    subst (λ (xs : List RegionRow). IsLawful (record rows { regions = xs })) (sym (change_is_map region_number n f rows.regions rise)) changed

-- a region has another mode
pub sets_mode : (rows : Rows) (region : RegionId) (mode : ℕ) → IsLawful rows → is_lawful_change rows (change.SetRegionMode region mode) ≡ true → IsLawful (after rows (change.SetRegionMode region mode))
sets_mode rows region mode lawful ok =
    let f : RegionRow → RegionRow = λ x. record x { mode = mode } in
    let n = region.0 in
    let g : RegionRow → RegionRow = changed_one region_number n f in
    let parts = three_parts (not (is_common n)) (leb mode 511) (is_some_and (region_of rows n) (λ row. true)) ok in
    let other : n ≢ 0 = eqb-false _ _ (not-true (eqb n 0) parts.0) in
    let small : mode ≤ 511 = leb-true _ _ parts.1 in
    let rise = rises region_number rows.regions lawful.region_numbers_rise in
    let same_size : (x : RegionRow) → (g x).size ≡ x.size = λ x. cond_both (eqb (region_number x) n) (f x) x (λ z. z.size ≡ x.size) (λ _. refl) (λ _. refl) in
    let changed = mapped rows g lawful
    (λ x. cond_both (eqb (region_number x) n) (f x) x (λ z. region_number z ≡ region_number x) (λ _. refl) (λ _. refl))
    (λ x. cond_both (eqb (region_number x) n) (f x) x (λ z. z.name ≡ x.name) (λ _. refl) (λ _. refl))
    (common_stays n f other)
    (λ x h. cond_both (eqb (region_number x) n) (f x) x (IsLawfulRegion rows) (λ _. record { number = h.number; name = h.name; mode = small; owner = h.owner; size = h.size }) (λ _. h))
    (λ k d in_range r there_too ends. rw (same_size r) ends)
    (let before = lawful.total in omega (arith, before, sum_same (λ x. x.size) g rows.regions same_size)) in
    subst (λ (xs : List RegionRow). IsLawful (record rows { regions = xs })) (sym (change_is_map region_number n f rows.regions rise)) changed

-- numbers are passed over
pub skips : (rows : Rows) (next_region next_item : ℕ) → IsLawful rows → is_lawful_change rows (change.Skip next_region next_item) ≡ true → IsLawful (after rows (change.Skip next_region next_item))
skips rows next_region next_item lawful ok =
    let parts = four_parts (leb rows.next_region next_region) (leb next_region number_end) (leb rows.next_item next_item) (leb next_item number_end) ok in
    let regions_rise : rows.next_region ≤ next_region = leb-true _ _ parts.0 in
    let items_rise : rows.next_item ≤ next_item = leb-true _ _ parts.2 in
    let new : Rows = record rows { next_region = next_region; next_item = next_item } in
    record {
      common_region_first = lawful.common_region_first;
      common_item_first = lawful.common_item_first;
      region_numbers_rise = lawful.region_numbers_rise;
      item_numbers_rise = lawful.item_numbers_rise;
      next_region_bound = leb-true _ _ parts.1;
      next_item_bound = leb-true _ _ parts.3;
      regions = All-weaker (IsLawfulRegion rows) (IsLawfulRegion new) (λ x h. region_stands rows new x regions_rise h) rows.regions lawful.regions;
      items = All-weaker (IsLawfulItem rows) (IsLawfulItem new) (λ x h. item_stays rows new x items_rise (λ r there. there) h) rows.items lawful.items;
      region_names_differ = lawful.region_names_differ;
      items_are_apart = lawful.items_are_apart;
      region_count = lawful.region_count;
      item_count = lawful.item_count;
      total = lawful.total;
    }
