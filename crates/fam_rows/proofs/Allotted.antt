-- Lawful rows stay lawful under a lawful change of items.
use Rattle.std.proofs.Common.{◌≡◌, ◌≢◌, ℕ, ◌+◌, ◌%◌, ◌<◌, ◌≤◌, ◌⊎◌, Bool, true, false, eqb, ltb, leb, List, [], ◌∷◌, ◌++◌, length, get_or, is_none, inl, inr, refl, sym, ap, ◌∙◌, subst, arith}
use mathlib.Core.Bool.{not}
use mathlib.Core.List.{map}
use Rattle.std.specs.List.{filter, list_all}
use Rattle.std.specs.Str.{bytes_eq}
use Rattle.std.proofs.lemmas.Bool.{and_parts, or_cases, eq-eqb, ne_eqb, eqb-true, eqb-false, ltb-true, leb-true, not-true, not_from_false, cond-false, cond_both}
use Rattle.std.proofs.lemmas.List.{length-append, length-map}
use Rattle.std.proofs.lemmas.List.Elements.{All-weaker, All-push, All-filter, All-map}
use Rattle.std.proofs.lemmas.List.Kept.{AllPairs-filter}
use Rattle.std.proofs.lemmas.List.Quantifiers.{all_pairs_push}
use Rattle.std.proofs.lemmas.List.Sums.{AllPass-from_list_all}
use Rattle.fam_base.specs.Name.{is_good_name}
use Rattle.fam_base.specs.declared.naming.RegionId.{RegionId}
use Rattle.fam_base.specs.declared.naming.ItemId.{ItemId}
use Rattle.fam_model.specs.declared.change.Change.TheVariants as change
use Rattle.fam_model.specs.declared.rows.ItemRow.{ItemRow}
use Rattle.fam_model.specs.declared.rows.Rows.{Rows}
use Rattle.fam_model.specs.Directory.{after}
use Rattle.fam_model.specs.Lawful.{is_lawful_change, is_good_row, is_next_number, is_common}
use Rattle.fam_model.specs.Limits.{max_region_size, max_items, number_end, nobody}
use Rattle.fam_model.specs.Lists.{is_some_and}
use Rattle.fam_model.specs.Rows.{IsLawful, IsLawfulRegion, IsLawfulItem, AreApart, common_item, region_of, item_of, item_named, items_in, region_number, item_number, room, room_end, is_beside, fits}
use Rattle.fam_rows.proofs.Edits.{All_unfound, All_kept, first_kept, first_grown, first_mapped, length_kept, AllPairs_mapped, AllPairs_weaker, rising, changed_one, change_is_map, rise_mapped}
use Rattle.fam_rows.proofs.Places.{rises}
use Rattle.fam_rows.proofs.Searches.{passes_found}
use Rattle.fam_rows.proofs.Standing.{region_is, three_parts, four_parts, five_parts, value_tested, nothing_there, differ, region_stands, item_stays}

-- the room of an item is apart from a new one that it is beside
apart_from : (a b : ItemRow) → is_beside b.size b.base a ≡ true → (room_end a ≤ b.base) ⊎ (room_end b ≤ a.base)
apart_from a b e = elim (or_cases (leb (b.base + room b.size) a.base) (leb (room_end a) b.base) e) [
  | inl before ↦ inr (leb-true _ _ before)
  | inr behind ↦ inl (leb-true _ _ behind)
]

-- a new item
pub allocates : (rows : Rows) (item : ItemId) (region : RegionId) (base size uid gid mode : ℕ) (name : List ℕ) → IsLawful rows → is_lawful_change rows (change.Allocate item region base size uid gid mode name) ≡ true → IsLawful (after rows (change.Allocate item region base size uid gid mode name))
allocates rows item region base size uid gid mode name lawful ok =
    let parts = five_parts (is_next_number item.0 rows.next_item) (is_good_row uid mode size name) (is_none (item_named rows region.0 name)) (ltb (length rows.items) max_items) (is_some_and (region_of rows region.0) (λ row. fits rows row size base)) ok in
    let numbers = and_parts (eqb item.0 rows.next_item) (ltb item.0 number_end) parts.0 in
    let next : item.0 ≡ rows.next_item = eqb-true _ _ numbers.0 in
    let end : item.0 < number_end = ltb-true _ _ numbers.1 in
    let good = four_parts (ltb uid nobody) (leb mode 511) (leb size max_region_size) (is_good_name name) parts.1 in
    let there = value_tested (region_of rows region.0) (λ row. fits rows row size base) parts.4 in
    let placed = three_parts (eqb (base % 64) 0) (leb (base + room size) there.0.size) (list_all (is_beside size base) (items_in rows (region_number there.0))) there.2 in
    let row : ItemRow = record { number = item; region = region; base = base; size = size; uid = uid; gid = gid; mode = mode; name = name } in
    let new : Rows = after rows (change.Allocate item region base size uid gid mode name) in
    let number : region_number there.0 ≡ region.0 = eqb-true _ _ (passes_found (λ z. eqb (region_number z) region.0) rows.regions there.0 (sym (region_is rows region.0) ∙ there.1)) in
    let unnamed = All_kept (λ x. bytes_eq x.name name ≡ false) (λ x. eqb x.region.0 region.0) rows.items (All_unfound (λ x. bytes_eq x.name name) (items_in rows region.0) (nothing_there (item_named rows region.0 name) parts.2)) in
    let beside = All_kept (λ x. is_beside size base x ≡ true) (λ x. eqb x.region.0 (region_number there.0)) rows.items (AllPass-from_list_all (is_beside size base) (items_in rows (region_number there.0)) placed.2) in
    let rise = rises item_number rows.items lawful.item_numbers_rise in
    record {
      common_region_first = lawful.common_region_first;
      common_item_first = first_grown rows.items (row ∷ []) common_item lawful.common_item_first;
      region_numbers_rise = lawful.region_numbers_rise;
      item_numbers_rise = rising item_number (rows.items ++ row ∷ []) (all_pairs_push (λ a b. item_number a < item_number b) rows.items row rise (λ k d in_range. (let below = (lawful.items k d in_range).number in omega (arith, next, below))));
      next_region_bound = lawful.next_region_bound;
      next_item_bound = omega (arith, end);
      regions = All-weaker (IsLawfulRegion rows) (IsLawfulRegion new) (λ x h. region_stands rows new x (omega arith) h) rows.regions lawful.regions;
      items = All-push (IsLawfulItem new) rows.items row
          (All-weaker (IsLawfulItem rows) (IsLawfulItem new) (λ x h. item_stays rows new x (omega (arith, next)) (λ r found. found) h) rows.items lawful.items)
          (record { number = omega arith; name = good.3; mode = leb-true _ _ good.1; owner = λ _. ltb-true _ _ good.0; size = leb-true _ _ good.2; base = eqb-true _ _ placed.0; inside = (there.0, there.1, leb-true _ _ placed.1) });
      region_names_differ = lawful.region_names_differ;
      items_are_apart = all_pairs_push AreApart rows.items row lawful.items_are_apart (λ k d in_range same.
          let x = get_or rows.items k d in
          let here : x.region.0 ≡ region.0 = ap (λ r. r.0) same in (
            differ x.name name (unnamed k d in_range (eq-eqb x.region.0 region.0 here)),
            apart_from x row (beside k d in_range (eq-eqb x.region.0 (region_number there.0) (here ∙ sym number))),
          ));
      region_count = lawful.region_count;
      item_count = (let count = ltb-true (length rows.items) max_items parts.3 in omega (arith, count, length-append rows.items (row ∷ [])));
      total = lawful.total;
    }

-- an item goes
pub deallocates : (rows : Rows) (item : ItemId) → IsLawful rows → is_lawful_change rows (change.Deallocate item) ≡ true → IsLawful (after rows (change.Deallocate item))
deallocates rows item lawful ok =
    let parts = and_parts (not (is_common item.0)) (is_some_and (item_of rows item.0) (λ row. true)) ok in
    let other : item.0 ≢ 0 = eqb-false _ _ (not-true (eqb item.0 0) parts.0) in
    let new : Rows = after rows (change.Deallocate item) in
    let stays : ItemRow → Bool = λ x. not (eqb (item_number x) item.0) in
    let zero_stays : not (eqb 0 item.0) ≡ true = not_from_false (eqb 0 item.0) (ne_eqb 0 item.0 (λ e. other (sym e))) in
    record {
      common_region_first = lawful.common_region_first;
      common_item_first = first_kept stays rows.items common_item lawful.common_item_first zero_stays;
      region_numbers_rise = lawful.region_numbers_rise;
      item_numbers_rise = rising item_number (filter stays rows.items) (AllPairs-filter (λ a b. item_number a < item_number b) stays rows.items (rises item_number rows.items lawful.item_numbers_rise));
      next_region_bound = lawful.next_region_bound;
      next_item_bound = lawful.next_item_bound;
      regions = All-weaker (IsLawfulRegion rows) (IsLawfulRegion new) (λ x h. region_stands rows new x (omega arith) h) rows.regions lawful.regions;
      items = All-weaker (IsLawfulItem rows) (IsLawfulItem new) (λ x h. item_stays rows new x (omega arith) (λ r found. found) h) (filter stays rows.items) (All-filter stays (IsLawfulItem rows) rows.items lawful.items);
      region_names_differ = lawful.region_names_differ;
      items_are_apart = AllPairs-filter AreApart stays rows.items lawful.items_are_apart;
      region_count = lawful.region_count;
      item_count = (let before = lawful.item_count in omega (arith, before, length_kept stays rows.items));
      total = lawful.total;
    }

-- an item has another mode
pub sets_item_mode : (rows : Rows) (item : ItemId) (mode : ℕ) → IsLawful rows → is_lawful_change rows (change.SetItemMode item mode) ≡ true → IsLawful (after rows (change.SetItemMode item mode))
sets_item_mode rows item mode lawful ok =
    let f : ItemRow → ItemRow = λ x. record x { mode = mode } in
    let n = item.0 in
    let g : ItemRow → ItemRow = changed_one item_number n f in
    let parts = three_parts (not (is_common n)) (leb mode 511) (is_some_and (item_of rows n) (λ row. true)) ok in
    let other : n ≢ 0 = eqb-false _ _ (not-true (eqb n 0) parts.0) in
    let small : mode ≤ 511 = leb-true _ _ parts.1 in
    let rise = rises item_number rows.items lawful.item_numbers_rise in
    let same_number : (x : ItemRow) → item_number (g x) ≡ item_number x = λ x. cond_both (eqb (item_number x) n) (f x) x (λ z. item_number z ≡ item_number x) (λ _. refl) (λ _. refl) in
    let new : Rows = record rows { items = map g rows.items } in
    let changed : IsLawful new = record {
      common_region_first = lawful.common_region_first;
      common_item_first = first_mapped g rows.items common_item lawful.common_item_first (cond-false (eqb 0 n) (f common_item) common_item (ne_eqb 0 n (λ e. other (sym e))));
      region_numbers_rise = lawful.region_numbers_rise;
      item_numbers_rise = rising item_number (map g rows.items) (rise_mapped item_number g rows.items same_number rise);
      next_region_bound = lawful.next_region_bound;
      next_item_bound = lawful.next_item_bound;
      regions = All-weaker (IsLawfulRegion rows) (IsLawfulRegion new) (λ x h. region_stands rows new x (omega arith) h) rows.regions lawful.regions;
      items = All-map (IsLawfulItem new) g rows.items (All-weaker (IsLawfulItem rows) (λ x. IsLawfulItem new (g x)) (λ x h.
          let stays = item_stays rows new x (omega arith) (λ r found. found) h in
          cond_both (eqb (item_number x) n) (f x) x (IsLawfulItem new) (λ _. record { number = stays.number; name = stays.name; mode = small; owner = stays.owner; size = stays.size; base = stays.base; inside = stays.inside }) (λ _. stays)) rows.items lawful.items);
      region_names_differ = lawful.region_names_differ;
      items_are_apart = AllPairs_mapped AreApart g rows.items (AllPairs_weaker AreApart (λ a b. AreApart (g a) (g b)) rows.items (λ a b apart.
          cond_both (eqb (item_number a) n) (f a) a (λ z. AreApart z (g b))
          (λ _. cond_both (eqb (item_number b) n) (f b) b (λ z. AreApart (f a) z) (λ _. apart) (λ _. apart))
          (λ _. cond_both (eqb (item_number b) n) (f b) b (λ z. AreApart a z) (λ _. apart) (λ _. apart))) lawful.items_are_apart);
      region_count = lawful.region_count;
      item_count = (let before = lawful.item_count in omega (arith, before, length-map rows.items g));
      total = lawful.total;
    } in
    subst (λ (xs : List ItemRow). IsLawful (record rows { items = xs })) (sym (change_is_map item_number n f rows.items rise)) changed
