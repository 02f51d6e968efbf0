-- Numbers are never used again.
use Rattle.std.proofs.Common.{◌≡◌, ℕ, ◌+◌, Bool, true, eqb, ltb, leb, List, [], ◌∷◌, ◌++◌, length, get_or, None, is_none, refl, sym, ◌∙◌, subst, arith}
use mathlib.Core.List.{map}
use Rattle.std.specs.List.{All, filter}
use Rattle.std.proofs.lemmas.Bool.{both_ways, and_parts, eq-eqb, eqb-true, leb-true, cond_both}
use Rattle.std.proofs.lemmas.List.Elements.{All-push, All-filter, All-map}
use Rattle.fam_model.specs.declared.change.Change.{Change}
use Rattle.fam_model.specs.declared.change.Change.TheVariants as change
use Rattle.fam_model.specs.declared.rows.Rows.{Rows}
use Rattle.fam_model.specs.Lawful.{is_lawful_change, is_good_row, is_next_number}
use Rattle.fam_model.specs.Limits.{max_items, max_regions, max_total_size, number_end}
use Rattle.fam_model.specs.Lists.{find_number, is_some_and, change_number}
use Rattle.fam_model.specs.Rows.{IsLawful, region_named, item_named, total_size, fits, region_of, region_number, item_number}
use Rattle.fam_rows.specs.Laws.{NumbersAreNew}
use Rattle.fam_rows.proofs.Edits.{All_unfound, Rise, changed_one, change_is_map}
use Rattle.fam_rows.proofs.Places.{rises}
use Rattle.fam_rows.proofs.Searches.{find_number_is}
use Rattle.fam_rows.proofs.Standing.{four_parts, five_parts}

module _ {X : Type 0} (number : X → ℕ) (rows : List X) (next : ℕ) where
  -- a row is one of these or has the next number
  abbrev pub IsOldOrNext : X → Type 0
  IsOldOrNext x = find_number number (number x) rows ≡ None → number x ≡ next

  -- each row is there by its number
  pub old_rows : All IsOldOrNext rows
  old_rows k d in_range none =
      let x = get_or rows k d in
      let fails = All_unfound (λ z. eqb (number z) (number x)) rows (sym (find_number_is number (number x) rows) ∙ none) k d in_range in
      absurd (both_ways (eqb (number x) (number x)) fails (eq-eqb (number x) (number x) refl))

  -- a new row at the end has the next number
  pub grown_rows : (x : X) → number x ≡ next → All IsOldOrNext (rows ++ x ∷ [])
  grown_rows x same = All-push IsOldOrNext rows x old_rows (λ _. same)

  -- rows that stay have their numbers
  pub kept_rows : (p : X → Bool) → All IsOldOrNext (filter p rows)
  kept_rows p = All-filter p IsOldOrNext rows old_rows

  -- a row that is changed keeps its number
  pub changed_rows : (n : ℕ) (f : X → X) → ((x : X) → number (f x) ≡ number x) → Rise number rows → All IsOldOrNext (change_number number n f rows)
  changed_rows n f same rise =
      let each : (x : X) → number (changed_one number n f x) ≡ number x = λ x. cond_both (eqb (number x) n) (f x) x (λ z. number z ≡ number x) (λ _. same x) (λ _. refl) in
      let mapped : All IsOldOrNext (map (changed_one number n f) rows) = All-map IsOldOrNext (changed_one number n f) rows (λ k d in_range. subst (λ (m : ℕ). find_number number m rows ≡ None → m ≡ next) (sym (each (get_or rows k d))) (old_rows k d in_range)) in
      subst (λ (xs : List X). All IsOldOrNext xs) (sym (change_is_map number n f rows rise)) mapped

-- each kind of change
pub numbers_are_new : (rows : Rows) (chosen : Change) → IsLawful rows → is_lawful_change rows chosen ≡ true → NumbersAreNew rows chosen
numbers_are_new rows (change.CreateRegion region uid gid mode size name) lawful ok =
    let parts = five_parts (is_next_number region.0 rows.next_region) (is_good_row uid mode size name) (is_none (region_named rows name)) (ltb (length rows.regions) max_regions) (leb (total_size rows + size) max_total_size) ok in
    let next : region.0 ≡ rows.next_region = eqb-true _ _ (and_parts (eqb region.0 rows.next_region) (ltb region.0 number_end) parts.0).0 in
    record { next_region = omega arith; next_item = omega arith; region = grown_rows region_number rows.regions rows.next_region _ next; item = old_rows item_number rows.items rows.next_item }
numbers_are_new rows (change.DestroyRegion region) lawful ok =
    record { next_region = omega arith; next_item = omega arith; region = kept_rows region_number rows.regions rows.next_region _; item = kept_rows item_number rows.items rows.next_item _ }
numbers_are_new rows (change.ResizeRegion region size) lawful ok =
    record { next_region = omega arith; next_item = omega arith; region = changed_rows region_number rows.regions rows.next_region region.0 _ (λ x. refl) (rises region_number rows.regions lawful.region_numbers_rise); item = old_rows item_number rows.items rows.next_item }
numbers_are_new rows (change.SetRegionMode region mode) lawful ok =
    record { next_region = omega arith; next_item = omega arith; region = changed_rows region_number rows.regions rows.next_region region.0 _ (λ x. refl) (rises region_number rows.regions lawful.region_numbers_rise); item = old_rows item_number rows.items rows.next_item }
numbers_are_new rows (change.Allocate item region base size uid gid mode name) lawful ok =
    let parts = five_parts (is_next_number item.0 rows.next_item) (is_good_row uid mode size name) (is_none (item_named rows region.0 name)) (ltb (length rows.items) max_items) (is_some_and (region_of rows region.0) (λ row. fits rows row size base)) ok in
    let next : item.0 ≡ rows.next_item = eqb-true _ _ (and_parts (eqb item.0 rows.next_item) (ltb item.0 number_end) parts.0).0 in
    record { next_region = omega arith; next_item = omega arith; region = old_rows region_number rows.regions rows.next_region; item = grown_rows item_number rows.items rows.next_item _ next }
numbers_are_new rows (change.Deallocate item) lawful ok =
    record { next_region = omega arith; next_item = omega arith; region = old_rows region_number rows.regions rows.next_region; item = kept_rows item_number rows.items rows.next_item _ }
numbers_are_new rows (change.SetItemMode item mode) lawful ok =
    record { next_region = omega arith; next_item = omega arith; region = old_rows region_number rows.regions rows.next_region; item = changed_rows item_number rows.items rows.next_item item.0 _ (λ x. refl) (rises item_number rows.items lawful.item_numbers_rise) }
numbers_are_new rows (change.Skip next_region next_item) lawful ok =
    let parts = four_parts (leb rows.next_region next_region) (leb next_region number_end) (leb rows.next_item next_item) (leb next_item number_end) ok in
    record { next_region = leb-true _ _ parts.0; next_item = leb-true _ _ parts.2; region = old_rows region_number rows.regions rows.next_region; item = old_rows item_number rows.items rows.next_item }
