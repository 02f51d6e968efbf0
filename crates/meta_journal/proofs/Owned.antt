-- The rows that the short form makes: all but the common ones.
use Rattle.std.proofs.Common.{◌≡◌, ℕ, ◌+◌, ◌<◌, ◌≤◌, List, [], ◌∷◌, drop, refl, sym, subst, arith}
use Rattle.std.specs.Prelude.{Some}
use Rattle.std.specs.List.{All, AllPairs, slice_get}
use Rattle.std.proofs.lemmas.List.Elements.{All-head, All-tail, All-cons, All-nil}
use Rattle.fam_model.specs.declared.rows.Rows.{Rows}
use Rattle.fam_model.specs.Limits.{number_end}
use Rattle.fam_model.specs.Rows.{IsLawful, IsLawfulRegion, IsLawfulItem, common_region, common_item, region_number, item_number}
use Rattle.fam_rows.proofs.Places.{rises}
use Rattle.meta_journal.specs.Writing.{IsOwnRow, Rises, next_behind}
use Rattle.meta_journal.proofs.Lists.{with_first_one, rises_on}

-- all but the common one rise from 1 on
pub own_rise : {X : Type 0} (number : X → ℕ) (xs : List X) (x : X) → slice_get xs 0 ≡ Some x → number x ≡ 0 → AllPairs (λ a b. number a < number b) xs → Rises number 1 (drop 1 xs)
own_rise number xs x first zero_is rise =
    let whole = rises_on number 0 (x ∷ drop 1 xs) (λ k d in_range. omega arith) (subst (λ ys. AllPairs (λ a b. number a < number b) ys) (sym (with_first_one xs x first)) rise) in
    subst (λ (n : ℕ). Rises number (n + 1) (drop 1 xs)) zero_is whole.1

above : {X : Type 0} (number : X → ℕ) (m n : ℕ) (xs : List X) → m ≤ n → Rises number n xs → All (λ x. m ≤ number x) xs
above number m n [] le rise = All-nil (λ x. m ≤ number x)
above number m n (x ∷ xs) le (here, rest) = All-cons (λ y. m ≤ number y) x xs (omega (arith, le, here)) (above number m (number x + 1) xs (omega (arith, le, here)) rest)

pub behind_bound : {X : Type 0} (number : X → ℕ) (n m : ℕ) (xs : List X) → n ≤ m → All (λ x. number x < m) xs → next_behind number n xs ≤ m
behind_bound number n m [] le all = le
behind_bound number n m (x ∷ xs) le all =
    behind_bound number (number x + 1) m xs (let here = All-head (λ y. number y < m) x xs all in omega (arith, here)) (All-tail (λ y. number y < m) x xs all)

module _ (rows : Rows) (lawful : IsLawful rows) where
  pub regions_rise : Rises region_number 1 (drop 1 rows.regions)
  regions_rise = own_rise region_number rows.regions common_region lawful.common_region_first refl (rises region_number rows.regions lawful.region_numbers_rise)

  pub items_rise : Rises item_number 1 (drop 1 rows.items)
  items_rise = own_rise item_number rows.items common_item lawful.common_item_first refl (rises item_number rows.items lawful.item_numbers_rise)

  lawful_regions : All (IsLawfulRegion rows) (drop 1 rows.regions)
  lawful_regions = All-tail (IsLawfulRegion rows) common_region (drop 1 rows.regions)
      (subst (λ xs. All (IsLawfulRegion rows) xs) (sym (with_first_one rows.regions common_region lawful.common_region_first)) lawful.regions)

  lawful_items : All (IsLawfulItem rows) (drop 1 rows.items)
  lawful_items = All-tail (IsLawfulItem rows) common_item (drop 1 rows.items)
      (subst (λ xs. All (IsLawfulItem rows) xs) (sym (with_first_one rows.items common_item lawful.common_item_first)) lawful.items)

  pub regions_below : All (λ row. region_number row < rows.next_region) (drop 1 rows.regions)
  regions_below k d in_range = let law = lawful_regions k d in_range in law.number

  pub items_below : All (λ row. item_number row < rows.next_item) (drop 1 rows.items)
  items_below k d in_range = let law = lawful_items k d in_range in law.number

  pub regions_end : All (λ row. region_number row < number_end) (drop 1 rows.regions)
  regions_end k d in_range = let below = regions_below k d in_range in omega (arith, below, lawful.next_region_bound)

  pub items_end : All (λ row. item_number row < number_end) (drop 1 rows.items)
  items_end k d in_range = let below = items_below k d in_range in omega (arith, below, lawful.next_item_bound)

  pub own_regions : All (λ row. IsOwnRow row.uid row.name) (drop 1 rows.regions)
  own_regions k d in_range =
      let law = lawful_regions k d in_range in
      let least = above region_number 1 1 (drop 1 rows.regions) (omega arith) regions_rise k d in_range in
      record { user = law.owner (λ zero_is. absurd (omega (arith, zero_is, least))); named = law.name }

  pub own_items : All (λ row. IsOwnRow row.uid row.name) (drop 1 rows.items)
  own_items k d in_range =
      let law = lawful_items k d in_range in
      let least = above item_number 1 1 (drop 1 rows.items) (omega arith) items_rise k d in_range in
      record { user = law.owner (λ zero_is. absurd (omega (arith, zero_is, least))); named = law.name }

  pub next_region_fits : next_behind region_number 1 (drop 1 rows.regions) ≤ rows.next_region
  next_region_fits =
      let first = with_first_one rows.regions common_region lawful.common_region_first in
      let common = All-head (IsLawfulRegion rows) common_region (drop 1 rows.regions) (subst (λ xs. All (IsLawfulRegion rows) xs) (sym first) lawful.regions) in
      let number = common.number in
      behind_bound region_number 1 rows.next_region (drop 1 rows.regions) (omega (arith, number)) regions_below

  pub next_item_fits : next_behind item_number 1 (drop 1 rows.items) ≤ rows.next_item
  next_item_fits =
      let first = with_first_one rows.items common_item lawful.common_item_first in
      let common = All-head (IsLawfulItem rows) common_item (drop 1 rows.items) (subst (λ xs. All (IsLawfulItem rows) xs) (sym first) lawful.items) in
      let number = common.number in
      behind_bound item_number 1 rows.next_item (drop 1 rows.items) (omega (arith, number)) items_below
