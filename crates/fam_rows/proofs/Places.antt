-- What a search finds in rows whose numbers rise.
use Rattle.std.proofs.Common.{◌≡◌, ◌≢◌, ℕ, ◌<◌, ◌≤◌, Bool, eqb, List, [], ◌∷◌, length, get_or, Some, None, Result, Ok, Err, inl, inr, refl, sym, ap, arith}
use mathlib.Core.List.{map}
use Rattle.std.specs.List.{AllPairs, position, position_or_len}
use Rattle.std.specs.List.Sorted.{IsStrictlyIncreasing, IsSearchInRange, IsBinarySearchResult, IsNonDecreasingBy}
use Rattle.std.specs.Ordering.{nat_cmp, ordering_index}
use Rattle.std.specs.Result.{result_ok}
use Rattle.std.proofs.lemmas.Bool.{cases_lt}
use Rattle.std.proofs.lemmas.Bool.Decides.{nat_tests}
use Rattle.std.proofs.lemmas.Cmp.{ranked}
use Rattle.std.proofs.lemmas.List.{get_or-map, length-map}
use Rattle.std.proofs.lemmas.List.Kept.{AllPairs-from_increasing}
use Rattle.std.proofs.lemmas.List.Sums.{position_or_len_is}
use Rattle.fam_model.specs.Lists.{place_of}

-- where the first place that passes is known, `position` gives it
pub position_from : {X : Type 0} (p : X → Bool) (xs : List X) (i : ℕ) → position_or_len p xs ≡ i → i < length xs → position p xs ≡ Some i
position_from p xs i first in_range = grind (arith, nat_tests)

-- where no place passes, `position` gives none
pub position_none : {X : Type 0} (p : X → Bool) (xs : List X) → position_or_len p xs ≡ length xs → position p xs ≡ None
position_none p xs first = grind (arith, nat_tests)

module _ {X : Type 0} (number : X → ℕ) where
  -- each number is below all later ones
  pub rises : (xs : List X) → IsStrictlyIncreasing (map number xs) → AllPairs (λ a b. number a < number b) xs
  rises xs h i j d lt in_range =
      let all = AllPairs-from_increasing (map number xs) h i j (number d) lt (rw (length-map xs number) in_range) in
      let first = get_or-map number xs i d (number d) (omega arith) in
      let second = get_or-map number xs j d (number d) in_range in
      rw (← first, ← second) all

  -- the one element of a number stands at its place
  pub place_at : (xs : List X) → AllPairs (λ a b. number a < number b) xs → (n i : ℕ) (d : X) → i < length xs → number (get_or xs i d) ≡ n → place_of number n xs ≡ Some i
  place_at xs rise n i d in_range is =
      position_from (λ x. eqb (number x) n) xs i
      (position_or_len_is (λ x. eqb (number x) n) xs i d (omega arith)
      (λ k lt. let below = rise k i d lt in_range in grind (arith, nat_tests))
      (λ _. grind (arith, nat_tests)))
      in_range

  -- a number that no element has, has no place
  pub place_none : (xs : List X) (n : ℕ) → ((k : ℕ) (d : X) → k < length xs → number (get_or xs k d) ≢ n) → place_of number n xs ≡ None
  place_none [] n none = refl
  place_none (x ∷ xs) n none = position_none (λ x. eqb (number x) n) (x ∷ xs) (position_or_len_is (λ x. eqb (number x) n) (x ∷ xs) (length (x ∷ xs)) x (omega arith) (λ k lt. let differs = none k x lt in grind (arith, nat_tests)) (λ past. absurd (omega arith)))

  -- comparisons with n rise along the list, as a binary search asks
  comparisons_rise : (xs : List X) → AllPairs (λ a b. number a < number b) xs → (n : ℕ) → IsNonDecreasingBy (λ x. ordering_index (nat_cmp (number x) n)) xs
  comparisons_rise xs rise n i j d le in_range =
      let numbers : number (get_or xs i d) ≤ number (get_or xs j d) = grind (arith, rise i j d, λ (same : i ≡ j). ap (λ k. number (get_or xs k d)) same) in
      grind (arith, nat_tests)

  -- a binary search for a number ends at its place, or finds that it has none
  pub searched : (xs : List X) → IsStrictlyIncreasing (map number xs) → (n : ℕ) (r : Result ℕ ℕ) → IsSearchInRange r (length xs) → IsBinarySearchResult (λ x. nat_cmp (number x) n) xs r → result_ok r ≡ place_of number n xs
  searched [] h n (Ok at) in_range equal = absurd (omega (arith, in_range))
  searched (x ∷ xs) h n (Ok at) in_range equal =
      sym (place_at (x ∷ xs) (rises (x ∷ xs) h) n at x in_range (ranked _ n _ (sym (equal x))))
  searched xs h n (Err at) in_range parted =
      let around = parted (comparisons_rise xs (rises xs h) n) in
      sym (place_none xs n (λ k d lt same. elim (cases_lt k at) [
        | inl below ↦ let less : number (get_or xs k d) < n = ranked _ n _ (sym (around.0 k d (omega arith) below)) in omega arith
        | inr above ↦ let more : n < number (get_or xs k d) = ranked _ n _ (sym (around.1 k d above lt)) in omega arith
      ]))
