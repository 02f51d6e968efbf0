-- Where an element of a list in order of number stands.
use Rattle.std.proofs.Common.{◌≡◌, ℕ, ◌<◌, List, length, get_or, map, Result, Ok, Err, true, false, sym, ap, arith, refl, [], ◌∷◌, inl, inr}
use Rattle.std.specs.Prelude.{◌==◌, nat_lt}
use Rattle.std.specs.Result.{result_ok}
use Rattle.std.specs.List.{position_or_len, AllPairs}
use Rattle.std.specs.List.Sorted.{IsSearchInRange, IsBinarySearchResult, IsNonDecreasingBy, IsStrictlyIncreasing}
use Rattle.std.specs.Ordering.{nat_cmp, ordering_index}
use Rattle.std.specs.declared.cmp.Ordering.TheVariants.{Equal}
use Rattle.std.proofs.lemmas.Bool.{cases_lt}
use Rattle.std.proofs.lemmas.Cmp.{ranked}
use Rattle.std.proofs.lemmas.Bool.Decides.{nat_tests}
use Rattle.std.proofs.lemmas.List.{get_or-map, length-map}
use Rattle.std.proofs.lemmas.List.Kept.{AllPairs-from_increasing}
use Rattle.std.proofs.lemmas.List.Sums.{position_or_len_is}
use Rattle.fam_model.specs.Lists.{place_of}

-- an earlier number is below a later one
pub below : {A : Type 0} (number : A → ℕ) (xs : List A) → IsStrictlyIncreasing (map number xs) → (i j : ℕ) (d : A) → i < j → j < length xs → number (get_or xs i d) < number (get_or xs j d)
below number xs rise i j d lt within =
    let pairs : AllPairs (λ x y. x < y) (map number xs) = AllPairs-from_increasing _ rise in
    let there : j < length (map number xs) = rw (length-map xs number) within in
    let less : get_or (map number xs) i 0 < get_or (map number xs) j 0 = pairs i j 0 lt there in
    let first : get_or (map number xs) i 0 ≡ number (get_or xs i d) = get_or-map number xs i d 0 (omega arith) in
    let second : get_or (map number xs) j 0 ≡ number (get_or xs j d) = get_or-map number xs j d 0 within in
    omega arith

module _ {A : Type 0} (number : A → ℕ) (n : ℕ) (xs : List A) (rise : IsStrictlyIncreasing (map number xs)) where
  -- comparisons with a number rise along the list
  comparisons_rise : IsNonDecreasingBy (λ x. ordering_index (nat_cmp (number x) n)) xs
  comparisons_rise i j d le within =
      let less = below number xs rise i j d in
      let same : i ≡ j → number (get_or xs i d) ≡ number (get_or xs j d) = λ e. ap (λ k. number (get_or xs k d)) e in
      grind (arith, nat_tests)

  -- a test for the number, at a place whose number compares so
  passes : (x : A) → nat_cmp (number x) n ≡ Equal → (number x == n) ≡ true
  passes x e = let same : number x ≡ n = ranked (number x) n _ (sym e) in grind (arith, nat_tests)

  fails : (x : A) → number x < n → (number x == n) ≡ false
  fails x e = grind (arith, nat_tests)

  fails_above : (x : A) → n < number x → (number x == n) ≡ false
  fails_above x e = grind (arith, nat_tests)

  -- where a search ends that has an element to compare with
  found_with : (d : A) (r : Result ℕ ℕ) → IsSearchInRange r (length xs) → IsBinarySearchResult (λ x. nat_cmp (number x) n) xs r → place_of number n xs ≡ result_ok r
  found_with d (Ok at) within equal =
      let here : number (get_or xs at d) ≡ n = ranked _ n _ (sym (equal d)) in
      let first : position_or_len (λ x. number x == n) xs ≡ at =
      position_or_len_is (λ x. number x == n) xs at d (omega arith)
      (λ k lt. fails (get_or xs k d) (let less = below number xs rise k at d lt within in omega arith))
      (λ lt. passes (get_or xs at d) (equal d))
      in
      let test : nat_lt at (length xs) ≡ true = grind (arith, nat_tests) in
      rw (first, test) refl
  found_with d (Err at) within parted =
      let parts = parted comparisons_rise in
      let none : position_or_len (λ x. number x == n) xs ≡ length xs =
      position_or_len_is (λ x. number x == n) xs (length xs) d (omega arith)
      (λ k lt. elim (cases_lt k at) [
        | inl before ↦ fails (get_or xs k d) (ranked _ n _ (sym (parts.0 k d (omega arith) before)))
        | inr after ↦ fails_above (get_or xs k d) (ranked _ n _ (sym (parts.1 k d after lt)))
      ])
      (λ lt. absurd (omega arith))
      in
      let test : nat_lt (length xs) (length xs) ≡ false = grind (arith, nat_tests) in
      rw (none, test) refl

-- the first place of a number is where a search finds it
pub place_found : {A : Type 0} (number : A → ℕ) (n : ℕ) (xs : List A) → IsStrictlyIncreasing (map number xs) → (r : Result ℕ ℕ) → IsSearchInRange r (length xs) → IsBinarySearchResult (λ x. nat_cmp (number x) n) xs r → place_of number n xs ≡ result_ok r
place_found number n [] rise (Ok at) within equal = absurd (omega (arith, within))
place_found number n [] rise (Err at) within parted = refl
place_found number n (x ∷ xs) rise r within searched = found_with number n (x ∷ xs) rise x r within searched
