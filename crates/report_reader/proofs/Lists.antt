-- Lists whose elements are taken one after another.
use Rattle.std.proofs.Common.{◌≡◌, ℕ, suc, ◌+◌, ◌-◌, ◌<◌, Bool, true, false, cond, List, [], ◌∷◌, ◌++◌, length, drop, get_or, Option, Some, is_none, refl, ap, subst, ◌∙◌, arith}
use Rattle.std.specs.Prelude.{◌==◌, ◌&&◌, AllPairs, All, slice_get}
use Rattle.std.specs.List.{filter, find, list_all}
use Rattle.std.proofs.lemmas.Bool.Decides.{nat_tests}
use Rattle.std.proofs.lemmas.List.{get_or_append_left, get_or_at, get_or-append-add, length-append}

pub not_zero : (n : ℕ) → (suc n == 0) ≡ false
not_zero n = grind (arith, nat_tests)

pub one_less : (n : ℕ) → suc n - 1 ≡ n
one_less n = omega arith

module _ {X : Type 0} where
  longer : (done : List X) (row : X) (more : List X) → length (done ++ row ∷ more) ≡ length done + suc (length more)
  longer done row more = length-append done (row ∷ more)

  -- what holds of an element and each one before it
  pub pairs_before : (R : X → X → Type 0) (done : List X) (row : X) (more : List X) → AllPairs R (done ++ row ∷ more) → (k : ℕ) (d : X) → k < length done → R (get_or done k d) row
  pairs_before R done row more all k d low =
      subst (λ x. R x row) (get_or_append_left done (row ∷ more) d k low)
      (subst (λ y. R (get_or (done ++ row ∷ more) k d) y) (get_or_at done row more d (length done) refl)
      (all k (length done) d low (omega (arith, longer done row more))))

  -- and each one behind it
  pub pairs_behind : (R : X → X → Type 0) (done : List X) (row : X) (more : List X) → AllPairs R (done ++ row ∷ more) → (k : ℕ) (d : X) → k < length more → R row (get_or more k d)
  pairs_behind R done row more all k d low =
      subst (λ x. R x (get_or more k d)) (get_or_at done row more d (length done) refl)
      (subst (λ y. R (get_or (done ++ row ∷ more) (length done) d) y) (get_or-append-add done (row ∷ more) (suc k) d)
      (all (length done) (length done + suc k) d (omega arith) (omega (arith, low, longer done row more))))

  -- what holds of each element holds of this one
  pub holds_of : (P : X → Type 0) (done : List X) (row : X) (more : List X) → All P (done ++ row ∷ more) → P row
  holds_of P done row more all =
      subst P (get_or_at done row more row (length done) refl) (all (length done) row (omega (arith, longer done row more)))

  pub passes_of : (p : X → Bool) (done : List X) (row : X) (more : List X) → list_all p (done ++ row ∷ more) ≡ true → p row ≡ true
  passes_of p [] row more e = left (p row) (list_all p more) e
    where
      left : (b c : Bool) → (b && c) ≡ true → b ≡ true
      left true c h = refl
      left false c h = cc
  passes_of p (x ∷ done) row more e = passes_of p done row more (right (p x) (list_all p (done ++ row ∷ more)) e)
    where
      right : (b c : Bool) → (b && c) ≡ true → c ≡ true
      right true c h = h
      right false c h = cc

  -- the first element
  pub first_is : (xs : List X) (x : X) → slice_get xs 0 ≡ Some x → xs ≡ x ∷ drop 1 xs
  first_is [] x e = absurd cc
  first_is (y ∷ xs) x e =
      let same : y ≡ x = cc in ap (λ (z : X). z ∷ xs) same

  -- nothing is found where nothing passes
  pub none_found : (p : X → Bool) (xs : List X) → ((k : ℕ) (d : X) → k < length xs → p (get_or xs k d) ≡ false) → is_none (find p xs) ≡ true
  none_found p [] h = refl
  none_found p (x ∷ xs) h =
      ap (λ (b : Bool). is_none (cond b (some x) (find p xs))) (h 0 x (omega arith)) ∙ none_found p xs (λ k d low. h (suc k) d (omega arith))
    where
      some : X → Option X
      some x = Some x

  -- nor among those that are kept
  pub none_kept : (p q : X → Bool) (xs : List X) → ((k : ℕ) (d : X) → k < length xs → q (get_or xs k d) ≡ true → p (get_or xs k d) ≡ false) → is_none (find p (filter q xs)) ≡ true
  none_kept p q [] h = refl
  none_kept p q (x ∷ xs) h = by_test (q x) refl (none_kept p q xs (λ k d low. h (suc k) d (omega arith)))
    where
      some : X → Option X
      some x = Some x

      by_test : (b : Bool) → q x ≡ b → is_none (find p (filter q xs)) ≡ true → is_none (find p (cond b (x ∷ filter q xs) (filter q xs))) ≡ true
      by_test true e others = ap (λ (t : Bool). is_none (cond t (some x) (find p (filter q xs)))) (h 0 x (omega arith) e) ∙ others
      by_test false e others = others

  -- all that are kept pass
  pub all_kept : (p q : X → Bool) (xs : List X) → ((k : ℕ) (d : X) → k < length xs → q (get_or xs k d) ≡ true → p (get_or xs k d) ≡ true) → list_all p (filter q xs) ≡ true
  all_kept p q [] h = refl
  all_kept p q (x ∷ xs) h = by_test (q x) refl (all_kept p q xs (λ k d low. h (suc k) d (omega arith)))
    where
      by_test : (b : Bool) → q x ≡ b → list_all p (filter q xs) ≡ true → list_all p (cond b (x ∷ filter q xs) (filter q xs)) ≡ true
      by_test true e others = ap (λ (t : Bool). t && list_all p (filter q xs)) (h 0 x (omega arith) e) ∙ others
      by_test false e others = others

  -- nothing is left out where all pass
  pub kept_whole : (p : X → Bool) (xs : List X) → ((k : ℕ) (d : X) → k < length xs → p (get_or xs k d) ≡ true) → filter p xs ≡ xs
  kept_whole p [] h = refl
  kept_whole p (x ∷ xs) h =
      ap (λ (b : Bool). cond b (x ∷ filter p xs) (filter p xs)) (h 0 x (omega arith))
      ∙ ap (λ (l : List X). x ∷ l) (kept_whole p xs (λ k d low. h (suc k) d (omega arith)))
