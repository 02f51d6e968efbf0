-- Lists that grow, lose elements, or have one element changed.
use Rattle.std.proofs.Common.{◌≡◌, ◌≢◌, ℕ, suc, ◌+◌, ◌<◌, ◌≤◌, Bool, true, false, cond, eqb, List, [], ◌∷◌, ◌++◌, length, get_or, Option, Some, None, inl, inr, refl, sym, ap, ◌∙◌, arith}
use mathlib.Core.Bool.{not}
use mathlib.Core.List.{map}
use Rattle.std.specs.List.{All, AllPairs, filter, find, list_any, position, position_or_len, slice_get, sum_by}
use Rattle.std.specs.List.Sorted.{IsStrictlyIncreasing}
use Rattle.std.specs.Option.{option_map, option_map_or}
use Rattle.std.proofs.lemmas.Bool.{false≢true, cases_Bool, cases_eq, cases_lt, or_parts, eq-eqb, ne_eqb, cond-true, cond-false}
use Rattle.std.proofs.lemmas.List.{get_or-map, length-map}
use Rattle.std.proofs.lemmas.List.Elements.{All-head, All-tail, All-cons, All-nil}
use Rattle.std.proofs.lemmas.List.Folds.{find-append}
use Rattle.std.proofs.lemmas.List.Sums.{sum_by-cons, prefix_len-le-length}
use Rattle.std.proofs.lemmas.Option.{slice_get-get_or}
use Rattle.fam_model.specs.Lists.{change_number, change_place}
use Rattle.fam_rows.proofs.Places.{position_from, position_none}

-- no element passes where none is found
pub All_unfound : {X : Type 0} (p : X → Bool) (xs : List X) → find p xs ≡ None → All (λ x. p x ≡ false) xs
All_unfound p [] e = All-nil (λ x. p x ≡ false)
All_unfound p (x ∷ xs) e = elim (cases_Bool (p x)) [
  | inl holds ↦ absurd (cc (rw holds at e))
  | inr fails ↦ All-cons (λ y. p y ≡ false) x xs fails (All_unfound p xs (rw fails at e))
]

-- no element passes where none does
pub All_without_any : {X : Type 0} (p : X → Bool) (xs : List X) → list_any p xs ≡ false → All (λ x. p x ≡ false) xs
All_without_any p [] e = All-nil (λ x. p x ≡ false)
All_without_any p (x ∷ xs) e =
    let parts = or_parts (p x) (list_any p xs) e in
    All-cons (λ y. p y ≡ false) x xs parts.0 (All_without_any p xs parts.1)

-- what holds of the elements that a filter keeps, holds of all that pass
pub All_kept : {X : Type 0} (P : X → Type 0) (p : X → Bool) (xs : List X) → All P (filter p xs) → All (λ x. p x ≡ true → P x) xs
All_kept P p [] all = All-nil (λ x. p x ≡ true → P x)
All_kept P p (x ∷ xs) all = elim (cases_Bool (p x)) [
  | inl holds ↦
      let kept : All P (x ∷ filter p xs) = rw holds at all in
      All-cons (λ y. p y ≡ true → P y) x xs (λ _. All-head P x (filter p xs) kept) (All_kept P p xs (All-tail P x (filter p xs) kept))
  | inr fails ↦ All-cons (λ y. p y ≡ true → P y) x xs (λ holds. absurd (false≢true (sym fails ∙ holds))) (All_kept P p xs (rw fails at all))
]

-- a filter that keeps what is sought does not change what is found
pub find_kept : {X : Type 0} (p q : X → Bool) (xs : List X) → ((x : X) → q x ≡ true → p x ≡ true) → find q (filter p xs) ≡ find q xs
find_kept p q [] keeps = refl
find_kept p q (x ∷ xs) keeps = elim (cases_Bool (q x)) [
  | inl sought ↦ rw (keeps x sought, sought) refl
  | inr other ↦ elim (cases_Bool (p x)) [
    | inl holds ↦ rw (holds, other) (find_kept p q xs keeps)
    | inr fails ↦ rw (fails, other) (find_kept p q xs keeps)
  ]
]

-- what is found stays found where a list grows at its end
pub find_grown : {X : Type 0} (p : X → Bool) (xs ys : List X) (x : X) → find p xs ≡ Some x → find p (xs ++ ys) ≡ Some x
find_grown p xs ys x e = rw (find-append p xs ys, e) refl

-- the first element is found where it passes
pub find_first : {X : Type 0} (p : X → Bool) (xs : List X) (x : X) → slice_get xs 0 ≡ Some x → p x ≡ true → find p xs ≡ Some x
find_first p [] x first passes = absurd (cc first)
find_first p (y ∷ xs) x first passes =
    let here : y ≡ x = cc first in
    rw (here, passes) refl

-- the first element stays first
pub first_kept : {X : Type 0} (p : X → Bool) (xs : List X) (x : X) → slice_get xs 0 ≡ Some x → p x ≡ true → slice_get (filter p xs) 0 ≡ Some x
first_kept p [] x first passes = absurd (cc first)
first_kept p (y ∷ xs) x first passes =
    let here : y ≡ x = cc first in
    rw (here, passes) refl

pub first_grown : {X : Type 0} (xs ys : List X) (x : X) → slice_get xs 0 ≡ Some x → slice_get (xs ++ ys) 0 ≡ Some x
first_grown [] ys x first = absurd (cc first)
first_grown (y ∷ xs) ys x first = first

pub first_mapped : {X : Type 0} (g : X → X) (xs : List X) (x : X) → slice_get xs 0 ≡ Some x → g x ≡ x → slice_get (map g xs) 0 ≡ Some x
first_mapped g [] x first same = absurd (cc first)
first_mapped g (y ∷ xs) x first same =
    let here : y ≡ x = cc first in
    ap Some (ap g here ∙ same)

-- a filter takes elements away
pub length_kept : {X : Type 0} (p : X → Bool) (xs : List X) → length (filter p xs) ≤ length xs
length_kept p [] = omega arith
length_kept p (x ∷ xs) = elim (cases_Bool (p x)) [
  | inl holds ↦ rw holds (let rest = length_kept p xs in omega (arith, rest))
  | inr fails ↦ rw fails (let rest = length_kept p xs in omega (arith, rest))
]

pub sum_kept : {X : Type 0} (f : X → ℕ) (p : X → Bool) (xs : List X) → sum_by f (filter p xs) ≤ sum_by f xs
sum_kept f p [] = omega arith
sum_kept f p (x ∷ xs) = elim (cases_Bool (p x)) [
  | inl holds ↦ rw holds (let rest = sum_kept f p xs in omega (arith, rest, sum_by-cons f x (filter p xs), sum_by-cons f x xs))
  | inr fails ↦ rw fails (let rest = sum_kept f p xs in omega (arith, rest, sum_by-cons f x xs))
]

-- pairs of elements, each as a function leaves it
pub AllPairs_mapped : {X : Type 0} (R : X → X → Type 0) (g : X → X) (xs : List X) → AllPairs (λ a b. R (g a) (g b)) xs → AllPairs R (map g xs)
AllPairs_mapped R g xs all i j d lt in_range =
    let inside : j < length xs = rw (length-map xs g) at in_range in
    rw (get_or-map g xs i d d (omega arith), get_or-map g xs j d d inside) (all i j d lt inside)

pub AllPairs_weaker : {X : Type 0} (R S : X → X → Type 0) (xs : List X) → ((a b : X) → R a b → S a b) → AllPairs R xs → AllPairs S xs
AllPairs_weaker R S xs weaker all i j d lt in_range = weaker (get_or xs i d) (get_or xs j d) (all i j d lt in_range)

module _ {X : Type 0} (number : X → ℕ) where
  -- each number is below all later ones
  abbrev pub Rise : List X → Type 0
  Rise xs = AllPairs (λ a b. number a < number b) xs

  pub rising : (xs : List X) → Rise xs → IsStrictlyIncreasing (map number xs)
  rising [] rise k in_range = absurd (omega arith)
  rising (x ∷ xs) rise k in_range =
      let inside : k + 1 < length (x ∷ xs) = rw (length-map (x ∷ xs) number) at in_range in
      rw (get_or-map number (x ∷ xs) k x 0 (omega arith), get_or-map number (x ∷ xs) (k + 1) x 0 inside) (rise k (k + 1) x (omega arith) inside)

  pub rise_tail : (x : X) (xs : List X) → Rise (x ∷ xs) → Rise xs
  rise_tail x xs rise i j d lt in_range = rise (suc i) (suc j) d (omega arith) (omega arith)

  -- the numbers behind the first one are above it
  pub above_first : (x : X) (xs : List X) → Rise (x ∷ xs) → All (λ y. number x < number y) xs
  above_first x xs rise k d in_range = rise 0 (suc k) d (omega arith) (omega arith)

  -- the element of a number as f leaves it, and all others as they are
  abbrev pub changed_one : ℕ → (X → X) → X → X
  changed_one n f x = cond (eqb (number x) n) (f x) x

  -- where no element has the number, nothing changes
  pub unchanged : (n : ℕ) (f : X → X) (xs : List X) → All (λ x. number x ≢ n) xs → map (changed_one n f) xs ≡ xs
  unchanged n f [] none = refl
  unchanged n f (x ∷ xs) none =
      let here : changed_one n f x ≡ x = cond-false (eqb (number x) n) (f x) x (ne_eqb (number x) n (All-head (λ y. number y ≢ n) x xs none)) in
      let rest = unchanged n f xs (All-tail (λ y. number y ≢ n) x xs none) in
      cc (here, rest)

  -- a list whose first element has the number
  change_first : (n : ℕ) (f : X → X) (x : X) (xs : List X) → number x ≡ n → change_number number n f (x ∷ xs) ≡ f x ∷ xs
  change_first n f x xs same =
      let test = eq-eqb (number x) n same in
      let p : X → Bool = λ y. eqb (number y) n in
      let first : position_or_len p (x ∷ xs) ≡ 0 = rw test refl in
      let place : position p (x ∷ xs) ≡ Some 0 = position_from p (x ∷ xs) 0 first (omega arith) in
      ap (λ o. option_map_or (λ k. change_place k f (x ∷ xs)) o (x ∷ xs)) place

  -- a list whose first element has another number
  change_later : (n : ℕ) (f : X → X) (x : X) (xs : List X) → number x ≢ n → change_number number n f (x ∷ xs) ≡ x ∷ change_number number n f xs
  change_later n f x xs other =
      let test = ne_eqb (number x) n other in
      let p : X → Bool = λ y. eqb (number y) n in
      let first : position_or_len p (x ∷ xs) ≡ 1 + position_or_len p xs = rw test refl in
      let long : Option ℕ → List X = λ o. option_map_or (λ k. change_place k f (x ∷ xs)) o (x ∷ xs) in
      let short : Option ℕ → List X = λ o. option_map_or (λ k. change_place k f xs) o xs in
      elim (cases_lt (position_or_len p xs) (length xs)) [
        | inl inside ↦
            let place : position p (x ∷ xs) ≡ Some (suc (position_or_len p xs)) = position_from p (x ∷ xs) (suc (position_or_len p xs)) (omega (arith, first)) (omega arith) in
            let later : position p xs ≡ Some (position_or_len p xs) = position_from p xs (position_or_len p xs) refl inside in
            let read = slice_get-get_or xs (position_or_len p xs) x inside in
            let one : long (Some (suc (position_or_len p xs))) ≡ x ∷ short (Some (position_or_len p xs)) = rw read refl in
            ap long place ∙ one ∙ sym (ap (λ o. x ∷ short o) later)
        | inr past ↦
            let place : position p (x ∷ xs) ≡ None = position_none p (x ∷ xs) (omega (arith, first, prefix_len-le-length (λ y. not (p y)) xs)) in
            let later : position p xs ≡ None = position_none p xs (omega (arith, prefix_len-le-length (λ y. not (p y)) xs)) in
            ap long place ∙ sym (ap (λ o. x ∷ short o) later)
      ]

  -- the change of the element of a number, element by element
  pub change_is_map : (n : ℕ) (f : X → X) (xs : List X) → Rise xs → change_number number n f xs ≡ map (changed_one n f) xs
  change_is_map n f [] rise = refl
  change_is_map n f (x ∷ xs) rise = elim (cases_eq (number x) n) [
    | inl same ↦
        let here : changed_one n f x ≡ f x = cond-true (eqb (number x) n) (f x) x (eq-eqb (number x) n same) in
        let above = above_first x xs rise in
        let rest : map (changed_one n f) xs ≡ xs = unchanged n f xs (λ k d in_range equal. (let more = above k d in_range in omega arith)) in
        change_first n f x xs same ∙ cc (here, rest)
    | inr other ↦
        let here : changed_one n f x ≡ x = cond-false (eqb (number x) n) (f x) x (ne_eqb (number x) n other) in
        let rest = change_is_map n f xs (rise_tail x xs rise) in
        change_later n f x xs other ∙ cc (here, rest)
  ]

  -- what is found by number, once an element is changed
  pub find_mapped : (m : ℕ) (g : X → X) (xs : List X) → ((x : X) → number (g x) ≡ number x) → find (λ x. eqb (number x) m) (map g xs) ≡ option_map g (find (λ x. eqb (number x) m) xs)
  find_mapped m g [] same = refl
  find_mapped m g (x ∷ xs) same = elim (cases_Bool (eqb (number x) m)) [
    | inl holds ↦ rw (same x, holds) refl
    | inr fails ↦ rw (same x, fails) (find_mapped m g xs same)
  ]

  -- numbers still rise where they stay
  pub rise_mapped : (g : X → X) (xs : List X) → ((x : X) → number (g x) ≡ number x) → Rise xs → Rise (map g xs)
  rise_mapped g xs same rise = AllPairs_mapped (λ a b. number a < number b) g xs (AllPairs_weaker (λ a b. number a < number b) (λ a b. number (g a) < number (g b)) xs (λ a b lt. rw (same a, same b) lt) rise)

  -- a sum over all elements, once one of them is changed
  pub sum_changed : (f : X → ℕ) (n : ℕ) (h : X → X) (xs : List X) (x : X) → Rise xs → find (λ y. eqb (number y) n) xs ≡ Some x → sum_by f (map (changed_one n h) xs) + f x ≡ sum_by f xs + f (h x)
  sum_changed f n h [] x rise e = absurd (cc e)
  sum_changed f n h (y ∷ xs) x rise e = elim (cases_eq (number y) n) [
    | inl same ↦
        let test = eq-eqb (number y) n same in
        let is : y ≡ x = cc (rw test at e) in
        let here : changed_one n h y ≡ h x = cond-true (eqb (number y) n) (h y) y test ∙ ap h is in
        let above = above_first y xs rise in
        let rest : map (changed_one n h) xs ≡ xs = unchanged n h xs (λ k d in_range equal. (let more = above k d in_range in omega arith)) in
        rw (rest, here, sum_by-cons f (h x) xs, sum_by-cons f y xs) (let size = ap f is in omega (arith, size))
    | inr other ↦
        let test = ne_eqb (number y) n other in
        let here : changed_one n h y ≡ y = cond-false (eqb (number y) n) (h y) y test in
        let rest = sum_changed f n h xs x (rise_tail y xs rise) (rw test at e) in
        rw (here, sum_by-cons f y (map (changed_one n h) xs), sum_by-cons f y xs) (omega (arith, rest))
  ]

-- a sum stays where each term does
pub sum_same : {X : Type 0} (f : X → ℕ) (g : X → X) (xs : List X) → ((x : X) → f (g x) ≡ f x) → sum_by f (map g xs) ≡ sum_by f xs
sum_same f g [] same = refl
sum_same f g (x ∷ xs) same = rw (sum_by-cons f (g x) (map g xs), sum_by-cons f x xs, same x, sum_same f g xs same) refl
