-- Lists that grow, lose an element, or have one replaced.
use Rattle.std.proofs.Common.{◌≡◌, ◌≢◌, ℕ, zero, suc, ◌+◌, ◌<◌, ◌⊎◌, Bool, true, false, cond, eqb, List, [], ◌∷◌, ◌++◌, length, get_or, set, map, Option, Some, None, inl, inr, refl, sym, ap, ◌∙◌, subst, arith}
use mathlib.Core.Bool.{not, ◌&&◌, ◌||◌}
use Rattle.std.specs.List.{All, AllPairs, filter, find, list_all, list_any, remove, sum_by}
use Rattle.std.specs.Option.{option_map, option_or}
use Rattle.std.specs.Str.{bytes_eq}
use Rattle.std.proofs.lemmas.Bool.{cases_Bool, cases_eq, cases_lt, eq-eqb, ne_eqb, and_parts, false_from_ne_true}
use Rattle.std.proofs.lemmas.List.{map-set, set-get_or, get_or-set_same, get_or-set_other, get_or-map, length-set, get_or_default}
use Rattle.std.proofs.lemmas.List.Elements.{All-head, All-tail}
use Rattle.std.proofs.lemmas.List.Folds.{find-append}
use Rattle.std.proofs.lemmas.List.Sorted.{IsPermutation-remove, sum_by-IsPermutation}
use Rattle.std.proofs.lemmas.List.Sums.{sum_by-cons}
use Rattle.std.proofs.lemmas.Option.{slice_get-get_or}
use Rattle.fam_model.specs.Lists.{change_number}
use Rattle.fam_rows.proofs.Places.{place_at}
use Rattle.fam_directory.proofs.Naming.{same_name}

-- filters

pub map_filter : {A B : Type 0} (f : A → B) (p : B → Bool) (xs : List A) → map f (filter (λ x. p (f x)) xs) ≡ filter p (map f xs)
map_filter f p [] = refl
map_filter f p (x ∷ xs) = elim (cases_Bool (p (f x))) [
  | inl holds ↦ rw holds (ap (λ l. f x ∷ l) (map_filter f p xs))
  | inr fails ↦ rw fails (map_filter f p xs)
]

pub filter_swap : {A : Type 0} (p q : A → Bool) (xs : List A) → filter p (filter q xs) ≡ filter q (filter p xs)
filter_swap p q [] = refl
filter_swap p q (x ∷ xs) = elim (cases_Bool (p x)) [
  | inl both ↦ elim (cases_Bool (q x)) [
    | inl holds ↦ rw (holds, both, holds) (ap (λ l. x ∷ l) (filter_swap p q xs))
    | inr fails ↦ rw (fails, both, fails) (filter_swap p q xs)
  ]
  | inr not_p ↦ elim (cases_Bool (q x)) [
    | inl holds ↦ rw (holds, not_p) (filter_swap p q xs)
    | inr fails ↦ rw (fails, not_p) (filter_swap p q xs)
  ]
]

-- a filter keeps what another one keeps
pub filter_kept : {A : Type 0} (p q : A → Bool) (xs : List A) → All (λ x. p x ≡ true → q x ≡ true) xs → filter p (filter q xs) ≡ filter p xs
filter_kept p q [] all = refl
filter_kept p q (x ∷ xs) all =
    let rest = filter_kept p q xs (All-tail (λ y. p y ≡ true → q y ≡ true) x xs all) in
    elim (cases_Bool (p x)) [
      | inl holds ↦
          let kept = All-head (λ y. p y ≡ true → q y ≡ true) x xs all holds in
          rw (kept, holds) (ap (λ l. x ∷ l) rest)
      | inr fails ↦ elim (cases_Bool (q x)) [
        | inl kept ↦ rw (kept, fails) rest
        | inr dropped ↦ rw (dropped, fails) rest
      ]
    ]

-- two tests that agree on a list
pub filter_alike : {A : Type 0} (p q : A → Bool) (xs : List A) → All (λ x. p x ≡ q x) xs → filter p xs ≡ filter q xs
filter_alike p q [] all = refl
filter_alike p q (x ∷ xs) all =
    (λ i. cond (All-head (λ y. p y ≡ q y) x xs all i) (x ∷ filter p xs) (filter p xs))
    ∙ ap (λ l. cond (q x) (x ∷ l) l) (filter_alike p q xs (All-tail (λ y. p y ≡ q y) x xs all))

-- tests of all elements

pub list_all_map : {A B : Type 0} (f : A → B) (p : B → Bool) (xs : List A) → list_all p (map f xs) ≡ list_all (λ x. p (f x)) xs
list_all_map f p [] = refl
list_all_map f p (x ∷ xs) = ap (λ t. p (f x) && t) (list_all_map f p xs)

pub list_all_filter : {A : Type 0} (test p : A → Bool) (xs : List A) → list_all test (filter p xs) ≡ list_all (λ x. not (p x) || test x) xs
list_all_filter test p [] = refl
list_all_filter test p (x ∷ xs) = elim (cases_Bool (p x)) [
  | inl kept ↦ rw kept (ap (λ t. test x && t) (list_all_filter test p xs))
  | inr dropped ↦ rw dropped (list_all_filter test p xs)
]

pub list_all_weaker : {A : Type 0} (p q : A → Bool) (xs : List A) → ((x : A) → p x ≡ true → q x ≡ true) → list_all p xs ≡ true → list_all q xs ≡ true
list_all_weaker p q [] weaker e = refl
list_all_weaker p q (x ∷ xs) weaker e =
    let parts = and_parts (p x) (list_all p xs) e in
    rw (weaker x parts.0, list_all_weaker p q xs weaker parts.1) refl

pub some_passes : {A : Type 0} (p : A → Bool) (xs : List A) → list_any p xs ≡ not (list_all (λ x. not (p x)) xs)
some_passes p [] = refl
some_passes p (x ∷ xs) = elim (cases_Bool (p x)) [
  | inl holds ↦ rw holds refl
  | inr fails ↦ rw fails (some_passes p xs)
]

-- an element that a filter keeps, and that passes
pub one_passes : {A : Type 0} (p q : A → Bool) (k : ℕ) (xs : List A) (d : A) → k < length xs → q (get_or xs k d) ≡ true → p (get_or xs k d) ≡ true → list_any p (filter q xs) ≡ true
one_passes p q k [] d lt kept passes = absurd (omega arith)
one_passes p q zero (x ∷ xs) d lt kept passes = rw (kept, passes) refl
one_passes p q (suc k) (x ∷ xs) d lt kept passes =
    let within : k < length xs = omega arith in
    let rest = one_passes p q k xs d within kept passes in
    elim (cases_Bool (q x)) [
      | inl here ↦ rw here (elim (cases_Bool (p x)) [ inl holds ↦ rw holds refl | inr fails ↦ rw fails rest ])
      | inr dropped ↦ rw dropped rest
    ]

-- an element of a number, where numbers rise

module _ {A : Type 0} (number : A → ℕ) where
  abbrev pub Rises : List A → Type 0
  Rises xs = AllPairs (λ a b. number a < number b) xs

  tail_rises : (x : A) (xs : List A) → Rises (x ∷ xs) → Rises xs
  tail_rises x xs h i j d lt within = h (suc i) (suc j) d (omega arith) (omega arith)

  -- all others have other numbers
  pub others_differ : (n k j : ℕ) (xs : List A) (d : A) → Rises xs → k < length xs → number (get_or xs k d) ≡ n → j ≢ k → j < length xs → number (get_or xs j d) ≢ n
  others_differ n k j xs d rise lt is other within same = elim (cases_lt j k) [
    | inl below ↦ let less = rise j k d below lt in absurd (omega arith)
    | inr above ↦ let more = rise k j d (omega arith) within in absurd (omega arith)
  ]

  all_stay : (n : ℕ) (xs : List A) → All (λ x. n < number x) xs → filter (λ x. not (eqb (number x) n)) xs ≡ xs
  all_stay n [] all = refl
  all_stay n (x ∷ xs) all =
      rw (ne_eqb (number x) n (let lt = All-head (λ y. n < number y) x xs all in λ e. absurd (omega (arith, lt)))) (ap (λ l. x ∷ l) (all_stay n xs (All-tail (λ y. n < number y) x xs all)))

  -- the list without it
  pub removed_is : (n k : ℕ) (xs : List A) (d : A) → Rises xs → k < length xs → number (get_or xs k d) ≡ n → remove xs k ≡ filter (λ x. not (eqb (number x) n)) xs
  removed_is n k [] d rise lt is = absurd (omega arith)
  removed_is n zero (x ∷ xs) d rise lt is =
      sym (rw (eq-eqb (number x) n is) (all_stay n xs (λ j e within. (let more = rise 0 (suc j) e (omega arith) (omega arith) in omega arith))))
  removed_is n (suc k) (x ∷ xs) d rise lt is =
      let within : k < length xs = omega arith in
      let less : number x < number (get_or xs k d) = rise 0 (suc k) d (omega arith) (omega arith) in
      rw (ne_eqb (number x) n (λ e. absurd (omega arith))) (ap (λ l. x ∷ l) (removed_is n k xs d (tail_rises x xs rise) within is))

  -- the list with it replaced
  pub set_all : (P Q : A → Type 0) (n k : ℕ) (xs : List A) (now : A) → Rises xs → k < length xs → number (get_or xs k now) ≡ n → All P xs → ((x : A) → number x ≢ n → P x → Q x) → Q now → All Q (set xs k now)
  set_all P Q n k xs now rise lt is all others here j d within =
      let inside : j < length xs = omega (arith, length-set xs k now) in
      elim (cases_eq j k) [
        | inl same ↦ subst Q (sym (ap (λ i. get_or (set xs k now) i d) same ∙ get_or-set_same xs k now d lt)) here
        | inr other ↦
            let differs : number (get_or xs j d) ≢ n = λ e. others_differ n k j xs now rise lt is other inside (ap number (get_or_default xs j now d inside) ∙ e) in
            subst Q (sym (get_or-set_other xs k j now d other)) (others (get_or xs j d) differs (all j d inside))
      ]

  -- and where it is changed by its number
  pub changed_is : (n k : ℕ) (f : A → A) (xs : List A) (d : A) → Rises xs → k < length xs → number (get_or xs k d) ≡ n → change_number number n f xs ≡ set xs k (f (get_or xs k d))
  changed_is n k f xs d rise lt is =
      let place = place_at number xs rise n k d lt is in
      let read = slice_get-get_or xs k d lt in
      rw (place, read) refl

-- replaced elements that look the same
pub map_set_same : {A B : Type 0} (f : A → B) (k : ℕ) (xs : List A) (now : A) → k < length xs → f now ≡ f (get_or xs k now) → map f (set xs k now) ≡ map f xs
map_set_same f k xs now lt same =
    map-set f xs k now ∙ ap (set (map f xs) k) (same ∙ sym (get_or-map f xs k now (f now) lt)) ∙ set-get_or (map f xs) k (f now)

-- a sum without one term
pub sum_removed : {A : Type 0} (f : A → ℕ) (k : ℕ) (xs : List A) (x : A) → k < length xs → x ≡ get_or xs k x → f x + sum_by f (remove xs k) ≡ sum_by f xs
sum_removed f k xs x lt is = sym (sum_by-cons f x (remove xs k)) ∙ sum_by-IsPermutation f xs (x ∷ remove xs k) (IsPermutation-remove xs k x lt is)

-- names

module _ {A : Type 0} (name : A → List ℕ) (number : A → ℕ) where
  -- the number of a name
  abbrev pub number_in : List ℕ → List A → Option ℕ
  number_in q xs = option_map number (find (λ x. bytes_eq (name x) q) xs)

  -- after a new name
  pub name_added : (x : A) (xs : List A) (q : List ℕ) → find (λ y. bytes_eq (name y) (name x)) xs ≡ None → cond (bytes_eq (name x) q) (Some (number x)) (number_in q xs) ≡ number_in q (xs ++ x ∷ [])
  name_added x xs q none = elim (cases_Bool (bytes_eq (name x) q)) [
    | inl same ↦
        let is : name x ≡ q = same_name (name x) q same in
        let missing : find (λ y. bytes_eq (name y) q) xs ≡ None = subst (λ n. find (λ y. bytes_eq (name y) n) xs ≡ None) is none in
        let found : find (λ y. bytes_eq (name y) q) (xs ++ x ∷ []) ≡ Some x = find-append (λ y. bytes_eq (name y) q) xs (x ∷ []) ∙ rw (missing, same) refl in
        rw same (sym (ap (option_map number) found))
    | inr other ↦
        let found : find (λ y. bytes_eq (name y) q) (xs ++ x ∷ []) ≡ find (λ y. bytes_eq (name y) q) xs = find-append (λ y. bytes_eq (name y) q) xs (x ∷ []) ∙ rw other (or_none (find (λ y. bytes_eq (name y) q) xs)) in
        rw other (sym (ap (option_map number) found))
  ] where
    or_none : (o : Option A) → option_or o None ≡ o
    or_none None = refl
    or_none (Some y) = refl

  -- after a name is gone
  abbrev pub AreOthers : ℕ → A → List A → Type 0
  AreOthers n x xs = All (λ y. (y ≡ x) ⊎ ((number y ≢ n) × (name y ≢ name x))) xs

  gone : (n : ℕ) (x : A) (xs : List A) (q : List ℕ) → number x ≡ n → AreOthers n x xs → name x ≡ q → find (λ y. bytes_eq (name y) q) (filter (λ y. not (eqb (number y) n)) xs) ≡ None
  gone n x [] q is all same = refl
  gone n x (y ∷ ys) q is all same =
      let rest = gone n x ys q is (All-tail (λ z. (z ≡ x) ⊎ ((number z ≢ n) × (name z ≢ name x))) y ys all) same in
      elim (All-head (λ z. (z ≡ x) ⊎ ((number z ≢ n) × (name z ≢ name x))) y ys all) [
        | inl it ↦ rw (eq-eqb (number y) n (ap number it ∙ is)) rest
        | inr other ↦
            let differs : bytes_eq (name y) q ≡ false = false_from_ne_true (bytes_eq (name y) q) (λ e. other.1 (same_name (name y) q e ∙ sym same)) in
            rw (ne_eqb (number y) n other.0, differs) rest
      ]

  stays : (n : ℕ) (x : A) (xs : List A) (q : List ℕ) → number x ≡ n → AreOthers n x xs → bytes_eq (name x) q ≡ false → find (λ y. bytes_eq (name y) q) (filter (λ y. not (eqb (number y) n)) xs) ≡ find (λ y. bytes_eq (name y) q) xs
  stays n x [] q is all differ = refl
  stays n x (y ∷ ys) q is all differ =
      let rest = stays n x ys q is (All-tail (λ z. (z ≡ x) ⊎ ((number z ≢ n) × (name z ≢ name x))) y ys all) differ in
      elim (All-head (λ z. (z ≡ x) ⊎ ((number z ≢ n) × (name z ≢ name x))) y ys all) [
        | inl it ↦
            let differs : bytes_eq (name y) q ≡ false = ap (λ z. bytes_eq (name z) q) it ∙ differ in
            rw (eq-eqb (number y) n (ap number it ∙ is), differs) rest
        | inr other ↦ rw (ne_eqb (number y) n other.0) (ap (cond (bytes_eq (name y) q) (Some y)) rest)
      ]

  pub name_removed : (n : ℕ) (x : A) (xs : List A) (q : List ℕ) → number x ≡ n → AreOthers n x xs → cond (bytes_eq (name x) q) None (number_in q xs) ≡ number_in q (filter (λ y. not (eqb (number y) n)) xs)
  name_removed n x xs q is all = elim (cases_Bool (bytes_eq (name x) q)) [
    | inl same ↦ rw same (sym (ap (option_map number) (gone n x xs q is all (same_name (name x) q same))))
    | inr differ ↦ rw differ (sym (ap (option_map number) (stays n x xs q is all differ)))
  ]
