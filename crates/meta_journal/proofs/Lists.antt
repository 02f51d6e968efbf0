-- Lists, cut in front of one element.
use Rattle.std.proofs.Common.{◌≡◌, ℕ, suc, ◌+◌, ◌<◌, ◌≤◌, Bool, true, false, List, [], ◌∷◌, ◌++◌, length, drop, get_or, Some, is_none, inl, inr, sym, ap, ◌∙◌, subst, arith}
use mathlib.Core.Bool.{not}
use Rattle.std.specs.List.{All, AllPairs, filter, find, list_all, slice_get}
use Rattle.std.proofs.lemmas.Bool.{cases_Bool}
use Rattle.std.proofs.lemmas.List.{get_or_append_left, length-append}
use Rattle.std.proofs.lemmas.List.Elements.{All-head, All-tail, All-cons, All-nil}
use Rattle.std.proofs.lemmas.List.Folds.{list_any_none}
use Rattle.std.proofs.lemmas.List.Sums.{list_all-from_AllPass}
use Rattle.std.proofs.Math.Seq.{get_or-append_seam}
use Rattle.fam_rows.proofs.Searches.{find_none}
use Rattle.meta_journal.specs.Writing.{Rises}

-- what holds of all pairs, holds of each element in front of one and that one
pub before_it : {X : Type 0} (R : X → X → Type 0) (xs : List X) (x : X) (ys : List X) → AllPairs R (xs ++ x ∷ ys) → All (λ y. R y x) xs
before_it {X} R xs x ys all k d in_range =
    let inside : length xs < length (xs ++ x ∷ ys) = omega (arith, length-append xs (x ∷ ys)) in
    subst (λ (y : X). R (get_or xs k d) y) (get_or-append_seam xs x ys d)
    (subst (λ (y : X). R y (get_or (xs ++ x ∷ ys) (length xs) d)) (get_or_append_left xs (x ∷ ys) d k in_range) (all k (length xs) d in_range inside))

-- what holds of all elements, holds of one of them
pub at_it : {X : Type 0} (P : X → Type 0) (xs : List X) (x : X) (ys : List X) → All P (xs ++ x ∷ ys) → P x
at_it {X} P xs x ys all =
    let inside : length xs < length (xs ++ x ∷ ys) = omega (arith, length-append xs (x ∷ ys)) in
    subst P (get_or-append_seam xs x ys x) (all (length xs) x inside)

-- a list by its first element
pub with_first_one : {X : Type 0} (xs : List X) (x : X) → slice_get xs 0 ≡ Some x → x ∷ drop 1 xs ≡ xs
with_first_one [] x first = absurd (cc first)
with_first_one (y ∷ ys) x first = let same : y ≡ x = cc first in ap (λ z. z ∷ ys) (sym same)

pub rises_on : {X : Type 0} (number : X → ℕ) (n : ℕ) (xs : List X) → All (λ x. n ≤ number x) xs → AllPairs (λ a b. number a < number b) xs → Rises number n xs
rises_on number n [] least rise = tt
rises_on {X} number n (x ∷ xs) least rise =
    let behind : All (λ y. number x + 1 ≤ number y) xs = λ k d in_range.
    let below : number x < number (get_or xs k d) = rise 0 (suc k) d (omega arith) (omega (arith, in_range)) in omega (arith, below) in
    let others : AllPairs (λ a b. number a < number b) xs = λ i j d lt in_range. rise (suc i) (suc j) d (omega (arith, lt)) (omega (arith, in_range)) in
    (All-head (λ y. n ≤ number y) x xs least, rises_on number (number x + 1) xs behind others)

-- what holds of all that pass, holds of what a filter keeps
pub All_passing : {X : Type 0} (P : X → Type 0) (p : X → Bool) (xs : List X) → All (λ x. p x ≡ true → P x) xs → All P (filter p xs)
All_passing P p [] all = All-nil P
All_passing P p (x ∷ xs) all =
    let head = All-head (λ y. p y ≡ true → P y) x xs all in
    let tail = All_passing P p xs (All-tail (λ y. p y ≡ true → P y) x xs all) in
    elim (cases_Bool (p x)) [
      | inl holds ↦ rw holds (All-cons P x (filter p xs) (head holds) tail)
      | inr fails ↦ rw fails tail
    ]

-- nothing is found where no element passes
pub nothing_found : {X : Type 0} (p : X → Bool) (xs : List X) → All (λ x. p x ≡ false) xs → is_none (find p xs) ≡ true
nothing_found p xs none = find_none p xs ∙ ap not (list_any_none p xs none)

-- nor where a filter keeps none that passes
pub nothing_kept : {X : Type 0} (p q : X → Bool) (xs : List X) → All (λ x. q x ≡ true → p x ≡ false) xs → is_none (find p (filter q xs)) ≡ true
nothing_kept p q xs none = nothing_found p (filter q xs) (All_passing (λ x. p x ≡ false) q xs none)

-- a filter keeps only what passes
pub all_kept_pass : {X : Type 0} (p q : X → Bool) (xs : List X) → All (λ x. q x ≡ true → p x ≡ true) xs → list_all p (filter q xs) ≡ true
all_kept_pass p q xs all = list_all-from_AllPass p (filter q xs) (All_passing (λ x. p x ≡ true) q xs all)
