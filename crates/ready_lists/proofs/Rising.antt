-- Lists made of lists, one for each element of a rising list.
use Rattle.std.proofs.Common.{◌≡◌, ℕ, zero, suc, ◌+◌, Bool, true, false, List, [], ◌∷◌, ◌++◌, refl, ◌∙◌, arith}
use Rattle.std.specs.Prelude.{nat_lt, filter, map}
use Rattle.std.specs.List.{list_all, flat_map, range_with_len, enumerate_from}
use Rattle.std.proofs.lemmas.Bool.Decides.{nat_tests}
use Rattle.std.proofs.lemmas.List.Folds.{list_all-append, list_all-map}
use Rattle.fam_schedule.specs.Schedule.{PieceName}
use Rattle.ready_lists.specs.Lists.{is_before, IsSorted}
use Rattle.ready_lists.proofs.Sorted.{IsSorted-append}
use Rattle.ready_lists.proofs.Passes.{both_true, list_all-both, list_all-weaken, list_all-always, list_all-filter}

-- each element is less than all that stand behind it
abbrev pub IsRising : {X : Type 0} → (X → X → Bool) → List X → Type 0
IsRising less [] = Unit {0}
IsRising less (x ∷ xs) = (list_all (less x) xs ≡ true) × IsRising less xs

-- rising numbers

all_above : (s t n : ℕ) → nat_lt s t ≡ true → list_all (nat_lt s) (range_with_len t n) ≡ true
all_above s t zero h = refl
all_above s t (suc n) h =
    let later : nat_lt s (t + 1) ≡ true = grind (arith, nat_tests) in
    let rest : list_all (nat_lt s) (range_with_len (t + 1) n) ≡ true = all_above s (t + 1) n later in
    rw (h, rest) refl

next_above : (s : ℕ) → nat_lt s (s + 1) ≡ true
next_above s = grind (arith, nat_tests)

pub rising_numbers : (s n : ℕ) → IsRising nat_lt (range_with_len s n)
rising_numbers s zero = tt
rising_numbers s (suc n) = (all_above s (s + 1) n (next_above s), rising_numbers (s + 1) n)

-- entries go by their numbers
abbrev pub less_entry : {A : Type 0} → ℕ × A → ℕ × A → Bool
less_entry a b = nat_lt a.0 b.0

entries_above : {A : Type 0} (a : ℕ × A) (t : ℕ) (xs : List A) → nat_lt a.0 t ≡ true → list_all (less_entry a) (enumerate_from t xs) ≡ true
entries_above a t [] h = refl
entries_above a t (x ∷ xs) h =
    let s = a.0 in
    let below : nat_lt s t ≡ true = h in
    let later : nat_lt s (t + 1) ≡ true = grind (arith, nat_tests) in
    let rest : list_all (less_entry a) (enumerate_from (t + 1) xs) ≡ true = entries_above a (t + 1) xs later in
    rw (h, rest) refl

pub rising_entries : {A : Type 0} (s : ℕ) (xs : List A) → IsRising less_entry (enumerate_from s xs)
rising_entries s [] = tt
rising_entries s (x ∷ xs) = (entries_above (s, x) (s + 1) xs (next_above s), rising_entries (s + 1) xs)

-- a list of a few numbers

numbers_filtered : (mark : ℕ → PieceName) → ((a b : ℕ) → nat_lt a b ≡ true → is_before (mark a) (mark b) ≡ true) → (q : ℕ → Bool) (x : ℕ) (xs : List ℕ) (kept : Bool) → q x ≡ kept → list_all (nat_lt x) xs ≡ true → IsSorted (map mark (filter q xs)) → IsSorted (map mark (filter q (x ∷ xs)))
numbers_filtered mark order q x xs true e h rest =
    let above : list_all (λ y. is_before (mark x) (mark y)) (filter q xs) ≡ true =
    list_all-weaken (nat_lt x) (λ y. is_before (mark x) (mark y)) (filter q xs) (order x) (list_all-filter q (nat_lt x) xs h) in
    rw e (list_all-map (is_before (mark x)) mark (filter q xs) ∙ above, rest)
numbers_filtered mark order q x xs false e h rest = rw e rest

pub sorted_marks : (mark : ℕ → PieceName) → ((a b : ℕ) → nat_lt a b ≡ true → is_before (mark a) (mark b) ≡ true) → (q : ℕ → Bool) (xs : List ℕ) → IsRising nat_lt xs → IsSorted (map mark (filter q xs))
sorted_marks mark order q [] rising = tt
sorted_marks mark order q (x ∷ xs) rising =
    numbers_filtered mark order q x xs (q x) refl rising.0 (sorted_marks mark order q xs rising.1)

-- a list of lists

-- each name of the first list comes before each of the second
abbrev pub all_before : List PieceName → List PieceName → Bool
all_before xs ys = list_all (λ x. list_all (is_before x) ys) xs

before_all : {X : Type 0} (less : X → X → Bool) (f : X → List PieceName) → ((x y : X) → less x y ≡ true → all_before (f x) (f y) ≡ true) → (x : X) (ys : List X) → list_all (less x) ys ≡ true → all_before (f x) (flat_map f ys) ≡ true
before_all less f step x [] h = list_all-always (λ a. true) (f x) (λ a. refl)
before_all less f step x (y ∷ ys) h =
    let b = both_true (less x y) (list_all (less x) ys) h in
    list_all-both (λ a. list_all (is_before a) (f y)) (λ a. list_all (is_before a) (flat_map f ys)) (λ a. list_all (is_before a) (f y ++ flat_map f ys)) (f x)
    (λ a p q. list_all-append (is_before a) (f y) (flat_map f ys) ∙ rw (p, q) refl)
    (step x y b.0)
    (before_all less f step x ys b.1)

pub sorted_flat_map : {X : Type 0} (less : X → X → Bool) (f : X → List PieceName) → ((x : X) → IsSorted (f x)) → ((x y : X) → less x y ≡ true → all_before (f x) (f y) ≡ true) → (xs : List X) → IsRising less xs → IsSorted (flat_map f xs)
sorted_flat_map less f each step [] rising = tt
sorted_flat_map less f each step (x ∷ xs) rising =
    IsSorted-append (f x) (flat_map f xs) (each x) (sorted_flat_map less f each step xs rising.1) (before_all less f step x xs rising.0)
