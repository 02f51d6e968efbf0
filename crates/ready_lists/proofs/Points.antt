-- A binary search finds the place of a name.
use Rattle.std.proofs.Common.{◌≡◌, ℕ, zero, suc, ◌+◌, ◌<◌, ◌≤◌, Bool, true, false, List, [], ◌∷◌, ◌++◌, length, get_or, map, refl, sym, ap, ◌∙◌, arith}
use Rattle.std.specs.Prelude.{take, drop}
use Rattle.std.specs.List.{list_all, prefix_len, insert, remove}
use Rattle.std.specs.List.Sorted.{IsPartitionedBy, IsPartitionPoint}
use Rattle.std.proofs.lemmas.List.{map-append, take-map}
use Rattle.std.specs.List.{drop-map}
use Rattle.std.proofs.lemmas.List.Sums.{prefix_len_is}
use Rattle.fam_schedule.specs.Schedule.{PieceName}
use Rattle.ready_lists.specs.Lists.{is_before, IsSorted}
use Rattle.ready_lists.specs.Places.{place_of_name}
use Rattle.ready_lists.proofs.Order.{is_before-trans}
use Rattle.ready_lists.proofs.Passes.{both_true}

all_at : {A : Type 0} (f : A → PieceName) (p : PieceName → Bool) (xs : List A) (j : ℕ) (d : A) → list_all p (map f xs) ≡ true → j < length xs → p (f (get_or xs j d)) ≡ true
all_at f p [] j d h l = absurd (omega arith)
all_at f p (x ∷ xs) zero d h l = (both_true (p (f x)) (list_all p (map f xs)) h).0
all_at f p (x ∷ xs) (suc j) d h l =
    let within : j < length xs = omega arith in all_at f p xs j d (both_true (p (f x)) (list_all p (map f xs)) h).1 within

-- no name of a sorted list that comes before another one stands behind one that does not
pub partitioned : {A : Type 0} (f : A → PieceName) (name : PieceName) (xs : List A) → IsSorted (map f xs) → IsPartitionedBy (λ x. is_before (f x) name) xs
partitioned f name [] sorted i j d le l h = absurd (omega arith)
partitioned f name (x ∷ xs) sorted zero zero d le l h = h
partitioned f name (x ∷ xs) sorted zero (suc j) d le l h =
    let within : j < length xs = omega arith in
    is_before-trans (f x) (f (get_or xs j d)) name (all_at f (is_before (f x)) xs j d sorted.0 within) h
partitioned f name (x ∷ xs) sorted (suc i) zero d le l h = absurd (omega arith)
partitioned f name (x ∷ xs) sorted (suc i) (suc j) d le l h =
    let within : j < length xs = omega arith in
    let below : i ≤ j = omega arith in
    partitioned f name xs sorted.1 i j d below within h

prefix_by : {A : Type 0} (f : A → PieceName) (p : PieceName → Bool) (x : A) (xs : List A) (test : Bool) → p (f x) ≡ test → prefix_len p (map f xs) ≡ prefix_len (λ y. p (f y)) xs → prefix_len p (map f (x ∷ xs)) ≡ prefix_len (λ y. p (f y)) (x ∷ xs)
prefix_by f p x xs true e rest = rw e (ap (λ k. 1 + k) rest)
prefix_by f p x xs false e rest = rw e refl

prefix_len-map : {A : Type 0} (f : A → PieceName) (p : PieceName → Bool) (xs : List A) → prefix_len p (map f xs) ≡ prefix_len (λ x. p (f x)) xs
prefix_len-map f p [] = refl
prefix_len-map f p (x ∷ xs) = prefix_by f p x xs (p (f x)) refl (prefix_len-map f p xs)

-- the point that a search gives is the place
pub point_is_place : {A : Type 0} (f : A → PieceName) (name : PieceName) (xs : List A) (at : ℕ) (d : A) → at ≤ length xs → IsPartitionPoint (λ x. is_before (f x) name ≡ true) (λ x. is_before (f x) name ≡ false) xs at → at ≡ place_of_name name (map f xs)
point_is_place f name xs at d bound point =
    sym (prefix_len-map f (λ n. is_before n name) xs
    ∙ prefix_len_is (λ x. is_before (f x) name) xs at d bound (λ k l. point.0 k d (omega arith) l) (λ l. point.1 at d (omega arith) l))

-- what an edit of the items does to their names

pub map-insert : {A : Type 0} (f : A → PieceName) (xs : List A) (at : ℕ) (x : A) → map f (insert xs at x) ≡ insert (map f xs) at (f x)
map-insert f xs at x =
    map-append f (take at xs) (x ∷ drop at xs) ∙ sym (λ i. take-map f at xs i ++ f x ∷ drop-map f at xs i)

pub map-remove : {A : Type 0} (f : A → PieceName) (xs : List A) (at : ℕ) → map f (remove xs at) ≡ remove (map f xs) at
map-remove f xs at =
    map-append f (take at xs) (drop (suc at) xs) ∙ sym (λ i. take-map f at xs i ++ drop-map f (suc at) xs i)
