-- The place of a name in a sorted list, and what stands there.
use Rattle.std.proofs.Common.{◌≡◌, ℕ, zero, suc, ◌+◌, Bool, true, false, List, [], ◌∷◌, ◌++◌, refl, sym, ap, ◌∙◌, arith}
use Rattle.std.specs.Prelude.{filter}
use Rattle.std.specs.List.{list_all, insert, remove}
use Rattle.std.proofs.lemmas.Bool.{false≢true}
use Rattle.fam_schedule.specs.Schedule.{PieceName}
use Rattle.ready_lists.specs.Lists.{is_before, same_name, has_name, IsSorted, with_name, without_name}
use Rattle.ready_lists.specs.Places.{place_of_name, stands_at}
use Rattle.ready_lists.proofs.Order.{same_name-true, same_name-sym, is_before-refl, is_before-trans, is_before-not_both, is_before-other, is_before-total}
use Rattle.ready_lists.proofs.Sorted.{has_name-before}
use Rattle.ready_lists.proofs.Passes.{both_true, list_all-weaken}

-- filters of whole lists

pub filter_kept : {A : Type 0} (p : A → Bool) (xs : List A) → list_all p xs ≡ true → filter p xs ≡ xs
filter_kept p [] h = refl
filter_kept p (x ∷ xs) h =
    let b = both_true (p x) (list_all p xs) h in
    let first : p x ≡ true = b.0 in
    rw first (ap (λ ys. x ∷ ys) (filter_kept p xs b.1))

pub filter_none : {A : Type 0} (p q : A → Bool) (xs : List A) → ((x : A) → q x ≡ true → p x ≡ false) → list_all q xs ≡ true → filter p xs ≡ []
filter_none p q [] step h = refl
filter_none p q (x ∷ xs) step h =
    let b = both_true (q x) (list_all q xs) h in
    let first : p x ≡ false = step x b.0 in
    rw first (filter_none p q xs step b.1)

-- a name in its place

with_name-first : (name : PieceName) (names : List PieceName) → list_all (is_before name) names ≡ true → with_name name names ≡ name ∷ names
with_name-first name names h =
    let front : filter (λ n. is_before n name) names ≡ [] = filter_none (λ n. is_before n name) (is_before name) names (λ n k. is_before-not_both name n k) h in
    let back : filter (is_before name) names ≡ names = filter_kept (is_before name) names h in
    λ i. front i ++ name ∷ back i

with_name-behind : (name x : PieceName) (xs : List PieceName) → is_before x name ≡ true → with_name name (x ∷ xs) ≡ x ∷ with_name name xs
with_name-behind name x xs h = let other : is_before name x ≡ false = is_before-not_both x name h in rw (h, other) refl

with_name-same : (name : PieceName) (xs : List PieceName) → list_all (is_before name) xs ≡ true → with_name name (name ∷ xs) ≡ name ∷ xs
with_name-same name xs h = let no : is_before name name ≡ false = is_before-refl name in rw no (with_name-first name xs h)

-- a name that is neither before nor the same is behind, and so are those after it
all_behind : (name x : PieceName) (xs : List PieceName) → IsSorted (x ∷ xs) → is_before x name ≡ false → same_name name x ≡ false → list_all (is_before name) (x ∷ xs) ≡ true
all_behind name x xs sorted e f =
    let first : is_before name x ≡ true = is_before-total x name e (same_name-sym x name ∙ f) in
    let rest : list_all (is_before name) xs ≡ true = list_all-weaken (is_before x) (is_before name) xs (λ y k. is_before-trans name x y first k) sorted.0 in
    rw (first, rest) refl

one_more : (k : ℕ) → 1 + k ≡ suc k
one_more k = omega arith

-- the place is past a name that comes before
place_past : (name x : PieceName) (xs : List PieceName) → is_before x name ≡ true → place_of_name name (x ∷ xs) ≡ suc (place_of_name name xs)
place_past name x xs h = rw h (one_more (place_of_name name xs))

place_here : (name x : PieceName) (xs : List PieceName) → is_before x name ≡ false → place_of_name name (x ∷ xs) ≡ zero
place_here name x xs h = rw h refl

other_than : (name x : PieceName) → is_before x name ≡ true → same_name name x ≡ false
other_than name x h = same_name-sym name x ∙ is_before-other x name h

-- what is not there is not behind
not_behind : (name x : PieceName) (xs : List PieceName) (has : Bool) → same_name name x ≡ false → has_name name (x ∷ xs) ≡ has → has_name name xs ≡ has
not_behind name x xs has f h = rw f at h

-- what stands at the place

has_by : (name x : PieceName) (xs : List PieceName) (before equal : Bool) → is_before x name ≡ before → same_name name x ≡ equal → IsSorted (x ∷ xs) → stands_at name xs (place_of_name name xs) ≡ has_name name xs → stands_at name (x ∷ xs) (place_of_name name (x ∷ xs)) ≡ has_name name (x ∷ xs)
has_by name x xs true equal e f sorted rest =
    let other : same_name name x ≡ false = other_than name x e in
    let found : has_name name (x ∷ xs) ≡ has_name name xs = rw other refl in
    ap (stands_at name (x ∷ xs)) (place_past name x xs e) ∙ rest ∙ sym found
has_by name x xs false true e f sorted rest =
    let found : has_name name (x ∷ xs) ≡ true = rw f refl in
    ap (stands_at name (x ∷ xs)) (place_here name x xs e) ∙ f ∙ sym found
has_by name x xs false false e f sorted rest =
    ap (stands_at name (x ∷ xs)) (place_here name x xs e) ∙ f ∙ sym (has_name-before name (x ∷ xs) (all_behind name x xs sorted e f))

-- the name, if it is there
pub stands_where : (name : PieceName) (names : List PieceName) → IsSorted names → stands_at name names (place_of_name name names) ≡ has_name name names
stands_where name [] sorted = refl
stands_where name (x ∷ xs) sorted =
    has_by name x xs (is_before x name) (same_name name x) refl refl sorted (stands_where name xs sorted.1)

-- a name that is not there is put at its place

insert_by : (name x : PieceName) (xs : List PieceName) (before equal : Bool) → is_before x name ≡ before → same_name name x ≡ equal → IsSorted (x ∷ xs) → has_name name (x ∷ xs) ≡ false → (has_name name xs ≡ false → insert xs (place_of_name name xs) name ≡ with_name name xs) → insert (x ∷ xs) (place_of_name name (x ∷ xs)) name ≡ with_name name (x ∷ xs)
insert_by name x xs true equal e f sorted h rest =
    ap (λ k. insert (x ∷ xs) k name) (place_past name x xs e)
    ∙ ap (λ ys. x ∷ ys) (rest (not_behind name x xs false (other_than name x e) h))
    ∙ sym (with_name-behind name x xs e)
insert_by name x xs false true e f sorted h rest = let found : has_name name (x ∷ xs) ≡ true = rw f refl in absurd (false≢true (sym h ∙ found))
insert_by name x xs false false e f sorted h rest =
    ap (λ k. insert (x ∷ xs) k name) (place_here name x xs e) ∙ sym (with_name-first name (x ∷ xs) (all_behind name x xs sorted e f))

pub insert_where : (name : PieceName) (names : List PieceName) → IsSorted names → has_name name names ≡ false → insert names (place_of_name name names) name ≡ with_name name names
insert_where name [] sorted h = refl
insert_where name (x ∷ xs) sorted h =
    insert_by name x xs (is_before x name) (same_name name x) refl refl sorted h (insert_where name xs sorted.1)

-- one that is there changes nothing

kept_by : (name x : PieceName) (xs : List PieceName) (before equal : Bool) → is_before x name ≡ before → same_name name x ≡ equal → IsSorted (x ∷ xs) → has_name name (x ∷ xs) ≡ true → (has_name name xs ≡ true → with_name name xs ≡ xs) → with_name name (x ∷ xs) ≡ x ∷ xs
kept_by name x xs true equal e f sorted h rest =
    with_name-behind name x xs e ∙ ap (λ ys. x ∷ ys) (rest (not_behind name x xs true (other_than name x e) h))
kept_by name x xs false true e f sorted h rest =
    let is : name ≡ x = same_name-true name x f in
    ap (λ n. with_name n (x ∷ xs)) is ∙ with_name-same x xs sorted.0
kept_by name x xs false false e f sorted h rest =
    absurd (false≢true (sym (has_name-before name (x ∷ xs) (all_behind name x xs sorted e f)) ∙ h))

pub with_name-kept : (name : PieceName) (names : List PieceName) → IsSorted names → has_name name names ≡ true → with_name name names ≡ names
with_name-kept name [] sorted h = absurd (false≢true h)
with_name-kept name (x ∷ xs) sorted h =
    kept_by name x xs (is_before x name) (same_name name x) refl refl sorted h (with_name-kept name xs sorted.1)

-- a name is taken out

without_by : (name x : PieceName) (xs : List PieceName) (equal : Bool) → same_name name x ≡ equal → has_name name (x ∷ xs) ≡ false → (has_name name xs ≡ false → without_name name xs ≡ xs) → without_name name (x ∷ xs) ≡ x ∷ xs
without_by name x xs true f h rest = let found : has_name name (x ∷ xs) ≡ true = rw f refl in absurd (false≢true (sym h ∙ found))
without_by name x xs false f h rest =
    let other : same_name x name ≡ false = same_name-sym x name ∙ f in
    rw other (ap (λ ys. x ∷ ys) (rest (not_behind name x xs false f h)))

-- one that is not there changes nothing
pub without_name-kept : (name : PieceName) (names : List PieceName) → has_name name names ≡ false → without_name name names ≡ names
without_name-kept name [] h = refl
without_name-kept name (x ∷ xs) h = without_by name x xs (same_name name x) refl h (without_name-kept name xs)

remove_by : (name x : PieceName) (xs : List PieceName) (before equal : Bool) → is_before x name ≡ before → same_name name x ≡ equal → IsSorted (x ∷ xs) → has_name name (x ∷ xs) ≡ true → (has_name name xs ≡ true → remove xs (place_of_name name xs) ≡ without_name name xs) → remove (x ∷ xs) (place_of_name name (x ∷ xs)) ≡ without_name name (x ∷ xs)
remove_by name x xs true equal e f sorted h rest =
    let other : same_name x name ≡ false = is_before-other x name e in
    let step : without_name name (x ∷ xs) ≡ x ∷ without_name name xs = rw other refl in
    ap (λ k. remove (x ∷ xs) k) (place_past name x xs e)
    ∙ ap (λ ys. x ∷ ys) (rest (not_behind name x xs true (other_than name x e) h))
    ∙ sym step
remove_by name x xs false true e f sorted h rest =
    let same : same_name x name ≡ true = same_name-sym x name ∙ f in
    let step : without_name name (x ∷ xs) ≡ without_name name xs = rw same refl in
    let is : name ≡ x = same_name-true name x f in
    let gone : has_name name xs ≡ false = has_name-before name xs (ap (λ n. list_all (is_before n) xs) is ∙ sorted.0) in
    ap (λ k. remove (x ∷ xs) k) (place_here name x xs e) ∙ sym (without_name-kept name xs gone) ∙ sym step
remove_by name x xs false false e f sorted h rest =
    absurd (false≢true (sym (has_name-before name (x ∷ xs) (all_behind name x xs sorted e f)) ∙ h))

pub remove_where : (name : PieceName) (names : List PieceName) → IsSorted names → has_name name names ≡ true → remove names (place_of_name name names) ≡ without_name name names
remove_where name [] sorted h = absurd (false≢true h)
remove_where name (x ∷ xs) sorted h =
    remove_by name x xs (is_before x name) (same_name name x) refl refl sorted h (remove_where name xs sorted.1)
