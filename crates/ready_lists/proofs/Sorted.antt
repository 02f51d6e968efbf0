-- Sorted lists of names.
use Rattle.std.proofs.Common.{◌≡◌, Bool, true, false, List, [], ◌∷◌, ◌++◌, refl, sym, ap, ◌∙◌}
use Rattle.std.specs.Prelude.{not, ◌&&◌, ◌||◌, filter}
use Rattle.std.specs.List.{list_all}
use Rattle.std.proofs.lemmas.Bool.{false≢true}
use Rattle.std.proofs.lemmas.List.Folds.{list_all-append, list_any-append}
use Rattle.fam_schedule.specs.Schedule.{PieceName}
use Rattle.ready_lists.specs.Lists.{is_before, same_name, has_name, IsSorted, with_name, without_name}
use Rattle.ready_lists.proofs.Order.{same_name-true, same_name-refl, is_before-trans, is_before-other, is_before-total}
use Rattle.ready_lists.proofs.Passes.{both_true, list_all-weaken, list_all-filter, list_all-filtered, list_any-none}

-- two lists

has_first : (x : PieceName) (xs : List PieceName) → has_name x (x ∷ xs) ≡ true
has_first x xs = let same : same_name x x ≡ true = same_name-refl x in rw same refl

-- a name that comes before all of a list does not stand in it
pub has_name-before : (name : PieceName) (names : List PieceName) → list_all (is_before name) names ≡ true → has_name name names ≡ false
has_name-before name names h = list_any-none (is_before name) (same_name name) names (λ n k. is_before-other name n k) h

has_name-before_first : (x y : PieceName) (ys : List PieceName) → is_before x y ≡ true → list_all (is_before y) ys ≡ true → has_name x (y ∷ ys) ≡ false
has_name-before_first x y ys h all =
    let rest : list_all (is_before x) ys ≡ true = list_all-weaken (is_before y) (is_before x) ys (λ z k. is_before-trans x y z h k) all in
    has_name-before x (y ∷ ys) (rw (h, rest) refl)

first_by : (x y : PieceName) (xs ys : List PieceName) → IsSorted (x ∷ xs) → IsSorted (y ∷ ys) → ((name : PieceName) → has_name name (x ∷ xs) ≡ has_name name (y ∷ ys)) → (before equal : Bool) → is_before x y ≡ before → same_name x y ≡ equal → x ≡ y
first_by x y xs ys sx sy same true equal e f =
    absurd (false≢true (sym (has_name-before_first x y ys e sy.0) ∙ sym (same x) ∙ has_first x xs))
first_by x y xs ys sx sy same false true e f = same_name-true x y f
first_by x y xs ys sx sy same false false e f =
    absurd (false≢true (sym (has_name-before_first y x xs (is_before-total x y e f) sx.0) ∙ same y ∙ has_first y ys))

rest_by : (x : PieceName) (xs ys : List PieceName) → list_all (is_before x) xs ≡ true → list_all (is_before x) ys ≡ true → (n : PieceName) → has_name n (x ∷ xs) ≡ has_name n (x ∷ ys) → (equal : Bool) → same_name n x ≡ equal → has_name n xs ≡ has_name n ys
rest_by x xs ys ax ay n same true e =
    let is : n ≡ x = same_name-true n x e in
    ap (λ z. has_name z xs) is ∙ has_name-before x xs ax ∙ sym (has_name-before x ys ay) ∙ ap (λ z. has_name z ys) (sym is)
rest_by x xs ys ax ay n same false e = rw e at same

-- two sorted lists that have the same names are equal
pub sorted_same : (xs ys : List PieceName) → IsSorted xs → IsSorted ys → ((name : PieceName) → has_name name xs ≡ has_name name ys) → xs ≡ ys
sorted_same [] [] sx sy same = refl
sorted_same [] (y ∷ ys) sx sy same = absurd (false≢true (same y ∙ has_first y ys))
sorted_same (x ∷ xs) [] sx sy same = absurd (false≢true (sym (same x) ∙ has_first x xs))
sorted_same (x ∷ xs) (y ∷ ys) sx sy same =
    let first : x ≡ y = first_by x y xs ys sx sy same (is_before x y) (same_name x y) refl refl in
    let above : list_all (is_before x) ys ≡ true = ap (λ z. list_all (is_before z) ys) first ∙ sy.0 in
    let rest : xs ≡ ys =
    sorted_same xs ys sx.1 sy.1 (λ n. rest_by x xs ys sx.0 above n (same n ∙ ap (λ z. has_name n (z ∷ ys)) (sym first)) (same_name n x) refl) in
    λ i. first i ∷ rest i

-- a list after another

-- each name of the first list comes before each of the second
pub IsSorted-append : (xs ys : List PieceName) → IsSorted xs → IsSorted ys → list_all (λ x. list_all (is_before x) ys) xs ≡ true → IsSorted (xs ++ ys)
IsSorted-append [] ys sx sy h = sy
IsSorted-append (x ∷ xs) ys sx sy h =
    let b = both_true (list_all (is_before x) ys) (list_all (λ x. list_all (is_before x) ys) xs) h in
    let inside : list_all (is_before x) xs ≡ true = sx.0 in
    let behind : list_all (is_before x) ys ≡ true = b.0 in
    (list_all-append (is_before x) xs ys ∙ rw (inside, behind) refl, IsSorted-append xs ys sx.1 sy b.1)

-- a filter

filter_sorted : (p : PieceName → Bool) (x : PieceName) (xs : List PieceName) (kept : Bool) → p x ≡ kept → list_all (is_before x) xs ≡ true → IsSorted (filter p xs) → IsSorted (filter p (x ∷ xs))
filter_sorted p x xs true e h rest = rw e (list_all-filter p (is_before x) xs h, rest)
filter_sorted p x xs false e h rest = rw e rest

-- keeps a list sorted
pub IsSorted-filter : (p : PieceName → Bool) (xs : List PieceName) → IsSorted xs → IsSorted (filter p xs)
IsSorted-filter p [] sorted = sorted
IsSorted-filter p (x ∷ xs) sorted = filter_sorted p x xs (p x) refl sorted.0 (IsSorted-filter p xs sorted.1)

filter_has : (p : PieceName → Bool) (n x : PieceName) (xs : List PieceName) (kept equal : Bool) → p x ≡ kept → same_name n x ≡ equal → has_name n (filter p xs) ≡ (p n && has_name n xs) → has_name n (filter p (x ∷ xs)) ≡ (p n && has_name n (x ∷ xs))
filter_has p n x xs true true e f rest =
    let passes : p n ≡ true = ap p (same_name-true n x f) ∙ e in rw (e, f, passes) refl
filter_has p n x xs true false e f rest = rw (e, f) rest
filter_has p n x xs false true e f rest =
    let fails : p n ≡ false = ap p (same_name-true n x f) ∙ e in rw (e, f, rest, fails) refl
filter_has p n x xs false false e f rest = rw (e, f) rest

-- leaves the names that pass
pub has_name-filter : (p : PieceName → Bool) (n : PieceName) (xs : List PieceName) → has_name n (filter p xs) ≡ (p n && has_name n xs)
has_name-filter p n [] = none (p n) where
  none : (b : Bool) → false ≡ (b && false)
  none true = refl
  none false = refl
has_name-filter p n (x ∷ xs) = filter_has p n x xs (p x) (same_name n x) refl refl (has_name-filter p n xs)

-- with a name and without one

-- a list stays sorted
pub IsSorted-with_name : (name : PieceName) (names : List PieceName) → IsSorted names → IsSorted (with_name name names)
IsSorted-with_name name names sorted =
    let before = filter (λ n. is_before n name) names in
    let behind = filter (λ n. is_before name n) names in
    let all_behind : list_all (is_before name) behind ≡ true = list_all-filtered (is_before name) names in
    let all_before : list_all (λ n. is_before n name) before ≡ true = list_all-filtered (λ n. is_before n name) names in
    let last : IsSorted (name ∷ behind) = (all_behind, IsSorted-filter (is_before name) names sorted) in
    let pair : (x : PieceName) → is_before x name ≡ true → list_all (is_before x) (name ∷ behind) ≡ true =
    λ x h. let rest : list_all (is_before x) behind ≡ true = list_all-weaken (is_before name) (is_before x) behind (λ y k. is_before-trans x name y h k) all_behind in rw (h, rest) refl in
    IsSorted-append before (name ∷ behind) (IsSorted-filter (λ n. is_before n name) names sorted) last
    (list_all-weaken (λ n. is_before n name) (λ x. list_all (is_before x) (name ∷ behind)) before pair all_before)

pub IsSorted-without_name : (name : PieceName) (names : List PieceName) → IsSorted names → IsSorted (without_name name names)
IsSorted-without_name name names sorted = IsSorted-filter (λ n. not (same_name n name)) names sorted

-- of three tests, one of which holds
three : (before equal behind has : Bool) → (before || (equal || behind)) ≡ true → ((before && has) || (equal || (behind && has))) ≡ (equal || has)
three true true true true h = refl
three true true true false h = refl
three true true false true h = refl
three true true false false h = refl
three true false true true h = refl
three true false true false h = refl
three true false false true h = refl
three true false false false h = refl
three false true behind has h = refl
three false false true has h = refl
three false false false has h = absurd (false≢true h)

one_of : (a b : PieceName) (before equal : Bool) → is_before a b ≡ before → same_name a b ≡ equal → (is_before a b || (same_name a b || is_before b a)) ≡ true
one_of a b true equal e f = rw e refl
one_of a b false true e f = rw (e, f) refl
one_of a b false false e f = let behind : is_before b a ≡ true = is_before-total a b e f in rw (e, f, behind) refl

-- which names there are then
pub has_name-with_name : (n name : PieceName) (names : List PieceName) → has_name n (with_name name names) ≡ (same_name n name || has_name n names)
has_name-with_name n name names =
    let before : has_name n (filter (λ m. is_before m name) names) ≡ (is_before n name && has_name n names) = has_name-filter (λ m. is_before m name) n names in
    let behind : has_name n (filter (is_before name) names) ≡ (is_before name n && has_name n names) = has_name-filter (is_before name) n names in
    list_any-append (same_name n) (filter (λ m. is_before m name) names) (name ∷ filter (is_before name) names)
    ∙ (λ i. before i || (same_name n name || behind i))
    ∙ three (is_before n name) (same_name n name) (is_before name n) (has_name n names) (one_of n name (is_before n name) (same_name n name) refl refl)

pub has_name-without_name : (n name : PieceName) (names : List PieceName) → has_name n (without_name name names) ≡ (not (same_name n name) && has_name n names)
has_name-without_name n name names = has_name-filter (λ m. not (same_name m name)) n names
