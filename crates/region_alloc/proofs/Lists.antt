-- Rooms one behind the other, and the gaps in front of them.
use Rattle.std.proofs.Common.{◌≡◌, ℕ, zero, suc, ◌-◌, ◌%◌, ◌<◌, ◌≤◌, Bool, true, false, cond, ltb, List, [], ◌∷◌, ◌++◌, length, refl, sym, ap, ◌∙◌, arith, append_assoc}
use Rattle.std.specs.List.{All, filter}
use Rattle.std.specs.List.Sorted.{IsNonDecreasingBy, IsPartitionPoint}
use Rattle.std.proofs.lemmas.Bool.{lt-ltb, le-ltb, ltb-false}
use Rattle.std.proofs.lemmas.List.{length-append}
use Rattle.std.proofs.lemmas.List.Elements.{All-head, All-tail, All-cons, All-nil, filter-append}
use Rattle.region_alloc.specs.declared.extent.Extent.{Extent}
use Rattle.region_alloc.specs.Space.{end_of}
use Rattle.region_alloc.specs.Gaps.{gap_of, gaps_from, end_from, LieIn, Rise, count_before}

-- two lists of rooms, one behind the other

pub gaps_from-append : (from : ℕ) (xs ys : List Extent) → gaps_from from (xs ++ ys) ≡ gaps_from from xs ++ gaps_from (end_from from xs) ys
gaps_from-append from [] ys = refl
gaps_from-append from (x ∷ xs) ys =
    ap (λ l. gap_of from x.base ++ l) (gaps_from-append (end_of x) xs ys) ∙ sym (append_assoc (gap_of from x.base) (gaps_from (end_of x) xs) (gaps_from (end_from (end_of x) xs) ys))

pub end_from-append : (from : ℕ) (xs ys : List Extent) → end_from from (xs ++ ys) ≡ end_from (end_from from xs) ys
end_from-append from [] ys = refl
end_from-append from (x ∷ xs) ys = end_from-append (end_of x) xs ys

pub lies_before : (from limit : ℕ) (xs ys : List Extent) → LieIn from limit (xs ++ ys) → LieIn from (end_from from xs) xs
lies_before from limit [] ys h = omega arith
lies_before from limit (x ∷ xs) ys h = (h.0, h.1, h.2, h.3, lies_before (end_of x) limit xs ys h.4)

pub lies_behind : (from limit : ℕ) (xs ys : List Extent) → LieIn from limit (xs ++ ys) → LieIn (end_from from xs) limit ys
lies_behind from limit [] ys h = h
lies_behind from limit (x ∷ xs) ys h = lies_behind (end_of x) limit xs ys h.4

pub lies_both : (from limit : ℕ) (xs ys : List Extent) → LieIn from (end_from from xs) xs → LieIn (end_from from xs) limit ys → LieIn from limit (xs ++ ys)
lies_both from limit [] ys h g = g
lies_both from limit (x ∷ xs) ys h g = (h.0, h.1, h.2, h.3, lies_both (end_of x) limit xs ys h.4 g)

-- rooms end inside, and behind where they begin
pub ends_inside : (from limit : ℕ) (xs : List Extent) → LieIn from limit xs → end_from from xs ≤ limit
ends_inside from limit [] h = h
ends_inside from limit (x ∷ xs) h = ends_inside (end_of x) limit xs h.4

pub ends_behind : (from limit : ℕ) (xs : List Extent) → LieIn from limit xs → from ≤ end_from from xs
ends_behind from limit [] h = omega arith
ends_behind from limit (x ∷ xs) h = let rest = ends_behind (end_of x) limit xs h.4 in let first = h.0 in omega arith

-- the limit may be any place behind the last room
pub lies_within : (from limit new : ℕ) (xs : List Extent) → LieIn from limit xs → end_from from xs ≤ new → LieIn from new xs
lies_within from limit new [] h le = le
lies_within from limit new (x ∷ xs) h le = (h.0, h.1, h.2, h.3, lies_within (end_of x) limit new xs h.4 le)

-- rooms may be said to lie behind any lower place
pub lies_lower : (from lower limit : ℕ) (xs : List Extent) → lower ≤ from → LieIn from limit xs → LieIn lower limit xs
lies_lower from lower limit [] le h = omega arith
lies_lower from lower limit (x ∷ xs) le h = (let first = h.0 in omega arith, h.1, h.2, h.3, h.4)

pub end_aligned : (from limit : ℕ) (xs : List Extent) → LieIn from limit xs → from % 64 ≡ 0 → end_from from xs % 64 ≡ 0
end_aligned from limit [] h e = e
end_aligned from limit (x ∷ xs) h e = end_aligned (end_of x) limit xs h.4 (let base = h.1 in let length' = h.2 in omega arith)

-- rooms and gaps are in order of base

pub rise_lower : (from lower : ℕ) (xs : List Extent) → lower ≤ from → Rise from xs → Rise lower xs
rise_lower from lower [] le h = tt
rise_lower from lower (x ∷ xs) le h = (let first = h.0 in omega arith, h.1)

pub rooms_rise : (from limit : ℕ) (xs : List Extent) → LieIn from limit xs → Rise from xs
rooms_rise from limit [] h = tt
rooms_rise from limit (x ∷ xs) h = (h.0, rise_lower (end_of x) x.base xs (omega arith) (rooms_rise (end_of x) limit xs h.4))

gap_rises : (from to : ℕ) (b : Bool) (rest : List Extent) → from ≤ to → Rise to rest → Rise from (cond b (record { base = from; length = to - from } ∷ []) [] ++ rest)
gap_rises from to true rest le h = (omega arith, rise_lower to from rest le h)
gap_rises from to false rest le h = rise_lower to from rest le h

pub gaps_rise : (from limit : ℕ) (xs : List Extent) → LieIn from limit xs → Rise from (gaps_from from xs)
gaps_rise from limit [] h = tt
gaps_rise from limit (x ∷ xs) h =
    gap_rises from x.base (ltb from x.base) (gaps_from (end_of x) xs) h.0 (rise_lower (end_of x) x.base (gaps_from (end_of x) xs) (omega arith) (gaps_rise (end_of x) limit xs h.4))

-- what stands behind a place
pub all_behind : (from : ℕ) (xs : List Extent) → Rise from xs → All (λ x. from ≤ x.base) xs
all_behind from [] h = All-nil (λ x. from ≤ x.base)
all_behind from (x ∷ xs) h = All-cons (λ y. from ≤ y.base) x xs h.0 (all_behind from xs (rise_lower x.base from xs h.0 h.1))

pub in_order : (from : ℕ) (xs : List Extent) → Rise from xs → IsNonDecreasingBy (λ x. x.base) xs
in_order from [] h i j d le lt = absurd (omega arith)
in_order from (x ∷ xs) h zero zero d le lt = omega arith
in_order from (x ∷ xs) h zero (suc j) d le lt = let within : j < length xs = omega arith in all_behind x.base xs h.1 j d within
in_order from (x ∷ xs) h (suc i) zero d le lt = absurd (omega arith)
in_order from (x ∷ xs) h (suc i) (suc j) d le lt =
    let within : j < length xs = omega arith in
    let below : i ≤ j = omega arith in
    in_order x.base xs h.1 i j d below within

-- what lies before a place and what lies behind it

pub none_before : (base : ℕ) (xs : List Extent) → All (λ x. base ≤ x.base) xs → filter (λ x. ltb x.base base) xs ≡ []
none_before base [] h = refl
none_before base (x ∷ xs) h = rw (le-ltb x.base base (All-head (λ y. base ≤ y.base) x xs h)) (none_before base xs (All-tail (λ y. base ≤ y.base) x xs h))

pub all_before : (base : ℕ) (xs : List Extent) → All (λ x. x.base < base) xs → filter (λ x. ltb x.base base) xs ≡ xs
all_before base [] h = refl
all_before base (x ∷ xs) h = rw (lt-ltb x.base base (All-head (λ y. y.base < base) x xs h)) (ap (λ l. x ∷ l) (all_before base xs (All-tail (λ y. y.base < base) x xs h)))

pub none_above : (base : ℕ) (xs : List Extent) → All (λ x. x.base < base) xs → filter (λ x. ltb base x.base) xs ≡ []
none_above base [] h = refl
none_above base (x ∷ xs) h = rw (le-ltb base x.base (let lt = All-head (λ y. y.base < base) x xs h in omega (arith, lt))) (none_above base xs (All-tail (λ y. y.base < base) x xs h))

pub all_above : (base : ℕ) (xs : List Extent) → All (λ x. base < x.base) xs → filter (λ x. ltb base x.base) xs ≡ xs
all_above base [] h = refl
all_above base (x ∷ xs) h = rw (lt-ltb base x.base (All-head (λ y. base < y.base) x xs h)) (ap (λ l. x ∷ l) (all_above base xs (All-tail (λ y. base < y.base) x xs h)))

-- a list whose first part lies before a place, and whose second part lies behind it
pub count_parts : (base : ℕ) (xs ys : List Extent) → All (λ x. x.base < base) xs → All (λ x. base ≤ x.base) ys → count_before base (xs ++ ys) ≡ length xs
count_parts base xs ys low high =
    ap length (filter-append (λ x. ltb x.base base) xs ys) ∙ rw (all_before base xs low, none_before base ys high, length-append xs []) (omega arith)

-- a search gives how many begin before a place
pub point_is_count : (base : ℕ) (xs : List Extent) (i : ℕ) → i ≤ length xs → IsPartitionPoint (λ x. ltb x.base base ≡ true) (λ x. ltb x.base base ≡ false) xs i → i ≡ count_before base xs
point_is_count base [] i le h = omega arith
point_is_count base (x ∷ xs) zero le h =
    let all : All (λ y. base ≤ y.base) (x ∷ xs) = λ k d lt. ltb-false _ _ (h.1 k d (omega arith) lt) in
    sym (ap length (none_before base (x ∷ xs) all))
point_is_count base (x ∷ xs) (suc i) le h =
    let first : ltb x.base base ≡ true = h.0 0 x (omega arith) (omega arith) in
    let rest = point_is_count base xs i (omega arith) (
      (λ k d low high. h.0 (suc k) d (omega arith) (omega arith)),
      (λ k d low high. h.1 (suc k) d (omega arith) (omega arith)),
    ) in
    rw first (ap suc rest)
