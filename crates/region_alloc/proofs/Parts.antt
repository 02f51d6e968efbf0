-- The gaps around one room.
use Rattle.std.proofs.Common.{◌≡◌, ℕ, suc, ◌+◌, ◌-◌, ◌<◌, ◌≤◌, Bool, true, false, cond, ltb, List, [], ◌∷◌, ◌++◌, length, take, drop, refl, sym, ap, ◌∙◌, arith}
use Rattle.std.specs.List.{All}
use Rattle.std.proofs.lemmas.Bool.{lt-ltb, le-ltb}
use Rattle.std.proofs.lemmas.List.{take_at, drop_at, drop-drop}
use Rattle.std.proofs.lemmas.List.Elements.{All-cons, All-nil, All-weaker}
use Rattle.region_alloc.specs.declared.extent.Extent.{Extent}
use Rattle.region_alloc.specs.Space.{end_of}
use Rattle.region_alloc.specs.Gaps.{gap_of, gaps_from, end_from, LieIn, count_before}
use Rattle.region_alloc.proofs.Lists.{gaps_from-append, lies_both, lies_lower, lies_before, lies_behind, ends_behind, gaps_rise, all_behind, count_parts}

-- the gaps behind the first room
abbrev pub gaps_behind : List Extent → List Extent
gaps_behind [] = []
gaps_behind (x ∷ xs) = gaps_from (end_of x) xs

-- where the first of some rooms begins, or else a place
abbrev pub next_of : ℕ → List Extent → ℕ
next_of from [] = from
next_of from (x ∷ xs) = x.base

pub front_first : (from : ℕ) (xs : List Extent) → gaps_from from xs ≡ gap_of from (next_of from xs) ++ gaps_behind xs
front_first from [] = sym (rw (le-ltb from from (omega arith)) refl)
front_first from (x ∷ xs) = refl

-- a gap, and none
pub one_gap : (from to : ℕ) → from < to → gap_of from to ≡ record { base = from; length = to - from } ∷ []
one_gap from to lt = rw (lt-ltb from to lt) refl

pub no_gap : (from to : ℕ) → to ≤ from → gap_of from to ≡ []
no_gap from to le = rw (le-ltb from to le) refl

-- no more gaps than rooms
gap_count : (b : Bool) (x : Extent) (rest : List Extent) (n : ℕ) → length rest ≤ n → length (cond b (x ∷ []) [] ++ rest) ≤ suc n
gap_count true x rest n h = omega arith
gap_count false x rest n h = omega arith

pub gaps_count : (from : ℕ) (xs : List Extent) → length (gaps_from from xs) ≤ length xs
gaps_count from [] = omega arith
gaps_count from (x ∷ xs) = gap_count (ltb from x.base) (record { base = from; length = x.base - from }) (gaps_from (end_of x) xs) (length xs) (gaps_count (end_of x) xs)

-- the gaps in front of rooms end before the last room does
gap_ends : (b : Bool) (from to : ℕ) (rest : List Extent) (end : ℕ) → from ≤ to → to < end → All (λ g. end_of g < end) rest → All (λ g. end_of g < end) (cond b (record { base = from; length = to - from } ∷ []) [] ++ rest)
gap_ends true from to rest end le lt h = All-cons (λ g. end_of g < end) (record { base = from; length = to - from }) rest (omega arith) h
gap_ends false from to rest end le lt h = h

pub gaps_end : (from limit : ℕ) (xs : List Extent) → LieIn from limit xs → All (λ g. end_of g < end_from from xs) (gaps_from from xs)
gaps_end from limit [] h = All-nil (λ g. end_of g < from)
gaps_end from limit (x ∷ xs) h =
    let rest = ends_behind (end_of x) limit xs h.4 in
    let lt : x.base < end_from (end_of x) xs = (let some = h.3 in omega arith) in
    gap_ends (ltb from x.base) from x.base (gaps_from (end_of x) xs) (end_from (end_of x) xs) h.0 lt (gaps_end (end_of x) limit xs h.4)

-- so they begin before it does
pub gaps_before : (from limit : ℕ) (xs : List Extent) → LieIn from limit xs → All (λ g. g.base < end_from from xs) (gaps_from from xs)
gaps_before from limit xs h = All-weaker (λ g. end_of g < end_from from xs) (λ g. g.base < end_from from xs) (λ g lt. omega arith) (gaps_from from xs) (gaps_end from limit xs h)

-- where the gaps behind a first part of the rooms begin
pub place_is : (limit : ℕ) (xs zs : List Extent) → LieIn 0 limit (xs ++ zs) → count_before (end_from 0 xs) (gaps_from 0 (xs ++ zs)) ≡ length (gaps_from 0 xs)
place_is limit xs zs h =
    let behind = lies_behind 0 limit xs zs h in
    ap (count_before (end_from 0 xs)) (gaps_from-append 0 xs zs)
    ∙ count_parts (end_from 0 xs) (gaps_from 0 xs) (gaps_from (end_from 0 xs) zs) (gaps_before 0 (end_from 0 xs) xs (lies_before 0 limit xs zs h)) (all_behind (end_from 0 xs) (gaps_from (end_from 0 xs) zs) (gaps_rise (end_from 0 xs) limit zs behind))

-- what a part that is cut out leaves, and what one that is put in makes

pub cut_parts : (a g r l : List Extent) (at : ℕ) → l ≡ a ++ (g ++ r) → at ≡ length a → take at l ++ drop (at + length g) l ≡ a ++ r
cut_parts a g r l at e is =
    let first : take at l ≡ a = ap (take at) e ∙ take_at a (g ++ r) at (sym is) in
    let second : drop (at + length g) l ≡ r = sym (drop-drop (length g) at l) ∙ ap (λ x. drop (length g) (drop at x)) e ∙ ap (drop (length g)) (drop_at a (g ++ r) at (sym is)) ∙ drop_at g r (length g) refl in
    λ i. first i ++ second i

pub put_parts : (a g r l : List Extent) (at : ℕ) → l ≡ a ++ r → at ≡ length a → take at l ++ (g ++ drop at l) ≡ a ++ (g ++ r)
put_parts a g r l at e is =
    let first : take at l ≡ a = ap (take at) e ∙ take_at a r at (sym is) in
    let second : drop at l ≡ r = ap (drop at) e ∙ drop_at a r at (sym is) in
    λ i. first i ++ (g ++ second i)

-- the gaps with a room between two parts of the rooms, and without it
pub gaps_without : (xs ys : List Extent) → gaps_from 0 (xs ++ ys) ≡ gaps_from 0 xs ++ (gap_of (end_from 0 xs) (next_of (end_from 0 xs) ys) ++ gaps_behind ys)
gaps_without xs ys = gaps_from-append 0 xs ys ∙ ap (λ l. gaps_from 0 xs ++ l) (front_first (end_from 0 xs) ys)

pub gaps_with : (xs ys : List Extent) (room : Extent) → gaps_from 0 (xs ++ room ∷ ys) ≡ gaps_from 0 xs ++ (gap_of (end_from 0 xs) room.base ++ (gap_of (end_of room) (next_of (end_of room) ys) ++ gaps_behind ys))
gaps_with xs ys room =
    gaps_from-append 0 xs (room ∷ ys)
    ∙ ap (λ l. gaps_from 0 xs ++ (gap_of (end_from 0 xs) room.base ++ l)) (front_first (end_of room) ys)

-- rooms without one of them lie as before
pub lies_without : (limit : ℕ) (xs ys : List Extent) (room : Extent) → LieIn 0 limit (xs ++ room ∷ ys) → LieIn 0 limit (xs ++ ys)
lies_without limit xs ys room h =
    let behind = lies_behind 0 limit xs (room ∷ ys) h in
    lies_both 0 limit xs ys (lies_before 0 limit xs (room ∷ ys) h) (lies_lower (end_of room) (end_from 0 xs) limit ys (let low = behind.0 in omega arith) behind.4)
