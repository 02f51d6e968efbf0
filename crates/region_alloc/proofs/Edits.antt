-- A room more, and a room less.
use Rattle.std.proofs.Common.{◌≡◌, ℕ, ◌+◌, ◌%◌, ◌<◌, ◌≤◌, true, false, leb, ltb, eqb, List, [], ◌∷◌, ◌++◌, inl, inr, refl, sym, ap, subst, arith}
use mathlib.Core.Bool.{◌&&◌}
use Rattle.std.specs.List.{All, filter, list_all}
use Rattle.std.proofs.lemmas.Bool.{false≢true, lt-ltb, le-ltb, leb-true, eqb-true, eq-eqb, ne_eqb, and_parts, or_cases}
use Rattle.std.proofs.lemmas.List.Elements.{All-head, All-tail, All-cons, All-weaker}
use Rattle.fam_model.specs.Rows.{room}
use Rattle.region_alloc.specs.declared.extent.Extent.{Extent}
use Rattle.region_alloc.specs.Space.{end_of, is_clear, has_room, room_at, with_room, without_room}
use Rattle.region_alloc.specs.Gaps.{LieIn}
use Rattle.region_alloc.proofs.Lists.{rooms_rise, all_behind, none_before, all_above}
use Rattle.region_alloc.proofs.Found.{room_bounds}

-- the rooms before a base at which there is place for a new one, and those behind it
pub record Taken (from limit base n : ℕ) (rooms : List Extent) : Type 0 where
  pub whole : rooms ≡ filter (λ x. ltb x.base base) rooms ++ filter (λ x. ltb base x.base) rooms
  pub lie : LieIn from limit (with_room base n rooms)

behind_all : (from limit : ℕ) (xs : List Extent) → LieIn from limit xs → All (λ y. from ≤ y.base) xs
behind_all from limit xs h = all_behind from xs (rooms_rise from limit xs h)

taken_first : (from limit base n : ℕ) (x : Extent) (xs : List Extent) → LieIn from limit (x ∷ xs) → from ≤ base → base % 64 ≡ 0 → base + room n ≤ x.base → Taken from limit base n (x ∷ xs)
taken_first from limit base n x xs h low aligned before =
    let bounds = room_bounds n in
    let least = bounds.1 in
    let far : base < x.base = omega arith in
    let rest : All (λ y. base < y.base) (x ∷ xs) = All-cons (λ y. base < y.base) x xs far (All-weaker (λ y. end_of x ≤ y.base) (λ y. base < y.base) (λ y le. omega arith) xs (behind_all (end_of x) limit xs h.4)) in
    let none : filter (λ y. ltb y.base base) (x ∷ xs) ≡ [] = none_before base (x ∷ xs) (All-weaker (λ y. base < y.base) (λ y. base ≤ y.base) (λ y lt. omega arith) (x ∷ xs) rest) in
    let above : filter (λ y. ltb base y.base) (x ∷ xs) ≡ x ∷ xs = all_above base (x ∷ xs) rest in
    let put : with_room base n (x ∷ xs) ≡ room_at base n ∷ (x ∷ xs) = (λ i. none i ++ room_at base n ∷ above i) in
    record {
      whole = sym (λ i. none i ++ above i);
      lie = subst (LieIn from limit) (sym put) (low, aligned, bounds.2, omega arith, (before, h.1, h.2, h.3, h.4));
    }

taken_later : (from limit base n : ℕ) (x : Extent) (xs : List Extent) → LieIn from limit (x ∷ xs) → end_of x ≤ base → Taken (end_of x) limit base n xs → Taken from limit base n (x ∷ xs)
taken_later from limit base n x xs h after t =
    let some = h.3 in
    let first : ltb x.base base ≡ true = lt-ltb _ _ (omega arith) in
    let second : ltb base x.base ≡ false = le-ltb _ _ (omega arith) in
    let put : with_room base n (x ∷ xs) ≡ x ∷ with_room base n xs = rw (first, second) refl in
    record {
      whole = rw (first, second) (ap (λ l. x ∷ l) t.whole);
      lie = subst (LieIn from limit) (sym put) (h.0, h.1, h.2, h.3, t.lie);
    }

pub taken : (from limit base n : ℕ) (rooms : List Extent) → LieIn from limit rooms → from ≤ base → base % 64 ≡ 0 → base + room n ≤ limit → list_all (is_clear n base) rooms ≡ true → Taken from limit base n rooms
taken from limit base n [] h low aligned high clear =
    let bounds = room_bounds n in
    let least = bounds.1 in
    record { whole = refl; lie = (low, aligned, bounds.2, omega arith, high) }
taken from limit base n (x ∷ xs) h low aligned high clear =
    let parts = and_parts (is_clear n base x) (list_all (is_clear n base) xs) clear in
    elim (or_cases (leb (base + room n) x.base) (leb (end_of x) base) parts.0) [
      | inl before ↦ taken_first from limit base n x xs h low aligned (leb-true _ _ before)
      | inr behind ↦ taken_later from limit base n x xs h (leb-true _ _ behind) (taken (end_of x) limit base n xs h.4 (leb-true _ _ behind) aligned high parts.1)
    ]

-- a room that is there, with the rooms before it and those behind it
pub record Freed (base n : ℕ) (rooms : List Extent) : Type 0 where
  pub before : List Extent
  pub behind : List Extent
  pub whole : rooms ≡ before ++ room_at base n ∷ behind
  pub is : without_room base rooms ≡ before ++ behind

-- no room behind a base begins there
others_kept : (base : ℕ) (xs : List Extent) → All (λ y. base < y.base) xs → without_room base xs ≡ xs
others_kept base [] h = refl
others_kept base (x ∷ xs) h =
    rw (ne_eqb x.base base (let lt = All-head (λ y. base < y.base) x xs h in λ e. absurd (omega (arith, lt)))) (ap (λ l. x ∷ l) (others_kept base xs (All-tail (λ y. base < y.base) x xs h)))

-- a room of some rooms begins behind all in front of them
room_behind : (from limit base n : ℕ) (xs : List Extent) → LieIn from limit xs → has_room base n xs ≡ true → from ≤ base
room_behind from limit base n [] h there = absurd (false≢true there)
room_behind from limit base n (x ∷ xs) h there = elim (or_cases (eqb x.base base && eqb x.length (room n)) (has_room base n xs) there) [
  | inl here ↦ let same = eqb-true _ _ (and_parts (eqb x.base base) (eqb x.length (room n)) here).0 in let first = h.0 in omega arith
  | inr later ↦ let rest = room_behind (end_of x) limit base n xs h.4 later in let first = h.0 in omega arith
]

freed_first : (from limit base n : ℕ) (x : Extent) (xs : List Extent) → LieIn from limit (x ∷ xs) → x.base ≡ base → x.length ≡ room n → Freed base n (x ∷ xs)
freed_first from limit base n x xs h same long =
    let some = h.3 in
    let behind : All (λ y. base < y.base) xs = All-weaker (λ y. end_of x ≤ y.base) (λ y. base < y.base) (λ y le. omega arith) xs (behind_all (end_of x) limit xs h.4) in
    record {
      before = [];
      behind = xs;
      whole = (λ i. record { base = same i; length = long i } ∷ xs);
      is = rw (eq-eqb x.base base same) (others_kept base xs behind);
    }

freed_later : (from limit base n : ℕ) (x : Extent) (xs : List Extent) → LieIn from limit (x ∷ xs) → end_of x ≤ base → Freed base n xs → Freed base n (x ∷ xs)
freed_later from limit base n x xs h after f =
    let some = h.3 in
    let other : eqb x.base base ≡ false = ne_eqb _ _ (λ e. absurd (omega arith)) in
    record {
      before = x ∷ f.before;
      behind = f.behind;
      whole = ap (λ l. x ∷ l) f.whole;
      is = rw other (ap (λ l. x ∷ l) f.is);
    }

pub freed : (from limit base n : ℕ) (rooms : List Extent) → LieIn from limit rooms → has_room base n rooms ≡ true → Freed base n rooms
freed from limit base n [] h there = absurd (false≢true there)
freed from limit base n (x ∷ xs) h there = elim (or_cases (eqb x.base base && eqb x.length (room n)) (has_room base n xs) there) [
  | inl here ↦
      let parts = and_parts (eqb x.base base) (eqb x.length (room n)) here in
      freed_first from limit base n x xs h (eqb-true _ _ parts.0) (eqb-true _ _ parts.1)
  | inr later ↦ freed_later from limit base n x xs h (room_behind (end_of x) limit base n xs h.4 later) (freed (end_of x) limit base n xs h.4 later)
]
