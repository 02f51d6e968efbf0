-- The least base is that of the first gap that is long enough, or the end of the last room.
use Rattle.std.proofs.Common.{◌≡◌, ℕ, ◌+◌, ◌-◌, ◌*◌, ◌/◌, ◌%◌, ◌<◌, ◌≤◌, Bool, true, false, leb, ltb, eqb, List, [], ◌∷◌, ◌++◌, length, get_or, Some, None, is_none, inl, inr, refl, sym, ap, ◌∙◌, subst, arith}
use mathlib.Core.Bool.{not, ◌&&◌}
use Rattle.std.specs.List.{find, list_all, list_any, position_or_len, slice_get}
use Rattle.std.proofs.lemmas.Bool.{cases_lt, cases_Bool, lt-ltb, le-ltb, lt-leb, le-leb, and_left, and_right, and_from, or_left, or_right, or_from, eq-eqb}
use Rattle.std.proofs.lemmas.List.Folds.{find_at}
use Rattle.std.proofs.lemmas.List.FromFn.{get_or-map-range_with_len, length-map-range_with_len}
use Rattle.std.proofs.lemmas.List.Sums.{position_or_len_is}
use Rattle.std.proofs.lemmas.Option.{slice_get-get_or}
use Rattle.fam_model.specs.Rows.{room, bases_up_to}
use Rattle.region_alloc.specs.declared.extent.Extent.{Extent}
use Rattle.region_alloc.specs.Space.{Space, end_of, is_clear, has_place, least_place, is_cut_at}
use Rattle.region_alloc.specs.Gaps.{gap_of, gaps_from, first_gap, end_from, LieIn}
use Rattle.region_alloc.proofs.Lists.{ends_behind, ends_inside}

-- the first base of a row of bases that passes
pub first_passes : (p : ℕ → Bool) (size base : ℕ) → base % 64 ≡ 0 → base ≤ size → p base ≡ true → ((b : ℕ) → b < base → p b ≡ false) → find p (bases_up_to size) ≡ Some base
first_passes p size base aligned within here none =
    let count : ℕ = size / 64 + 1 in
    let k : ℕ = base / 64 in
    let bases = bases_up_to size in
    let whole : 64 * (base / 64) ≡ base = omega arith in
    let in_range : base / 64 < size / 64 + 1 = omega arith in
    let len : length bases ≡ size / 64 + 1 = length-map-range_with_len (λ j. 64 * j) 0 (size / 64 + 1) in
    let at : (j : ℕ) → j < size / 64 + 1 → get_or bases j 0 ≡ 64 * j = λ j lt. get_or-map-range_with_len (λ i. 64 * i) 0 (size / 64 + 1) j j 0 lt (omega arith) in
    let first : position_or_len p bases ≡ base / 64 = position_or_len_is p bases (base / 64) 0 (omega (arith, len)) (λ j lt. ap p (at j (omega arith)) ∙ none (64 * j) (omega arith)) (λ _. ap p (at (base / 64) in_range ∙ whole) ∙ here) in
    find_at p bases ∙ ap (slice_get bases) first ∙ slice_get-get_or bases (base / 64) 0 (omega (arith, len)) ∙ ap Some (at (base / 64) in_range ∙ whole)

-- where no base passes
pub none_passes : (p : ℕ → Bool) (size : ℕ) → ((b : ℕ) → p b ≡ false) → find p (bases_up_to size) ≡ None
none_passes p size none = nothing p (bases_up_to size) none where
  nothing : (p : ℕ → Bool) (xs : List ℕ) → ((b : ℕ) → p b ≡ false) → find p xs ≡ None
  nothing p [] none = refl
  nothing p (x ∷ xs) none = rw (none x) (nothing p xs none)

-- what is found passes
pub found_passes : {X : Type 0} (p : X → Bool) (xs : List X) (x : X) → find p xs ≡ Some x → p x ≡ true
found_passes p [] x e = absurd (cc e)
found_passes p (y ∷ xs) x e = elim (cases_Bool (p y)) [
  | inl holds ↦ let here : y ≡ x = (let step : find p (y ∷ xs) ≡ Some y = rw holds refl in cc (sym step ∙ e)) in subst (λ (z : _). p z ≡ true) here holds
  | inr fails ↦ found_passes p xs x (rw fails at e)
]

-- none is found just where none passes
pub unfound : {X : Type 0} (p : X → Bool) (xs : List X) → is_none (find p xs) ≡ not (list_any p xs)
unfound p [] = refl
unfound p (x ∷ xs) = elim (cases_Bool (p x)) [
  | inl holds ↦ rw holds refl
  | inr fails ↦ rw fails (unfound p xs)
]

-- a room has at least its bytes, and at least a block
pub room_bounds : (n : ℕ) → (n ≤ room n) × (64 ≤ room n) × (room n % 64 ≡ 0)
room_bounds n = (omega arith, omega arith, omega arith)

-- a room before all others is clear of them
pub clear_before : (n base from limit : ℕ) (xs : List Extent) → LieIn from limit xs → base + room n ≤ from → list_all (is_clear n base) xs ≡ true
clear_before n base from limit [] h le = refl
clear_before n base from limit (x ∷ xs) h le =
    let first = h.0 in
    and_from (is_clear n base x) (list_all (is_clear n base) xs) (or_left (leb (base + room n) x.base) (leb (end_of x) base) (le-leb _ _ (omega arith)))
    (clear_before n base (end_of x) limit xs h.4 (omega arith))

-- a room that begins between another one's front and its end, with no space in front of it, meets it
meets : (n from base : ℕ) (x : Extent) → from ≤ base → x.base < from + room n → base < end_of x → is_clear n base x ≡ false
meets n from base x low short high = or_from (leb (base + room n) x.base) (leb (end_of x) base) (lt-leb _ _ (omega arith)) (lt-leb _ _ high)

-- what the first long gap is: nothing in front of it is long enough
pub record IsFirst (n from limit : ℕ) (rooms : List Extent) (base : ℕ) : Type 0 where
  pub low : from ≤ base
  pub high : base ≤ limit
  pub aligned : from % 64 ≡ 0 → base % 64 ≡ 0
  pub clear : list_all (is_clear n base) rooms ≡ true
  pub none_below : (b : ℕ) → from ≤ b → b < base → list_all (is_clear n b) rooms ≡ false

-- where the gap in front of the first room is too short
passed_on : (n from limit : ℕ) (x : Extent) (xs : List Extent) (base : ℕ) → LieIn from limit (x ∷ xs) → x.base < from + room n → IsFirst n (end_of x) limit xs base → IsFirst n from limit (x ∷ xs) base
passed_on n from limit x xs base h short rest =
    let first = h.0 in
    let low = rest.low in
    let aligned : end_of x % 64 ≡ 0 = (let b = h.1 in let l = h.2 in omega arith) in
    record {
      low = omega arith;
      high = rest.high;
      aligned = λ _. rest.aligned aligned;
      clear = and_from (is_clear n base x) (list_all (is_clear n base) xs) (or_right (leb (base + room n) x.base) (leb (end_of x) base) (le-leb _ _ low)) rest.clear;
      none_below = λ b above below. elim (cases_lt b (end_of x)) [
        | inl met ↦ and_left (is_clear n b x) (list_all (is_clear n b) xs) (meets n from b x above short met)
        | inr beyond ↦ and_right (is_clear n b x) (list_all (is_clear n b) xs) (rest.none_below b beyond below)
      ];
    }

-- where it is long enough
stopped : (n from limit : ℕ) (x : Extent) (xs : List Extent) → LieIn from limit (x ∷ xs) → from + room n ≤ x.base → IsFirst n from limit (x ∷ xs) from
stopped n from limit x xs h long =
    let inside = ends_inside from limit (x ∷ xs) h in
    let behind = ends_behind from limit (x ∷ xs) h in
    record {
      low = omega arith;
      high = omega arith;
      aligned = λ e. e;
      clear = clear_before n from x.base limit (x ∷ xs) (omega arith, h.1, h.2, h.3, h.4) long;
      none_below = λ b above below. absurd (omega arith);
    }

first_gap_no : (want from to : ℕ) (gaps : List Extent) (end : ℕ) → 0 < want → to < from + want → first_gap want (gap_of from to ++ gaps) end ≡ first_gap want gaps end
first_gap_no want from to gaps end some short = elim (cases_lt from to) [
  | inl lt ↦ rw (lt-ltb from to lt, lt-leb want (to - from) (omega arith)) refl
  | inr ge ↦ rw (le-ltb from to ge) refl
]

first_gap_yes : (want from to : ℕ) (gaps : List Extent) (end : ℕ) → 0 < want → from + want ≤ to → first_gap want (gap_of from to ++ gaps) end ≡ from
first_gap_yes want from to gaps end some long = rw (lt-ltb from to (omega arith), le-leb want (to - from) (omega arith)) refl

pub first_is : (n from limit : ℕ) (xs : List Extent) → LieIn from limit xs → IsFirst n from limit xs (first_gap (room n) (gaps_from from xs) (end_from from xs))
first_is n from limit [] h = record { low = omega arith; high = h; aligned = λ e. e; clear = refl; none_below = λ b above below. absurd (omega arith) }
first_is n from limit (x ∷ xs) h =
    let bounds = room_bounds n in
    let some : 0 < room n = (let least = bounds.1 in omega arith) in
    elim (cases_lt x.base (from + room n)) [
      | inl short ↦ subst (IsFirst n from limit (x ∷ xs)) (sym (first_gap_no (room n) from x.base (gaps_from (end_of x) xs) (end_from (end_of x) xs) some short)) (passed_on n from limit x xs _ h short (first_is n (end_of x) limit xs h.4))
      | inr long ↦ subst (IsFirst n from limit (x ∷ xs)) (sym (first_gap_yes (room n) from x.base (gaps_from (end_of x) xs) (end_from (end_of x) xs) some long)) (stopped n from limit x xs h long)
    ]

-- the first base is the least one, unless it is too near to the region's end

pub too_large : (space : Space) (n : ℕ) → space.size < n → None ≡ least_place space n
too_large space n large =
    let bounds = room_bounds n in
    sym (none_passes (has_place space n) space.size (λ b. and_left (eqb (b % 64) 0 && leb (b + room n) space.size) _ (and_right (eqb (b % 64) 0) _ (lt-leb _ _ (let most = bounds.0 in omega arith)))))

pub too_far : (space : Space) (n base : ℕ) → IsFirst n 0 space.size space.rooms base → space.size - base < room n → None ≡ least_place space n
too_far space n base first far =
    sym (none_passes (has_place space n) space.size (λ b. elim (cases_lt b base) [
      | inl below ↦ and_right (eqb (b % 64) 0 && leb (b + room n) space.size) (list_all (is_clear n b) space.rooms) (first.none_below b (omega arith) below)
      | inr above ↦ and_left (eqb (b % 64) 0 && leb (b + room n) space.size) _ (and_right (eqb (b % 64) 0) _ (lt-leb _ _ (let high = first.high in omega arith)))
    ]))

pub near_enough : (space : Space) (n base : ℕ) → IsFirst n 0 space.size space.rooms base → room n ≤ space.size - base → Some base ≡ least_place space n
near_enough space n base first near =
    let bounds = room_bounds n in
    let high = first.high in
    let least = bounds.1 in
    let aligned = first.aligned refl in
    let within : base + room n ≤ space.size = omega arith in
    sym (first_passes (has_place space n) space.size base aligned (omega arith)
    (and_from (eqb (base % 64) 0 && leb (base + room n) space.size) _ (and_from (eqb (base % 64) 0) _ (eq-eqb _ _ aligned) (le-leb _ _ within)) first.clear)
    (λ b below. and_right (eqb (b % 64) 0 && leb (b + room n) space.size) (list_all (is_clear n b) space.rooms) (first.none_below b (omega arith) below)))

-- a size cuts some room just where it lies before the end of the last one
pub cut_is : (from limit size : ℕ) (xs : List Extent) → LieIn from limit xs → from ≤ size → ltb size (end_from from xs) ≡ is_cut_at size xs
cut_is from limit size [] h le = le-ltb size from le
cut_is from limit size (x ∷ xs) h le = elim (cases_lt size (end_of x)) [
  | inl cut ↦ lt-ltb size (end_from (end_of x) xs) (let behind = ends_behind (end_of x) limit xs h.4 in omega arith) ∙ sym (or_left (ltb size (end_of x)) (is_cut_at size xs) (lt-ltb size (end_of x) cut))
  | inr beyond ↦ rw (le-ltb size (end_of x) beyond) (cut_is (end_of x) limit size xs h.4 beyond)
]
