-- The least free base is found by moving past the items that are in the way.
use Rattle.std.proofs.Common.{◌≡◌, ℕ, ◌+◌, ◌*◌, ◌/◌, ◌%◌, ◌<◌, ◌≤◌, Bool, true, false, cond, leb, eqb, ◌≢◌, List, [], ◌∷◌, ◌++◌, length, get_or, take, Some, None, inl, inr, refl, sym, ap, ◌∙◌, arith}
use mathlib.Core.Bool.{◌&&◌}
use mathlib.Core.List.{map}
use Rattle.std.specs.List.{All, filter, find, list_all, position_or_len, range_with_len, slice_get}
use Rattle.std.proofs.lemmas.Bool.{cases_Bool, cases_lt, cases_eq, cond-true, cond-false, ne_eqb, or_parts, or_from, and_left, and_right, and_from, leb-false, leb-true, lt-leb, eq-eqb}
use Rattle.std.proofs.lemmas.List.Elements.{All-head, All-tail, filter_more}
use Rattle.std.proofs.lemmas.List.Folds.{find_at}
use Rattle.std.proofs.lemmas.List.FromFn.{get_or-map-range_with_len, length-map-range_with_len}
use Rattle.std.proofs.lemmas.List.Sums.{position_or_len_is}
use Rattle.std.proofs.lemmas.Option.{slice_get_past, slice_get-get_or}
use Rattle.fam_model.specs.declared.rows.RegionRow.{RegionRow}
use Rattle.fam_model.specs.declared.rows.ItemRow.{ItemRow}
use Rattle.fam_model.specs.declared.rows.Rows.{Rows}
use Rattle.fam_model.specs.Rows.{room, room_end, is_beside, items_in, fits, least_base}
use Rattle.fam_rows.specs.Passing.{moved, past}

-- items in two parts are passed one part after the other
pub past-append : (n base : ℕ) (xs ys : List ItemRow) → past n base (xs ++ ys) ≡ past n (past n base xs) ys
past-append n base [] ys = refl
past-append n base (x ∷ xs) ys = past-append n (moved n base x) xs ys

-- one more item is seen
pub past_more : (n base k : ℕ) (items : List ItemRow) (p : ItemRow → Bool) (d : ItemRow) → k < length items →
    past n base (filter p (take (k + 1) items)) ≡ cond (p (get_or items k d)) (moved n (past n base (filter p (take k items))) (get_or items k d)) (past n base (filter p (take k items)))
past_more n base k items p d in_range =
    rw (filter_more p items k d in_range, past-append n base (filter p (take k items)) (cond (p (get_or items k d)) (get_or items k d ∷ []) []))
    (elim (p (get_or items k d)) as (λ b. past n (past n base (filter p (take k items))) (cond b (get_or items k d ∷ []) []) ≡ cond b (moved n (past n base (filter p (take k items))) (get_or items k d)) (past n base (filter p (take k items)))) [ true ↦ refl | false ↦ refl ])

-- the step of the loop that sees one more item
pub seen_one : (n from region base next k : ℕ) (items : List ItemRow) (item : ItemRow) → k < length items → item ≡ get_or items k item →
    base ≡ past n from (filter (λ x. eqb x.region.0 region) (take k items)) → (item.region.0 ≡ region → next ≡ moved n base item) → (item.region.0 ≢ region → next ≡ base) →
    next ≡ past n from (filter (λ x. eqb x.region.0 region) (take (k + 1) items))
seen_one n from region base next k items item in_range is before in_region elsewhere =
    let step = past_more n from k items (λ x. eqb x.region.0 region) item in_range in
    let read : past n from (filter (λ x. eqb x.region.0 region) (take (k + 1) items)) ≡ cond (eqb item.region.0 region) (moved n base item) base = rw (before, is) step in
    elim (cases_eq item.region.0 region) [
      | inl same ↦ in_region same ∙ sym (read ∙ cond-true (eqb item.region.0 region) (moved n base item) base (eq-eqb _ _ same))
      | inr other ↦ elsewhere other ∙ sym (read ∙ cond-false (eqb item.region.0 region) (moved n base item) base (ne_eqb _ _ other))
    ]

-- what is known of an item in the way: its room begins before the end of the other, and ends behind its beginning
in_the_way : (n base : ℕ) (x : ItemRow) → is_beside n base x ≡ false → (x.base < base + room n) × (base < room_end x)
in_the_way n base x fails =
    let parts = or_parts (leb (base + room n) x.base) (leb (room_end x) base) fails in
    (leb-false _ _ parts.0, leb-false _ _ parts.1)

-- a base never moves down
pub past_above : (n base : ℕ) (xs : List ItemRow) → base ≤ past n base xs
past_above n base [] = omega arith
past_above n base (x ∷ xs) = elim (cases_Bool (is_beside n base x)) [
  | inl holds ↦ rw holds (past_above n base xs)
  | inr fails ↦ rw fails (let way = in_the_way n base x fails in let rest = past_above n (room_end x) xs in omega (arith, way.1, rest))
]

-- a base that does not move meets no item
pub past_same : (n base : ℕ) (xs : List ItemRow) → past n base xs ≡ base → list_all (is_beside n base) xs ≡ true
past_same n base [] e = refl
past_same n base (x ∷ xs) e = elim (cases_Bool (is_beside n base x)) [
  | inl holds ↦ and_from (is_beside n base x) (list_all (is_beside n base) xs) holds (past_same n base xs (rw holds at e))
  | inr fails ↦ absurd (let moved_on = rw fails at e in let way = in_the_way n base x fails in let rest = past_above n (room_end x) xs in omega (arith, way.1, rest, moved_on))
]

-- a base that was passed over meets some item
pub past_over : (n base : ℕ) (xs : List ItemRow) (b : ℕ) → base ≤ b → b < past n base xs → list_all (is_beside n b) xs ≡ false
past_over n base [] b low high = absurd (omega arith)
past_over n base (x ∷ xs) b low high = elim (cases_Bool (is_beside n base x)) [
  | inl holds ↦ and_right (is_beside n b x) (list_all (is_beside n b) xs) (past_over n base xs b low (rw holds at high))
  | inr fails ↦ elim (cases_lt b (room_end x)) [
    | inl met ↦
        let way = in_the_way n base x fails in
        and_left (is_beside n b x) (list_all (is_beside n b) xs)
        (or_from (leb (b + room n) x.base) (leb (room_end x) b) (lt-leb _ _ (omega (arith, way.0))) (lt-leb _ _ met))
    | inr beyond ↦ and_right (is_beside n b x) (list_all (is_beside n b) xs) (past_over n (room_end x) xs b beyond (rw fails at high))
  ]
]

-- a base stays a multiple of 64
pub past_aligned : (n base : ℕ) (xs : List ItemRow) → All (λ x. x.base % 64 ≡ 0) xs → base % 64 ≡ 0 → past n base xs % 64 ≡ 0
past_aligned n base [] all aligned = aligned
past_aligned n base (x ∷ xs) all aligned = elim (cases_Bool (is_beside n base x)) [
  | inl holds ↦ rw holds (past_aligned n base xs (All-tail (λ y. y.base % 64 ≡ 0) x xs all) aligned)
  | inr fails ↦ rw fails (past_aligned n (room_end x) xs (All-tail (λ y. y.base % 64 ≡ 0) x xs all) (let first = All-head (λ y. y.base % 64 ≡ 0) x xs all in omega (arith, first)))
]

-- the first base of a row of bases that passes
find_base : (p : ℕ → Bool) (count k : ℕ) → k < count → ((j : ℕ) → j < k → p (64 * j) ≡ false) → p (64 * k) ≡ true → find p (map (λ j. 64 * j) (range_with_len 0 count)) ≡ Some (64 * k)
find_base p count k in_range none here =
    let bases = map (λ j. 64 * j) (range_with_len 0 count) in
    let len : length bases ≡ count = length-map-range_with_len (λ j. 64 * j) 0 count in
    let at : (j : ℕ) → j < count → get_or bases j 0 ≡ 64 * j = λ j lt. get_or-map-range_with_len (λ i. 64 * i) 0 count j j 0 lt (omega arith) in
    let first : position_or_len p bases ≡ k = position_or_len_is p bases k 0 (omega arith) (λ j lt. ap p (at j (omega arith)) ∙ none j lt) (λ _. ap p (at k in_range) ∙ here) in
    find_at p bases ∙ ap (slice_get bases) first ∙ slice_get-get_or bases k 0 (rw len in_range) ∙ ap Some (at k in_range)

-- where no base passes
find_no_base : (p : ℕ → Bool) (count : ℕ) → ((j : ℕ) → j < count → p (64 * j) ≡ false) → find p (map (λ j. 64 * j) (range_with_len 0 count)) ≡ None
find_no_base p count none =
    let bases = map (λ j. 64 * j) (range_with_len 0 count) in
    let len : length bases ≡ count = length-map-range_with_len (λ j. 64 * j) 0 count in
    let at : (j : ℕ) → j < count → get_or bases j 0 ≡ 64 * j = λ j lt. get_or-map-range_with_len (λ i. 64 * i) 0 count j j 0 lt (omega arith) in
    let first : position_or_len p bases ≡ length bases = position_or_len_is p bases (length bases) 0 (omega arith) (λ j lt. ap p (at j (omega arith)) ∙ none j (omega arith)) (λ past_end. absurd (omega arith)) in
    find_at p bases ∙ ap (slice_get bases) first ∙ slice_get_past bases (length bases) (omega arith)

-- a base that was passed over does not fit
pub passed_over : (rows : Rows) (row : RegionRow) (n base b : ℕ) → base ≤ b → b < past n base (items_in rows row.number.0) → fits rows row n b ≡ false
passed_over rows row n base b low high =
    and_right (eqb (b % 64) 0 && leb (b + room n) row.size) (list_all (is_beside n b) (items_in rows row.number.0)) (past_over n base (items_in rows row.number.0) b low high)

-- a base whose room ends behind the region does not fit
ends_behind : (rows : Rows) (row : RegionRow) (n b : ℕ) → row.size < b + room n → fits rows row n b ≡ false
ends_behind rows row n b behind =
    and_left (eqb (b % 64) 0 && leb (b + room n) row.size) (list_all (is_beside n b) (items_in rows row.number.0)) (and_right (eqb (b % 64) 0) (leb (b + room n) row.size) (lt-leb _ _ behind))

-- the base at which the search stops is the least that fits
pub stops_at : (rows : Rows) (row : RegionRow) (n base : ℕ) → base % 64 ≡ 0 → ((b : ℕ) → b < base → fits rows row n b ≡ false) → leb (base + room n) row.size ≡ true → past n base (items_in rows row.number.0) ≡ base → Some base ≡ least_base rows row n
stops_at rows row n base aligned none_below ends same =
    let free = past_same n base (items_in rows row.number.0) same in
    let here : fits rows row n base ≡ true = and_from (eqb (base % 64) 0 && leb (base + room n) row.size) _ (and_from (eqb (base % 64) 0) _ (eq-eqb _ _ aligned) ends) free in
    let below : base ≤ row.size = (let all = leb-true (base + room n) row.size ends in omega (arith, all)) in
    let whole : 64 * (base / 64) ≡ base = omega arith in
    let found = find_base (fits rows row n) (row.size / 64 + 1) (base / 64) (omega arith) (λ j lt. none_below (64 * j) (omega arith)) (ap (fits rows row n) whole ∙ here) in
    sym (found ∙ ap Some whole)

-- past the last base nothing fits
pub stops_nowhere : (rows : Rows) (row : RegionRow) (n base : ℕ) → ((b : ℕ) → b < base → fits rows row n b ≡ false) → leb (base + room n) row.size ≡ false → None ≡ least_base rows row n
stops_nowhere rows row n base none_below ends =
    let behind = leb-false (base + room n) row.size ends in
    sym (find_no_base (fits rows row n) (row.size / 64 + 1) (λ j lt. elim (cases_lt (64 * j) base) [
      | inl low ↦ none_below (64 * j) low
      | inr high ↦ ends_behind rows row n (64 * j) (omega (arith, behind))
    ]))
