-- A room that is given back to the gaps.
use Rattle.std.proofs.Common.{◌≡◌, ◌≢◌, ℕ, ◌+◌, ◌-◌, ◌<◌, ◌≤◌, Bool, true, false, cond, eqb, leb, List, [], ◌∷◌, ◌++◌, length, get_or, take, drop, Option, Some, None, inl, inr, refl, sym, ap, ◌∙◌, subst, arith, append_assoc}
use Rattle.std.specs.List.{All, slice_get}
use Rattle.std.specs.Option.{option_map_or}
use Rattle.std.proofs.lemmas.Bool.{cases_lt, le-leb, lt-leb, eq-eqb, ne_eqb, and_from, and_left, and_right}
use Rattle.std.proofs.lemmas.List.{length-append, get_or-append-add}
use Rattle.std.proofs.lemmas.List.Elements.{All-cons, All-nil, All-append, All-weaker}
use Rattle.std.proofs.lemmas.Option.{slice_get_within, slice_get-get_or, get_or_from_slice_get}
use Rattle.region_alloc.specs.declared.extent.Extent.{Extent}
use Rattle.region_alloc.specs.Space.{end_of}
use Rattle.region_alloc.specs.Gaps.{Leave, gap_of, gaps_from, end_from, LieIn, count_before, ends_at, start_of, length_at}
use Rattle.region_alloc.proofs.Lists.{ends_inside, ends_behind, end_from-append, gaps_from-append, lies_before, lies_behind, gaps_rise, all_behind, count_parts}
use Rattle.region_alloc.proofs.Parts.{one_gap, no_gap, gaps_behind, gaps_before, gaps_end, gaps_count, front_first, next_of, gaps_with, gaps_without, lies_without, place_is, cut_parts, put_parts}

-- the gap between two places lies there
gap_low : (from to : ℕ) → All (λ g. g.base < to) (gap_of from to)
gap_low from to = elim (cases_lt from to) [
  | inl lt ↦ subst (All (λ g. g.base < to)) (sym (one_gap from to lt)) (All-cons (λ g. g.base < to) (record { base = from; length = to - from }) [] lt (All-nil (λ g. g.base < to)))
  | inr ge ↦ subst (All (λ g. g.base < to)) (sym (no_gap from to ge)) (All-nil (λ g. g.base < to))
]

-- what is looked up in a list in which nothing passes

not_read : (test : Extent → Bool) (value : Extent → ℕ) (other : ℕ) (xs : List Extent) (k : ℕ) → All (λ g. test g ≡ false) xs → option_map_or (λ g. cond (test g) (value g) other) (slice_get xs k) other ≡ other
not_read test value other xs k all = by (slice_get xs k) refl where
  by : (o : Option Extent) → slice_get xs k ≡ o → option_map_or (λ g. cond (test g) (value g) other) o other ≡ other
  by None is = refl
  by (Some g) is =
      let lt = slice_get_within xs k g is in
      let fails : test g ≡ false = subst (λ x. test x ≡ false) (get_or_from_slice_get xs k g g is) (all k g lt) in
      ap (λ b. cond b (value g) other) fails

is_read : (test : Extent → Bool) (value : Extent → ℕ) (other : ℕ) (a r : List Extent) (g : Extent) (k : ℕ) → k ≡ length a → test g ≡ true → option_map_or (λ x. cond (test x) (value x) other) (slice_get (a ++ g ∷ r) k) other ≡ value g
is_read test value other a r g k is holds =
    let here : slice_get (a ++ g ∷ r) k ≡ Some g =
    slice_get-get_or (a ++ g ∷ r) k g (omega (arith, is, length-append a (g ∷ r)))
    ∙ ap Some (ap (λ n. get_or (a ++ g ∷ r) n g) (omega (arith, is)) ∙ get_or-append-add a (g ∷ r) 0 g) in
    ap (λ o. option_map_or (λ x. cond (test x) (value x) other) o other) here ∙ ap (λ b. cond b (value g) other) holds

-- no gap ends where the rooms before it end, and none begins there
not_ending : (place : ℕ) (g : Extent) → end_of g < place → ends_at place g ≡ false
not_ending place g lt = and_right (leb g.base place) _ (ne_eqb (place - g.base) g.length (λ e. absurd (omega arith)))

not_begun : (place : ℕ) (g : Extent) → place < g.base → ends_at place g ≡ false
not_begun place g lt = and_left (leb g.base place) _ (lt-leb g.base place lt)

-- what is found around a room
pub record Around (xs ys : List Extent) (room : Extent) (limit end start at : ℕ) (gaps : List Extent) : Type 0 where
  pub is_start : start ≡ end_from 0 xs
  pub place : at ≡ length (gaps_from 0 xs)
  pub parts : gaps ≡ gaps_from 0 xs ++ (gap_of start room.base ++ (gap_of (end_of room) (next_of (end_of room) ys) ++ gaps_behind ys))

pub count_is : (limit : ℕ) (xs ys : List Extent) (room : Extent) (gaps : List Extent) → LieIn 0 limit (xs ++ room ∷ ys) → gaps ≡ gaps_from 0 (xs ++ room ∷ ys) → count_before room.base gaps ≡ length (gaps_from 0 xs ++ gap_of (end_from 0 xs) room.base)
count_is limit xs ys room gaps h are =
    let before = lies_before 0 limit xs (room ∷ ys) h in
    let behind = lies_behind 0 limit xs (room ∷ ys) h in
    let low = behind.0 in
    let first : List Extent = gaps_from 0 xs in
    let gap : List Extent = gap_of (end_from 0 xs) room.base in
    let rest : List Extent = gaps_from (end_of room) ys in
    let joined : gaps ≡ (first ++ gap) ++ rest = are ∙ gaps_from-append 0 xs (room ∷ ys) ∙ sym (append_assoc first gap rest) in
    let lows : All (λ g. g.base < room.base) (first ++ gap) =
    All-append (λ g. g.base < room.base) first gap
    (All-weaker (λ g. g.base < end_from 0 xs) (λ g. g.base < room.base) (λ g lt. omega arith) first (gaps_before 0 (end_from 0 xs) xs before))
    (gap_low (end_from 0 xs) room.base) in
    let highs : All (λ g. room.base ≤ g.base) rest =
    All-weaker (λ g. end_of room ≤ g.base) (λ g. room.base ≤ g.base) (λ g le. omega arith) rest (all_behind (end_of room) rest (gaps_rise (end_of room) limit ys behind.4)) in
    ap (count_before room.base) joined ∙ count_parts room.base (first ++ gap) rest lows highs

-- where the gap in front of the room begins, or else the room
pub start_is : (limit : ℕ) (xs ys : List Extent) (room : Extent) (count : ℕ) → LieIn 0 limit (xs ++ room ∷ ys) → count ≡ length (gaps_from 0 xs ++ gap_of (end_from 0 xs) room.base) → start_of (gaps_from 0 xs ++ (gap_of (end_from 0 xs) room.base ++ gaps_from (end_of room) ys)) count room.base ≡ end_from 0 xs
start_is limit xs ys room count h is =
    let before = lies_before 0 limit xs (room ∷ ys) h in
    let behind = lies_behind 0 limit xs (room ∷ ys) h in
    let low = behind.0 in
    let some = behind.3 in
    let start : ℕ = end_from 0 xs in
    let first : List Extent = gaps_from 0 xs in
    let rest : List Extent = gaps_from (end_of room) ys in
    let test : Extent → Bool = ends_at room.base in
    let value : Extent → ℕ = λ g. g.base in
    elim (cases_lt (end_from 0 xs) room.base) [
      | inl lt ↦
          let gap : Extent = record { base = end_from 0 xs; length = room.base - end_from 0 xs } in
          let one = one_gap (end_from 0 xs) room.base lt in
          let long : count ≡ length (first ++ gap ∷ []) = is ∙ ap (λ l. length (first ++ l)) one in
          let counted = length-append first (gap ∷ []) in
          let holds : ends_at room.base gap ≡ true = and_from (leb (end_from 0 xs) room.base) _ (le-leb _ _ low) (eq-eqb (room.base - end_from 0 xs) (room.base - end_from 0 xs) refl) in
          ap (λ l. start_of (first ++ (l ++ rest)) count room.base) one
          ∙ ap (λ b. cond b room.base (option_map_or (λ g. cond (ends_at room.base g) g.base room.base) (slice_get (first ++ gap ∷ rest) (count - 1)) room.base)) (ne_eqb count 0 (λ e. absurd (omega (arith, long, counted))))
          ∙ is_read test value room.base first rest gap (count - 1) (omega (arith, long, counted)) holds
      | inr ge ↦
          let same : end_from 0 xs ≡ room.base = omega arith in
          let none = no_gap (end_from 0 xs) room.base ge in
          let fails : All (λ g. ends_at room.base g ≡ false) (first ++ rest) =
          All-append (λ g. ends_at room.base g ≡ false) first rest
          (All-weaker (λ g. end_of g < end_from 0 xs) (λ g. ends_at room.base g ≡ false) (λ g ends. not_ending room.base g (omega arith)) first (gaps_end 0 (end_from 0 xs) xs before))
          (All-weaker (λ g. end_of room ≤ g.base) (λ g. ends_at room.base g ≡ false) (λ g le. not_begun room.base g (omega arith)) rest (all_behind (end_of room) rest (gaps_rise (end_of room) limit ys behind.4))) in
          ap (λ l. start_of (first ++ (l ++ rest)) count room.base) none
          ∙ ap (λ t. cond (eqb count 0) room.base t) (not_read test value room.base (first ++ rest) (count - 1) fails)
          ∙ either_way (eqb count 0) room.base ∙ sym same
    ] where
      either_way : (b : Bool) (n : ℕ) → cond b n n ≡ n
      either_way true n = refl
      either_way false n = refl

pub around : (limit end count start at : ℕ) (xs ys : List Extent) (room : Extent) (gaps seen seen_again seen_last : List Extent) → Leave (xs ++ room ∷ ys) limit gaps end → seen ≡ gaps → count ≡ count_before room.base seen → seen_again ≡ gaps → start ≡ start_of seen_again count room.base → seen_last ≡ gaps → at ≡ count_before start seen_last → Around xs ys room limit end start at gaps
around limit end count start at xs ys room gaps seen seen_again seen_last left same counted same_again started same_last placed =
    let cut = left.are_gaps ∙ gaps_from-append 0 xs (room ∷ ys) in
    let count' : count ≡ length (gaps_from 0 xs ++ gap_of (end_from 0 xs) room.base) = counted ∙ ap (count_before room.base) same ∙ count_is limit xs ys room gaps left.lie left.are_gaps in
    let start' : start ≡ end_from 0 xs = started ∙ ap (λ l. start_of l count room.base) (same_again ∙ cut) ∙ start_is limit xs ys room count left.lie count' in
    record {
      is_start = start';
      place = placed ∙ (λ i. count_before (start' i) ((same_last ∙ left.are_gaps) i)) ∙ place_is limit xs (room ∷ ys) left.lie;
      parts = left.are_gaps ∙ gaps_with xs ys room ∙ ap (λ e. gaps_from 0 xs ++ (gap_of e room.base ++ (gap_of (end_of room) (next_of (end_of room) ys) ++ gaps_behind ys))) (sym start');
    }

pub first_cut : (xs ys : List Extent) (room : Extent) (limit end start at : ℕ) (gaps : List Extent) → Around xs ys room limit end start at gaps → at + length (gap_of start room.base) ≤ length gaps
first_cut xs ys room limit end start at gaps a =
    let place = a.place in
    omega (arith, place, ap length a.parts, length-append (gaps_from 0 xs) (gap_of start room.base ++ (gap_of (end_of room) (next_of (end_of room) ys) ++ gaps_behind ys)), length-append (gap_of start room.base) (gap_of (end_of room) (next_of (end_of room) ys) ++ gaps_behind ys))

pub after_first : (xs ys : List Extent) (room : Extent) (limit end start at : ℕ) (gaps left : List Extent) → Around xs ys room limit end start at gaps → left ≡ take at gaps ++ drop (at + length (gap_of start room.base)) gaps → left ≡ gaps_from 0 xs ++ (gap_of (end_of room) (next_of (end_of room) ys) ++ gaps_behind ys)
after_first xs ys room limit end start at gaps left a cut = cut ∙ cut_parts (gaps_from 0 xs) (gap_of start room.base) (gap_of (end_of room) (next_of (end_of room) ys) ++ gaps_behind ys) gaps at a.parts a.place

-- no gap before the room begins where it ends
front_elsewhere : (limit : ℕ) (xs ys : List Extent) (room : Extent) → LieIn 0 limit (xs ++ room ∷ ys) → All (λ g. eqb g.base (end_of room) ≡ false) (gaps_from 0 xs)
front_elsewhere limit xs ys room h =
    let before = lies_before 0 limit xs (room ∷ ys) h in
    let behind = lies_behind 0 limit xs (room ∷ ys) h in
    let low = behind.0 in
    All-weaker (λ g. g.base < end_from 0 xs) (λ g. eqb g.base (end_of room) ≡ false) (λ g lt. ne_eqb g.base (end_of room) (λ e. absurd (omega arith))) (gaps_from 0 xs) (gaps_before 0 (end_from 0 xs) xs before)

-- how long the gap behind the room is

length_last : (limit : ℕ) (xs : List Extent) (room : Extent) (at : ℕ) → LieIn 0 limit (xs ++ room ∷ []) → end_of room + length_at (gaps_from 0 xs ++ []) at (end_of room) ≡ end_of room
length_last limit xs room at h =
    let first : List Extent = gaps_from 0 xs in
    let fails : All (λ g. eqb g.base (end_of room) ≡ false) (first ++ []) =
    All-append (λ g. eqb g.base (end_of room) ≡ false) first [] (front_elsewhere limit xs [] room h) (All-nil (λ g. eqb g.base (end_of room) ≡ false)) in
    let none = not_read (λ g. eqb g.base (end_of room)) (λ g. g.length) 0 (first ++ []) at fails in
    omega (arith, none)

length_between : (limit : ℕ) (xs ys : List Extent) (y room : Extent) (at : ℕ) → LieIn 0 limit (xs ++ room ∷ (y ∷ ys)) → at ≡ length (gaps_from 0 xs) → end_of room + length_at (gaps_from 0 xs ++ (gap_of (end_of room) y.base ++ gaps_from (end_of y) ys)) at (end_of room) ≡ y.base
length_between limit xs ys y room at h is =
    let behind = lies_behind 0 limit xs (room ∷ (y ∷ ys)) h in
    let high = behind.4.0 in
    let long = behind.4.3 in
    let first : List Extent = gaps_from 0 xs in
    let rest : List Extent = gaps_from (end_of y) ys in
    elim (cases_lt (end_of room) y.base) [
      | inl lt ↦
          let gap : Extent = record { base = end_of room; length = y.base - end_of room } in
          let read =
          ap (λ l. length_at (first ++ (l ++ rest)) at (end_of room)) (one_gap (end_of room) y.base lt)
          ∙ is_read (λ g. eqb g.base (end_of room)) (λ g. g.length) 0 first rest gap at is (eq-eqb (end_of room) (end_of room) refl) in
          omega (arith, read)
      | inr ge ↦
          let fails : All (λ g. eqb g.base (end_of room) ≡ false) (first ++ rest) =
          All-append (λ g. eqb g.base (end_of room) ≡ false) first rest (front_elsewhere limit xs (y ∷ ys) room h)
          (All-weaker (λ g. end_of y ≤ g.base) (λ g. eqb g.base (end_of room) ≡ false) (λ g le. ne_eqb g.base (end_of room) (λ e. absurd (omega arith))) rest (all_behind (end_of y) rest (gaps_rise (end_of y) limit ys behind.4.4))) in
          let read =
          ap (λ l. length_at (first ++ (l ++ rest)) at (end_of room)) (no_gap (end_of room) y.base ge)
          ∙ not_read (λ g. eqb g.base (end_of room)) (λ g. g.length) 0 (first ++ rest) at fails in
          omega (arith, read)
    ]

length_is : (limit : ℕ) (xs ys : List Extent) (room : Extent) (at : ℕ) → LieIn 0 limit (xs ++ room ∷ ys) → at ≡ length (gaps_from 0 xs) → end_of room + length_at (gaps_from 0 xs ++ gaps_from (end_of room) ys) at (end_of room) ≡ next_of (end_of room) ys
length_is limit xs [] room at h is = length_last limit xs room at h
length_is limit xs (y ∷ ys) room at h is = length_between limit xs ys y room at h is

pub next_is : (xs ys : List Extent) (room : Extent) (limit end start at long : ℕ) (gaps left seen : List Extent) → LieIn 0 limit (xs ++ room ∷ ys) → Around xs ys room limit end start at gaps → left ≡ take at gaps ++ drop (at + length (gap_of start room.base)) gaps → seen ≡ left → long ≡ length_at seen at (end_of room) → end_of room + long ≡ next_of (end_of room) ys
next_is xs ys room limit end start at long gaps left seen h a cut same is =
    let whole : seen ≡ gaps_from 0 xs ++ gaps_from (end_of room) ys = same ∙ after_first xs ys room limit end start at gaps left a cut ∙ ap (λ l. gaps_from 0 xs ++ l) (sym (front_first (end_of room) ys)) in
    ap (λ n. end_of room + n) (is ∙ ap (λ l. length_at l at (end_of room)) whole) ∙ length_is limit xs ys room at h a.place

pub next_within : (limit : ℕ) (xs ys : List Extent) (room : Extent) → LieIn 0 limit (xs ++ room ∷ ys) → next_of (end_of room) ys ≤ limit
next_within limit xs ys room h = by ys (lies_behind 0 limit xs (room ∷ ys) h).4 where
  by : (ys : List Extent) → LieIn (end_of room) limit ys → next_of (end_of room) ys ≤ limit
  by [] h = h
  by (y ∷ ys) h =
      let within = ends_inside (end_of y) limit ys h.4 in
      let last = ends_behind (end_of y) limit ys h.4 in
      omega arith

pub second_cut : (xs ys : List Extent) (room : Extent) (limit end start at next : ℕ) (gaps left : List Extent) → Around xs ys room limit end start at gaps → left ≡ take at gaps ++ drop (at + length (gap_of start room.base)) gaps → next ≡ next_of (end_of room) ys → at + length (gap_of (end_of room) next) ≤ length left
second_cut xs ys room limit end start at next gaps left a cut is =
    let place = a.place in
    let parts = after_first xs ys room limit end start at gaps left a cut in
    let same = ap (λ n. length (gap_of (end_of room) n)) is in
    omega (arith, place, same, ap length parts, length-append (gaps_from 0 xs) (gap_of (end_of room) (next_of (end_of room) ys) ++ gaps_behind ys), length-append (gap_of (end_of room) (next_of (end_of room) ys)) (gaps_behind ys))

pub after_second : (xs ys : List Extent) (room : Extent) (limit end start at next : ℕ) (gaps left rest : List Extent) → Around xs ys room limit end start at gaps → left ≡ take at gaps ++ drop (at + length (gap_of start room.base)) gaps → next ≡ next_of (end_of room) ys → rest ≡ take at left ++ drop (at + length (gap_of (end_of room) next)) left → rest ≡ gaps_from 0 xs ++ gaps_behind ys
after_second xs ys room limit end start at next gaps left rest a cut is again =
    again ∙ ap (λ n. take at left ++ drop (at + length (gap_of (end_of room) n)) left) is
    ∙ cut_parts (gaps_from 0 xs) (gap_of (end_of room) (next_of (end_of room) ys)) (gaps_behind ys) left at (after_first xs ys room limit end start at gaps left a cut) a.place

-- the room was the last one just where it ends where the last one does

last_one : (limit end : ℕ) (xs ys : List Extent) (room : Extent) → LieIn 0 limit (xs ++ room ∷ ys) → end ≡ end_from 0 (xs ++ room ∷ ys) → end_of room ≡ end → ys ≡ []
last_one limit end xs [] room h is same = refl
last_one limit end xs (y ∷ ys) room h is same =
    let behind = lies_behind 0 limit xs (room ∷ (y ∷ ys)) h in
    let last = ends_behind (end_of y) limit ys behind.4.4 in
    let first = behind.4.0 in
    let long = behind.4.3 in
    absurd (omega (arith, is, end_from-append 0 xs (room ∷ (y ∷ ys))))

pub freed_last : (xs ys : List Extent) (room : Extent) (limit end start at next : ℕ) (gaps left rest : List Extent) → Leave (xs ++ room ∷ ys) limit gaps end → Around xs ys room limit end start at gaps → left ≡ take at gaps ++ drop (at + length (gap_of start room.base)) gaps → next ≡ next_of (end_of room) ys → rest ≡ take at left ++ drop (at + length (gap_of (end_of room) next)) left → end_of room ≡ end → Leave (xs ++ ys) limit rest start
freed_last xs ys room limit end start at next gaps left rest l a cut is again same =
    let none = last_one limit end xs ys room l.lie l.is_end same in
    record {
      lie = lies_without limit xs ys room l.lie;
      are_gaps = after_second xs ys room limit end start at next gaps left rest a cut is again ∙ ap (λ ys. gaps_from 0 xs ++ gaps_behind ys) none ∙ sym (gaps_from-append 0 xs []) ∙ ap (λ ys. gaps_from 0 (xs ++ ys)) (sym none);
      is_end = a.is_start ∙ sym (end_from-append 0 xs []) ∙ ap (λ ys. end_from 0 (xs ++ ys)) (sym none);
    }

-- else the gaps around it join

others_behind : (xs ys : List Extent) (room : Extent) (end : ℕ) → end ≡ end_from 0 (xs ++ room ∷ ys) → end_of room ≢ end → (next_of (end_of room) ys ≡ next_of (end_from 0 xs) ys) × (end ≡ end_from 0 (xs ++ ys))
others_behind xs [] room end is other = absurd (other (sym (is ∙ end_from-append 0 xs (room ∷ []))))
others_behind xs (y ∷ ys) room end is other = (refl, is ∙ end_from-append 0 xs (room ∷ (y ∷ ys)) ∙ sym (end_from-append 0 xs (y ∷ ys)))

joined_is : (xs ys : List Extent) (room : Extent) (limit end start at next : ℕ) (gaps left rest : List Extent) → Leave (xs ++ room ∷ ys) limit gaps end → Around xs ys room limit end start at gaps → next ≡ next_of (end_of room) ys → end_of room ≢ end → gaps_from 0 xs ++ (gap_of start next ++ gaps_behind ys) ≡ gaps_from 0 (xs ++ ys)
joined_is xs ys room limit end start at next gaps left rest l a is other =
    let more = others_behind xs ys room end l.is_end other in
    (λ i. gaps_from 0 xs ++ (gap_of (a.is_start i) ((is ∙ more.0) i) ++ gaps_behind ys)) ∙ sym (gaps_without xs ys)

pub room_for_it : (xs ys : List Extent) (room : Extent) (limit end start at next capacity : ℕ) (gaps left rest : List Extent) → Leave (xs ++ room ∷ ys) limit gaps end → Around xs ys room limit end start at gaps → left ≡ take at gaps ++ drop (at + length (gap_of start room.base)) gaps → next ≡ next_of (end_of room) ys → rest ≡ take at left ++ drop (at + length (gap_of (end_of room) next)) left → end_of room ≢ end → length (xs ++ ys) ≤ capacity → (at ≤ length rest) × (length rest + length (gap_of start next) ≤ capacity)
room_for_it xs ys room limit end start at next capacity gaps left rest l a cut is again other most =
    let place = a.place in
    let parts = ap length (after_second xs ys room limit end start at next gaps left rest a cut is again) ∙ length-append (gaps_from 0 xs) (gaps_behind ys) in
    let whole = ap length (joined_is xs ys room limit end start at next gaps left rest l a is other) in
    let few = gaps_count 0 (xs ++ ys) in (
      omega (arith, place, parts),
      omega (arith, parts, whole, few, most, length-append (gaps_from 0 xs) (gap_of start next ++ gaps_behind ys), length-append (gap_of start next) (gaps_behind ys)),
    )

pub freed_between : (xs ys : List Extent) (room : Extent) (limit end start at next : ℕ) (gaps left rest new : List Extent) → Leave (xs ++ room ∷ ys) limit gaps end → Around xs ys room limit end start at gaps → left ≡ take at gaps ++ drop (at + length (gap_of start room.base)) gaps → next ≡ next_of (end_of room) ys → rest ≡ take at left ++ drop (at + length (gap_of (end_of room) next)) left → new ≡ take at rest ++ (gap_of start next ++ drop at rest) → end_of room ≢ end → Leave (xs ++ ys) limit new end
freed_between xs ys room limit end start at next gaps left rest new l a cut is again put other =
    let more = others_behind xs ys room end l.is_end other in
    record {
      lie = lies_without limit xs ys room l.lie;
      are_gaps = put ∙ put_parts (gaps_from 0 xs) (gap_of start next) (gaps_behind ys) rest at (after_second xs ys room limit end start at next gaps left rest a cut is again) a.place ∙ joined_is xs ys room limit end start at next gaps left rest l a is other;
      is_end = more.1;
    }
