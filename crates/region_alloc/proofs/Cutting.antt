-- A room that is taken out of the gaps.
use Rattle.std.proofs.Common.{◌≡◌, ℕ, suc, ◌+◌, ◌-◌, ◌<◌, ◌≤◌, List, [], ◌∷◌, ◌++◌, length, get_or, take, drop, refl, sym, ap, ◌∙◌, arith, append_assoc}
use Rattle.std.specs.List.{All, remove}
use Rattle.std.proofs.lemmas.List.{length-append, append-nil, get_or-append-add}
use Rattle.std.proofs.lemmas.List.Elements.{All-cons, All-nil, All-append, All-weaker}
use Rattle.region_alloc.specs.declared.extent.Extent.{Extent}
use Rattle.region_alloc.specs.Space.{end_of}
use Rattle.region_alloc.specs.Gaps.{Leave, gap_of, gaps_from, end_from, LieIn, count_before}
use Rattle.region_alloc.proofs.Lists.{ends_inside, ends_behind, end_from-append, gaps_from-append, lies_before, lies_behind, gaps_rise, all_behind, count_parts}
use Rattle.region_alloc.proofs.Parts.{one_gap, gaps_behind, gaps_before, next_of, gaps_with, gaps_without, cut_parts, put_parts}

-- where the gap of a place begins and ends, if rooms lie before it and behind it
pub record Inside (xs ys : List Extent) (room : Extent) (limit end at : ℕ) (gaps : List Extent) : Type 0 where
  pub some : 0 < at
  pub place : at - 1 ≡ length (gaps_from 0 xs)
  pub parts : gaps ≡ gaps_from 0 xs ++ (record { base = end_from 0 xs; length = next_of (end_from 0 xs) ys - end_from 0 xs } ∷ gaps_behind ys)
  pub low : end_from 0 xs ≤ room.base
  pub high : end_of room ≤ next_of (end_from 0 xs) ys
  pub next : next_of (end_of room) ys ≡ next_of (end_from 0 xs) ys
  pub within : next_of (end_from 0 xs) ys ≤ limit
  pub is_end : end ≡ end_from 0 (xs ++ room ∷ ys)

-- all rooms end before a room that lies behind the last of them
none_behind : (limit end : ℕ) (xs ys : List Extent) (room : Extent) → LieIn 0 limit (xs ++ room ∷ ys) → end ≡ end_from 0 (xs ++ ys) → end ≤ room.base → ys ≡ []
none_behind limit end xs [] room h is le = refl
none_behind limit end xs (y ∷ ys) room h is le =
    let behind = lies_behind 0 limit xs (room ∷ (y ∷ ys)) h in
    let last = ends_behind (end_of y) limit ys behind.4.4 in
    let some = behind.3 in
    let first = behind.4.0 in
    absurd (omega (arith, is, end_from-append 0 xs (y ∷ ys)))

pub cut_last : (limit end : ℕ) (xs ys : List Extent) (room : Extent) (gaps new : List Extent) → LieIn 0 limit (xs ++ room ∷ ys) → Leave (xs ++ ys) limit gaps end → end ≤ room.base → new ≡ take (length gaps) gaps ++ (gap_of end room.base ++ drop (length gaps) gaps) → Leave (xs ++ room ∷ ys) limit new (end_of room)
cut_last limit end xs ys room gaps new h left le put =
    let nothing = none_behind limit end xs ys room h left.is_end le in
    let start : end ≡ end_from 0 xs = left.is_end ∙ ap (λ l. end_from 0 (xs ++ l)) nothing ∙ end_from-append 0 xs [] in
    let are : gaps ≡ gaps_from 0 xs ++ [] = left.are_gaps ∙ ap (λ l. gaps_from 0 (xs ++ l)) nothing ∙ ap (gaps_from 0) (append-nil xs) ∙ sym (append-nil (gaps_from 0 xs)) in
    let long : length gaps ≡ length (gaps_from 0 xs) = ap length are ∙ ap length (append-nil (gaps_from 0 xs)) in
    let made : new ≡ gaps_from 0 xs ++ (gap_of (end_from 0 xs) room.base ++ []) =
    put ∙ put_parts (gaps_from 0 xs) (gap_of end room.base) [] gaps (length gaps) are long ∙ ap (λ e. gaps_from 0 xs ++ (gap_of e room.base ++ [])) start in
    let alone : gaps_from 0 (xs ++ room ∷ []) ≡ gaps_from 0 xs ++ (gap_of (end_from 0 xs) room.base ++ []) = gaps_from-append 0 xs (room ∷ []) in
    record {
      lie = h;
      are_gaps = made ∙ sym alone ∙ ap (λ l. gaps_from 0 (xs ++ room ∷ l)) (sym nothing);
      is_end = sym (ap (λ l. end_from 0 (xs ++ room ∷ l)) nothing ∙ end_from-append 0 xs (room ∷ []));
    }

inside_of : (limit end at : ℕ) (xs ys : List Extent) (y room : Extent) (gaps : List Extent) → LieIn 0 limit (xs ++ room ∷ (y ∷ ys)) → Leave (xs ++ y ∷ ys) limit gaps end → at ≡ count_before (room.base + 1) gaps → Inside xs (y ∷ ys) room limit end at gaps
inside_of limit end at xs ys y room gaps h left is =
    let before = lies_before 0 limit xs (room ∷ (y ∷ ys)) h in
    let behind = lies_behind 0 limit xs (room ∷ (y ∷ ys)) h in
    let low = behind.0 in
    let some = behind.3 in
    let high = behind.4.0 in
    let long = behind.4.3 in
    let within = ends_inside (end_of y) limit ys behind.4.4 in
    let last = ends_behind (end_of y) limit ys behind.4.4 in
    let start : ℕ = end_from 0 xs in
    let gap : Extent = record { base = end_from 0 xs; length = y.base - end_from 0 xs } in
    let first : List Extent = gaps_from 0 xs in
    let rest : List Extent = gaps_from (end_of y) ys in
    let wide : end_from 0 xs < y.base = omega arith in
    let parts : gaps ≡ gaps_from 0 xs ++ (gap ∷ rest) = left.are_gaps ∙ gaps_without xs (y ∷ ys) ∙ ap (λ l. gaps_from 0 xs ++ (l ++ rest)) (one_gap (end_from 0 xs) y.base wide) in
    let joined : gaps ≡ (gaps_from 0 xs ++ gap ∷ []) ++ rest = parts ∙ sym (append_assoc first (gap ∷ []) rest) in
    let lows : All (λ g. g.base < room.base + 1) (first ++ gap ∷ []) =
    All-append (λ g. g.base < room.base + 1) first (gap ∷ [])
    (All-weaker (λ g. g.base < end_from 0 xs) (λ g. g.base < room.base + 1) (λ g lt. omega arith) first (gaps_before 0 (end_from 0 xs) xs before))
    (All-cons (λ g. g.base < room.base + 1) gap [] (omega arith) (All-nil (λ g. g.base < room.base + 1))) in
    let highs : All (λ g. room.base + 1 ≤ g.base) rest =
    All-weaker (λ g. end_of y ≤ g.base) (λ g. room.base + 1 ≤ g.base) (λ g le. omega arith) rest (all_behind (end_of y) rest (gaps_rise (end_of y) limit ys behind.4.4)) in
    let count : at ≡ length (gaps_from 0 xs ++ gap ∷ []) = is ∙ ap (count_before (room.base + 1)) joined ∙ count_parts (room.base + 1) (first ++ gap ∷ []) rest lows highs in
    let one = length-append first (gap ∷ []) in
    record {
      some = omega (arith, count, one);
      place = omega (arith, count, one);
      parts = parts;
      low = low;
      high = high;
      next = refl;
      within = omega arith;
      is_end = left.is_end ∙ end_from-append 0 xs (y ∷ ys) ∙ sym (end_from-append 0 xs (room ∷ (y ∷ ys)));
    }

pub inside : (limit end at : ℕ) (xs ys : List Extent) (room : Extent) (gaps seen : List Extent) → LieIn 0 limit (xs ++ room ∷ ys) → Leave (xs ++ ys) limit gaps end → room.base < end → seen ≡ gaps → at ≡ count_before (room.base + 1) seen → Inside xs ys room limit end at gaps
inside limit end at xs [] room gaps seen h left lt same is =
    let behind = lies_behind 0 limit xs (room ∷ []) h in
    let low = behind.0 in
    absurd (omega (arith, left.is_end, end_from-append 0 xs []))
inside limit end at xs (y ∷ ys) room gaps seen h left lt same is = inside_of limit end at xs ys y room gaps h left (is ∙ ap (count_before (room.base + 1)) same)

-- the gap that is read and goes
pub gap_read : (xs ys : List Extent) (room : Extent) (limit end at : ℕ) (gaps : List Extent) (d : Extent) → Inside xs ys room limit end at gaps → get_or gaps (at - 1) d ≡ record { base = end_from 0 xs; length = next_of (end_from 0 xs) ys - end_from 0 xs }
gap_read xs ys room limit end at gaps d i =
    (λ j. get_or (i.parts j) (i.place j) d) ∙ ap (λ k. get_or (gaps_from 0 xs ++ (record { base = end_from 0 xs; length = next_of (end_from 0 xs) ys - end_from 0 xs } ∷ gaps_behind ys)) k d) (omega arith)
    ∙ get_or-append-add (gaps_from 0 xs) (record { base = end_from 0 xs; length = next_of (end_from 0 xs) ys - end_from 0 xs } ∷ gaps_behind ys) 0 d

pub gap_within : (xs ys : List Extent) (room : Extent) (limit end at : ℕ) (gaps : List Extent) → Inside xs ys room limit end at gaps → at - 1 < length gaps
gap_within xs ys room limit end at gaps i = let place = i.place in omega (arith, place, ap length i.parts, length-append (gaps_from 0 xs) (record { base = end_from 0 xs; length = next_of (end_from 0 xs) ys - end_from 0 xs } ∷ gaps_behind ys))

pub gap_gone : (xs ys : List Extent) (room : Extent) (limit end at : ℕ) (gaps left : List Extent) → Inside xs ys room limit end at gaps → left ≡ remove gaps (at - 1) → left ≡ gaps_from 0 xs ++ gaps_behind ys
gap_gone xs ys room limit end at gaps left i cut =
    let gap : Extent = record { base = end_from 0 xs; length = next_of (end_from 0 xs) ys - end_from 0 xs } in
    let one : suc (at - 1) ≡ at - 1 + 1 = omega arith in
    cut ∙ ap (λ k. take (at - 1) gaps ++ drop k gaps) one ∙ cut_parts (gaps_from 0 xs) (gap ∷ []) (gaps_behind ys) gaps (at - 1) i.parts i.place

-- no sum passes the limit

pub room_stop : (limit : ℕ) (xs ys : List Extent) (room : Extent) → LieIn 0 limit (xs ++ room ∷ ys) → end_of room ≤ limit
room_stop limit xs ys room h =
    let behind = lies_behind 0 limit xs (room ∷ ys) h in
    let within = ends_inside (end_of room) limit ys behind.4 in
    let last = ends_behind (end_of room) limit ys behind.4 in
    omega arith

pub gap_stop : (xs ys : List Extent) (room gap : Extent) (limit end at : ℕ) (gaps : List Extent) → Inside xs ys room limit end at gaps → gap ≡ get_or gaps (at - 1) gap → end_of gap ≤ limit
gap_stop xs ys room gap limit end at gaps i read =
    let is = ap end_of (read ∙ gap_read xs ys room limit end at gaps gap i) in
    let low = i.low in
    let high = i.high in
    let within = i.within in
    omega (arith, is)

-- both new gaps are put in its place
pub cut_between : (xs ys : List Extent) (room gap : Extent) (limit end at : ℕ) (gaps left put new : List Extent) → LieIn 0 limit (xs ++ room ∷ ys) → Inside xs ys room limit end at gaps → gap ≡ get_or gaps (at - 1) gap → left ≡ remove gaps (at - 1) → put ≡ take (at - 1) left ++ (gap_of (end_of room) (end_of gap) ++ drop (at - 1) left) → new ≡ take (at - 1) put ++ (gap_of gap.base room.base ++ drop (at - 1) put) → Leave (xs ++ room ∷ ys) limit new end
cut_between xs ys room gap limit end at gaps left put new h i read cut first second =
    let is = read ∙ gap_read xs ys room limit end at gaps gap i in
    let low = i.low in
    let high = i.high in
    let stop : end_of gap ≡ next_of (end_of room) ys = ap end_of is ∙ omega arith ∙ sym i.next in
    let put_is = first ∙ put_parts (gaps_from 0 xs) (gap_of (end_of room) (end_of gap)) (gaps_behind ys) left (at - 1) (gap_gone xs ys room limit end at gaps left i cut) i.place in
    let new_is = second ∙ put_parts (gaps_from 0 xs) (gap_of gap.base room.base) (gap_of (end_of room) (end_of gap) ++ gaps_behind ys) put (at - 1) put_is i.place in
    record {
      lie = h;
      are_gaps = new_is ∙ (λ j. gaps_from 0 xs ++ (gap_of (is j).base room.base ++ (gap_of (end_of room) (stop j) ++ gaps_behind ys))) ∙ sym (gaps_with xs ys room);
      is_end = i.is_end;
    }
