-- What each call keeps: over plain values, with what the steps of a call give as equations.
use Rattle.std.proofs.Common.{◌≡◌, ℕ, ◌+◌, ◌-◌, ◌%◌, ◌<◌, ◌≤◌, true, false, leb, ltb, eqb, List, ◌∷◌, ◌++◌, length, sym, ap, ◌∙◌, subst, arith}
use mathlib.Core.Bool.{◌&&◌}
use Rattle.std.specs.List.{filter, list_all}
use Rattle.std.proofs.lemmas.Bool.{and_parts, leb-true, eqb-true, ltb-false}
use Rattle.std.proofs.lemmas.List.{length-append}
use Rattle.fam_model.specs.Limits.{max_region_size}
use Rattle.fam_model.specs.Rows.{room}
use Rattle.region_alloc.specs.declared.extent.Extent.{Extent}
use Rattle.region_alloc.specs.Space.{Space, is_clear, has_place, has_room, is_cut_at, room_at, with_room, without_room}
use Rattle.region_alloc.specs.Gaps.{FreeRanges, Holds, Leave, LieIn, end_from, first_gap, space_with}
use Rattle.region_alloc.proofs.Lists.{ends_inside, lies_within}
use Rattle.region_alloc.proofs.Found.{IsFirst, first_is, cut_is, room_bounds}
use Rattle.region_alloc.proofs.Edits.{Taken, taken, freed}
use Rattle.region_alloc.proofs.Parts.{gaps_count}
use Rattle.region_alloc.proofs.Cutting.{room_stop}

-- rooms of a region lie inside the largest one
pub left_in_all : (free : FreeRanges) (rooms : List Extent) → free.size ≤ max_region_size → Holds free rooms → Leave rooms max_region_size free.gaps free.end
left_in_all free rooms limit h =
    let high = ends_inside 0 free.size rooms h.leave.lie in
    record { lie = lies_within 0 free.size max_region_size rooms h.leave.lie (omega arith); are_gaps = h.leave.are_gaps; is_end = h.leave.is_end }

-- the base that a search in the gaps gives
pub first_found : (free : FreeRanges) (n want base : ℕ) (rooms seen : List Extent) → Holds free rooms → want ≡ room n → seen ≡ free.gaps → base ≡ first_gap want seen free.end → IsFirst n 0 free.size rooms base
first_found free n want base rooms seen h is same found =
    subst (IsFirst n 0 free.size rooms) (sym (found ∙ (λ i. first_gap (is i) ((same ∙ h.leave.are_gaps) i) (h.leave.is_end i)))) (first_is n 0 free.size rooms h.leave.lie)

-- a base that fits
pub fits_parts : (space : Space) (n base : ℕ) → has_place space n base ≡ true → (base % 64 ≡ 0) × (base + room n ≤ space.size) × (list_all (is_clear n base) space.rooms ≡ true)
fits_parts space n base e =
    let last = and_parts (eqb (base % 64) 0 && leb (base + room n) space.size) (list_all (is_clear n base) space.rooms) e in
    let first = and_parts (eqb (base % 64) 0) (leb (base + room n) space.size) last.0 in
    (eqb-true _ _ first.0, leb-true _ _ first.1, last.1)

pub takes : (free : FreeRanges) (rooms : List Extent) (n base : ℕ) → Holds free rooms → has_place (space_with free rooms) n base ≡ true → Taken 0 free.size base n rooms
takes free rooms n base h e =
    let parts = fits_parts (space_with free rooms) n base e in
    taken 0 free.size base n rooms h.leave.lie (omega arith) parts.0 parts.1 parts.2

-- another size
pub resized : (free new : FreeRanges) (rooms : List Extent) → Holds free rooms → new.gaps ≡ free.gaps → new.end ≡ free.end → new.count ≡ free.count → is_cut_at new.size rooms ≡ false → Holds new rooms
resized free new rooms h gaps end count uncut =
    let ends = ltb-false new.size (end_from 0 rooms) (cut_is 0 free.size new.size rooms h.leave.lie (omega arith) ∙ uncut) in
    record {
      leave = record { lie = lies_within 0 free.size new.size rooms h.leave.lie ends; are_gaps = gaps ∙ h.leave.are_gaps; is_end = end ∙ h.leave.is_end };
      counted = count ∙ h.counted;
    }

-- a room more

-- what the gaps are cut to, whichever rooms lie before the new one and behind it
abbrev pub Cuts : FreeRanges → FreeRanges → Extent → Type 0
Cuts free new room = (size : ℕ) (before behind : List Extent) → LieIn 0 size (before ++ room ∷ behind) → Leave (before ++ behind) size free.gaps free.end → Leave (before ++ room ∷ behind) size new.gaps new.end

pub cut_fits : (free : FreeRanges) (rooms : List Extent) (n base long : ℕ) → free.size ≤ max_region_size → Holds free rooms → has_place (space_with free rooms) n base ≡ true → long ≡ room n →
    (before : List Extent) × (behind : List Extent) × LieIn 0 max_region_size (before ++ record { base = base; length = long } ∷ behind) × Leave (before ++ behind) max_region_size free.gaps free.end
cut_fits free rooms n base long limit h e is =
    let t = takes free rooms n base h e in
    let low : List Extent = filter (λ x. ltb x.base base) rooms in
    let high : List Extent = filter (λ x. ltb base x.base) rooms in
    let inside = ends_inside 0 free.size (with_room base n rooms) t.lie in
    let lie : LieIn 0 max_region_size (with_room base n rooms) = lies_within 0 free.size max_region_size (with_room base n rooms) t.lie (omega arith) in (
      filter (λ x. ltb x.base base) rooms,
      filter (λ x. ltb base x.base) rooms,
      subst (λ l. LieIn 0 max_region_size (filter (λ x. ltb x.base base) rooms ++ record { base = base; length = l } ∷ filter (λ x. ltb base x.base) rooms)) (sym is) lie,
      subst (λ l. Leave l max_region_size free.gaps free.end) t.whole (left_in_all free rooms limit h),
    )

pub taken_rooms : (free new : FreeRanges) (rooms : List Extent) (n base long : ℕ) → Holds free rooms → has_place (space_with free rooms) n base ≡ true → long ≡ room n → Cuts free new (record { base = base; length = long }) → new.size ≡ free.size → new.count ≡ free.count + 1 → Holds new (with_room base n rooms)
taken_rooms free new rooms n base long h e is cuts size count =
    let t = takes free rooms n base h e in
    let low : List Extent = filter (λ x. ltb x.base base) rooms in
    let high : List Extent = filter (λ x. ltb base x.base) rooms in
    let cuts_it : Cuts free new (room_at base n) = subst (λ l. Cuts free new (record { base = base; length = l })) is cuts in
    let leave : Leave (with_room base n rooms) free.size new.gaps new.end = cuts_it free.size low high t.lie (subst (λ l. Leave l free.size free.gaps free.end) t.whole h.leave) in
    record {
      leave = subst (λ s. Leave (with_room base n rooms) s new.gaps new.end) (sym size) leave;
      counted = (let counted = h.counted in omega (arith, count, counted, ap length t.whole, length-append low high, length-append low (room_at base n ∷ high)));
    }

-- a room less

abbrev pub Frees : FreeRanges → FreeRanges → Extent → Type 0
Frees free new room = (size : ℕ) (before behind : List Extent) → Leave (before ++ room ∷ behind) size free.gaps free.end → Leave (before ++ behind) size new.gaps new.end

pub free_fits : (free : FreeRanges) (rooms : List Extent) (n base long capacity : ℕ) → free.size ≤ max_region_size → free.count ≤ capacity → Holds free rooms → has_room base n rooms ≡ true → long ≡ room n →
    (before : List Extent) × (behind : List Extent) × Leave (before ++ record { base = base; length = long } ∷ behind) max_region_size free.gaps free.end × (length (before ++ behind) ≤ capacity)
free_fits free rooms n base long capacity limit places h there is =
    let f = freed 0 free.size base n rooms h.leave.lie there in
    let whole : rooms ≡ f.before ++ record { base = base; length = long } ∷ f.behind = f.whole ∙ ap (λ l. f.before ++ record { base = base; length = l } ∷ f.behind) (sym is) in (
      f.before,
      f.behind,
      subst (λ l. Leave l max_region_size free.gaps free.end) whole (left_in_all free rooms limit h),
      (let counted = h.counted in omega (arith, counted, ap length f.whole, length-append f.before (room_at base n ∷ f.behind), length-append f.before f.behind)),
    )

pub freed_rooms : (free new : FreeRanges) (rooms : List Extent) (n base long : ℕ) → Holds free rooms → has_room base n rooms ≡ true → long ≡ room n → Frees free new (record { base = base; length = long }) → new.size ≡ free.size → new.count ≡ free.count - 1 → Holds new (without_room base rooms)
freed_rooms free new rooms n base long h there is frees size count =
    let f = freed 0 free.size base n rooms h.leave.lie there in
    let frees_it : Frees free new (room_at base n) = subst (λ l. Frees free new (record { base = base; length = l })) is frees in
    let leave : Leave (f.before ++ f.behind) free.size new.gaps new.end = frees_it free.size f.before f.behind (subst (λ l. Leave l free.size free.gaps free.end) f.whole h.leave) in
    subst (Holds new) (sym f.is) (record {
      leave = subst (λ s. Leave (f.before ++ f.behind) s new.gaps new.end) (sym size) leave;
      counted = (let counted = h.counted in omega (arith, count, counted, ap length f.whole, length-append f.before (room_at base n ∷ f.behind), length-append f.before f.behind));
    })

-- a room is not longer than the region, and rooms are not more than their places

pub room_inside : (free : FreeRanges) (rooms : List Extent) (n base : ℕ) → free.size ≤ max_region_size → Holds free rooms → has_room base n rooms ≡ true → n ≤ max_region_size
room_inside free rooms n base limit h there =
    let f = freed 0 free.size base n rooms h.leave.lie there in
    let bounds = room_bounds n in
    let least = bounds.0 in
    let stop = room_stop free.size f.before f.behind (room_at base n) (subst (LieIn 0 free.size) f.whole h.leave.lie) in
    omega arith

pub some_room : (free : FreeRanges) (rooms : List Extent) (n base : ℕ) → Holds free rooms → has_room base n rooms ≡ true → 0 < free.count
some_room free rooms n base h there =
    let f = freed 0 free.size base n rooms h.leave.lie there in
    let counted = h.counted in
    omega (arith, counted, ap length f.whole, length-append f.before (room_at base n ∷ f.behind))

pub gaps_few : (free : FreeRanges) (rooms : List Extent) → Holds free rooms → length free.gaps ≤ free.count
gaps_few free rooms h = let counted = h.counted in let few = gaps_count 0 rooms in omega (arith, few, counted, ap length h.leave.are_gaps)
