-- A room may lie at a base just where a gap has it, or behind the last room.
use Rattle.std.proofs.Common.{◌≡◌, ℕ, ◌+◌, ◌-◌, ◌%◌, ◌<◌, ◌≤◌, true, false, leb, List, [], ◌∷◌, ◌++◌, inl, inr, refl, sym, ap, ◌∙◌, arith}
use mathlib.Core.Bool.{◌&&◌, ◌||◌}
use Rattle.std.specs.List.{All, list_all, list_any}
use Rattle.std.proofs.lemmas.Bool.{cases_lt, le-leb, lt-leb, eq-eqb, and_left, and_right, and_from, or_left, or_right, or_from}
use Rattle.std.proofs.lemmas.List.Elements.{All-head, All-tail, All-weaker}
use Rattle.fam_model.specs.Rows.{room}
use Rattle.region_alloc.specs.declared.extent.Extent.{Extent}
use Rattle.region_alloc.specs.Space.{Space, end_of, is_clear, has_place}
use Rattle.region_alloc.specs.Gaps.{gap_of, gaps_from, end_from, has_bytes, LieIn}
use Rattle.region_alloc.proofs.Lists.{ends_behind, gaps_rise, all_behind}
use Rattle.region_alloc.proofs.Parts.{one_gap, no_gap}
use Rattle.region_alloc.proofs.Found.{room_bounds, clear_before}

-- a gap behind a base does not have bytes at it
pub none_has : (base long : ℕ) (gaps : List Extent) → All (λ g. base < g.base) gaps → list_any (has_bytes base long) gaps ≡ false
none_has base long [] all = refl
none_has base long (g ∷ gaps) all =
    or_from (has_bytes base long g) (list_any (has_bytes base long) gaps)
    (and_left (leb g.base base && leb long g.length) _ (and_left (leb g.base base) _ (lt-leb g.base base (All-head (λ x. base < x.base) g gaps all))))
    (none_has base long gaps (All-tail (λ x. base < x.base) g gaps all))

-- a gap that is too short does not have them
short_gap : (from to base long : ℕ) (gaps : List Extent) → 0 < long → to < base + long → list_any (has_bytes base long) (gap_of from to ++ gaps) ≡ list_any (has_bytes base long) gaps
short_gap from to base long gaps some short = elim (cases_lt from to) [
  | inl lt ↦
      let gap : Extent = record { base = from; length = to - from } in
      let fails : has_bytes base long gap ≡ false = (elim (cases_lt (to - from) long) [
        | inl less ↦ and_left (leb from base && leb long (to - from)) _ (and_right (leb from base) _ (lt-leb long (to - from) less))
        | inr enough ↦ elim (cases_lt base from) [
          | inl low ↦ and_left (leb from base && leb long (to - from)) _ (and_left (leb from base) _ (lt-leb from base low))
          | inr behind ↦ and_right (leb from base && leb long (to - from)) _ (lt-leb (base - from) (to - from - long) (omega arith))
        ]
      ]) in
      ap (λ l. list_any (has_bytes base long) (l ++ gaps)) (one_gap from to lt) ∙ ap (λ b. b || list_any (has_bytes base long) gaps) fails
  | inr ge ↦ ap (λ l. list_any (has_bytes base long) (l ++ gaps)) (no_gap from to ge)
]

long_gap : (from to base long : ℕ) (gaps : List Extent) → 0 < long → from ≤ base → base + long ≤ to → list_any (has_bytes base long) (gap_of from to ++ gaps) ≡ true
long_gap from to base long gaps some low high =
    let gap : Extent = record { base = from; length = to - from } in
    let holds : has_bytes base long gap ≡ true =
    and_from (leb from base && leb long (to - from)) _ (and_from (leb from base) _ (le-leb from base low) (le-leb long (to - from) (omega arith))) (le-leb (base - from) (to - from - long) (omega arith)) in
    ap (λ l. list_any (has_bytes base long) (l ++ gaps)) (one_gap from to (omega arith)) ∙ or_left (has_bytes base long gap) (list_any (has_bytes base long) gaps) holds

-- a room is clear of all others just where it lies behind the last of them, or in a gap
pub clear_is : (n base from limit : ℕ) (xs : List Extent) → LieIn from limit xs → from ≤ base → list_all (is_clear n base) xs ≡ (leb (end_from from xs) base || list_any (has_bytes base (room n)) (gaps_from from xs))
clear_is n base from limit [] h low = sym (or_left (leb from base) false (le-leb from base low))
clear_is n base from limit (x ∷ xs) h low =
    let bounds = room_bounds n in
    let some : 0 < room n = (let least = bounds.1 in omega arith) in
    let rest : List Extent = gaps_from (end_of x) xs in
    let last = ends_behind (end_of x) limit xs h.4 in
    elim (cases_lt x.base (base + room n)) [
      | inr before ↦
          clear_before n base x.base limit (x ∷ xs) (omega arith, h.1, h.2, h.3, h.4) before
          ∙ sym (or_right (leb (end_from (end_of x) xs) base) _ (long_gap from x.base base (room n) rest some low before))
      | inl met ↦
          let same = short_gap from x.base base (room n) rest some met in
          elim (cases_lt base (end_of x)) [
            | inl inside ↦
                let clear : is_clear n base x ≡ false = or_from (leb (base + room n) x.base) (leb (end_of x) base) (lt-leb _ _ met) (lt-leb _ _ inside) in
                let behind : All (λ g. base < g.base) rest = All-weaker (λ g. end_of x ≤ g.base) (λ g. base < g.base) (λ g le. omega arith) rest (all_behind (end_of x) rest (gaps_rise (end_of x) limit xs h.4)) in
                and_left (is_clear n base x) (list_all (is_clear n base) xs) clear
                ∙ sym (or_from (leb (end_from (end_of x) xs) base) _ (lt-leb _ _ (omega arith)) (same ∙ none_has base (room n) rest behind))
            | inr behind ↦
                let clear : is_clear n base x ≡ true = or_right (leb (base + room n) x.base) (leb (end_of x) base) (le-leb _ _ behind) in
                ap (λ b. b && list_all (is_clear n base) xs) clear
                ∙ clear_is n base (end_of x) limit xs h.4 behind
                ∙ ap (λ b. leb (end_from (end_of x) xs) base || b) (sym same)
          ]
    ]

-- inside the region, that is all
pub place_is_clear : (space : Space) (n base : ℕ) → base % 64 ≡ 0 → base + room n ≤ space.size → LieIn 0 space.size space.rooms → has_place space n base ≡ (leb (end_from 0 space.rooms) base || list_any (has_bytes base (room n)) (gaps_from 0 space.rooms))
place_is_clear space n base aligned within h =
    rw (eq-eqb (base % 64) 0 aligned, le-leb (base + room n) space.size within) (clear_is n base 0 space.size space.rooms h (omega arith))
