-- The gaps are apart, so that bytes at a base can only lie in the last one that begins there or before it.
use Rattle.std.proofs.Common.{◌≡◌, ℕ, suc, ◌+◌, ◌-◌, ◌<◌, ◌≤◌, Bool, true, false, leb, List, [], ◌∷◌, ◌++◌, length, get_or, inl, inr, refl, sym, ap, ◌∙◌, subst, arith}
use mathlib.Core.Bool.{◌&&◌, ◌||◌}
use Rattle.std.specs.List.{list_any}
use Rattle.std.proofs.lemmas.Bool.{cases_lt, cases_eq, lt-ltb, lt-leb, and_left, and_right}
use Rattle.std.proofs.lemmas.List.Elements.{All-weaker}
use Rattle.region_alloc.specs.declared.extent.Extent.{Extent}
use Rattle.region_alloc.specs.Space.{end_of}
use Rattle.region_alloc.specs.Gaps.{Apart, LieIn, Rise, count_before, gaps_from, has_bytes}
use Rattle.region_alloc.proofs.Lists.{rise_lower, all_behind, none_before}
use Rattle.region_alloc.proofs.Parts.{one_gap, no_gap}
use Rattle.region_alloc.proofs.Fitting.{none_has}

apart_lower : (from lower : ℕ) (xs : List Extent) → lower ≤ from → Apart from xs → Apart lower xs
apart_lower from lower [] le h = tt
apart_lower from lower (x ∷ xs) le h = (let first = h.0 in omega arith, h.1)

pub apart_rises : (from : ℕ) (xs : List Extent) → Apart from xs → Rise from xs
apart_rises from [] h = tt
apart_rises from (x ∷ xs) h = (h.0, rise_lower (end_of x) x.base xs (omega arith) (apart_rises (end_of x) xs h.1))

pub gaps_apart : (from limit : ℕ) (xs : List Extent) → LieIn from limit xs → Apart from (gaps_from from xs)
gaps_apart from limit [] h = tt
gaps_apart from limit (x ∷ xs) h =
    let rest = gaps_apart (end_of x) limit xs h.4 in
    let first = h.0 in
    elim (cases_lt from x.base) [
      | inl lt ↦
          subst (λ l. Apart from (l ++ gaps_from (end_of x) xs)) (sym (one_gap from x.base lt)) (omega arith, apart_lower (end_of x) (from + (x.base - from)) (gaps_from (end_of x) xs) (omega arith) rest)
      | inr ge ↦
          subst (λ l. Apart from (l ++ gaps_from (end_of x) xs)) (sym (no_gap from x.base ge)) (apart_lower (end_of x) from (gaps_from (end_of x) xs) (omega arith) rest)
    ]

-- gaps behind a place
none_counted : (base from : ℕ) (gaps : List Extent) → base < from → Apart from gaps → count_before (base + 1) gaps ≡ 0
none_counted base from gaps lt h =
    ap length (none_before (base + 1) gaps (All-weaker (λ g. from ≤ g.base) (λ g. base + 1 ≤ g.base) (λ g le. omega arith) gaps (all_behind from gaps (apart_rises from gaps h))))

none_there : (base long from : ℕ) (gaps : List Extent) → base < from → Apart from gaps → list_any (has_bytes base long) gaps ≡ false
none_there base long from gaps lt h = none_has base long gaps (All-weaker (λ g. from ≤ g.base) (λ g. base < g.base) (λ g le. omega arith) gaps (all_behind from gaps (apart_rises from gaps h)))

-- a gap that begins where none is counted lies behind
uncounted : (base : ℕ) (gaps : List Extent) (from : ℕ) → Apart from gaps → count_before (base + 1) gaps ≡ 0 → Apart (base + 1) gaps
uncounted base [] from h none = tt
uncounted base (g ∷ gaps) from h none = elim (cases_lt g.base (base + 1)) [
  | inl low ↦
      let one : count_before (base + 1) (g ∷ gaps) ≡ suc (count_before (base + 1) gaps) = rw (lt-ltb g.base (base + 1) low) refl in
      absurd (omega (arith, one, none))
  | inr high ↦ (high, h.1)
]

-- where no gap begins at the base or before it, none has bytes there
pub nowhere : (base long from : ℕ) (gaps : List Extent) → Apart from gaps → count_before (base + 1) gaps ≡ 0 → list_any (has_bytes base long) gaps ≡ false
nowhere base long from gaps h none = none_there base long (base + 1) gaps (omega arith) (uncounted base gaps from h none)

or_none : (b : Bool) → (b || false) ≡ b
or_none true = refl
or_none false = refl

-- a gap that ends before the base does not have them
too_low : (base long : ℕ) (g : Extent) → 0 < long → end_of g ≤ base → has_bytes base long g ≡ false
too_low base long g some le = elim (cases_lt g.length long) [
  | inl short ↦ and_left (leb g.base base && leb long g.length) _ (and_right (leb g.base base) _ (lt-leb long g.length short))
  | inr wide ↦ and_right (leb g.base base && leb long g.length) _ (lt-leb (base - g.base) (g.length - long) (omega arith))
]

-- else only the last of those can have them
pub last_has : (base long from : ℕ) (gaps : List Extent) (d : Extent) → 0 < long → Apart from gaps → 0 < count_before (base + 1) gaps → list_any (has_bytes base long) gaps ≡ has_bytes base long (get_or gaps (count_before (base + 1) gaps - 1) d)
last_has base long from [] d some h counted = absurd (omega arith)
last_has base long from (g ∷ gaps) d some h counted = elim (cases_lt g.base (base + 1)) [
  | inr high ↦ absurd (let none = none_counted base (base + 1) (g ∷ gaps) (omega arith) (high, h.1) in omega (arith, none, counted))
  | inl low ↦
      let one : count_before (base + 1) (g ∷ gaps) ≡ suc (count_before (base + 1) gaps) = rw (lt-ltb g.base (base + 1) low) refl in
      elim (cases_eq (count_before (base + 1) gaps) 0) [
        | inl none ↦
            ap (λ b. has_bytes base long g || b) (nowhere base long (end_of g) gaps h.1 none) ∙ or_none (has_bytes base long g)
            ∙ sym (ap (λ k. has_bytes base long (get_or (g ∷ gaps) k d)) (let at : count_before (base + 1) (g ∷ gaps) - 1 ≡ 0 = omega (arith, one, none) in at))
        | inr more ↦
            let after : suc (count_before (base + 1) gaps - 1) ≡ count_before (base + 1) (g ∷ gaps) - 1 = omega (arith, one, more) in
            elim (cases_lt base (end_of g)) [
              | inl inside ↦ absurd (more (none_counted base (end_of g) gaps inside h.1))
              | inr behind ↦
                  ap (λ b. b || list_any (has_bytes base long) gaps) (too_low base long g some behind)
                  ∙ last_has base long (end_of g) gaps d some h.1 (omega (arith, more))
                  ∙ ap (λ k. has_bytes base long (get_or (g ∷ gaps) k d)) after
            ]
      ]
]
