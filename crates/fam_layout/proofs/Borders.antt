-- Where units begin.
use Rattle.std.proofs.Common.{◌≡◌, ℕ, ◌+◌, ◌-◌, ◌*◌, ◌/◌, ◌%◌, ◌<◌, Bool, true, false, ◌||◌, refl, ap, ◌∙◌, inl, inr, arith}
use Rattle.std.specs.Prelude.{◌==◌, ◌⊎◌, min}
use Rattle.std.proofs.Math.Nat.{mul-add-mod_self_left, mod-eq_of_lt, mod-lt}
use Rattle.std.proofs.lemmas.Bool.Decides.{nat_tests}
use Rattle.fam_layout.specs.Layouts.{is_border_of_either}
use Rattle.fam_model.specs.Pieces.{is_border}

-- a number that begins a part of a unit, and is behind its first place, is no multiple
no_multiple : (unit q d n : ℕ) → 0 < d → d < unit → n ≡ unit * q + d → (n % unit == 0) ≡ false
no_multiple unit q d n some below e =
    let rest : n % unit ≡ d = ap (λ n. n % unit) e ∙ mul-add-mod_self_left unit q d ∙ mod-eq_of_lt below in
    grind (arith, nat_tests)

-- no unit begins before the end of the unit of a place
pub inside : (unit base place k : ℕ) → 0 < unit → place < k → k < place + (unit - (base + place) % unit) →
    is_border unit base k ≡ false
inside unit base place k some past before =
    let below = mod-lt (base + place) some in
    no_multiple unit ((base + place) / unit) ((base + place) % unit + (k - place)) (base + k) (omega arith) (omega arith) (omega arith)

or_same : (b : Bool) → (b || b) ≡ b
or_same true = refl
or_same false = refl

-- either of one item is that item
pub one_item : (unit base : ℕ) → is_border_of_either unit base base ≡ is_border unit base
one_item unit base = λ i place. or_same (is_border unit base place) i

or_left : (p q : Bool) → p ≡ true → (p || q) ≡ true
or_left true q e = refl
or_left false q e = cc

or_right : (p q : Bool) → q ≡ true → (p || q) ≡ true
or_right true q e = refl
or_right false q e = e

or_none : (p q : Bool) → p ≡ false → q ≡ false → (p || q) ≡ false
or_none true q e f = cc
or_none false q e f = f

here_by : (unit from to a b border : ℕ) → is_border unit from a ≡ true → is_border unit to b ≡ true →
    (border ≡ a) ⊎ (border ≡ b) → is_border_of_either unit from to border ≡ true
here_by unit from to a b border first second cases =
    elim cases [
      | inl e ↦ or_left (is_border unit from border) (is_border unit to border) (ap (is_border unit from) e ∙ first)
      | inr e ↦ or_right (is_border unit from border) (is_border unit to border) (ap (is_border unit to) e ∙ second)
    ]

least : (a b border : ℕ) → border ≡ min a b → (border ≡ a) ⊎ (border ≡ b)
least a b border e = grind arith

-- the lesser of two borders is one of either item
pub here : (unit from to a b border : ℕ) → is_border unit from a ≡ true → is_border unit to b ≡ true → border ≡ min a b →
    is_border_of_either unit from to border ≡ true
here unit from to a b border first second e = here_by unit from to a b border first second (least a b border e)

-- and the first
pub none_before : (unit from to a b border at : ℕ) →
    ((k : ℕ) → at < k → k < a → is_border unit from k ≡ false) → ((k : ℕ) → at < k → k < b → is_border unit to k ≡ false) →
    border ≡ min a b → (k : ℕ) → at < k → k < border → is_border_of_either unit from to k ≡ false
none_before unit from to a b border at first second e k past before =
    or_none (is_border unit from k) (is_border unit to k) (first k past (omega arith)) (second k past (omega arith))
