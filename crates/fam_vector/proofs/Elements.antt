-- Elements one by one, and what is left of them.
use Rattle.std.proofs.Common.{◌≡◌, ℕ, suc, ◌+◌, ◌-◌, ◌*◌, ◌<◌, ◌≤◌, Bool, true, false, ◌||◌, List, [], ◌∷◌, ◌++◌, map, drop, length, get_or, refl, sym, ap, ◌∙◌, append_assoc, arith}
use Rattle.std.specs.Prelude.{nat_lt}
use Rattle.std.specs.List.{range_with_len}
use Rattle.std.proofs.lemmas.Bool.Decides.{nat_tests}
use Rattle.std.proofs.lemmas.List.{drop_more}
use Rattle.std.proofs.lemmas.List.Folds.{list_any-append}
use Rattle.fam_model.specs.declared.piece.Part.{Part}
use Rattle.fam_model.specs.Issue.{ends_past}
use Rattle.fam_model.specs.Pieces.{cuts, all_cuts, part, indexed, is_border}
use Rattle.fam_plan.proofs.Within.{cuts_within}
use Rattle.fam_vector.specs.declared.element.Strided.{Strided}
use Rattle.fam_vector.specs.Vector.{strided_parts}

-- one element
abbrev pub strided_part : Strided → ℕ → Part
strided_part elements k = part ((elements.first + k * elements.stride) * elements.size) elements.size

-- the elements from this one on
abbrev pub strided_from : Strided → ℕ → List Part
strided_from elements k = map (strided_part elements) (range_with_len k (elements.count - k))

pub strided_all : (elements : Strided) → strided_from elements 0 ≡ strided_parts elements
strided_all elements =
    let same : elements.count - 0 ≡ elements.count = omega arith in
    ap (λ n. map (strided_part elements) (range_with_len 0 n)) same

pub strided_next : (elements : Strided) (k : ℕ) → k < elements.count →
    strided_from elements k ≡ strided_part elements k ∷ strided_from elements (k + 1)
strided_next elements k below =
    let more : elements.count - k ≡ suc (elements.count - (k + 1)) = omega arith in
    ap (λ n. map (strided_part elements) (range_with_len k n)) more

pub strided_none : (elements : Strided) (k : ℕ) → elements.count ≤ k → strided_from elements k ≡ []
strided_none elements k low =
    let none : elements.count - k ≡ 0 = omega arith in
    ap (λ n. map (strided_part elements) (range_with_len k n)) none

pub indexed_next : (size : ℕ) (places : List ℕ) (i d : ℕ) → i < length places →
    indexed size (drop i places) ≡ part (get_or places i d * size) size ∷ indexed size (drop (i + 1) places)
indexed_next size places i d below = ap (indexed size) (drop_more places i d below)

or_none : (p q : Bool) → p ≡ false → (p || q) ≡ q
or_none true q e = cc
or_none false q e = refl

or_left : (p q : Bool) → p ≡ true → (p || q) ≡ true
or_left true q e = refl
or_left false q e = cc

neither : (p q : Bool) → (p || q) ≡ false → (p ≡ false) × (q ≡ false)
neither true q e = absurd (cc)
neither false q e = (refl, e)

-- an element that ends in time says nothing
pub passed : (limit : ℕ) (parts rest : List Part) (p : Part) → parts ≡ p ∷ rest → nat_lt limit (p.offset + p.n) ≡ false →
    ends_past limit parts ≡ ends_past limit rest
passed limit parts rest p e here = ap (ends_past limit) e ∙ or_none (nat_lt limit (p.offset + p.n)) (ends_past limit rest) here

-- one that does not says all
pub found : (limit : ℕ) (parts rest : List Part) (p : Part) → parts ≡ p ∷ rest → nat_lt limit (p.offset + p.n) ≡ true →
    ends_past limit parts ≡ true
found limit parts rest p e here = ap (ends_past limit) e ∙ or_left (nat_lt limit (p.offset + p.n)) (ends_past limit rest) here

-- where none ends past the limit, neither does the first nor any behind it
pub first_within : (limit : ℕ) (parts rest : List Part) (p : Part) → parts ≡ p ∷ rest → ends_past limit parts ≡ false →
    (p.offset + p.n ≤ limit) × (ends_past limit rest ≡ false)
first_within limit parts rest p e none =
    let both = neither (nat_lt limit (p.offset + p.n)) (ends_past limit rest) (sym (ap (ends_past limit) e) ∙ none) in
    (grind (arith, nat_tests, both.0), both.1)

-- the first of those that are left ends in time
pub strided_within : (limit : ℕ) (elements : Strided) (k place size : ℕ) → k < elements.count →
    place ≡ elements.first + k * elements.stride → size ≡ elements.size → ends_past limit (strided_from elements k) ≡ false →
    place * size + elements.size ≤ limit
strided_within limit elements k place size below e f none =
    let fits = first_within limit (strided_from elements k) (strided_from elements (k + 1)) (strided_part elements k) (strided_next elements k below) none in
    let same : place * size ≡ (elements.first + k * elements.stride) * elements.size = ap (λ n. n * size) e ∙ ap (λ n. (elements.first + k * elements.stride) * n) f in
    omega (arith, fits.0)

-- the cuts of one more element
pub more_cuts : (unit base : ℕ) (done grown all parts rest : List Part) (p : Part) → parts ≡ p ∷ rest →
    grown ≡ done ++ cuts base p.offset p.n unit → done ++ all_cuts unit base parts ≡ all → grown ++ all_cuts unit base rest ≡ all
more_cuts unit base done grown all parts rest p e more so_far =
    ap (λ parts. parts ++ all_cuts unit base rest) more
    ∙ append_assoc done (cuts base p.offset p.n unit) (all_cuts unit base rest)
    ∙ ap (λ parts. done ++ all_cuts unit base parts) (sym e)
    ∙ so_far

-- the cuts of elements end where these end
pub all_cuts_within : (unit base size : ℕ) (parts : List Part) → ends_past size parts ≡ false →
    ends_past size (all_cuts unit base parts) ≡ false
all_cuts_within unit base size [] none = refl
all_cuts_within unit base size (p ∷ parts) none =
    let first = first_within size (p ∷ parts) parts p refl none in
    list_any-append (λ part. nat_lt size (part.offset + part.n)) (cuts base p.offset p.n unit) (all_cuts unit base parts)
    ∙ or_none (ends_past size (cuts base p.offset p.n unit)) (ends_past size (all_cuts unit base parts))
    (cuts_within (is_border unit base) p.offset p.n size first.0)
    ∙ all_cuts_within unit base size parts first.1
