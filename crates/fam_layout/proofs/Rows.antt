-- Parts that are cut where units begin lie in one unit each.
use Rattle.std.proofs.Common.{◌≡◌, ℕ, zero, suc, ◌+◌, ◌-◌, ◌*◌, ◌/◌, ◌%◌, ◌<◌, ◌≤◌, Bool, true, false, ◌||◌, cond, List, [], ◌∷◌, take, drop, refl, sym, ap, subst, ◌∙◌, inl, inr, arith}
use Rattle.std.specs.Prelude.{All, filter, ◌==◌, ◌⊎◌, if◌then◌else◌}
use Rattle.std.specs.List.{range_with_len, flat_map}
use Rattle.std.proofs.Math.Nat.{mul-mod_right, mod-lt}
use Rattle.std.proofs.lemmas.Bool.Decides.{nat_tests}
use Rattle.std.proofs.lemmas.List.Elements.{All-cons, All-nil, All-head, All-tail, All-append, All-map}
use Rattle.std.proofs.lemmas.Bool.{true≢false}
use Rattle.fam_base.specs.declared.naming.Descriptor.{Descriptor}
use Rattle.fam_model.specs.declared.piece.Part.{Part}
use Rattle.fam_model.specs.declared.piece.PlanPiece.{PlanPiece}
use Rattle.fam_model.specs.declared.service.Service.{Service}
use Rattle.fam_model.specs.Pieces.{is_border, parted, cut_where, cuts, all_cuts, part, read_piece, write_piece, reads, dealt, writes, copies}
use Rattle.fam_layout.specs.Layouts.{is_border_of_either}
use Rattle.fam_layout.specs.Rows.{LiesInRow}

-- bytes of an item that lie in one unit
abbrev pub LiesInUnit : ℕ → ℕ → Part → Type 0
LiesInUnit unit base p = (base + p.offset) % unit + p.n ≤ unit

-- a unit begins where the unit of a place ends
border_at : (unit base place : ℕ) → 0 < unit → is_border unit base (place + (unit - (base + place) % unit)) ≡ true
border_at unit base place some =
    let below = mod-lt (base + place) some in
    let sum : base + (place + (unit - (base + place) % unit)) ≡ unit * ((base + place) / unit + 1) = omega arith in
    let rest : (base + (place + (unit - (base + place) % unit))) % unit ≡ 0 = ap (λ n. n % unit) sum ∙ mul-mod_right unit ((base + place) / unit + 1) in
    grind (arith, nat_tests)

split : (m n : ℕ) → (m < n) ⊎ (n ≤ m)
split m n = grind arith

-- where no unit begins behind the first byte, all bytes lie in one
one_unit : (unit base start end : ℕ) → 0 < unit → start < end →
    ((k : ℕ) → start < k → k < end → is_border unit base k ≡ false) → LiesInUnit unit base (part start (end - start))
one_unit unit base start end some below none =
    let low = mod-lt (base + start) some in
    let border = start + (unit - (base + start) % unit) in
    elim (split border end) [
      | inl before ↦ absurd (true≢false (sym (border_at unit base start some) ∙ none border (omega arith) before))
      | inr behind ↦ omega arith
    ]

-- where the test fails no unit begins
abbrev pub HasBorders : (ℕ → Bool) → ℕ → ℕ → Type 0
HasBorders test unit base = (k : ℕ) → test k ≡ false → is_border unit base k ≡ false

fit_by : (unit base start at end : ℕ) (rest : List ℕ) (holds : Bool) → 0 < unit → start < at →
    ((k : ℕ) → start < k → k < at → is_border unit base k ≡ false) →
    All (LiesInUnit unit base) (parted at rest end) → (holds ≡ false → All (LiesInUnit unit base) (parted start rest end)) →
    All (LiesInUnit unit base) (parted start (cond holds (at ∷ rest) rest) end)
fit_by unit base start at end rest true some below none cut kept =
    All-cons (LiesInUnit unit base) (part start (at - start)) (parted at rest end) (one_unit unit base start at some below none) cut
fit_by unit base start at end rest false some below none cut kept = kept refl

-- a place that is tested joins those before it
one_more : (test : ℕ → Bool) (start at : ℕ) → ((k : ℕ) → start < k → k < at → test k ≡ false) → test at ≡ false →
    (k : ℕ) → start < k → k < at + 1 → test k ≡ false
one_more test start at none here k low high =
    elim (split k at) [
      | inl before ↦ none k low before
      | inr behind ↦ let same : k ≡ at = omega arith in ap test same ∙ here
    ]

fit : (test : ℕ → Bool) (unit base start at n end : ℕ) → HasBorders test unit base → 0 < unit → start < at → at + n ≡ end →
    ((k : ℕ) → start < k → k < at → test k ≡ false) →
    All (LiesInUnit unit base) (parted start (filter test (range_with_len at n)) end)
fit test unit base start at zero end borders some below e none =
    All-cons (LiesInUnit unit base) (part start (end - start)) []
    (one_unit unit base start end some (omega arith) (λ k low high. borders k (none k low (omega arith)))) (All-nil (LiesInUnit unit base))
fit test unit base start at (suc n) end borders some below e none =
    fit_by unit base start at end (filter test (range_with_len (at + 1) n)) (test at) some below (λ k low high. borders k (none k low high))
    (fit test unit base at (at + 1) n end borders some (omega arith) (omega arith) (λ k low high. absurd (omega arith)))
    (λ here. fit test unit base start (at + 1) n end borders some (omega arith) (omega arith) (one_more test start at none here))

cut_by : (unit base : ℕ) (none : Bool) (parts : List Part) → All (LiesInUnit unit base) parts →
    All (LiesInUnit unit base) (if none then [] else parts)
cut_by unit base true parts fits = All-nil (LiesInUnit unit base)
cut_by unit base false parts fits = fits

-- each part lies in one unit
cut_by_count : (test : ℕ → Bool) (unit base offset n : ℕ) → HasBorders test unit base → 0 < unit → (n ≡ 0) ⊎ (0 < n) →
    All (LiesInUnit unit base) (cut_where test offset n)
cut_by_count test unit base offset n borders some cases =
    elim cases [
      | inl none ↦ subst (λ (n : ℕ). All (LiesInUnit unit base) (cut_where test offset n)) (sym none) (All-nil (LiesInUnit unit base))
      | inr there ↦
          cut_by unit base (n == 0) (parted offset (filter test (range_with_len (offset + 1) (n - 1))) (offset + n))
          (fit test unit base offset (offset + 1) (n - 1) (offset + n) borders some (omega arith) (omega arith) (λ k low high. absurd (omega arith)))
    ]

zero_or_more : (n : ℕ) → (n ≡ 0) ⊎ (0 < n)
zero_or_more n = grind arith

pub cut_fits : (test : ℕ → Bool) (unit base offset n : ℕ) → HasBorders test unit base → 0 < unit →
    All (LiesInUnit unit base) (cut_where test offset n)
cut_fits test unit base offset n borders some = cut_by_count test unit base offset n borders some (zero_or_more n)

all_fit : (unit base : ℕ) (parts : List Part) → 0 < unit → All (LiesInUnit unit base) (all_cuts unit base parts)
all_fit unit base [] some = All-nil (LiesInUnit unit base)
all_fit unit base (p ∷ parts) some =
    All-append (LiesInUnit unit base) (cuts base p.offset p.n unit) (all_cuts unit base parts)
    (cut_fits (is_border unit base) unit base p.offset p.n (λ k none. none) some)
    (all_fit unit base parts some)

pub reads_fit : (service : Service) (target : Descriptor) (parts : List Part) → 0 < service.unit →
    All (LiesInRow service) (reads service target parts)
reads_fit service target parts some =
    All-map (LiesInRow service) (read_piece service target) (all_cuts service.unit target.base parts) (all_fit service.unit target.base parts some)

dealt_fit : (service : Service) (target : Descriptor) (parts : List Part) (bytes : List ℕ) →
    All (LiesInUnit service.unit target.base) parts → All (LiesInRow service) (dealt service target parts bytes)
dealt_fit service target [] bytes fits = All-nil (LiesInRow service)
dealt_fit service target (p ∷ parts) bytes fits =
    All-cons (LiesInRow service) (write_piece service target p (take p.n bytes)) (dealt service target parts (drop p.n bytes))
    (All-head (LiesInUnit service.unit target.base) p parts fits)
    (dealt_fit service target parts (drop p.n bytes) (All-tail (LiesInUnit service.unit target.base) p parts fits))

pub writes_fit : (service : Service) (target : Descriptor) (parts : List Part) (bytes : List ℕ) → 0 < service.unit →
    All (LiesInRow service) (writes service target parts bytes)
writes_fit service target parts bytes some =
    dealt_fit service target (all_cuts service.unit target.base parts) bytes (all_fit service.unit target.base parts some)

-- copies

either : (p q : Bool) → (p || q) ≡ false → (p ≡ false) × (q ≡ false)
either true q e = absurd (true≢false e)
either false q e = (refl, e)

-- bytes behind an offset of an item are bytes of what begins there
behind : (unit base from offset n : ℕ) → (base + from + offset) % unit + n ≤ unit → (base + (from + offset)) % unit + n ≤ unit
behind unit base from offset n fits =
    let same : base + (from + offset) ≡ base + from + offset = omega arith in rw same fits

-- the read and the write of one part
abbrev pub both_of : Service → Descriptor → ℕ → Descriptor → ℕ → Part → List PlanPiece
both_of service from from_offset to to_offset p =
    read_piece service from (part (from_offset + p.offset) p.n) ∷ write_piece service to (part (to_offset + p.offset) p.n) [] ∷ []

pairs_fit : (service : Service) (from : Descriptor) (from_offset : ℕ) (to : Descriptor) (to_offset : ℕ) (parts : List Part) →
    All (LiesInUnit service.unit (from.base + from_offset)) parts → All (LiesInUnit service.unit (to.base + to_offset)) parts →
    All (LiesInRow service) (flat_map (both_of service from from_offset to to_offset) parts)
pairs_fit service from from_offset to to_offset [] first second = All-nil (LiesInRow service)
pairs_fit service from from_offset to to_offset (p ∷ parts) first second =
    let rest = flat_map (both_of service from from_offset to to_offset) parts in
    All-cons (LiesInRow service) (read_piece service from (part (from_offset + p.offset) p.n))
    (write_piece service to (part (to_offset + p.offset) p.n) [] ∷ rest)
    (behind service.unit from.base from_offset p.offset p.n (All-head (LiesInUnit service.unit (from.base + from_offset)) p parts first))
    (All-cons (LiesInRow service) (write_piece service to (part (to_offset + p.offset) p.n) []) rest
    (behind service.unit to.base to_offset p.offset p.n (All-head (LiesInUnit service.unit (to.base + to_offset)) p parts second))
    (pairs_fit service from from_offset to to_offset parts
    (All-tail (LiesInUnit service.unit (from.base + from_offset)) p parts first)
    (All-tail (LiesInUnit service.unit (to.base + to_offset)) p parts second)))

pub copies_fit : (service : Service) (from : Descriptor) (from_offset : ℕ) (to : Descriptor) (to_offset count : ℕ) → 0 < service.unit →
    All (LiesInRow service) (copies service from from_offset to to_offset count)
copies_fit service from from_offset to to_offset count some =
    let source = from.base + from_offset in
    let target = to.base + to_offset in
    let test = is_border_of_either service.unit source target in
    pairs_fit service from from_offset to to_offset (cut_where test 0 count)
    (cut_fits test service.unit source 0 count (λ k none. (either (is_border service.unit source k) (is_border service.unit target k) none).0) some)
    (cut_fits test service.unit target 0 count (λ k none. (either (is_border service.unit source k) (is_border service.unit target k) none).1) some)
