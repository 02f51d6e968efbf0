-- Parts of a range cover it once, in order, and meet where the test holds.
use Rattle.std.proofs.Common.{◌≡◌, ◌≢◌, ℕ, zero, suc, ◌+◌, ◌-◌, ◌<◌, Bool, true, false, ◌||◌, List, [], ◌∷◌, refl, ap, subst, ◌∙◌, arith, cond}
use Rattle.std.specs.Prelude.{All, filter, ◌==◌, if◌then◌else◌}
use Rattle.std.specs.List.{range_with_len}
use Rattle.std.proofs.lemmas.Bool.Decides.{nat_tests}
use Rattle.std.proofs.lemmas.List.Elements.{All-cons, All-nil}
use Rattle.fam_model.specs.Laws.{AreInRow, begins_at, IsCutWhere}
use Rattle.fam_model.specs.Pieces.{cut_where, parted}

equal : (a b : ℕ) → a ≡ b → (a == b) ≡ true
equal a b e = grind (arith, nat_tests)

unequal : (a b : ℕ) → a ≢ b → (a == b) ≡ false
unequal a b e = grind (arith, nat_tests)

is_zero : (n : ℕ) → (n == 0) ≡ true → n ≡ 0
is_zero n e = grind (arith, nat_tests)

is_positive : (n : ℕ) → (n == 0) ≡ false → 0 < n
is_positive n e = grind (arith, nat_tests)

or_true : (p : Bool) → (p || true) ≡ true
or_true true = refl
or_true false = refl

true_or : (p q : Bool) → p ≡ true → (p || q) ≡ true
true_or true q e = refl
true_or false q e = cc

false_or : (p q r : Bool) → p ≡ false → q ≡ r → (p || q) ≡ r
false_or true q r e f = cc
false_or false q r e f = f

-- the first part begins at the start
first_begins : (start : ℕ) (places : List ℕ) (end : ℕ) → begins_at start (parted start places end) ≡ true
first_begins start [] end = true_or (start == start) false (equal start start refl)
first_begins start (place ∷ places) end = true_or (start == start) _ (equal start start refl)

-- in a row

in_row_by : (holds : Bool) (start at end : ℕ) (rest : List ℕ) → start < at →
    AreInRow at (parted at rest end) end → AreInRow start (parted start rest end) end →
    AreInRow start (parted start (cond holds (at ∷ rest) rest) end) end
in_row_by true start at end rest below cut kept =
    let e : at ≡ start + (at - start) = omega arith in
    (refl, subst (λ (x : ℕ). AreInRow x (parted at rest end) end) e cut)
in_row_by false start at end rest below cut kept = kept

in_row : (test : ℕ → Bool) (start at n end : ℕ) → start < at → at + n ≡ end →
    AreInRow start (parted start (filter test (range_with_len at n)) end) end
in_row test start at zero end below e = (refl, omega arith)
in_row test start at (suc n) end below e =
    in_row_by (test at) start at end (filter test (range_with_len (at + 1) n)) below
    (in_row test at (at + 1) n end (omega arith) (omega arith))
    (in_row test start (at + 1) n end (omega arith) (omega arith))

-- not empty

not_empty_by : (holds : Bool) (start at end : ℕ) (rest : List ℕ) → start < at →
    All (λ part. 0 < part.n) (parted at rest end) → All (λ part. 0 < part.n) (parted start rest end) →
    All (λ part. 0 < part.n) (parted start (cond holds (at ∷ rest) rest) end)
not_empty_by true start at end rest below cut kept =
    All-cons (λ part. 0 < part.n) (record { offset = start; n = at - start }) (parted at rest end) (omega arith) cut
not_empty_by false start at end rest below cut kept = kept

not_empty : (test : ℕ → Bool) (start at n end : ℕ) → start < at → at + n ≡ end →
    All (λ part. 0 < part.n) (parted start (filter test (range_with_len at n)) end)
not_empty test start at zero end below e =
    All-cons (λ part. 0 < part.n) (record { offset = start; n = end - start }) [] (omega arith) (All-nil (λ part. 0 < part.n))
not_empty test start at (suc n) end below e =
    not_empty_by (test at) start at end (filter test (range_with_len (at + 1) n)) below
    (not_empty test at (at + 1) n end (omega arith) (omega arith))
    (not_empty test start (at + 1) n end (omega arith) (omega arith))

-- where parts begin

later_by : (holds answer : Bool) (start at end place : ℕ) (rest : List ℕ) → start ≢ place →
    begins_at place (parted at rest end) ≡ answer → begins_at place (parted start rest end) ≡ answer →
    begins_at place (parted start (cond holds (at ∷ rest) rest) end) ≡ answer
later_by true answer start at end place rest other cut kept = false_or (start == place) _ answer (unequal start place other) cut
later_by false answer start at end place rest other cut kept = kept

-- no part begins before the places that are tested, but at the start
before : (test : ℕ → Bool) (start at n end place : ℕ) → start < at → at + n ≡ end → place < at → start ≢ place →
    begins_at place (parted start (filter test (range_with_len at n)) end) ≡ false
before test start at zero end place below e low other = false_or (start == place) false false (unequal start place other) refl
before test start at (suc n) end place below e low other =
    later_by (test at) false start at end place (filter test (range_with_len (at + 1) n)) other
    (before test at (at + 1) n end place (omega arith) (omega arith) (omega arith) (λ same. omega arith))
    (before test start (at + 1) n end place (omega arith) (omega arith) (omega arith) other)

here_by : (holds : Bool) (start at end : ℕ) (rest : List ℕ) →
    begins_at at (parted start rest end) ≡ false →
    begins_at at (parted start (cond holds (at ∷ rest) rest) end) ≡ holds
here_by true start at end rest kept = ap (λ q. (start == at) || q) (first_begins at rest end) ∙ or_true (start == at)
here_by false start at end rest kept = kept

-- a part begins at a tested place exactly where the test holds
meets : (test : ℕ → Bool) (start at n end k : ℕ) → start < at → at + n ≡ end → at + k < end →
    begins_at (at + k) (parted start (filter test (range_with_len at n)) end) ≡ test (at + k)
meets test start at zero end k below e high = absurd (omega arith)
meets test start at (suc n) end zero below e high =
    let same : at + 0 ≡ at = omega arith in
    rw same (here_by (test at) start at end (filter test (range_with_len (at + 1) n))
    (before test start (at + 1) n end at (omega arith) (omega arith) (omega arith) (λ other. omega arith)))
meets test start at (suc n) end (suc k) below e high =
    let same : at + suc k ≡ (at + 1) + k = omega arith in
    rw same (later_by (test at) (test ((at + 1) + k)) start at end ((at + 1) + k) (filter test (range_with_len (at + 1) n)) (λ other. omega arith)
    (meets test at (at + 1) n end k (omega arith) (omega arith) (omega arith))
    (meets test start (at + 1) n end k (omega arith) (omega arith) (omega arith)))

exact_by : (test : ℕ → Bool) (offset n : ℕ) (none : Bool) → (n == 0) ≡ none →
    IsCutWhere test offset n (if none then [] else parted offset (filter test (range_with_len (offset + 1) (n - 1))) (offset + n))
exact_by test offset n true e =
    let empty = is_zero n e in
    record { in_row = omega arith; not_empty = All-nil (λ part. 0 < part.n); meet = λ place low high. absurd (omega arith) }
exact_by test offset n false e =
    let some = is_positive n e in
    record {
      in_row = in_row test offset (offset + 1) (n - 1) (offset + n) (omega arith) (omega arith);
      not_empty = not_empty test offset (offset + 1) (n - 1) (offset + n) (omega arith) (omega arith);
      meet = λ place low high.
          let same : place ≡ (offset + 1) + (place - (offset + 1)) = omega arith in
          rw same (meets test offset (offset + 1) (n - 1) (offset + n) (place - (offset + 1)) (omega arith) (omega arith) (omega arith));
    }

-- a range is cut exactly where the test holds
pub exact : (test : ℕ → Bool) (offset n : ℕ) → IsCutWhere test offset n (cut_where test offset n)
exact test offset n = exact_by test offset n (n == 0) refl
