-- Counting the numbers below a bound that pass a test.
use Rattle.std.proofs.Common.{◌≡◌, ℕ, zero, suc, ◌+◌, ◌<◌, Bool, true, false, List, length, Some, refl, sym, ap, ◌∙◌, arith}
use Rattle.std.specs.Prelude.{cond, filter, slice_get}
use Rattle.std.specs.List.{range_with_len}
use Rattle.std.proofs.lemmas.Bool.Decides.{nat_tests}
use Rattle.fam_schedule.specs.Schedule.{is_some_of}

-- how many pass
abbrev pub passing : (ℕ → Bool) → ℕ → ℕ → ℕ
passing q a n = length (filter q (range_with_len a n))

counted : (q : ℕ → Bool) (a n k : ℕ) (test : Bool) → q a ≡ test → passing q (a + 1) n ≡ k → passing q a (suc n) ≡ cond test 1 0 + k
counted q a n k true e f = let more : suc k ≡ 1 + k = omega arith in rw e (ap suc f ∙ more)
counted q a n k false e f = let none : k ≡ 0 + k = omega arith in rw e (f ∙ none)

-- one number more
more_by : (q : ℕ → Bool) (a x n : ℕ) → a + n ≡ x → passing q a (suc n) ≡ passing q a n + cond (q x) 1 0
more_by q a x zero e =
    let same : a ≡ x = omega arith in
    counted q a zero 0 (q a) refl refl ∙ (let none : cond (q a) 1 0 + 0 ≡ 0 + cond (q a) 1 0 = omega arith in none) ∙ ap (λ y. 0 + cond (q y) 1 0) same
more_by q a x (suc n) e =
    let next : (a + 1) + n ≡ x = omega arith in
    let k = passing q (a + 1) n in
    let rest : passing q (a + 1) (suc n) ≡ k + cond (q x) 1 0 = more_by q (a + 1) x n next in
    let group : cond (q a) 1 0 + (k + cond (q x) 1 0) ≡ (cond (q a) 1 0 + k) + cond (q x) 1 0 = omega arith in
    counted q a (suc n) (k + cond (q x) 1 0) (q a) refl rest ∙ group ∙ ap (λ y. y + cond (q x) 1 0) (sym (counted q a n k (q a) refl refl))

pub passing_yes : (q : ℕ → Bool) (i : ℕ) → q i ≡ true → passing q 0 (i + 1) ≡ passing q 0 i + 1
passing_yes q i e =
    let next : i + 1 ≡ suc i = omega arith in
    let from : 0 + i ≡ i = omega arith in
    ap (passing q 0) next ∙ more_by q 0 i i from ∙ ap (λ b. passing q 0 i + cond b 1 0) e

pub passing_no : (q : ℕ → Bool) (i : ℕ) → q i ≡ false → passing q 0 (i + 1) ≡ passing q 0 i
passing_no q i e =
    let next : i + 1 ≡ suc i = omega arith in
    let from : 0 + i ≡ i = omega arith in
    let none : passing q 0 i + 0 ≡ passing q 0 i = omega arith in
    ap (passing q 0) next ∙ more_by q 0 i i from ∙ ap (λ b. passing q 0 i + cond b 1 0) e ∙ none

-- the number that passes after so many

at_first : (q : ℕ → Bool) (a n : ℕ) → q a ≡ true → slice_get (filter q (range_with_len a (suc n))) 0 ≡ Some a
at_first q a n e = rw e refl

behind_by : (q : ℕ → Bool) (a n i x : ℕ) (test : Bool) → q a ≡ test → slice_get (filter q (range_with_len (a + 1) n)) (passing q (a + 1) i) ≡ Some x → slice_get (filter q (range_with_len a (suc n))) (passing q a (suc i)) ≡ Some x
behind_by q a n i x true e rest = rw e rest
behind_by q a n i x false e rest = rw e rest

passing_at : (q : ℕ → Bool) (a n i x : ℕ) → a + i ≡ x → i < n → q x ≡ true → slice_get (filter q (range_with_len a n)) (passing q a i) ≡ Some x
passing_at q a zero i x e within h = absurd (omega arith)
passing_at q a (suc n) zero x e within h =
    let same : x ≡ a = omega arith in at_first q a n (ap q (sym same) ∙ h) ∙ ap Some (sym same)
passing_at q a (suc n) (suc i) x e within h =
    let next : (a + 1) + i ≡ x = omega arith in
    let below : i < n = omega arith in
    behind_by q a n i x (q a) refl (passing_at q (a + 1) n i x next below h)

pub passing_is : (q : ℕ → Bool) (n i k : ℕ) → i < n → q i ≡ true → k ≡ passing q 0 i → slice_get (filter q (range_with_len 0 n)) k ≡ Some i
passing_is q n i k within h e =
    let from : 0 + i ≡ i = omega arith in
    ap (slice_get (filter q (range_with_len 0 n))) e ∙ passing_at q 0 n i i from within h

-- a list that is counted

pub not_empty : {A : Type 0} (xs : List A) (count : ℕ) → count ≡ length xs → (count ≡ 0 → ⊥) → is_some_of xs ≡ true
not_empty xs count e h = grind (arith, nat_tests)

pub empty : {A : Type 0} (xs : List A) (count : ℕ) → count ≡ length xs → count ≡ 0 → is_some_of xs ≡ false
empty xs count e h = grind (arith, nat_tests)
