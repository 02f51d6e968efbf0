-- Which element of a list of rising numbers passes a test.
use Rattle.std.proofs.Common.{◌≡◌, ℕ, zero, suc, ◌+◌, ◌-◌, Bool, true, false, List, [], ◌∷◌, refl, sym, ap, ◌∙◌, arith}
use Rattle.std.specs.Prelude.{◌==◌, ◌&&◌, ◌||◌, nat_lt, nat_le, slice_get}
use Rattle.std.specs.List.{list_any, range_with_len, enumerate_from}
use Rattle.std.proofs.lemmas.Bool.Decides.{nat_tests}
use Rattle.fam_model.specs.Lists.{is_some_and}

pub and_false : (b : Bool) → (b && false) ≡ false
and_false true = refl
and_false false = refl

-- numbers

no_room : (t s : ℕ) → (nat_le s t && nat_lt t (s + 0)) ≡ false
no_room t s = grind (arith, nat_tests)

range_step : (t s n : ℕ) (this found : Bool) → ((t == s) ≡ false → this ≡ false) → ((t == s) ≡ true → this ≡ found) → (this || ((nat_le (s + 1) t && nat_lt t (s + 1 + n)) && found)) ≡ ((nat_le s t && nat_lt t (s + suc n)) && found)
range_step t s n true true none same = grind (arith, nat_tests)
range_step t s n true false none same = grind (arith, nat_tests)
range_step t s n false true none same = grind (arith, nat_tests)
range_step t s n false false none same = grind (arith, nat_tests)

-- a test that only one number may pass
pub any_in_range : (g : ℕ → Bool) (t : ℕ) → ((k : ℕ) → (t == k) ≡ false → g k ≡ false) → ((k : ℕ) → (t == k) ≡ true → g k ≡ g t) → (s n : ℕ) → list_any g (range_with_len s n) ≡ ((nat_le s t && nat_lt t (s + n)) && g t)
any_in_range g t none same s zero = let e : (nat_le s t && nat_lt t (s + 0)) ≡ false = no_room t s in rw e refl
any_in_range g t none same s (suc n) =
    ap (λ b. g s || b) (any_in_range g t none same (s + 1) n) ∙ range_step t s n (g s) (g t) (none s) (same s)

-- entries

this_entry : (t s : ℕ) → (t == s) ≡ true → (nat_le (s + 1) t ≡ false) × (nat_le s t ≡ true) × (t - s ≡ zero)
this_entry t s e = (grind (arith, nat_tests), grind (arith, nat_tests), grind (arith, nat_tests))

entry_before : (t s : ℕ) → (t == s) ≡ false → nat_le s t ≡ false → nat_le (s + 1) t ≡ false
entry_before t s e f = grind (arith, nat_tests)

later_entry : (t s : ℕ) → (t == s) ≡ false → nat_le s t ≡ true → (nat_le (s + 1) t ≡ true) × (t - s ≡ suc (t - (s + 1)))
later_entry t s e f = (grind (arith, nat_tests), grind (arith, nat_tests))

or_false : (b : Bool) → (b || false) ≡ b
or_false true = refl
or_false false = refl

entry_step : {A : Type 0} (h : A → Bool) (t s : ℕ) (x : A) (xs : List A) (this above : Bool) → (t == s) ≡ this → nat_le s t ≡ above → ((t == s && h x) || (nat_le (s + 1) t && is_some_and (slice_get xs (t - (s + 1))) h)) ≡ (nat_le s t && is_some_and (slice_get (x ∷ xs) (t - s)) h)
entry_step h t s x xs true above e f =
    let facts = this_entry t s e in
    let past : nat_le (s + 1) t ≡ false = facts.0 in
    let here : nat_le s t ≡ true = facts.1 in
    let first : t - s ≡ zero = facts.2 in
    rw (e, past, here, first) (or_false (h x))
entry_step h t s x xs false true e f =
    let facts = later_entry t s e f in
    let more : nat_le (s + 1) t ≡ true = facts.0 in
    let next : t - s ≡ suc (t - (s + 1)) = facts.1 in
    rw (e, f, more, next) refl
entry_step h t s x xs false false e f = let past : nat_le (s + 1) t ≡ false = entry_before t s e f in rw (e, f, past) refl

-- a test of the entry of a number
pub any_in_entries : {A : Type 0} (h : A → Bool) (t : ℕ) (s : ℕ) (xs : List A) → list_any (λ e. t == e.0 && h e.1) (enumerate_from s xs) ≡ (nat_le s t && is_some_and (slice_get xs (t - s)) h)
any_in_entries h t s [] = sym (and_false (nat_le s t))
any_in_entries h t s (x ∷ xs) =
    ap (λ b. (t == s && h x) || b) (any_in_entries h t (s + 1) xs) ∙ entry_step h t s x xs (t == s) (nat_le s t) refl refl
