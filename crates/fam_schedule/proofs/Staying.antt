-- A call that is started stays where it is; and the barrier between two steps.
use Rattle.std.proofs.Common.{◌≡◌, ℕ, ◌+◌, ◌<◌, ◌≤◌, Bool, true, false, List, [], ◌∷◌, refl, sym, ap, ◌∙◌, arith, suc, zero, inl, inr}
use Rattle.std.specs.Prelude.{◌==◌, ◌&&◌, ◌||◌, ◌⊎◌, not, nat_lt, Option, Some, None, slice_get, slice_set, if◌then◌else◌}
use Rattle.std.specs.List.{list_all, list_any}
use Rattle.fam_model.specs.declared.event.What.{What}
use Rattle.fam_model.specs.declared.event.What.TheVariants as what
use Rattle.fam_model.specs.declared.state.ProgramState.{ProgramState}
use Rattle.fam_model.specs.declared.state.State.{State}
use Rattle.fam_model.specs.Lists.{is_some_and}
use Rattle.fam_model.specs.Programs.{is_member, has_arrived, has_passed, is_complete, round_after}
use Rattle.fam_schedule.proofs.Finding.{get_zero, get_next, get_behind, get_none}
use Rattle.fam_schedule.proofs.Rests.{round_of}

-- rounds

round_by : (b : Bool) (round : ℕ) → ((if b then round + 1 else round) ≡ round) ⊎ ((if b then round + 1 else round) ≡ round + 1)
round_by true round = inr refl
round_by false round = inl refl

-- the round stays, or is one more
pub round_moves : (state : State) (made : What) (next : State) → (round_of state made next ≡ state.round) ⊎ (round_of state made next ≡ state.round + 1)
round_moves state (what.Meta a given) next = inl refl
round_moves state (what.Issue a given) next = inl refl
round_moves state (what.Piece j given) next = inl refl
round_moves state (what.Answer given) next = inl refl
round_moves state (what.OpenContext c) next = inl refl
round_moves state (what.CloseContext c given) next = inl refl
round_moves state (what.Fence c) next = inl refl
round_moves state (what.Quiet c given) next = inl refl
round_moves state (what.Wait c n given) next = inl refl
round_moves state what.Arrive next = round_by (is_complete state.round next.programs) state.round
round_moves state what.Leave next = round_by (is_complete state.round next.programs) state.round
round_moves state what.Crash next = round_by (is_complete state.round next.programs) state.round
round_moves state (what.Lose j) next = inl refl
round_moves state (what.Refused a e d) next = inl refl

-- the rounds of arrival are at most this one
abbrev pub IsLow : ℕ → ProgramState → Type 0
IsLow round p = (r : ℕ) → p.arrived ≡ Some r → r ≤ round

not_same : (a b : ℕ) → a < b → (a == b) ≡ false
not_same a b h = grind arith

-- who has not arrived has not arrived in a later round either
above : (o : Option ℕ) (round : ℕ) → ((r : ℕ) → o ≡ Some r → r ≤ round) → is_some_and o (λ at. at == round + 1) ≡ false
above None round low = refl
above (Some r) round low = let h : r ≤ round = low r refl in not_same r (round + 1) (omega arith)

pub not_arrived : (round now : ℕ) (p : ProgramState) → IsLow round p → has_arrived round p ≡ false → (now ≡ round) ⊎ (now ≡ round + 1) → has_arrived now p ≡ false
not_arrived round now p low h (inl same) = ap (λ r. has_arrived r p) same ∙ h
not_arrived round now p low h (inr more) = ap (λ r. has_arrived r p) more ∙ above p.arrived round low

pub low_higher : (round now : ℕ) (p : ProgramState) → IsLow round p → (now ≡ round) ⊎ (now ≡ round + 1) → IsLow now p
low_higher round now p low (inl same) r e = let h : r ≤ round = low r e in omega arith
low_higher round now p low (inr more) r e = let h : r ≤ round = low r e in omega arith

-- a program whose round has passed has not arrived in this one
pub passed_not_arrived : (round : ℕ) (p : ProgramState) → has_passed round p ≡ true → has_arrived round p ≡ false
passed_not_arrived round p h = by_arrived p.arrived h
  where
    by_arrived : (o : Option ℕ) → is_some_and o (λ at. nat_lt at round) ≡ true → is_some_and o (λ at. at == round) ≡ false
    by_arrived None e = cc
    by_arrived (Some r) e = let low : r < round = lt_of r round e in not_same r round low
      where
        lt_of : (a b : ℕ) → nat_lt a b ≡ true → a < b
        lt_of a b e = grind arith

-- completeness

any_set : {A : Type 0} (test : A → Bool) (xs : List A) (k : ℕ) (x y : A) → slice_get xs k ≡ Some x → test y ≡ test x → list_any test (slice_set xs k y) ≡ list_any test xs
any_set test [] k x y there e = let low : k < k = get_none k x there in let no : ⊥ = omega arith in absurd no
any_set test (z ∷ xs) zero x y there e =
    let same : Some z ≡ Some x = sym (get_zero z xs) ∙ there in
    let is : z ≡ x = cc in
    ap (λ b. b || list_any test xs) (e ∙ ap test (sym is))
any_set test (z ∷ xs) (suc k) x y there e = ap (λ b. test z || b) (any_set test xs k x y (get_behind z xs k x there) e)

all_set : {A : Type 0} (test : A → Bool) (xs : List A) (k : ℕ) (x y : A) → slice_get xs k ≡ Some x → test y ≡ test x → list_all test (slice_set xs k y) ≡ list_all test xs
all_set test [] k x y there e = let low : k < k = get_none k x there in let no : ⊥ = omega arith in absurd no
all_set test (z ∷ xs) zero x y there e =
    let same : Some z ≡ Some x = sym (get_zero z xs) ∙ there in
    let is : z ≡ x = cc in
    ap (λ b. b && list_all test xs) (e ∙ ap test (sym is))
all_set test (z ∷ xs) (suc k) x y there e = ap (λ b. test z && b) (all_set test xs k x y (get_behind z xs k x there) e)

-- a program that is a member and has arrived as before leaves the round as complete as it was
pub complete_set : (round : ℕ) (programs : List ProgramState) (k : ℕ) (p q : ProgramState) → slice_get programs k ≡ Some p → is_member q ≡ is_member p → has_arrived round q ≡ has_arrived round p →
    is_complete round (slice_set programs k q) ≡ is_complete round programs
complete_set round programs k p q there member arrived =
    let one : (is_member q && has_arrived round q) ≡ (is_member p && has_arrived round p) = rw (member, arrived) refl in
    let other : (not (is_member q) || has_arrived round q) ≡ (not (is_member p) || has_arrived round p) = rw (member, arrived) refl in
    rw (any_set (λ x. is_member x && has_arrived round x) programs k p q there one, all_set (λ x. not (is_member x) || has_arrived round x) programs k p q there other) refl

none_any : {A : Type 0} (test : A → Bool) (xs : List A) → ((k : ℕ) (x : A) → slice_get xs k ≡ Some x → test x ≡ false) → list_any test xs ≡ false
none_any test [] h = refl
none_any test (x ∷ xs) h = rw (h 0 x (get_zero x xs)) (none_any test xs (λ k y there. h (suc k) y (next x xs k y there)))
  where
    next : {A : Type 0} (x : A) (xs : List A) (k : ℕ) (y : A) → slice_get xs k ≡ Some y → slice_get (x ∷ xs) (suc k) ≡ Some y
    next x xs k y there = get_next x xs k y there

and_false : (a b : Bool) → b ≡ false → (a && b) ≡ false
and_false true b e = e
and_false false b e = refl

first_false : (a b : Bool) → a ≡ false → (a && b) ≡ false
first_false a b e = rw e refl

-- in the next round nobody has arrived yet
pub next_incomplete : (round : ℕ) (programs : List ProgramState) → ((k : ℕ) (p : ProgramState) → slice_get programs k ≡ Some p → IsLow round p) → is_complete (round + 1) programs ≡ false
next_incomplete round programs low =
    first_false (list_any (λ p. is_member p && has_arrived (round + 1) p) programs) (list_all (λ p. not (is_member p) || has_arrived (round + 1) p) programs)
    (none_any (λ p. is_member p && has_arrived (round + 1) p) programs
    (λ k p there. and_false (is_member p) (has_arrived (round + 1) p) (above p.arrived round (low k p there))))

after_by : (b : Bool) (round : ℕ) (programs : List ProgramState) → is_complete round programs ≡ b → ((k : ℕ) (p : ProgramState) → slice_get programs k ≡ Some p → IsLow round p) →
    is_complete (if b then round + 1 else round) programs ≡ false
after_by true round programs e low = next_incomplete round programs low
after_by false round programs e low = e

-- the round that rises where it is complete is not complete
pub after_incomplete : (round : ℕ) (programs : List ProgramState) → ((k : ℕ) (p : ProgramState) → slice_get programs k ≡ Some p → IsLow round p) → is_complete (round_after round programs) programs ≡ false
after_incomplete round programs low = after_by (is_complete round programs) round programs refl low
