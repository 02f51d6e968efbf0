-- Which pieces of a program may come as before.
use Rattle.std.proofs.Common.{◌≡◌, ℕ, ◌<◌, Bool, true, false, List, refl, sym, ap, ◌∙◌, arith, subst, inl, inr}
use Rattle.std.specs.Prelude.{◌==◌, ◌&&◌, ◌⊎◌, Option, Some, None, slice_get, slice_set}
use Rattle.std.proofs.lemmas.Bool.{eqb-true}
use Rattle.fam_context.specs.Effects.{may_come_of}
use Rattle.fam_model.specs.declared.piece.Operation.{Operation}
use Rattle.fam_model.specs.declared.state.Context.{Context}
use Rattle.fam_model.specs.declared.state.ProgramState.{ProgramState}
use Rattle.fam_model.specs.Lists.{is_some_and, place_of}
use Rattle.fam_model.specs.Operations.{may_come}
use Rattle.fam_model.specs.Programs.{call_number, operation_of}
use Rattle.fam_schedule.specs.Made.{StandsAt}
use Rattle.fam_schedule.proofs.Changes.{found, set_at}
use Rattle.fam_schedule.proofs.Places.{get_set_same, get_set_other}
use Rattle.fam_schedule.proofs.Steps.{numbered}
use Rattle.fam_ready.specs.Ready.{IsTidyContext, IsTidyProgram}
use Rattle.fam_ready.specs.Telling.{lies_in, lies_on}
use Rattle.fam_ready.proofs.Coming.{same_some, same_tests, first_true, second_true, ComesIn, parts_of, from_parts}
use Rattle.fam_ready.proofs.Freed.{LiesIn}
use Rattle.fam_ready.proofs.Kept.{SameIn, told_same, opened_same}
use Rattle.fam_ready.proofs.Standing.{may_come_at, ComesFor, comes_for, comes_from, place_in, some_and}
use Rattle.fam_ready.proofs.Tidy.{before_tidy}
use Rattle.fam_ready.proofs.Turns.{IsQuiet, Stays, Turns, IsAsBefore}

-- one context changed

pub now_there : (How : Context → Context → Type 0) (p q : ProgramState) (t : Turns How p q) → slice_get q.contexts t.place ≡ Some t.now
now_there How p q t = ap (λ cs. slice_get cs t.place) t.contexts ∙ get_set_same p.contexts t.place t.was t.now t.there

turned_to : (How : Context → Context → Type 0) (p q : ProgramState) (stripe u i : ℕ) (t : Turns How p q) → (ComesIn t.was stripe u i → ComesIn t.now stripe u i) →
    ComesFor p stripe u i → ComesFor q stripe u i
turned_to How p q stripe u i t to c = by_place (c.place == t.place) refl
  where
    by_place : (b : Bool) → (c.place == t.place) ≡ b → ComesFor q stripe u i
    by_place false e =
        record {
          place = c.place;
          context = c.context;
          there = ap (λ cs. slice_get cs c.place) t.contexts ∙ get_set_other p.contexts t.place c.place c.context t.now c.there (grind arith);
          comes = c.comes;
        }
    by_place true e =
        let place : c.place ≡ t.place = eqb-true c.place t.place e in
        let is : c.context ≡ t.was = same_some c.context t.was (sym c.there ∙ ap (slice_get p.contexts) place ∙ t.there) in
        record { place = t.place; context = t.now; there = now_there How p q t; comes = to (subst (λ x. ComesIn x stripe u i) is c.comes) }

turned_from : (How : Context → Context → Type 0) (p q : ProgramState) (stripe u i : ℕ) (t : Turns How p q) → (ComesIn t.now stripe u i → ComesIn t.was stripe u i) →
    ComesFor q stripe u i → ComesFor p stripe u i
turned_from How p q stripe u i t back c =
    by_place (set_at (c.place == t.place) p.contexts t.place c.place t.was t.now c.context refl t.there (ap (λ cs. slice_get cs c.place) (sym t.contexts) ∙ c.there))
  where
    by_place : ((c.place ≡ t.place) × (c.context ≡ t.now)) ⊎ (slice_get p.contexts c.place ≡ Some c.context) → ComesFor p stripe u i
    by_place (inr old) = record { place = c.place; context = c.context; there = old; comes = c.comes }
    by_place (inl (place, is)) = record { place = t.place; context = t.was; there = t.there; comes = back (subst (λ x. ComesIn x stripe u i) is c.comes) }

pub turned_same : (How : Context → Context → Type 0) (p q : ProgramState) (stripe u i : ℕ) (t : Turns How p q) → IsTidyProgram p → IsTidyProgram q → SameIn t.was t.now stripe u i →
    may_come_at p stripe u i ≡ may_come_at q stripe u i
turned_same How p q stripe u i t p_tidy q_tidy same =
    same_tests (may_come_at p stripe u i) (may_come_at q stripe u i)
    (λ h. comes_from q stripe u i q_tidy (turned_to How p q stripe u i t same.to (comes_for p stripe u i h)))
    (λ h. comes_from p stripe u i p_tidy (turned_from How p q stripe u i t same.from (comes_for q stripe u i h)))

-- no context changed
pub stayed_same : (p q : ProgramState) (stripe u i : ℕ) → Stays p q → IsTidyProgram p → IsTidyProgram q → may_come_at p stripe u i ≡ may_come_at q stripe u i
stayed_same p q stripe u i s p_tidy q_tidy =
    same_tests (may_come_at p stripe u i) (may_come_at q stripe u i)
    (λ h.
    let c = comes_for p stripe u i h in
    comes_from q stripe u i q_tidy (record { place = c.place; context = c.context; there = ap (λ cs. slice_get cs c.place) s.contexts ∙ c.there; comes = c.comes }))
    (λ h.
    let c = comes_for q stripe u i h in
    comes_from p stripe u i p_tidy (record { place = c.place; context = c.context; there = ap (λ cs. slice_get cs c.place) (sym s.contexts) ∙ c.there; comes = c.comes }))

quiet_same : (n : ℕ) (x y : Context) (stripe u i : ℕ) → IsTidyContext n x → IsQuiet x y → SameIn x y stripe u i
quiet_same n x y stripe u i tidy (inl told) = told_same x y stripe u i told
quiet_same n x y stripe u i tidy (inr opens) = opened_same n x y stripe u i tidy opens

pub before_same : (p q : ProgramState) (stripe u i : ℕ) → IsAsBefore p q → IsTidyProgram p → may_come_at p stripe u i ≡ may_come_at q stripe u i
before_same p q stripe u i (inl stays) tidy = stayed_same p q stripe u i stays tidy (before_tidy p q (inl stays) tidy)
before_same p q stripe u i (inr t) tidy =
    turned_same IsQuiet p q stripe u i t tidy (before_tidy p q (inr t) tidy) (quiet_same p.next_call t.was t.now stripe u i (tidy.each t.place t.was t.there) t.how)

-- a context of a tidy program

-- a piece of the context lies on the stripe
pub lies_from : (p : ProgramState) (c : ℕ) (y : Context) (stripe u i : ℕ) → IsTidyProgram p → slice_get p.contexts c ≡ Some y → LiesIn y stripe u i → lies_in y stripe u i ≡ true
lies_from p c y stripe u i tidy there l =
    let place : place_of call_number l.operation.call y.operations ≡ Some l.place = place_in p c l.place y l.operation tidy there l.there in
    let one : operation_of y l.operation.call ≡ Some l.operation = rw place l.there in
    let here : operation_of y u ≡ Some l.operation = subst (λ n. operation_of y n ≡ Some l.operation) l.call one in
    ap (λ o. is_some_and o (λ operation. lies_on stripe operation i)) here ∙ l.lies

pub comes_lies : (y : Context) (stripe u i : ℕ) → ComesIn y stripe u i → LiesIn y stripe u i
comes_lies y stripe u i c = record { place = c.place; operation = c.operation; there = c.there; call = c.call; lies = c.lies }

-- the context tells whether a piece that lies on the stripe may come there
pub context_tells : (p : ProgramState) (c : ℕ) (y : Context) (stripe u i : ℕ) → IsTidyProgram p → slice_get p.contexts c ≡ Some y → lies_in y stripe u i ≡ true →
    may_come_of y u i ≡ may_come_at p stripe u i
context_tells p c y stripe u i tidy there lies = same_tests (may_come_of y u i) (may_come_at p stripe u i) to back
  where
    to : may_come_of y u i ≡ true → may_come_at p stripe u i ≡ true
    to h =
        let l = some_and (operation_of y u) (λ operation. lies_on stripe operation i) lies in
        let at = found y.operations u (place_of call_number u y.operations) l.0 refl l.1 in
        let comes : may_come y l.0 i ≡ true = ap (λ o. is_some_and o (λ operation. may_come y operation i)) (sym l.1) ∙ h in
        comes_from p stripe u i tidy
        (record {
          place = c;
          context = y;
          there = there;
          comes = record { place = at.0; operation = l.0; there = at.2; call = numbered y u l.0 l.1; comes = parts_of y l.0 i comes; lies = l.2 };
        })

    back : may_come_at p stripe u i ≡ true → may_come_of y u i ≡ true
    back h =
        let l = some_and (operation_of y u) (λ operation. lies_on stripe operation i) lies in
        let at = found y.operations u (place_of call_number u y.operations) l.0 refl l.1 in
        let f = comes_for p stripe u i h in
        let same = tidy.apart f.place f.comes.place c at.0 f.comes.operation l.0
        (record { context = f.context; there = f.there; at = f.comes.there }) (record { context = y; there = there; at = at.2 })
        (f.comes.call ∙ sym (numbered y u l.0 l.1)) in
        let is : f.context ≡ y = same_some f.context y (sym f.there ∙ ap (slice_get p.contexts) same.0 ∙ there) in
        let one : f.comes.operation ≡ l.0 =
        same_some f.comes.operation l.0 (sym f.comes.there ∙ ap (λ (w : Context). slice_get w.operations f.comes.place) is ∙ ap (slice_get y.operations) same.1 ∙ at.2) in
        let comes : may_come f.context f.comes.operation i ≡ true = from_parts f.context f.comes.operation i f.comes.comes in
        ap (λ o. is_some_and o (λ operation. may_come y operation i)) l.1 ∙ (λ k. may_come (sym is k) (sym one k) i) ∙ comes
