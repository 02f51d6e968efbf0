-- In a tidy program a piece may come just where an operation that stands somewhere lets it.
use Rattle.std.proofs.Common.{◌≡◌, ℕ, ◌<◌, Bool, true, false, List, refl, sym, ap, ◌∙◌, arith, subst}
use Rattle.std.specs.Prelude.{◌==◌, ◌&&◌, nat_lt, Option, Some, None, slice_get}
use Rattle.std.specs.List.{list_any}
use Rattle.std.proofs.lemmas.Bool.{eqb-true}
use Rattle.std.proofs.lemmas.Bool.Decides.{nat_tests}
use Rattle.fam_model.specs.declared.piece.Operation.{Operation}
use Rattle.fam_model.specs.declared.state.Context.{Context}
use Rattle.fam_model.specs.declared.state.ProgramState.{ProgramState}
use Rattle.fam_model.specs.Lists.{◌>>=◌, is_some_and, place_of}
use Rattle.fam_model.specs.Operations.{may_come}
use Rattle.fam_model.specs.Programs.{call_number, context_of, has_operation, operation_of, Placed, placed}
use Rattle.fam_schedule.specs.Made.{StandsAt}
use Rattle.fam_schedule.specs.Schedule.{is_ready}
use Rattle.fam_schedule.proofs.Changes.{found}
use Rattle.fam_schedule.proofs.Finding.{position_is, first_of, any_at_place}
use Rattle.fam_schedule.proofs.Steps.{is_placed}
use Rattle.fam_ready.specs.Ready.{IsTidyContext, IsTidyProgram}
use Rattle.fam_ready.specs.Telling.{lies_on}
use Rattle.fam_ready.proofs.Coming.{both, first_true, second_true, ComesIn, parts_of, from_parts, named}

-- an operation is found by its call

-- in its context
pub place_in : (p : ProgramState) (c k : ℕ) (context : Context) (operation : Operation) → IsTidyProgram p → slice_get p.contexts c ≡ Some context →
    slice_get context.operations k ≡ Some operation → place_of call_number operation.call context.operations ≡ Some k
place_in p c k context operation tidy there at =
    position_is (λ o. call_number o == operation.call) context.operations k operation at (named operation.call operation.call refl)
    (λ i o o_at same.
    (tidy.apart c i c k o operation (record { context = context; there = there; at = o_at }) (record { context = context; there = there; at = at })
    (eqb-true o.call operation.call same)).1)

has_at : (context : Context) (call : ℕ) → has_operation context call ≡ true → (k : ℕ) × (o : Operation) × (slice_get context.operations k ≡ Some o) × (o.call ≡ call)
has_at context call h =
    let f = first_of (λ operation. call_number operation == call) context.operations h in
    (f.place, f.element, f.there, eqb-true f.element.call call f.passes)

-- in its program
pub placed_at : (p : ProgramState) (c k : ℕ) (operation : Operation) → IsTidyProgram p → (s : StandsAt p c k operation) →
    placed p operation.call ≡ Some (record { number = c; context = s.context; operation = operation })
placed_at p c k operation tidy s =
    let has : has_operation s.context operation.call ≡ true =
    any_at_place (λ o. call_number o == operation.call) s.context.operations k operation s.at (named operation.call operation.call refl) in
    let here : context_of p operation.call ≡ Some c =
    position_is (λ context. has_operation context operation.call) p.contexts c s.context s.there has
    (λ i context there has_it.
    let o = has_at context operation.call has_it in
    (tidy.apart i o.0 c k o.1 operation (record { context = context; there = there; at = o.2 }) s o.3).0) in
    let place = place_in p c k s.context operation tidy s.there s.at in
    let one : operation_of s.context operation.call ≡ Some operation = rw place s.at in
    rw (here, s.there, one) refl

-- a piece of a program

-- piece i of the call u may come, and lies on the stripe
abbrev pub may_come_at : ProgramState → ℕ → ℕ → ℕ → Bool
may_come_at p stripe u i = nat_lt u p.next_call && is_some_and (placed p u) (λ at. is_ready stripe at i)

-- it stands in a context
pub record ComesFor (p : ProgramState) (stripe u i : ℕ) : Type 0 where
  pub place : ℕ
  pub context : Context
  pub there : slice_get p.contexts place ≡ Some context
  pub comes : ComesIn context stripe u i

pub some_and : {A : Type 0} (o : Option A) (test : A → Bool) → is_some_and o test ≡ true → (x : A) × (o ≡ Some x) × (test x ≡ true)
some_and None test e = cc
some_and (Some x) test e = (x, refl, e)

pub comes_for : (p : ProgramState) (stripe u i : ℕ) → may_come_at p stripe u i ≡ true → ComesFor p stripe u i
comes_for p stripe u i h =
    let at = some_and (placed p u) (λ at. is_ready stripe at i) (second_true (nat_lt u p.next_call) _ h) in
    let is = is_placed p u at.0 at.1 in
    let place = found at.0.context.operations u (place_of call_number u at.0.context.operations) at.0.operation refl is.operation in
    record {
      place = at.0.number;
      context = at.0.context;
      there = is.there;
      comes = record {
        place = place.0;
        operation = at.0.operation;
        there = place.2;
        call = is.number;
        comes = parts_of at.0.context at.0.operation i (first_true (may_come at.0.context at.0.operation i) _ at.2);
        lies = second_true (may_come at.0.context at.0.operation i) _ at.2;
      };
    }

below_is : (u n : ℕ) → u < n → nat_lt u n ≡ true
below_is u n h = grind (arith, nat_tests)

pub comes_from : (p : ProgramState) (stripe u i : ℕ) → IsTidyProgram p → ComesFor p stripe u i → may_come_at p stripe u i ≡ true
comes_from p stripe u i tidy c =
    let o = c.comes.operation in
    let s : StandsAt p c.place c.comes.place o = record { context = c.context; there = c.there; at = c.comes.there } in
    let at : Placed = record { number = c.place; context = c.context; operation = o } in
    let here : placed p u ≡ Some at = subst (λ n. placed p n ≡ Some at) c.comes.call (placed_at p c.place c.comes.place o tidy s) in
    let low : u < p.next_call = subst (λ n. n < p.next_call) c.comes.call ((tidy.each c.place c.context c.there).below c.comes.place o c.comes.there) in
    let ready : is_ready stripe at i ≡ true = both (may_come c.context o i) (lies_on stripe o i) (from_parts c.context o i c.comes.comes) c.comes.lies in
    both (nat_lt u p.next_call) (is_some_and (placed p u) (λ at. is_ready stripe at i)) (below_is u p.next_call low)
    (ap (λ o. is_some_and o (λ at. is_ready stripe at i)) here ∙ ready)
