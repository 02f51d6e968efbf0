-- A program whose operations are well made keeps them so.
use Rattle.std.proofs.Common.{◌≡◌, ℕ, ◌<◌, ◌≤◌, Bool, true, false, List, [], refl, sym, ap, ◌∙◌, arith, subst, inl, inr, get_or}
use Rattle.std.specs.Prelude.{◌==◌, ◌≢◌, ◌⊎◌, Option, Some, None, slice_get, slice_set, map, length}
use Rattle.std.specs.Option.{option_map}
use Rattle.std.proofs.lemmas.Bool.{eqb-true}
use Rattle.std.proofs.lemmas.List.{length-set}
use Rattle.std.proofs.lemmas.Option.{slice_get_within, slice_get-get_or, slice_get-map}
use Rattle.fam_model.specs.declared.piece.Operation.{Operation}
use Rattle.fam_model.specs.declared.state.Context.{Context}
use Rattle.fam_model.specs.declared.state.ProgramState.{ProgramState}
use Rattle.fam_model.specs.Lists.{◌>>=◌, place_of}
use Rattle.fam_model.specs.Operations.{as_reported}
use Rattle.fam_model.specs.Programs.{call_number, operation_of, with_operation}
use Rattle.fam_schedule.specs.Made.{IsMade, StandsAt, AreMade}
use Rattle.fam_schedule.proofs.Places.{get_set_same, get_set_other}
use Rattle.fam_schedule.proofs.Keeps.{made_reported, made_higher}

-- where an operation comes from

-- an operation that stood there was of the same call, and if it was well made so is this one
abbrev pub OldAt : ℕ → ProgramState → ℕ → ℕ → Operation → Type 0
OldAt stripes p c k o = (old : Operation) × StandsAt p c k old × (old.call ≡ o.call) × ((n : ℕ) → IsMade stripes n old → IsMade stripes n o)

-- it is the new one
pub record NewAt (stripes : ℕ) (p next : ProgramState) (context place c k : ℕ) (o : Operation) : Type 0 where
  pub in_context : c ≡ context
  pub at_place : k ≡ place
  pub call : o.call ≡ p.next_call
  pub made : IsMade stripes next.next_call o

-- each operation was there, but for one of the next call that may stand at this place
pub record Grows (stripes : ℕ) (p next : ProgramState) : Type 0 where
  pub number : p.next_call ≤ next.next_call
  pub context : ℕ
  pub place : ℕ
  pub from : (c k : ℕ) (o : Operation) → StandsAt next c k o → OldAt stripes p c k o ⊎ NewAt stripes p next context place c k o

each_made : (stripes : ℕ) (p next : ProgramState) (context place c k : ℕ) (o : Operation) → AreMade stripes p → p.next_call ≤ next.next_call →
    OldAt stripes p c k o ⊎ NewAt stripes p next context place c k o → IsMade stripes next.next_call o
each_made stripes p next context place c k o made h (inl (old, at, call, keeps)) =
    made_higher stripes p.next_call next.next_call o h (keeps p.next_call (made.each c k old at))
each_made stripes p next context place c k o made h (inr new) = new.made

apart_made : (stripes : ℕ) (p next : ProgramState) (context place c k d j : ℕ) (o q : Operation) → AreMade stripes p →
    OldAt stripes p c k o ⊎ NewAt stripes p next context place c k o → OldAt stripes p d j q ⊎ NewAt stripes p next context place d j q → o.call ≡ q.call →
    (c ≡ d) × (k ≡ j)
apart_made stripes p next context place c k d j o q made (inl (a, a_at, a_call, a_keeps)) (inl (b, b_at, b_call, b_keeps)) same =
    made.apart c k d j a b a_at b_at (a_call ∙ same ∙ sym b_call)
apart_made stripes p next context place c k d j o q made (inl (a, a_at, a_call, a_keeps)) (inr new) same =
    let low : a.call < p.next_call = (made.each c k a a_at).call in
    let number : a.call ≡ p.next_call = a_call ∙ same ∙ new.call in
    let no : ⊥ = omega arith in absurd no
apart_made stripes p next context place c k d j o q made (inr new) (inl (b, b_at, b_call, b_keeps)) same =
    let low : b.call < p.next_call = (made.each d j b b_at).call in
    let number : b.call ≡ p.next_call = b_call ∙ sym same ∙ new.call in
    let no : ⊥ = omega arith in absurd no
apart_made stripes p next context place c k d j o q made (inr new) (inr other) same =
    (new.in_context ∙ sym other.in_context, new.at_place ∙ sym other.at_place)

-- a program that grows so keeps its operations well made
pub grows_made : (stripes : ℕ) (p next : ProgramState) → Grows stripes p next → AreMade stripes p → AreMade stripes next
grows_made stripes p next g made =
    record {
      each = λ c k o at. each_made stripes p next g.context g.place c k o made g.number (g.from c k o at);
      apart = λ c k d j o q o_at q_at same. apart_made stripes p next g.context g.place c k d j o q made (g.from c k o o_at) (g.from d j q q_at) same;
    }

-- contexts

-- the same contexts
pub grows_same : (stripes : ℕ) (p next : ProgramState) → next.contexts ≡ p.contexts → p.next_call ≤ next.next_call → Grows stripes p next
grows_same stripes p next same h =
    record {
      number = h;
      context = 0;
      place = 0;
      from = λ c k o at. inl (o, record { context = at.context; there = ap (λ cs. slice_get cs c) (sym same) ∙ at.there; at = at.at }, refl, λ n made. made);
    }

-- each operation of a context was there
abbrev pub KeepsAll : ℕ → Context → Context → Type 0
KeepsAll stripes x y =
    (k : ℕ) (o : Operation) → slice_get y.operations k ≡ Some o →
    (old : Operation) × (slice_get x.operations k ≡ Some old) × (old.call ≡ o.call) × ((n : ℕ) → IsMade stripes n old → IsMade stripes n o)

same_some : {A : Type 0} (x y : A) → Some x ≡ Some y → x ≡ y
same_some x y e = cc

-- what stands at d once place c is set
pub set_at : {A : Type 0} (same : Bool) (xs : List A) (c d : ℕ) (x y z : A) → (d == c) ≡ same → slice_get xs c ≡ Some x → slice_get (slice_set xs c y) d ≡ Some z →
    ((d ≡ c) × (z ≡ y)) ⊎ (slice_get xs d ≡ Some z)
set_at true xs c d x y z e there at =
    let place : d ≡ c = eqb-true d c e in
    inl (place, same_some z y (sym at ∙ ap (slice_get (slice_set xs c y)) place ∙ get_set_same xs c x y there))
set_at false xs c d x y z e there at =
    let apart : d ≢ c = grind arith in
    let within : d < length (slice_set xs c y) = slice_get_within (slice_set xs c y) d z at in
    let longer : length (slice_set xs c y) ≡ length xs = length-set xs c y in
    let old : slice_get xs d ≡ Some (get_or xs d z) = slice_get-get_or xs d z (omega arith) in
    let now : slice_get (slice_set xs c y) d ≡ Some (get_or xs d z) = get_set_other xs c d (get_or xs d z) y old apart in
    inr (old ∙ sym now ∙ at)

from_set : (stripes : ℕ) (p : ProgramState) (c : ℕ) (x y : Context) (d k : ℕ) (o : Operation) (z : Context) → slice_get p.contexts c ≡ Some x → KeepsAll stripes x y →
    slice_get z.operations k ≡ Some o → ((d ≡ c) × (z ≡ y)) ⊎ (slice_get p.contexts d ≡ Some z) → OldAt stripes p d k o
from_set stripes p c x y d k o z there keeps at (inl (place, is)) =
    let old = keeps k o (ap (λ w. slice_get w.operations k) (sym is) ∙ at) in
    (old.0, record { context = x; there = ap (slice_get p.contexts) place ∙ there; at = old.1 }, old.2, old.3)
from_set stripes p c x y d k o z there keeps at (inr other) = (o, record { context = z; there = other; at = at }, refl, λ n made. made)

-- one context changed
pub grows_with : (stripes : ℕ) (p next : ProgramState) (c : ℕ) (x y : Context) → slice_get p.contexts c ≡ Some x → KeepsAll stripes x y →
    next.contexts ≡ slice_set p.contexts c y → p.next_call ≤ next.next_call → Grows stripes p next
grows_with stripes p next c x y there keeps same h =
    record {
      number = h;
      context = 0;
      place = 0;
      from = λ d k o at.
          inl (from_set stripes p c x y d k o at.context there keeps at.at
          (set_at (d == c) p.contexts c d x y at.context refl there (ap (λ cs. slice_get cs d) (sym same) ∙ at.there)));
    }

-- operations

pub keeps_same : (stripes : ℕ) (x y : Context) → y.operations ≡ x.operations → KeepsAll stripes x y
keeps_same stripes x y same k o at = (o, ap (λ os. slice_get os k) (sym same) ∙ at, refl, λ n made. made)

pub keeps_none : (stripes : ℕ) (x y : Context) → y.operations ≡ [] → KeepsAll stripes x y
keeps_none stripes x y same k o at =
    let low : k < length y.operations = slice_get_within y.operations k o at in
    let none : length y.operations ≡ 0 = ap length same in
    let no : ⊥ = omega arith in absurd no

mapped : {A : Type 0} (f : A → A) (o : Option A) (y : A) → option_map f o ≡ Some y → (x : A) × (o ≡ Some x) × (y ≡ f x)
mapped f None y h = cc
mapped f (Some x) y h = (x, refl, cc)

pub keeps_reported : (stripes : ℕ) (x y : Context) → y.operations ≡ map as_reported x.operations → KeepsAll stripes x y
keeps_reported stripes x y same k o at =
    let m = mapped as_reported (slice_get x.operations k) o (sym (slice_get-map as_reported x.operations k) ∙ ap (λ os. slice_get os k) (sym same) ∙ at) in
    (m.0, m.1, ap (λ q. q.call) (sym m.2), λ n made. subst (IsMade stripes n) (sym m.2) (made_reported stripes n m.0 made))

-- the operation that is found
pub found : (xs : List Operation) (call : ℕ) (o : Option ℕ) (old : Operation) → place_of call_number call xs ≡ o → (o >>= λ k. slice_get xs k) ≡ Some old →
    (k : ℕ) × (place_of call_number call xs ≡ Some k) × (slice_get xs k ≡ Some old)
found xs call None old e h = cc
found xs call (Some k) old e h = (k, e, h)

by_place : (stripes : ℕ) (xs : List Operation) (i k : ℕ) (old new o : Operation) (same : Bool) → (k == i) ≡ same → slice_get xs i ≡ Some old → old.call ≡ new.call →
    ((n : ℕ) → IsMade stripes n old → IsMade stripes n new) → slice_get (slice_set xs i new) k ≡ Some o →
    (z : Operation) × (slice_get xs k ≡ Some z) × (z.call ≡ o.call) × ((n : ℕ) → IsMade stripes n z → IsMade stripes n o)
by_place stripes xs i k old new o same e there call keeps at = by_case (set_at same xs i k old new o e there at)
  where
    by_case : ((k ≡ i) × (o ≡ new)) ⊎ (slice_get xs k ≡ Some o) →
        (z : Operation) × (slice_get xs k ≡ Some z) × (z.call ≡ o.call) × ((n : ℕ) → IsMade stripes n z → IsMade stripes n o)
    by_case (inl (place, is)) =
        (old, ap (slice_get xs) place ∙ there, call ∙ ap (λ q. q.call) (sym is), λ n made. subst (IsMade stripes n) (sym is) (keeps n made))
    by_case (inr other) = (o, other, refl, λ n made. made)

-- one operation changed
pub keeps_operation : (stripes : ℕ) (x : Context) (call : ℕ) (old new : Operation) → operation_of x call ≡ Some old → old.call ≡ call → new.call ≡ old.call →
    ((n : ℕ) → IsMade stripes n old → IsMade stripes n new) → KeepsAll stripes x (with_operation x new)
keeps_operation stripes x call old new found_old old_call new_call keeps k o at =
    let place = found x.operations call (place_of call_number call x.operations) old refl found_old in
    let number : new.call ≡ call = new_call ∙ old_call in
    let there : place_of call_number new.call x.operations ≡ Some place.0 = subst (λ n. place_of call_number n x.operations ≡ Some place.0) (sym number) place.1 in
    let shown : (with_operation x new).operations ≡ slice_set x.operations place.0 new = rw there (rw place.2 refl) in
    by_place stripes x.operations place.0 k old new o (k == place.0) refl place.2 (sym new_call) keeps (ap (λ os. slice_get os k) (sym shown) ∙ at)
