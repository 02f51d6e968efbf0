-- All programs after an event.
use Rattle.std.proofs.Common.{◌≡◌, ℕ, ◌<◌, ◌≤◌, Bool, true, false, List, length, refl, sym, ◌∙◌, subst, arith, eqb-true}
use Rattle.std.specs.Prelude.{Result, Ok, Err, OnOk, ◌==◌, Option, Some, None, slice_get, slice_set}
use Rattle.std.proofs.lemmas.List.{length-set}
use Rattle.std.proofs.lemmas.Option.{slice_get_within}
use Rattle.fam_model.specs.declared.event.Event.{Event}
use Rattle.fam_model.specs.declared.reply.Reply.{Reply}
use Rattle.fam_schedule.proofs.Places.{get_set_same, get_set_other}
use Rattle.fam_schedule.proofs.Runs.{differ}
use Rattle.fam_audit.specs.declared.turn.Turn.{Turn}
use Rattle.fam_audit.specs.Turns.{AreHeard, GoesOn, Heard, told_by, told_to}

same_some : {A : Type 0} (x y : A) → Some x ≡ Some y → x ≡ y
same_some x y e = cc

told_here : (event : Event) (pe : ℕ) → (event.pe.0 == pe) ≡ true → told_to pe event ≡ told_by event.what
told_here event pe e = rw e refl

told_not : (event : Event) (pe : ℕ) → (event.pe.0 == pe) ≡ false → told_to pe event ≡ None
told_not event pe e = rw e refl

told_none : (event : Event) (pe : ℕ) (b : Bool) → (event.pe.0 == pe) ≡ b → told_by event.what ≡ None → told_to pe event ≡ None
told_none event pe true e none = told_here event pe e ∙ none
told_none event pe false e none = told_not event pe e

as_it_was : (pe : ℕ) (told : Option Reply) (old new : Turn) → told ≡ None → new ≡ old → Heard pe told old new
as_it_was pe told old new none same = subst (λ t. Heard pe t old new) (sym none) same

goes : (pe : ℕ) (told : Option Reply) (given : Reply) (old new : Turn) → told ≡ Some given → GoesOn pe old given new → Heard pe told old new
goes pe told given old new some on = subst (λ t. Heard pe t old new) (sym some) on

-- an event that tells nothing
pub heard_nothing : (event : Event) (turns : List Turn) → told_by event.what ≡ None → AreHeard event turns turns
heard_nothing event turns none =
    record {
      count = refl;
      each = λ pe old new there at. as_it_was pe (told_to pe event) old new (told_none event pe (event.pe.0 == pe) refl none) (same_some new old (sym at ∙ there));
    }

-- an event of a program that is not there
pub heard_nowhere : (event : Event) (turns : List Turn) → length turns ≤ event.pe.0 → AreHeard event turns turns
heard_nowhere event turns past =
    record {
      count = refl;
      each = λ pe old new there at. by_place pe old new (event.pe.0 == pe) refl there at;
    }
  where
    by_place : (pe : ℕ) (old new : Turn) (b : Bool) → (event.pe.0 == pe) ≡ b → slice_get turns pe ≡ Some old → slice_get turns pe ≡ Some new → Heard pe (told_to pe event) old new
    by_place pe old new true e there at =
        let low : pe < length turns = slice_get_within turns pe old there in
        let here : event.pe.0 ≡ pe = eqb-true event.pe.0 pe e in
        let no : ⊥ = omega arith in absurd no
    by_place pe old new false e there at = as_it_was pe (told_to pe event) old new (told_not event pe e) (same_some new old (sym at ∙ there))

-- an event that tells its program a reply
pub heard_one : (event : Event) (turns : List Turn) (given : Reply) (was is : Turn) → told_by event.what ≡ Some given → slice_get turns event.pe.0 ≡ Some was →
    GoesOn event.pe.0 was given is → AreHeard event turns (slice_set turns event.pe.0 is)
heard_one event turns given was is told there on =
    record {
      count = length-set turns event.pe.0 is;
      each = λ pe old new was_at at. by_place pe old new (event.pe.0 == pe) refl was_at at;
    }
  where
    by_place : (pe : ℕ) (old new : Turn) (b : Bool) → (event.pe.0 == pe) ≡ b → slice_get turns pe ≡ Some old → slice_get (slice_set turns event.pe.0 is) pe ≡ Some new → Heard pe (told_to pe event) old new
    by_place pe old new true e was_at at =
        let here : event.pe.0 ≡ pe = eqb-true event.pe.0 pe e in
        let old_is : was ≡ old = same_some was old (sym (subst (λ k. slice_get turns k ≡ Some was) here there) ∙ was_at) in
        let new_at : slice_get (slice_set turns event.pe.0 is) event.pe.0 ≡ Some new = subst (λ k. slice_get (slice_set turns event.pe.0 is) k ≡ Some new) (sym here) at in
        let new_is : is ≡ new = same_some is new (sym (get_set_same turns event.pe.0 was is there) ∙ new_at) in
        goes pe (told_to pe event) given old new (told_here event pe e ∙ told)
        (subst (λ k. GoesOn k old given new) here (subst (λ t. GoesOn event.pe.0 t given new) old_is (subst (GoesOn event.pe.0 was given) new_is on)))
    by_place pe old new false e was_at at =
        let apart = differ event.pe.0 pe e in
        as_it_was pe (told_to pe event) old new (told_not event pe e) (same_some new old (sym at ∙ get_set_other turns event.pe.0 pe old is was_at apart))

-- what holds where a result is good
pub on_ok : {A E P Q : Type 0} (r : Result A E) → (P → Q) → OnOk r P → OnOk r Q
on_ok (Ok x) h p = h p
on_ok (Err e) h p = p
