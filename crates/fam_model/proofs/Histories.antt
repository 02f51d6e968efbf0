-- Laws of steps and histories.
use Rattle.std.proofs.Common.{◌≡◌, ℕ, ◌+◌, Bool, true, false, ◌&&◌, List, [], ◌∷◌, ◌++◌, refl, sym, ap, ◌∙◌, append_assoc, append-nil}
use Rattle.std.specs.Prelude.{Option, Some, None, is_some, is_none, if◌then◌else◌}
use Rattle.std.specs.List.{flat_map}
use Rattle.std.specs.Option.{option_map_or}
use Rattle.fam_model.specs.declared.event.Event.{Event}
use Rattle.fam_model.specs.declared.state.ProgramState.{ProgramState}
use Rattle.fam_model.specs.declared.state.State.{State}
use Rattle.fam_model.specs.Earned.{parts, parts_with, begins_part, rounds_after, are_earned}
use Rattle.fam_model.specs.History.{state_after, is_legal}
use Rattle.fam_model.specs.Limits.{Limits}
use Rattle.fam_model.specs.Lists.{◌>>=◌, is_some_and}
use Rattle.fam_model.specs.Programs.{program_of}
use Rattle.fam_model.specs.Rules.{broken_rule, rule_broken_by, rule_of, broken_or, first_broken}
use Rattle.fam_model.specs.Step.{step, effect}
use Rattle.fam_model.specs.Turn.{is_in_turn}

no_rule_or_none : (in_turn : Bool) (next : Option State) (rule : ℕ) →
    is_none (if in_turn then (if is_some next then None else Some rule) else Some 1) ≡ is_some (if in_turn then next else None)
no_rule_or_none true None rule = refl
no_rule_or_none true (Some x) rule = refl
no_rule_or_none false next rule = refl

no_rule_by : (limits : Limits) (state : State) (event : Event) (o : Option ProgramState) →
    is_none (rule_broken_by limits state o event)
    ≡ is_some (o >>= λ p. if is_in_turn p event.call event.what then effect limits state event.pe.0 p event.call event.what else None)
no_rule_by limits state event None = refl
no_rule_by limits state event (Some p) =
    no_rule_or_none (is_in_turn p event.call event.what) (effect limits state event.pe.0 p event.call event.what)
    (rule_of p event.call event.what)

-- an event breaks a rule exactly where it has no next state
pub no_rule-step : (limits : Limits) (state : State) (event : Event) →
    is_none (broken_rule limits state event) ≡ is_some (step limits state event)
no_rule-step limits state event = no_rule_by limits state event (program_of state event.pe.0)

none_or : (rule : Option ℕ) (next : Option State) (place : ℕ) (later : State → Option (ℕ × ℕ)) (behind : State → Option State) →
    is_none rule ≡ is_some next → ((s : State) → is_none (later s) ≡ is_some (behind s)) →
    is_none (broken_or rule place (option_map_or later next None)) ≡ is_some (next >>= behind)
none_or None None place later behind e same = e
none_or None (Some s) place later behind e same = same s
none_or (Some rule) None place later behind e same = refl
none_or (Some rule) (Some s) place later behind e same = cc

-- some event of a history breaks a rule exactly where it is illegal
pub no_rules-legal : (limits : Limits) (state : State) (place : ℕ) (history : List Event) →
    is_none (first_broken limits state place history) ≡ is_legal limits state history
no_rules-legal limits state place [] = refl
no_rules-legal limits state place (event ∷ history) =
    none_or (broken_rule limits state event) (step limits state event) place
    (λ next. first_broken limits next (place + 1) history)
    (λ next. state_after limits next history)
    (no_rule-step limits state event)
    (λ next. no_rules-legal limits next (place + 1) history)

bind_assoc : {A B C : Type 0} (o : Option A) (f : A → Option B) (g : B → Option C) → (o >>= f) >>= g ≡ (o >>= λ x. f x >>= g)
bind_assoc None f g = refl
bind_assoc (Some x) f g = refl

bind_same : {A B : Type 0} (o : Option A) (f g : A → Option B) → ((x : A) → f x ≡ g x) → (o >>= f) ≡ (o >>= g)
bind_same None f g same = refl
bind_same (Some x) f g same = same x

-- a history in two parts goes on from what the first leaves
pub state_after-append : (limits : Limits) (state : State) (first second : List Event) →
    state_after limits state (first ++ second) ≡ (state_after limits state first >>= λ next. state_after limits next second)
state_after-append limits state [] second = refl
state_after-append limits state (event ∷ first) second =
    bind_same (step limits state event)
    (λ next. state_after limits next (first ++ second))
    (λ next. state_after limits next first >>= λ last. state_after limits last second)
    (λ next. state_after-append limits next first second)
    ∙ sym (bind_assoc (step limits state event) (λ next. state_after limits next first)
    (λ next. state_after limits next second))

some_both : {A B : Type 0} (o : Option A) (f : A → Option B) → is_some (o >>= f) ≡ true → is_some o ≡ true
some_both None f h = h
some_both (Some x) f h = refl

-- each front of a legal history is legal
pub is_legal-front : (limits : Limits) (state : State) (first second : List Event) →
    is_legal limits state (first ++ second) ≡ true → is_legal limits state first ≡ true
is_legal-front limits state first second h =
    some_both (state_after limits state first) (λ next. state_after limits next second)
    (sym (ap is_some (state_after-append limits state first second)) ∙ h)

-- parts

joined_by : (o : Option State) (begins : Bool) (cut kept : State → List (List Event)) (so_far : List Event) (event : Event) (history : List Event) →
    ((next : State) → flat_map (λ part. part) (cut next) ≡ event ∷ history) →
    ((next : State) → flat_map (λ part. part) (kept next) ≡ so_far ++ event ∷ history) →
    flat_map (λ part. part)
    (option_map_or (λ next. if begins then so_far ∷ cut next else kept next) o ((so_far ++ event ∷ history) ∷ []))
    ≡ so_far ++ event ∷ history
joined_by None begins cut kept so_far event history by_cut by_kept = append-nil (so_far ++ event ∷ history)
joined_by (Some next) true cut kept so_far event history by_cut by_kept = ap (λ events. so_far ++ events) (by_cut next)
joined_by (Some next) false cut kept so_far event history by_cut by_kept = by_kept next

joined_from : (limits : Limits) (rounds : ℕ) (state : State) (so_far history : List Event) →
    flat_map (λ part. part) (parts_with limits rounds state so_far history) ≡ so_far ++ history
joined_from limits rounds state so_far [] = refl
joined_from limits rounds state so_far (event ∷ history) =
    joined_by (step limits state event) (begins_part rounds state event)
    (λ next. parts_with limits (rounds_after rounds state event) next (event ∷ []) history)
    (λ next. parts_with limits rounds next (so_far ++ event ∷ []) history)
    so_far event history
    (λ next. joined_from limits (rounds_after rounds state event) next (event ∷ []) history)
    (λ next. joined_from limits rounds next (so_far ++ event ∷ []) history ∙ append_assoc so_far (event ∷ []) history)

-- the parts of a history are all of it
pub parts-joined : (limits : Limits) (state : State) (history : List Event) →
    flat_map (λ part. part) (parts limits state history) ≡ history
parts-joined limits state history = joined_from limits 0 state [] history

second_true : (p q : Bool) → (p && q) ≡ true → q ≡ true
second_true true q e = e
second_true false q e = cc

legal_by : (o : Option State) (test : State → Bool) (behind : State → Option State) →
    ((s : State) → test s ≡ true → is_some (behind s) ≡ true) → is_some_and o test ≡ true → is_some (o >>= behind) ≡ true
legal_by None test behind holds e = cc
legal_by (Some s) test behind holds e = holds s e

-- where all refusals are earned, the history is legal
pub are_earned-legal : (limits : Limits) (state : State) (history : List (List Event)) →
    are_earned limits state history ≡ true → is_legal limits state (flat_map (λ part. part) history) ≡ true
are_earned-legal limits state [] e = refl
are_earned-legal limits state (part ∷ others) e =
    ap is_some (state_after-append limits state part (flat_map (λ events. events) others))
    ∙ legal_by (state_after limits state part)
    (λ next. are_earned limits next others)
    (λ next. state_after limits next (flat_map (λ events. events) others))
    (λ next holds. are_earned-legal limits next others holds)
    (second_true _ _ e)
