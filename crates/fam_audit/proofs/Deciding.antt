-- Events that were judged in turn.
use Rattle.std.proofs.Common.{◌≡◌, ℕ, ◌+◌, Bool, true, false, List, [], ◌∷◌, ◌++◌, length, take, drop, refl, sym, ap, ◌∙◌, subst}
use Rattle.std.specs.Prelude.{Option, Some, None, is_some, is_none, if◌then◌else◌}
use Rattle.std.specs.Option.{option_map_or}
use Rattle.fam_model.specs.declared.event.Event.{Event}
use Rattle.fam_model.specs.declared.script.Script.{Script}
use Rattle.fam_model.specs.declared.state.State.{State}
use Rattle.fam_model.specs.History.{state_after}
use Rattle.fam_model.specs.Limits.{service_limits}
use Rattle.fam_model.specs.Lists.{◌>>=◌}
use Rattle.fam_model.specs.Rules.{broken_or, broken_rule}
use Rattle.fam_model.specs.Step.{step}
use Rattle.fam_model.proofs.Histories.{no_rule-step}
use Rattle.fam_audit.specs.declared.auditor.Auditor.{Auditor}
use Rattle.fam_audit.specs.Auditing.{Finds, Judges, Stands, is_next}
use Rattle.fam_audit.specs.Turns.{AreHeard}
use Rattle.fam_audit.specs.Verdict.{first_wrong_event, goes_on, rule_broken}
use Rattle.fam_audit.proofs.Going.{next_goes_on, stands_next}

-- one event

is_missing : (o : Option ℕ) → is_none o ≡ true → o ≡ None
is_missing None e = refl
is_missing (Some n) e = cc

pub rule_of_next : (script : Script) (before : List Event) (state : State) (event : Event) → goes_on script before event ≡ true → rule_broken script before state event ≡ broken_rule service_limits state event
rule_of_next script before state event goes = ap (λ (b : Bool). if b then broken_rule service_limits state event else Some 1) goes

pub rule_of_other : (script : Script) (before : List Event) (state : State) (event : Event) → goes_on script before event ≡ false → rule_broken script before state event ≡ Some 1
rule_of_other script before state event goes = ap (λ (b : Bool). if b then broken_rule service_limits state event else Some 1) goes

-- an event that has a next state breaks no rule
pub no_rule : (state next : State) (event : Event) → step service_limits state event ≡ Some next → broken_rule service_limits state event ≡ None
no_rule state next event steps = is_missing (broken_rule service_limits state event) (no_rule-step service_limits state event ∙ ap is_some steps)

-- it is not the next one of its program
pub judges_other : (old new : Auditor) (event : Event) → is_next old.turns event ≡ false → Judges old event new (Some 1)
judges_other old new event other = λ script before stands.
    rule_of_other script before old.machine event (sym (next_goes_on script before old event stands) ∙ other)

-- the machine tells the rule
pub judges_illegal : (old new : Auditor) (event : Event) (rule : ℕ) → is_next old.turns event ≡ true → broken_rule service_limits old.machine event ≡ Some rule → Judges old event new (Some rule)
judges_illegal old new event rule next broken = λ script before stands.
    rule_of_next script before old.machine event (sym (next_goes_on script before old event stands) ∙ next) ∙ broken

-- it was taken
pub judges_taken : (old new : Auditor) (event : Event) → is_next old.turns event ≡ true → step service_limits old.machine event ≡ Some new.machine →
    AreHeard event old.turns new.turns → Judges old event new None
judges_taken old new event next steps heard = λ script before stands.
    let goes : goes_on script before event ≡ true = sym (next_goes_on script before old event stands) ∙ next in (
      rule_of_next script before old.machine event goes ∙ no_rule old.machine new.machine event steps,
      steps,
      stands_next script before old new event stands steps goes heard,
    )

-- all events

-- the events from a place on have still to be judged
pub record SoFar (script : Script) (old : Auditor) (history : List Event) (k : ℕ) (now : Auditor) : Type 0 where
  pub stands : Stands script (take k history) now
  pub wrong : first_wrong_event script [] old.machine history ≡ first_wrong_event script (take k history) now.machine (drop k history)
  pub leads : state_after service_limits old.machine history ≡ state_after service_limits now.machine (drop k history)

wrong_next : (script : Script) (before : List Event) (state next : State) (event : Event) (rest : List Event) → rule_broken script before state event ≡ None →
    step service_limits state event ≡ Some next →
    first_wrong_event script before state (event ∷ rest) ≡ first_wrong_event script (before ++ event ∷ []) next rest
wrong_next script before state next event rest none steps =
    let later : Option State → Option (ℕ × ℕ) = λ o. option_map_or (λ s. first_wrong_event script (before ++ event ∷ []) s rest) o None in
    ap (λ (o : Option ℕ). broken_or o (length before) (later (step service_limits state event))) none ∙ ap later steps

wrong_here : (script : Script) (before : List Event) (state : State) (event : Event) (rest : List Event) (rule : ℕ) → rule_broken script before state event ≡ Some rule →
    first_wrong_event script before state (event ∷ rest) ≡ broken_or (Some rule) (length before) None
wrong_here script before state event rest rule some =
    ap (λ (o : Option ℕ). broken_or o (length before) (option_map_or (λ s. first_wrong_event script (before ++ event ∷ []) s rest) (step service_limits state event) None)) some

leads_next : (state next : State) (event : Event) (rest : List Event) → step service_limits state event ≡ Some next → state_after service_limits state (event ∷ rest) ≡ state_after service_limits next rest
leads_next state next event rest steps = ap (λ (o : Option State). o >>= λ s. state_after service_limits s rest) steps

pub starts : (script : Script) (old : Auditor) (history : List Event) → Stands script [] old → SoFar script old history 0 old
starts script old history stands = record { stands = stands; wrong = refl; leads = refl }

-- one more was taken
pub taken_more : (script : Script) (old now new : Auditor) (history : List Event) (k : ℕ) (event : Event) → take (k + 1) history ≡ take k history ++ event ∷ [] →
    drop k history ≡ event ∷ drop (k + 1) history → SoFar script old history k now → Judges now event new None → SoFar script old history (k + 1) new
taken_more script old now new history k event more rest so_far judged =
    let j = judged script (take k history) so_far.stands in
    record {
      stands = subst (λ es. Stands script es new) (sym more) j.2;
      wrong = so_far.wrong ∙ ap (first_wrong_event script (take k history) now.machine) rest
          ∙ wrong_next script (take k history) now.machine new.machine event (drop (k + 1) history) j.0 j.1
          ∙ ap (λ es. first_wrong_event script es new.machine (drop (k + 1) history)) (sym more);
      leads = so_far.leads ∙ ap (state_after service_limits now.machine) rest ∙ leads_next now.machine new.machine event (drop (k + 1) history) j.1;
    }

-- one breaks a rule
pub found_here : (script : Script) (old now new : Auditor) (history : List Event) (k : ℕ) (event : Event) (rule : ℕ) → length (take k history) ≡ k →
    drop k history ≡ event ∷ drop (k + 1) history → SoFar script old history k now → Judges now event new (Some rule) →
    first_wrong_event script [] old.machine history ≡ broken_or (Some rule) k None
found_here script old now new history k event rule count rest so_far judged =
    so_far.wrong ∙ ap (first_wrong_event script (take k history) now.machine) rest
    ∙ wrong_here script (take k history) now.machine event (drop (k + 1) history) rule (judged script (take k history) so_far.stands)
    ∙ ap (λ n. broken_or (Some rule) n None) count

-- the events have all been taken
pub found_none : (script : Script) (old now : Auditor) (history : List Event) (k : ℕ) → take k history ≡ history → drop k history ≡ [] → SoFar script old history k now →
    Finds script [] old history now None
found_none script old now history k all none so_far =
    record {
      wrong = so_far.wrong ∙ ap (first_wrong_event script (take k history) now.machine) none;
      taken = λ e. record {
        leads = so_far.leads ∙ ap (state_after service_limits now.machine) none;
        stands = subst (λ es. Stands script es now) all so_far.stands;
      };
    }

-- where a rule is broken nothing else is said
pub found_some : (script : Script) (old new : Auditor) (history : List Event) (found : ℕ × ℕ) → first_wrong_event script [] old.machine history ≡ Some found →
    Finds script [] old history new (Some found)
found_some script old new history found wrong = record { wrong = wrong; taken = λ none. cc }
