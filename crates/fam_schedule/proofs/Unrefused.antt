-- The disk refused nothing exactly where each event is the one that is due.
use Rattle.std.proofs.Common.{◌≡◌, ℕ, ◌+◌, ◌≤◌, Bool, true, false, List, [], ◌∷◌, refl, sym, ap, ◌∙◌, arith, inl, inr}
use Rattle.std.specs.Prelude.{fold, Some, if◌then◌else◌}
use Rattle.rand_pcg.specs.Lcg.{Lcg}
use Rattle.fam_model.specs.declared.event.Event.{Event}
use Rattle.fam_model.specs.declared.script.Script.{Script}
use Rattle.fam_model.specs.Earned.{disk_faults, is_disk_fault}
use Rattle.fam_schedule.specs.Schedule.{Run, Step, Comes, LeadsTo, LeadsAsDue, went_on}
use Rattle.fam_schedule.proofs.Comes.{comes_next}
use Rattle.fam_schedule.proofs.Tame.{due_no_fault}

-- n and the refusals by the disk
abbrev faults_from : ℕ → List Event → ℕ
faults_from n history = fold (λ a event. a + (if is_disk_fault event.what then 1 else 0)) n history

no_fewer : (n : ℕ) (history : List Event) → n ≤ faults_from n history
no_fewer n [] = omega arith
no_fewer n (event ∷ history) =
    let first = if is_disk_fault event.what then 1 else 0 in
    let more : n + first ≤ faults_from (n + first) history = no_fewer (n + first) history in omega (arith, more)

first_none : (b : Bool) (history : List Event) → faults_from (0 + (if b then 1 else 0)) history ≡ 0 → (b ≡ false) × (faults_from 0 history ≡ 0)
first_none true history h = let more : 1 ≤ faults_from 1 history = no_fewer 1 history in let no : ⊥ = omega (arith, more, h) in absurd no
first_none false history h = (refl, h)

no_refusal : (run : Run) (due event : Event) → Comes run.now due event → is_disk_fault event.what ≡ false → event ≡ due
no_refusal run due event (inl same) e = same
no_refusal run due event (inr r) e = let no : false ≡ true = sym e ∙ ap (λ x. is_disk_fault x.what) r.is in cc

abbrev the_step : Event → Lcg → Step
the_step event words = (event, words)

as_due : (script : Script) (run : Run) (history : List Event) (end : Run) → LeadsTo script run history end → faults_from 0 history ≡ 0 → LeadsAsDue script run history end
as_due script run [] end leads none = leads
as_due script run (event ∷ history) end (due, words, next, chosen, comes, steps, leads) none =
    let first = first_none (is_disk_fault event.what) history none in
    let same = no_refusal run due event comes first.0 in (
      words,
      next,
      chosen ∙ ap (λ e. Some (the_step e words)) (sym same),
      steps,
      as_due script (went_on run event next words) history end leads first.1,
    )

of_one : (n : ℕ) → 0 + n ≡ 0 → n ≡ 0
of_one n h = omega arith

to_one : (n : ℕ) → n ≡ 0 → 0 + n ≡ 0
to_one n h = omega arith

-- where the disk refused nothing, each event is the one that is due
pub leads_as_due : (script : Script) (run : Run) (history : List Event) (end : Run) → LeadsTo script run history end → disk_faults (history ∷ []) ≡ 0 → LeadsAsDue script run history end
leads_as_due script run history end leads none = as_due script run history end leads (of_one (faults_from 0 history) none)

-- the other way round

none_more : (b : Bool) (history : List Event) → b ≡ false → faults_from 0 history ≡ 0 → faults_from (0 + (if b then 1 else 0)) history ≡ 0
none_more true history e h = cc
none_more false history e h = h

due_faults : (script : Script) (run : Run) (history : List Event) (end : Run) → LeadsAsDue script run history end → faults_from 0 history ≡ 0
due_faults script run [] end leads = refl
due_faults script run (event ∷ history) end (words, next, chosen, steps, leads) =
    none_more (is_disk_fault event.what) history (due_no_fault script run event (comes_next script run (the_step event words) chosen))
    (due_faults script (went_on run event next words) history end leads)

-- where each event is the one that is due, the disk refused nothing
pub due_unrefused : (script : Script) (run : Run) (history : List Event) (end : Run) → LeadsAsDue script run history end → disk_faults (history ∷ []) ≡ 0
due_unrefused script run history end leads = to_one (faults_from 0 history) (due_faults script run history end leads)

-- what is due may come
pub due_leads : (script : Script) (run : Run) (history : List Event) (end : Run) → LeadsAsDue script run history end → LeadsTo script run history end
due_leads script run [] end leads = leads
due_leads script run (event ∷ history) end (words, next, chosen, steps, leads) =
    (event, words, next, chosen, inl refl, steps, due_leads script (went_on run event next words) history end leads)
