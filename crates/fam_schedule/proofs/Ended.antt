-- Where the schedule stops, no piece is left.
use Rattle.std.proofs.Common.{◌≡◌, ℕ, ◌<◌, Bool, true, false, List, [], ◌∷◌, refl, sym, ap, ◌∙◌, arith, subst}
use Rattle.std.specs.Prelude.{Option, Some, None, All, slice_get, length, map, nat_lt, replicate, zero, suc}
use Rattle.std.specs.List.{enumerate_from}
use Rattle.std.specs.Option.{option_map}
use Rattle.std.proofs.lemmas.List.Elements.{All-nil, All-cons}
use Rattle.std.proofs.lemmas.Option.{slice_get-map, slice_get_within}
use Rattle.fam_base.specs.declared.naming.Who.{Who}
use Rattle.fam_model.specs.declared.event.Event.{Event}
use Rattle.fam_model.specs.declared.piece.Operation.{Operation}
use Rattle.fam_model.specs.declared.rows.Rows.{Rows}
use Rattle.fam_model.specs.declared.script.Script.{Script}
use Rattle.fam_model.specs.declared.state.Context.{Context}
use Rattle.fam_model.specs.declared.state.ProgramState.{ProgramState}
use Rattle.fam_model.specs.ContextStep.{new_context}
use Rattle.fam_model.specs.EndStep.{has_pending}
use Rattle.fam_model.specs.Headline.{opening}
use Rattle.fam_model.specs.Limits.{service_limits}
use Rattle.fam_model.specs.Opened.{new_program, closed_context}
use Rattle.fam_model.specs.Pieces.{stripe_count}
use Rattle.fam_model.specs.Programs.{program_of}
use Rattle.fam_schedule.specs.Made.{StandsAt, AreMade}
use Rattle.fam_schedule.specs.Schedule.{Run, LeadsTo, IsScheduled, new_run, went_on}
use Rattle.fam_schedule.proofs.Acting.{all_at, stops_still}
use Rattle.fam_schedule.proofs.Issued.{is_lawful}
use Rattle.fam_schedule.proofs.Pending.{nothing_pending}
use Rattle.fam_schedule.proofs.Steps.{AllMade, step_made, step_service}

-- the start

-- a context without operations
abbrev IsBare : Context → Type 0
IsBare context = context.operations ≡ []

closed_bare : (n : ℕ) → All IsBare (replicate n closed_context)
closed_bare zero = All-nil IsBare
closed_bare (suc n) = All-cons IsBare closed_context (replicate n closed_context) refl (closed_bare n)

new_bare : (who : Who) (is_local : Bool) → All IsBare (new_program who is_local).contexts
new_bare who is_local = All-cons IsBare new_context (replicate 7 closed_context) refl (closed_bare 7)

new_stands : (who : Who) (is_local : Bool) (c k : ℕ) (o : Operation) → StandsAt (new_program who is_local) c k o → k < k
new_stands who is_local c k o at =
    let bare : at.context.operations ≡ [] = all_at IsBare (new_program who is_local).contexts c at.context (new_bare who is_local) at.there in
    let low : k < length at.context.operations = slice_get_within at.context.operations k o at.at in
    let none : length at.context.operations ≡ 0 = ap length bare in
    omega arith

new_made : (stripes : ℕ) (who : Who) (is_local : Bool) → AreMade stripes (new_program who is_local)
new_made stripes who is_local =
    record {
      each = λ c k o at. let low : k < k = new_stands who is_local c k o at in let no : ⊥ = omega arith in absurd no;
      apart = λ c k d j o q at other same. let low : k < k = new_stands who is_local c k o at in let no : ⊥ = omega arith in absurd no;
    }

mapped : {A B : Type 0} (f : A → B) (o : Option A) (y : B) → option_map f o ≡ Some y → (x : A) × (y ≡ f x)
mapped f None y h = cc
mapped f (Some x) y h = (x, cc)

opening_made : (rows : Rows) (script : Script) → AllMade (opening rows script)
opening_made rows script pe p there =
    let whos = map (λ program. program.who) script.programs in
    let make : ℕ × Who → ProgramState = λ entry. new_program entry.1 (nat_lt entry.0 (length script.programs)) in
    let m = mapped make (slice_get (enumerate_from 0 whos) pe) p (sym (slice_get-map make (enumerate_from 0 whos) pe) ∙ there) in
    subst (AreMade (stripe_count script.service)) (sym m.1) (new_made (stripe_count script.service) m.0.1 (nat_lt m.0.0 (length script.programs)))

-- the way

pub record Made (script : Script) (run : Run) : Type 0 where
  pub all : AllMade run.now
  pub service : run.now.service ≡ script.service

leads_made : (script : Script) (run : Run) (history : List Event) (end : Run) → is_lawful script.service ≡ true → Made script run → LeadsTo script run history end → Made script end
leads_made script run [] end lawful made leads = subst (Made script) (sym leads) made
leads_made script run (event ∷ history) end lawful made (due, words, next, chosen, comes, steps, leads) =
    let here : is_lawful run.now.service ≡ true = ap is_lawful made.service ∙ lawful in
    leads_made script (went_on run event next words) history end lawful
    (record {
      all = step_made service_limits run.now next event here steps made.all;
      service = step_service service_limits run.now next event here steps ∙ made.service;
    }) leads

pub scheduled_made : (rows : Rows) (script : Script) (seed : ℕ) (history : List Event) (whole : Bool) → is_lawful script.service ≡ true →
    (s : IsScheduled rows script seed history whole) → Made script s.end
scheduled_made rows script seed history whole lawful s =
    leads_made script (new_run rows script seed) history s.end lawful (record { all = opening_made rows script; service = refl }) s.leads

-- the end

pub nothing_left : (rows : Rows) (script : Script) (seed : ℕ) (history : List Event) → is_lawful script.service ≡ true → (s : IsScheduled rows script seed history true) →
    (pe : ℕ) (p : ProgramState) → program_of s.end.now pe ≡ Some p → has_pending p ≡ false
nothing_left rows script seed history lawful s pe p there =
    let made = scheduled_made rows script seed history true lawful s in
    nothing_pending script s.end pe p (stops_still script s.end (s.stops refl)) there (made.all pe p there)
