-- Tidy states: the one in which a run begins, and those that steps lead to.
use Rattle.std.proofs.Common.{◌≡◌, ℕ, zero, suc, ◌<◌, ◌≤◌, Bool, true, false, List, [], ◌∷◌, refl, sym, ap, ◌∙◌, arith, subst, inl, inr, length}
use Rattle.std.specs.Prelude.{◌==◌, ◌⊎◌, Option, Some, None, slice_get, slice_set, replicate, map, nat_lt}
use Rattle.std.specs.Option.{option_map}
use Rattle.std.specs.List.{enumerate_from}
use Rattle.std.proofs.lemmas.Option.{slice_get_within, slice_get-map}
use Rattle.fam_base.specs.declared.naming.Who.{Who}
use Rattle.fam_model.specs.declared.event.Event.{Event}
use Rattle.fam_model.specs.declared.event.What.{What}
use Rattle.fam_model.specs.declared.event.What.TheVariants as what
use Rattle.fam_model.specs.declared.piece.Operation.{Operation}
use Rattle.fam_model.specs.declared.reply.Reply.{Reply}
use Rattle.fam_model.specs.declared.reply.Reply.TheVariants as reply
use Rattle.fam_model.specs.declared.rows.Rows.{Rows}
use Rattle.fam_model.specs.declared.script.Script.{Script}
use Rattle.fam_model.specs.declared.state.Context.{Context}
use Rattle.fam_model.specs.declared.state.ProgramState.{ProgramState}
use Rattle.fam_model.specs.declared.state.State.{State}
use Rattle.fam_model.specs.ContextStep.{new_context}
use Rattle.fam_model.specs.Headline.{opening}
use Rattle.fam_model.specs.Limits.{Limits}
use Rattle.fam_model.specs.Opened.{new_program, closed_context}
use Rattle.fam_model.specs.Programs.{program_of}
use Rattle.fam_model.specs.Step.{step}
use Rattle.fam_schedule.proofs.Changes.{set_at}
use Rattle.fam_schedule.proofs.Finding.{get_zero, get_behind}
use Rattle.fam_ready.specs.Ready.{IsTidyContext, IsTidyProgram, IsTidy}
use Rattle.fam_ready.proofs.Coming.{same_some}
use Rattle.fam_ready.proofs.Events.{EventTurns, StepTurns, step_turns}
use Rattle.fam_ready.proofs.Same.{mapped}
use Rattle.fam_ready.proofs.Tidy.{StaysTidy, opened_tidy, before_tidy, kept_tidy, issue_tidy, answer_tidy}
use Rattle.fam_ready.proofs.Turns.{IssueTurns}

-- the opened state

get_copy : {A : Type 0} (n k : ℕ) (x y : A) → slice_get (replicate n x) k ≡ Some y → y ≡ x
get_copy zero k x y there = let low : k < 0 = slice_get_within [] k y there in let no : ⊥ = omega arith in absurd no
get_copy (suc n) zero x y there = same_some y x (sym there ∙ get_zero x (replicate n x))
get_copy (suc n) (suc k) x y there = get_copy n k x y (get_behind x (replicate n x) k y there)

-- the first contexts have no operations
pub empty_at : (c : ℕ) (z : Context) → slice_get (new_context ∷ replicate 7 closed_context) c ≡ Some z → z.operations ≡ []
empty_at zero z there = ap (λ (w : Context). w.operations) (same_some z new_context (sym there ∙ get_zero new_context (replicate 7 closed_context)))
empty_at (suc c) z there =
    ap (λ (w : Context). w.operations) (get_copy 7 c closed_context z (get_behind new_context (replicate 7 closed_context) c z there))

nothing_at : (xs : List Operation) (k : ℕ) (o : Operation) → xs ≡ [] → slice_get xs k ≡ Some o → ⊥
nothing_at xs k o none there = let low : k < 0 = slice_get_within [] k o (ap (λ os. slice_get os k) (sym none) ∙ there) in omega arith

new_tidy : (who : Who) (is_local : Bool) → IsTidyProgram (new_program who is_local)
new_tidy who is_local =
    record {
      each = λ c z there. (opened_tidy 0 0 z z (empty_at c z there)).tidy;
      apart = λ c k d j o r o_at r_at same. absurd (nothing_at o_at.context.operations k o (empty_at c o_at.context o_at.there) o_at.at);
    }

-- a program of the opened state is a new one
pub opened_program : (rows : Rows) (script : Script) (pe : ℕ) (p : ProgramState) → program_of (opening rows script) pe ≡ Some p →
    (who : Who) × (is_local : Bool) × (new_program who is_local ≡ p)
opened_program rows script pe p there =
    let entries = enumerate_from 0 (map (λ program. program.who) script.programs) in
    let new : ℕ × Who → ProgramState = λ entry. new_program entry.1 (nat_lt entry.0 (length script.programs)) in
    let m = mapped new (slice_get entries pe) p (sym (slice_get-map new entries pe) ∙ there) in
    (m.0.1, nat_lt m.0.0 (length script.programs), m.2)

pub opening_tidy : (rows : Rows) (script : Script) → IsTidy (opening rows script)
opening_tidy rows script =
    record { each = λ pe p there. let o = opened_program rows script pe p there in subst IsTidyProgram o.2 (new_tidy o.0 o.1) }

-- steps

issue_by : (given : Reply) (p q : ProgramState) → IssueTurns given p q → IsTidyProgram p → IsTidyProgram q
issue_by reply.Issued p q turns t = issue_tidy p q turns t
issue_by reply.Done p q turns t = kept_tidy p q turns t
issue_by (reply.Bytes b) p q turns t = kept_tidy p q turns t
issue_by (reply.Region r) p q turns t = kept_tidy p q turns t
issue_by (reply.Item d) p q turns t = kept_tidy p q turns t
issue_by (reply.RegionStat i) p q turns t = kept_tidy p q turns t
issue_by (reply.ItemStat i) p q turns t = kept_tidy p q turns t
issue_by (reply.Value v) p q turns t = kept_tidy p q turns t
issue_by (reply.Report r) p q turns t = kept_tidy p q turns t
issue_by reply.Passed p q turns t = kept_tidy p q turns t
issue_by reply.Left p q turns t = kept_tidy p q turns t
issue_by reply.Crashed p q turns t = kept_tidy p q turns t
issue_by (reply.Error e) p q turns t = kept_tidy p q turns t

event_tidy : (happens : What) (u : ℕ) (p q : ProgramState) → EventTurns happens u p q → IsTidyProgram p → IsTidyProgram q
event_tidy (what.Piece j given) u p q turns t = answer_tidy u j p q turns t
event_tidy (what.Lose j) u p q turns t = answer_tidy u j p q turns t
event_tidy (what.Issue asked given) u p q turns t = issue_by given p q turns t
event_tidy (what.Meta asked given) u p q turns t = before_tidy p q turns t
event_tidy (what.Answer given) u p q turns t = before_tidy p q turns t
event_tidy (what.OpenContext k) u p q turns t = before_tidy p q turns t
event_tidy (what.CloseContext k given) u p q turns t = before_tidy p q turns t
event_tidy (what.Fence k) u p q turns t = before_tidy p q turns t
event_tidy (what.Quiet k given) u p q turns t = before_tidy p q turns t
event_tidy (what.Wait k named given) u p q turns t = before_tidy p q turns t
event_tidy what.Arrive u p q turns t = before_tidy p q turns t
event_tidy what.Leave u p q turns t = before_tidy p q turns t
event_tidy what.Crash u p q turns t = before_tidy p q turns t
event_tidy (what.Refused asked error doubt) u p q turns t = before_tidy p q turns t

-- the event's program after it, or another one as it was
pub program_after : (state next : State) (event : Event) (s : StepTurns state event next) (pe : ℕ) (p : ProgramState) → program_of next pe ≡ Some p →
    ((pe ≡ event.pe.0) × (p ≡ s.after.now)) ⊎ (program_of state pe ≡ Some p)
program_after state next event s pe p there =
    set_at (pe == event.pe.0) state.programs event.pe.0 pe s.was s.after.now p refl s.there (ap (λ ps. slice_get ps pe) (sym s.after.programs) ∙ there)

pub step_tidy : (limits : Limits) (state next : State) (event : Event) → step limits state event ≡ Some next → IsTidy state → IsTidy next
step_tidy limits state next event h tidy =
    let s = step_turns limits state next event h in
    record { each = λ pe p there. by_program s pe p (program_after state next event s pe p there) }
  where
    by_program : (s : StepTurns state event next) (pe : ℕ) (p : ProgramState) → ((pe ≡ event.pe.0) × (p ≡ s.after.now)) ⊎ (program_of state pe ≡ Some p) → IsTidyProgram p
    by_program s pe p (inl (place, is)) =
        subst IsTidyProgram (sym is) (event_tidy event.what event.call s.was s.after.now s.after.turns (tidy.each event.pe.0 s.was s.there))
    by_program s pe p (inr old) = tidy.each pe p old
