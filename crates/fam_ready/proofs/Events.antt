-- What an event does to the contexts of its program.
use Rattle.std.proofs.Common.{◌≡◌, ℕ, ◌≤◌, Bool, true, false, List, refl, sym, ap, ◌∙◌, inl, inr}
use Rattle.std.specs.Prelude.{Option, Some, None, slice_set, if◌then◌else◌}
use Rattle.fam_model.specs.declared.change.Change.{Change}
use Rattle.fam_model.specs.declared.event.Event.{Event}
use Rattle.fam_model.specs.declared.event.What.{What}
use Rattle.fam_model.specs.declared.event.What.TheVariants as what
use Rattle.fam_model.specs.declared.state.ProgramState.{ProgramState}
use Rattle.fam_model.specs.declared.state.State.{State}
use Rattle.fam_model.specs.ContextStep.{answer_step, open_step, fence_step, quiet_step, close_step, wait_step}
use Rattle.fam_model.specs.EndStep.{arrive_step, leave_step, crash_step}
use Rattle.fam_model.specs.Issue.{issue_refusal}
use Rattle.fam_model.specs.IssueStep.{issue_step}
use Rattle.fam_model.specs.Limits.{Limits}
use Rattle.fam_model.specs.Lists.{◌>>=◌}
use Rattle.fam_model.specs.MetaStep.{meta_step, served_change, changed}
use Rattle.fam_model.specs.PieceStep.{piece_step, lose_step, memory_by_piece}
use Rattle.fam_model.specs.Programs.{program_of, with_program, with_member}
use Rattle.fam_model.specs.RefusedStep.{refused_step}
use Rattle.fam_model.specs.Step.{step, effect}
use Rattle.fam_model.specs.Turn.{is_in_turn}
use Rattle.fam_schedule.proofs.Options.{bind_some, map_some, if_some}
use Rattle.fam_schedule.proofs.Steps.{changed_programs}
use Rattle.fam_ready.proofs.Turns.{IsAnswered, IssueTurns, IsAsBefore, Stays, Turns, meta_turns, issue_turns, piece_turns, lose_turns}
use Rattle.fam_ready.proofs.Quiet.{answer_turns, open_turns, fence_turns, quiet_turns, close_turns, wait_turns, arrive_turns, leave_turns, crash_turns, refused_turns}

-- by kind of event
abbrev pub EventTurns : What → ℕ → ProgramState → ProgramState → Type 0
EventTurns (what.Piece j given) u p q = Turns (IsAnswered u j) p q
EventTurns (what.Lose j) u p q = Turns (IsAnswered u j) p q
EventTurns (what.Issue asked given) u p q = IssueTurns given p q
EventTurns _ u p q = IsAsBefore p q

-- the state has this program changed
pub record EffectTurns (state : State) (pe : ℕ) (p : ProgramState) (u : ℕ) (happens : What) (next : State) : Type 0 where
  pub now : ProgramState
  pub programs : next.programs ≡ slice_set state.programs pe now
  pub service : next.service ≡ state.service
  pub turns : EventTurns happens u p now

turns_at : (state base next : State) (pe : ℕ) (p q : ProgramState) (u : ℕ) (happens : What) → (base.programs ≡ state.programs) × (base.service ≡ state.service) →
    with_program base pe q ≡ next → EventTurns happens u p q → EffectTurns state pe p u happens next
turns_at state base next pe p q u happens same e t =
    record {
      now = q;
      programs = ap (λ (s : State). s.programs) (sym e) ∙ ap (λ ps. slice_set ps pe q) same.0;
      service = ap (λ (s : State). s.service) (sym e) ∙ same.1;
      turns = t;
    }

turns_member : (state next : State) (pe : ℕ) (p q : ProgramState) (u : ℕ) (happens : What) → with_member state pe q ≡ next → EventTurns happens u p q →
    EffectTurns state pe p u happens next
turns_member state next pe p q u happens e t =
    record { now = q; programs = ap (λ (s : State). s.programs) (sym e); service = ap (λ (s : State). s.service) (sym e); turns = t }

effect_turns : (limits : Limits) (state next : State) (pe : ℕ) (p : ProgramState) (u : ℕ) (happens : What) → effect limits state pe p u happens ≡ Some next →
    EffectTurns state pe p u happens next
effect_turns limits state next pe p u (what.Meta asked given) h =
    let base = changed state (served_change state.rows p asked given) in
    let m = map_some (with_program base pe) (meta_step state.rows p asked given) next h in
    turns_at state base next pe p m.0 u (what.Meta asked given) (changed_programs state (served_change state.rows p asked given)) m.2
    (inl (meta_turns state.rows p m.0 asked given m.1))
effect_turns limits state next pe p u (what.Issue asked given) h =
    let m = map_some (with_program state pe) (issue_step state.service p asked given) next h in
    turns_at state state next pe p m.0 u (what.Issue asked given) (refl, refl) m.2 (issue_turns (issue_refusal state.service p asked) state.service p m.0 asked given m.1)
effect_turns limits state next pe p u (what.Piece j given) h =
    let base = record state { memory = memory_by_piece state.memory p u j given } in
    let m = map_some (with_program base pe) (piece_step limits state.rows state.memory p u j given) next h in
    turns_at state base next pe p m.0 u (what.Piece j given) (refl, refl) m.2 (piece_turns limits state.rows state.memory p m.0 u j given m.1)
effect_turns limits state next pe p u (what.Answer given) h =
    let m = map_some (with_program state pe) (answer_step p.started state.round p given) next h in
    turns_at state state next pe p m.0 u (what.Answer given) (refl, refl) m.2 (answer_turns p.started state.round p m.0 given m.1)
effect_turns limits state next pe p u (what.OpenContext k) h =
    let m = map_some (with_program state pe) (open_step p k) next h in
    turns_at state state next pe p m.0 u (what.OpenContext k) (refl, refl) m.2 (open_turns p m.0 k m.1)
effect_turns limits state next pe p u (what.CloseContext k given) h =
    let m = map_some (with_program state pe) (close_step p k given) next h in
    turns_at state state next pe p m.0 u (what.CloseContext k given) (refl, refl) m.2 (close_turns p m.0 k given m.1)
effect_turns limits state next pe p u (what.Fence k) h =
    let m = map_some (with_program state pe) (fence_step p k) next h in
    turns_at state state next pe p m.0 u (what.Fence k) (refl, refl) m.2 (fence_turns p m.0 k m.1)
effect_turns limits state next pe p u (what.Quiet k given) h =
    let m = map_some (with_program state pe) (quiet_step p k given) next h in
    turns_at state state next pe p m.0 u (what.Quiet k given) (refl, refl) m.2 (quiet_turns p m.0 k given m.1)
effect_turns limits state next pe p u (what.Wait k named given) h =
    let m = map_some (with_program state pe) (wait_step p k named given) next h in
    turns_at state state next pe p m.0 u (what.Wait k named given) (refl, refl) m.2 (wait_turns p m.0 k named given m.1)
effect_turns limits state next pe p u what.Arrive h =
    let m = map_some (with_member state pe) (arrive_step state.round p) next h in
    turns_member state next pe p m.0 u what.Arrive m.2 (arrive_turns state.round p m.0 m.1)
effect_turns limits state next pe p u what.Leave h =
    let m = map_some (with_member state pe) (leave_step p) next h in turns_member state next pe p m.0 u what.Leave m.2 (leave_turns p m.0 m.1)
effect_turns limits state next pe p u what.Crash h =
    let m = map_some (with_member state pe) (crash_step p) next h in turns_member state next pe p m.0 u what.Crash m.2 (crash_turns p m.0 m.1)
effect_turns limits state next pe p u (what.Lose j) h =
    let m = map_some (with_program state pe) (lose_step p u j) next h in
    turns_at state state next pe p m.0 u (what.Lose j) (refl, refl) m.2 (lose_turns p m.0 u j m.1)
effect_turns limits state next pe p u (what.Refused asked error doubt) h =
    let m = map_some (with_program state pe) (refused_step limits state.rows state.round p asked error doubt) next h in
    turns_at state state next pe p m.0 u (what.Refused asked error doubt) (refl, refl) m.2 (refused_turns limits state.rows state.round p m.0 asked error doubt m.1)

-- a step has changed its program so
pub record StepTurns (state : State) (event : Event) (next : State) : Type 0 where
  pub was : ProgramState
  pub there : program_of state event.pe.0 ≡ Some was
  pub turn : is_in_turn was event.call event.what ≡ true
  pub after : EffectTurns state event.pe.0 was event.call event.what next

pub step_turns : (limits : Limits) (state next : State) (event : Event) → step limits state event ≡ Some next → StepTurns state event next
step_turns limits state next event h =
    let b = bind_some (program_of state event.pe.0)
    (λ p. if is_in_turn p event.call event.what then effect limits state event.pe.0 p event.call event.what else None) next h in
    let c = if_some (is_in_turn b.0 event.call event.what) (effect limits state event.pe.0 b.0 event.call event.what) next b.2 in
    record { was = b.0; there = b.1; turn = c.0; after = effect_turns limits state next event.pe.0 b.0 event.call event.what c.1 }
