-- Each step keeps what holds of every state.
use Rattle.std.proofs.Common.{◌≡◌, ℕ, ◌<◌, ◌≤◌, Option, Some, None, Bool, true, false, sym, ap, subst, ◌∙◌, refl, arith}
use Rattle.std.specs.Prelude.{◌&&◌, if◌then◌else◌, All, slice_set, IsTrue}
use Rattle.std.specs.Option.{option_map}
use Rattle.std.proofs.lemmas.Bool.{false≢true}
use Rattle.std.proofs.lemmas.List.Elements.{All-set, All-weaker}
use Rattle.std.proofs.lemmas.Option.{none-some, same_Some}
use Rattle.fam_base.specs.declared.naming.Who.{Who}
use Rattle.fam_model.specs.declared.call.Call.{Call}
use Rattle.fam_model.specs.declared.call.MetaCall.{MetaCall}
use Rattle.fam_model.specs.declared.call.MetaCall.TheVariants as meta
use Rattle.fam_model.specs.declared.change.Change.{Change}
use Rattle.fam_model.specs.declared.event.Event.{Event}
use Rattle.fam_model.specs.declared.event.What.{What}
use Rattle.fam_model.specs.declared.event.What.TheVariants as what
use Rattle.fam_model.specs.declared.reply.PieceAnswer.{PieceAnswer}
use Rattle.fam_model.specs.declared.reply.Reply.{Reply}
use Rattle.fam_model.specs.declared.request.Request.{Request}
use Rattle.fam_model.specs.declared.rows.Rows.{Rows}
use Rattle.fam_model.specs.declared.state.ProgramState.{ProgramState}
use Rattle.fam_model.specs.declared.state.State.{State}
use Rattle.fam_model.specs.ContextStep.{answer_step, open_step, fence_step, quiet_step, close_step, wait_step}
use Rattle.fam_model.specs.Directory.{after}
use Rattle.fam_model.specs.EndStep.{arrive_step, leave_step, crash_step}
use Rattle.fam_model.specs.IssueStep.{issue_step}
use Rattle.fam_model.specs.Lawful.{is_lawful_change}
use Rattle.fam_model.specs.Limits.{Limits, number_end, nobody}
use Rattle.fam_model.specs.Lists.{is_some_and}
use Rattle.fam_model.specs.MetaStep.{meta_step, served_change, changed}
use Rattle.fam_model.specs.PieceStep.{piece_step, memory_by_piece, lose_step}
use Rattle.fam_model.specs.Programs.{program_of, with_program, with_member, request_of, region_slot, item_slot, is_running, round_after}
use Rattle.fam_model.specs.RefusedStep.{refused_step}
use Rattle.fam_model.specs.Rows.{IsLawful}
use Rattle.fam_model.specs.Shape.{is_shaped}
use Rattle.fam_model.specs.Step.{effect, step}
use Rattle.fam_model.specs.Turn.{is_in_turn, is_next, is_idle, call_made}
use Rattle.fam_rows.specs.Laws.{asked_mode}
use Rattle.fam_rows.proofs.Keeping.{keeps_law}
use Rattle.fam_rows.proofs.Served.{told_lawful}
use Rattle.fam_machine.specs.Sound.{IsOnTime, IsSoundProgram, IsSound, IsMemoryOf, call_mode, HasModes}
use Rattle.fam_machine.specs.Views.{rows_with}
use Rattle.fam_machine.proofs.Bytes.{memory_by_piece_extents}
use Rattle.fam_machine.proofs.Changes.{KeepsItems, keeps_items, memory_follows, mapped_some}
use Rattle.fam_machine.proofs.Issued.{issue_next}
use Rattle.fam_machine.proofs.Lists.{bind_some, when_some, both_true, All-at}
use Rattle.fam_machine.proofs.Programs.{IsNext, counted_next, open_next, fence_next, quiet_next, close_next, wait_next, answer_next, piece_next, lose_next}
use Rattle.fam_machine.proofs.Rounds.{next_bound, program_next, AreOnTime, on_time_after, arrive_on_time, leave_on_time, crash_on_time, Keeps, arrive_keeps, leave_keeps, crash_keeps}
use Rattle.fam_machine.proofs.Told.{meta_next, step_change, holds_kept}

-- the mode of a call is that of its request
pub mode_made : (p : ProgramState) (asked : MetaCall) (made : Request) → request_of p asked ≡ Some made → asked_mode made ≡ call_mode asked
mode_made p (meta.CreateRegion slot name size mode) made e = sym (ap asked_mode (same_Some _ made e))
mode_made p (meta.DestroyRegion slot) made e = let there = bind_some (region_slot p slot) _ made e in sym (ap asked_mode (same_Some _ made there.2))
mode_made p (meta.ResizeRegion slot size) made e = let there = bind_some (region_slot p slot) _ made e in sym (ap asked_mode (same_Some _ made there.2))
mode_made p (meta.SetRegionMode slot mode) made e = let there = bind_some (region_slot p slot) _ made e in sym (ap asked_mode (same_Some _ made there.2))
mode_made p (meta.LookupRegion slot name) made e = sym (ap asked_mode (same_Some _ made e))
mode_made p (meta.StatRegion slot) made e = let there = bind_some (region_slot p slot) _ made e in sym (ap asked_mode (same_Some _ made there.2))
mode_made p (meta.Allocate slot name size mode from) made e = let there = bind_some (region_slot p from) _ made e in sym (ap asked_mode (same_Some _ made there.2))
mode_made p (meta.Deallocate slot) made e = let there = bind_some (item_slot p slot) _ made e in sym (ap asked_mode (same_Some _ made there.2))
mode_made p (meta.SetItemMode slot mode) made e = let there = bind_some (item_slot p slot) _ made e in sym (ap asked_mode (same_Some _ made there.2))
mode_made p (meta.Lookup slot name region) made e = sym (ap asked_mode (same_Some _ made e))
mode_made p (meta.Stat slot) made e = let there = bind_some (item_slot p slot) _ made e in sym (ap asked_mode (same_Some _ made there.2))

-- states with one program changed

pub with_program_sound : (state : State) (pe : ℕ) (q : ProgramState) → IsSound state → IsSoundProgram state.rows state.round q → IsSound (with_program state pe q)
with_program_sound state pe q sound program =
    record {
      lawful_service = sound.lawful_service;
      lawful = sound.lawful;
      filled = sound.filled;
      sound = All-set (IsSoundProgram state.rows state.round) state.programs pe q program sound.sound;
    }

with_member_sound : (state : State) (pe : ℕ) (q : ProgramState) → IsSound state → IsSoundProgram state.rows state.round q → IsSound (with_member state pe q)
with_member_sound state pe q sound program =
    let programs = slice_set state.programs pe q in
    let all : All (IsSoundProgram state.rows state.round) programs = All-set (IsSoundProgram state.rows state.round) state.programs pe q program sound.sound in
    let on_time : AreOnTime (round_after state.round programs) programs =
    on_time_after state.round programs (All-weaker (IsSoundProgram state.rows state.round) (IsOnTime state.round) (λ p s. s.on_time) programs all)
    in
    record {
      lawful_service = sound.lawful_service;
      lawful = sound.lawful;
      filled = sound.filled;
      sound = λ k d lt. let s = all k d lt in record { user = s.user; holds = s.holds; on_time = on_time k d lt };
    }

-- steps

if_some : {A : Type 0} (test : Bool) (o : Option A) (y : A) → (if test then o else None) ≡ Some y → (test ≡ true) × (o ≡ Some y)
if_some true o y e = (refl, e)
if_some false o y e = absurd (none-some y e)

-- what a call in its turn has
pub record IsTurn (p : ProgramState) (asked : Option Call) : Type 0 where
  pub bound : p.next_call < number_end
  pub shaped : is_some_and asked is_shaped ≡ true

pub in_turn : (p : ProgramState) (call : ℕ) (asked : Option Call) → (is_running p.standing && is_next p call && is_idle p.started && is_some_and asked is_shaped) ≡ true → IsTurn p asked
in_turn p call asked e =
    let tests = four (is_running p.standing) (is_next p call) (is_idle p.started) (is_some_and asked is_shaped) e in
    record { bound = next_bound p call tests.0; shaped = tests.1 }
  where
    four : (a b c d : Bool) → (a && b && c && d) ≡ true → (b ≡ true) × (d ≡ true)
    four true true true true e = (refl, refl)
    four true true true false e = absurd (false≢true e)
    four true true false d e = absurd (false≢true e)
    four true false c d e = absurd (false≢true e)
    four false b c d e = absurd (false≢true e)

-- a program after a call
called : (rows : Rows) (round : ℕ) (p q : ProgramState) → IsSoundProgram rows round p → p.next_call < number_end → IsNext rows 1 p q → IsSoundProgram rows round q
called rows round p q sound less is_next = program_next rows rows round 1 p q sound is_next (let next = is_next.next in omega arith)

-- a program after an event that is no call
stayed : (rows : Rows) (round : ℕ) (p q : ProgramState) → IsSoundProgram rows round p → IsNext rows 0 p q → IsSoundProgram rows round q
stayed rows round p q sound is_next =
    program_next rows rows round 0 p q sound is_next (let next = is_next.next in let bound = sound.on_time.bound in omega arith)

-- a program that arrived, left or crashed
moved_on : (rows : Rows) (round : ℕ) (p q : ProgramState) → IsSoundProgram rows round p → Keeps rows p q → IsOnTime round q → IsSoundProgram rows round q
moved_on rows round p q sound keeps on_time =
    record { user = subst (λ (w : Who). w.uid < nobody) (sym keeps.who) sound.user; holds = keeps.holds; on_time = on_time }

-- the step of a call
call_sound : (state next : State) (pe : ℕ) (p : ProgramState) (o : Option ProgramState) → IsSound state → IsSoundProgram state.rows state.round p → p.next_call < number_end → ((q : ProgramState) → o ≡ Some q → IsNext state.rows 1 p q) → option_map (with_program state pe) o ≡ Some next → IsSound next
call_sound state next pe p o sound program less step e =
    let q = mapped_some (with_program state pe) o next e in
    subst IsSound q.2 (with_program_sound state pe q.0 sound (called state.rows state.round p q.0 program less (step q.0 q.1)))

-- the step of an event that is no call
event_sound : (state next : State) (pe : ℕ) (p : ProgramState) (o : Option ProgramState) → IsSound state → IsSoundProgram state.rows state.round p → ((q : ProgramState) → o ≡ Some q → IsNext state.rows 0 p q) → option_map (with_program state pe) o ≡ Some next → IsSound next
event_sound state next pe p o sound program step e =
    let q = mapped_some (with_program state pe) o next e in
    subst IsSound q.2 (with_program_sound state pe q.0 sound (stayed state.rows state.round p q.0 program (step q.0 q.1)))

-- the step of a call of which the barrier hears
member_sound : (state next : State) (pe : ℕ) (p : ProgramState) (o : Option ProgramState) → IsSound state → IsSoundProgram state.rows state.round p → ((q : ProgramState) → o ≡ Some q → IsSoundProgram state.rows state.round q) → option_map (with_member state pe) o ≡ Some next → IsSound next
member_sound state next pe p o sound program step e =
    let q = mapped_some (with_member state pe) o next e in subst IsSound q.2 (with_member_sound state pe q.0 sound (step q.0 q.1))

-- the directory

-- a state in which a change is served
record IsServed (state : State) (chosen : Option Change) : Type 0 where
  lawful : IsLawful (rows_with state.rows chosen)
  keeps : KeepsItems state.rows (rows_with state.rows chosen)
  filled : IsMemoryOf (rows_with state.rows chosen).items (changed state chosen).memory

served : (state : State) (chosen : Option Change) → IsSound state → ((change : Change) → chosen ≡ Some change → IsTrue (is_lawful_change state.rows change)) → IsServed state chosen
served state None sound lawful =
    record { lawful = sound.lawful; keeps = record { next = omega arith; items = λ n row lt e. (row, e, refl) }; filled = sound.filled }
served state (Some change) sound lawful =
    record {
      lawful = keeps_law state.rows change sound.lawful (lawful change refl);
      keeps = keeps_items state.rows change sound.lawful (lawful change refl);
      filled = memory_follows state.rows change state.memory sound.lawful sound.filled;
    }

changed_sound : (state : State) (pe : ℕ) (p q : ProgramState) (chosen : Option Change) → IsSound state → IsSoundProgram state.rows state.round p → p.next_call < number_end → IsServed state chosen → IsNext (rows_with state.rows chosen) 1 p q → IsSound (with_program (changed state chosen) pe q)
changed_sound state pe p q None sound program less is_served is_next =
    with_program_sound state pe q sound (called state.rows state.round p q program less is_next)
changed_sound state pe p q (Some change) sound program less is_served is_next =
    let now = after state.rows change in
    let others : All (IsSoundProgram now state.round) state.programs =
    All-weaker (IsSoundProgram state.rows state.round) (IsSoundProgram now state.round)
    (λ p s. record { user = s.user; holds = holds_kept state.rows now p is_served.keeps s.holds; on_time = s.on_time }) state.programs sound.sound
    in
    let bound : q.next_call ≤ number_end = let next = is_next.next in omega arith in
    let this : IsSoundProgram now state.round q = program_next state.rows now state.round 1 p q program is_next bound in
    record {
      lawful_service = sound.lawful_service;
      lawful = is_served.lawful;
      filled = is_served.filled;
      sound = All-set (IsSoundProgram now state.round) state.programs pe q this others;
    }

-- the change of a step of a call on the directory is lawful
change_lawful : (state : State) (p q : ProgramState) (asked : MetaCall) (given : Reply) → IsSound state → IsSoundProgram state.rows state.round p → call_mode asked ≤ 511 → meta_step state.rows p asked given ≡ Some q → (change : Change) → served_change state.rows p asked given ≡ Some change → IsTrue (is_lawful_change state.rows change)
change_lawful state p q asked given sound program small e change f =
    let made = step_change state.rows p q asked given e in
    let mode = mode_made p asked made.0 made.1 in
    told_lawful state.rows p.who made.0 given change sound.lawful program.user (omega arith) (sym made.2 ∙ f)

meta_sound : (state next : State) (pe : ℕ) (p : ProgramState) (asked : MetaCall) (given : Reply) → IsSound state → IsSoundProgram state.rows state.round p → p.next_call < number_end → call_mode asked ≤ 511 → option_map (with_program (changed state (served_change state.rows p asked given)) pe) (meta_step state.rows p asked given) ≡ Some next → IsSound next
meta_sound state next pe p asked given sound program less small e =
    let chosen = served_change state.rows p asked given in
    let q = mapped_some (with_program (changed state chosen) pe) (meta_step state.rows p asked given) next e in
    let is_served = served state chosen sound (change_lawful state p q.0 asked given sound program small q.1) in
    subst IsSound q.2
    (changed_sound state pe p q.0 chosen sound program less is_served (meta_next state.rows p q.0 asked given sound.lawful is_served.keeps program.holds q.1))

piece_sound : (limits : Limits) (state next : State) (pe : ℕ) (p : ProgramState) (call piece : ℕ) (given : PieceAnswer) → IsSound state → IsSoundProgram state.rows state.round p → option_map (with_program (record state { memory = memory_by_piece state.memory p call piece given }) pe) (piece_step limits state.rows state.memory p call piece given) ≡ Some next → IsSound next
piece_sound limits state next pe p call piece given sound program e =
    let after : State = record state { memory = memory_by_piece state.memory p call piece given } in
    let here : IsSound after = record {
      lawful_service = sound.lawful_service;
      lawful = sound.lawful;
      filled = memory_by_piece_extents state.rows state.memory p call piece given sound.filled program.holds;
      sound = sound.sound;
    } in
    event_sound after next pe p (piece_step limits state.rows state.memory p call piece given) here program
    (λ q f. piece_next limits state.rows state.memory p q call piece given program.holds f) e

-- all events

pub effect_sound : (limits : Limits) (state next : State) (pe : ℕ) (p : ProgramState) (call : ℕ) (made : What) → HasModes made → IsSound state → IsSoundProgram state.rows state.round p → is_in_turn p call made ≡ true → effect limits state pe p call made ≡ Some next → IsSound next
effect_sound limits state next pe p call (what.Meta asked given) modes sound program t e =
    meta_sound state next pe p asked given sound program (in_turn p call (call_made (what.Meta asked given)) t).bound modes e
effect_sound limits state next pe p call (what.Issue asked given) modes sound program t e =
    let turn = in_turn p call (Some asked) t in
    call_sound state next pe p (issue_step state.service p asked given) sound program turn.bound
    (λ q f. issue_next state.rows state.service p q asked given program.holds turn.shaped f) e
effect_sound limits state next pe p call (what.Piece piece given) modes sound program t e =
    piece_sound limits state next pe p call piece given sound program e
effect_sound limits state next pe p call (what.Answer given) modes sound program t e =
    event_sound state next pe p (answer_step p.started state.round p given) sound program
    (λ q f. answer_next state.rows p.started state.round p q given program.holds f) e
effect_sound limits state next pe p call (what.OpenContext context) modes sound program t e =
    call_sound state next pe p (open_step p context) sound program (in_turn p call (call_made (what.OpenContext context)) t).bound (λ q f. open_next state.rows p q context program.holds f) e
effect_sound limits state next pe p call (what.CloseContext context given) modes sound program t e =
    call_sound state next pe p (close_step p context given) sound program (in_turn p call (call_made (what.CloseContext context given)) t).bound (λ q f. close_next state.rows p q context given program.holds f) e
effect_sound limits state next pe p call (what.Fence context) modes sound program t e =
    call_sound state next pe p (fence_step p context) sound program (in_turn p call (call_made (what.Fence context)) t).bound (λ q f. fence_next state.rows p q context program.holds f) e
effect_sound limits state next pe p call (what.Quiet context given) modes sound program t e =
    call_sound state next pe p (quiet_step p context given) sound program (in_turn p call (call_made (what.Quiet context given)) t).bound (λ q f. quiet_next state.rows p q context given program.holds f) e
effect_sound limits state next pe p call (what.Wait context named given) modes sound program t e =
    call_sound state next pe p (wait_step p context named given) sound program (in_turn p call (call_made (what.Wait context named given)) t).bound (λ q f. wait_next state.rows p q context named given program.holds f) e
effect_sound limits state next pe p call what.Arrive modes sound program t e =
    let turn = in_turn p call (call_made what.Arrive) t in
    member_sound state next pe p (arrive_step state.round p) sound program
    (λ q f. moved_on state.rows state.round p q program (arrive_keeps state.rows state.round p q program.holds f) (arrive_on_time state.round p q program.on_time turn.bound f)) e
effect_sound limits state next pe p call what.Leave modes sound program t e =
    let turn = in_turn p call (call_made what.Leave) t in
    member_sound state next pe p (leave_step p) sound program
    (λ q f. moved_on state.rows state.round p q program (leave_keeps state.rows p q program.holds f) (leave_on_time state.round p q program.on_time turn.bound f)) e
effect_sound limits state next pe p call what.Crash modes sound program t e =
    let less = next_bound p call (both_true (is_running p.standing) (is_next p call) t).1 in
    member_sound state next pe p (crash_step p) sound program
    (λ q f. moved_on state.rows state.round p q program (crash_keeps state.rows p q program.holds f) (crash_on_time state.round p q program.on_time less f)) e
effect_sound limits state next pe p call (what.Lose piece) modes sound program t e =
    event_sound state next pe p (lose_step p call piece) sound program (λ q f. lose_next state.rows p q call piece program.holds f) e
effect_sound limits state next pe p call (what.Refused asked error doubt) modes sound program t e =
    call_sound state next pe p (refused_step limits state.rows state.round p asked error doubt) sound program (in_turn p call (call_made (what.Refused asked error doubt)) t).bound
    (λ q f. subst (IsNext state.rows 1 p) (when_some _ _ q f).1 (counted_next state.rows p program.holds)) e

-- a step leads from a sound state to a sound one
pub sound_step : (limits : Limits) (state next : State) (event : Event) → HasModes event.what → IsSound state → step limits state event ≡ Some next → IsSound next
sound_step limits state next event modes sound e =
    let p = bind_some (program_of state event.pe.0) _ next e in
    let turn = if_some (is_in_turn p.0 event.call event.what) (effect limits state event.pe.0 p.0 event.call event.what) next p.2 in
    let program = All-at (IsSoundProgram state.rows state.round) state.programs event.pe.0 p.0 sound.sound p.1 in
    effect_sound limits state next event.pe.0 p.0 event.call event.what modes sound program turn.0 turn.1
