-- What an event does to the call number of its program, and to the call that it has started.
use Rattle.std.proofs.Common.{◌≡◌, ℕ, ◌+◌, Bool, true, false, refl, sym, ap, ◌∙◌}
use Rattle.std.specs.Prelude.{◌&&◌, ◌==◌, not, Option, Some, None, is_some, slice_set, slice_get, if◌then◌else◌}
use Rattle.fam_base.specs.declared.error.FamError.{FamError}
use Rattle.fam_model.specs.declared.call.Call.{Call}
use Rattle.fam_model.specs.declared.call.Call.TheVariants as call
use Rattle.fam_model.specs.declared.call.MetaCall.{MetaCall}
use Rattle.fam_model.specs.declared.call.MetaCall.TheVariants as meta
use Rattle.fam_model.specs.declared.change.Change.{Change}
use Rattle.fam_model.specs.declared.event.Event.{Event}
use Rattle.fam_model.specs.declared.event.What.{What}
use Rattle.fam_model.specs.declared.event.What.TheVariants as what
use Rattle.fam_model.specs.declared.piece.MarkedPiece.{MarkedPiece}
use Rattle.fam_model.specs.declared.piece.Operation.{Operation}
use Rattle.fam_model.specs.declared.rows.Rows.{Rows}
use Rattle.fam_model.specs.declared.state.Context.{Context}
use Rattle.fam_model.specs.Directory.{Memory}
use Rattle.fam_model.specs.declared.reply.PieceAnswer.{PieceAnswer}
use Rattle.fam_model.specs.declared.reply.Reply.{Reply}
use Rattle.fam_model.specs.declared.reply.Reply.TheVariants as reply
use Rattle.fam_model.specs.declared.service.Service.{Service}
use Rattle.fam_model.specs.declared.state.ProgramState.{ProgramState}
use Rattle.fam_model.specs.declared.state.Standing.TheVariants as standing
use Rattle.fam_model.specs.declared.state.Started.{Started}
use Rattle.fam_model.specs.declared.state.Started.TheVariants as begun
use Rattle.fam_model.specs.declared.state.State.{State}
use Rattle.fam_model.specs.ContextStep.{answer_step, open_step, fence_step, quiet_step, close_step, wait_step, new_context, with_nothing_started}
use Rattle.fam_model.specs.EndStep.{arrive_step, leave_step, crash_step, may_arrive, has_pending}
use Rattle.fam_model.specs.Equals.{equal_replies}
use Rattle.fam_model.specs.Issue.{issue_refusal, targets}
use Rattle.fam_model.specs.IssueStep.{issue_step, issue_with, accepted, with_issued}
use Rattle.fam_model.specs.Limits.{Limits}
use Rattle.fam_model.specs.Lists.{◌>>=◌, when}
use Rattle.fam_model.specs.MetaStep.{meta_step, may_reply, served_change, changed}
use Rattle.fam_model.specs.Operations.{has_left, is_pending, is_left, may_come, result, report, reported, as_reported, result as result_of}
use Rattle.fam_model.specs.Pieces.{pieces}
use Rattle.fam_model.specs.PieceStep.{piece_step, lose_step, memory_by_piece, may_answer, due_answer, with_answer, without_piece, bytes_found}
use Rattle.fam_model.specs.Programs.{program_of, with_program, with_member, is_open, open_context, Placed, with_context, with_operation, placed, with_placed, unreported_copy, counted, filled, fill_region, fill_item, request_of, has_passed, has_crashed, is_running}
use Rattle.fam_model.specs.RefusedStep.{refused_step, would_serve, may_refuse}
use Rattle.fam_model.specs.Same.{same_reply}
use Rattle.fam_model.specs.Shape.{is_shaped}
use Rattle.fam_model.specs.Step.{step, effect}
use Rattle.fam_model.specs.Turn.{is_in_turn, is_idle, is_next, call_made}
use Rattle.fam_schedule.proofs.Options.{bind_some, when_some, map_some, if_some}

-- the call that is started after an event
abbrev pub started_after : ProgramState → What → Started
started_after p (what.Piece piece given) = p.started
started_after p (what.Lose piece) = p.started
started_after p (what.Issue (call.Data c op true) reply.Issued) = begun.Operation p.next_call
started_after p what.Arrive = begun.Barrier p.next_call
started_after p _ = begun.Nothing

-- the next call number after an event
abbrev pub number_after : ProgramState → What → ℕ
number_after p what = if is_some (call_made what) then p.next_call + 1 else p.next_call

-- the program has moved on by an event
pub record Moved (p : ProgramState) (what : What) (next : ProgramState) : Type 0 where
  pub started : next.started ≡ started_after p what
  pub number : next.next_call ≡ number_after p what

-- the event has changed its program, and no other
pub record Moves (state : State) (event : Event) (next : State) : Type 0 where
  pub was : ProgramState
  pub is : ProgramState
  pub there : program_of state event.pe.0 ≡ Some was
  pub turn : is_in_turn was event.call event.what ≡ true
  pub programs : next.programs ≡ slice_set state.programs event.pe.0 is
  pub moved : Moved was event.what is

fill_region_same : (p : ProgramState) (slot : ℕ) (r : Reply) → ((fill_region p slot r).started ≡ p.started) × ((fill_region p slot r).next_call ≡ p.next_call)
fill_region_same p slot reply.Done = (refl, refl)
fill_region_same p slot reply.Issued = (refl, refl)
fill_region_same p slot (reply.Bytes b) = (refl, refl)
fill_region_same p slot (reply.Region r) = (refl, refl)
fill_region_same p slot (reply.Item d) = (refl, refl)
fill_region_same p slot (reply.RegionStat i) = (refl, refl)
fill_region_same p slot (reply.ItemStat i) = (refl, refl)
fill_region_same p slot (reply.Value v) = (refl, refl)
fill_region_same p slot (reply.Report r) = (refl, refl)
fill_region_same p slot reply.Passed = (refl, refl)
fill_region_same p slot reply.Left = (refl, refl)
fill_region_same p slot reply.Crashed = (refl, refl)
fill_region_same p slot (reply.Error e) = (refl, refl)

fill_item_same : (p : ProgramState) (slot : ℕ) (r : Reply) → ((fill_item p slot r).started ≡ p.started) × ((fill_item p slot r).next_call ≡ p.next_call)
fill_item_same p slot reply.Done = (refl, refl)
fill_item_same p slot reply.Issued = (refl, refl)
fill_item_same p slot (reply.Bytes b) = (refl, refl)
fill_item_same p slot (reply.Region r) = (refl, refl)
fill_item_same p slot (reply.Item d) = (refl, refl)
fill_item_same p slot (reply.RegionStat i) = (refl, refl)
fill_item_same p slot (reply.ItemStat i) = (refl, refl)
fill_item_same p slot (reply.Value v) = (refl, refl)
fill_item_same p slot (reply.Report r) = (refl, refl)
fill_item_same p slot reply.Passed = (refl, refl)
fill_item_same p slot reply.Left = (refl, refl)
fill_item_same p slot reply.Crashed = (refl, refl)
fill_item_same p slot (reply.Error e) = (refl, refl)

filled_same : (p : ProgramState) (asked : MetaCall) (r : Reply) → ((filled p asked r).started ≡ p.started) × ((filled p asked r).next_call ≡ p.next_call)
filled_same p (meta.CreateRegion slot name size mode) r = fill_region_same p slot r
filled_same p (meta.DestroyRegion slot) r = (refl, refl)
filled_same p (meta.ResizeRegion slot size) r = (refl, refl)
filled_same p (meta.SetRegionMode slot mode) r = (refl, refl)
filled_same p (meta.LookupRegion slot name) r = fill_region_same p slot r
filled_same p (meta.StatRegion slot) r = (refl, refl)
filled_same p (meta.Allocate slot name size mode region) r = fill_item_same p slot r
filled_same p (meta.Deallocate slot) r = (refl, refl)
filled_same p (meta.SetItemMode slot mode) r = (refl, refl)
filled_same p (meta.Lookup slot name region) r = fill_item_same p slot r
filled_same p (meta.Stat slot) r = (refl, refl)

idle_nothing : (s : Started) → is_idle s ≡ true → s ≡ begun.Nothing
idle_nothing begun.Nothing e = refl
idle_nothing (begun.Operation c) e = cc
idle_nothing (begun.Barrier c) e = cc

third_true : (a b c d : Bool) → (a && b && c && d) ≡ true → c ≡ true
third_true true true true d e = refl
third_true true true false d e = cc
third_true true false c d e = cc
third_true false b c d e = cc

idle_in : (p : ProgramState) (c : ℕ) (asked : Call) → (is_running p.standing && is_next p c && is_idle p.started && is_shaped asked) ≡ true → is_idle p.started ≡ true
idle_in p c asked turn = third_true (is_running p.standing) (is_next p c) (is_idle p.started) (is_shaped asked) turn

changed_programs : (state : State) (c : Option Change) → (changed state c).programs ≡ state.programs
changed_programs state None = refl
changed_programs state (Some c) = refl

-- each kind of event

meta_moved : (rows : Rows) (p next : ProgramState) (asked : MetaCall) (given : Reply) → is_idle p.started ≡ true → meta_step rows p asked given ≡ Some next → Moved p (what.Meta asked given) next
meta_moved rows p next asked given idle h =
    let b = bind_some (request_of p asked) (λ request. when (may_reply rows p.who request given) (filled (counted p) asked given)) next h in
    let w = when_some (may_reply rows p.who b.0 given) (filled (counted p) asked given) next b.2 in
    let same = filled_same (counted p) asked given in
    record {
      started = ap (λ q. q.started) (sym w.1) ∙ same.0 ∙ idle_nothing p.started idle;
      number = ap (λ q. q.next_call) (sym w.1) ∙ same.1;
    }

refused_nothing : (p : ProgramState) (asked : Call) (error : FamError) → started_after p (what.Issue asked (reply.Error error)) ≡ begun.Nothing
refused_nothing p (call.Meta a) error = refl
refused_nothing p (call.Data c op true) error = refl
refused_nothing p (call.Data c op false) error = refl
refused_nothing p (call.OpenContext c) error = refl
refused_nothing p (call.CloseContext c) error = refl
refused_nothing p (call.CopyWait c n) error = refl
refused_nothing p (call.Fence c) error = refl
refused_nothing p (call.Quiet c) error = refl
refused_nothing p call.Barrier error = refl
refused_nothing p call.Leave error = refl
refused_nothing p call.Crash error = refl

issued_started : (p next : ProgramState) (service : Service) (asked : Call) → accepted service p asked ≡ Some next →
    (next.started ≡ started_after p (what.Issue asked reply.Issued)) × (next.next_call ≡ p.next_call + 1)
issued_started p next service (call.Data c op true) h =
    let b = bind_some (open_context p c) (λ context. targets p op >>= λ items. Some (with_issued p c context op true (pieces service op items.0 items.1))) next h in
    let d = bind_some (targets p op) (λ items. Some (with_issued p c b.0 op true (pieces service op items.0 items.1))) next b.2 in
    let same : with_issued p c b.0 op true (pieces service op d.0.0 d.0.1) ≡ next = cc in
    (ap (λ q. q.started) (sym same), ap (λ q. q.next_call) (sym same))
issued_started p next service (call.Data c op false) h =
    let b = bind_some (open_context p c) (λ context. targets p op >>= λ items. Some (with_issued p c context op false (pieces service op items.0 items.1))) next h in
    let d = bind_some (targets p op) (λ items. Some (with_issued p c b.0 op false (pieces service op items.0 items.1))) next b.2 in
    let same : with_issued p c b.0 op false (pieces service op d.0.0 d.0.1) ≡ next = cc in
    (ap (λ q. q.started) (sym same), ap (λ q. q.next_call) (sym same))
issued_started p next service (call.Meta a) h = cc
issued_started p next service (call.OpenContext c) h = cc
issued_started p next service (call.CloseContext c) h = cc
issued_started p next service (call.CopyWait c n) h = cc
issued_started p next service (call.Fence c) h = cc
issued_started p next service (call.Quiet c) h = cc
issued_started p next service call.Barrier h = cc
issued_started p next service call.Leave h = cc
issued_started p next service call.Crash h = cc

issue_by : (refusal : Option FamError) (service : Service) (p next : ProgramState) (asked : Call) (given : Reply) → is_idle p.started ≡ true →
    issue_with refusal service p asked given ≡ Some next → Moved p (what.Issue asked given) next
issue_by (Some error) service p next asked given idle h =
    let w = when_some (same_reply given (reply.Error error)) (counted p) next h in
    let told : given ≡ reply.Error error = equal_replies given (reply.Error error) w.0 in
    record {
      started = ap (λ q. q.started) (sym w.1) ∙ idle_nothing p.started idle ∙ sym (refused_nothing p asked error) ∙ ap (λ r. started_after p (what.Issue asked r)) (sym told);
      number = ap (λ q. q.next_call) (sym w.1);
    }
issue_by None service p next asked given idle h =
    let b = bind_some (accepted service p asked) (λ q. when (same_reply given reply.Issued) q) next h in
    let w = when_some (same_reply given reply.Issued) b.0 next b.2 in
    let told : given ≡ reply.Issued = equal_replies given reply.Issued w.0 in
    let found = issued_started p b.0 service asked b.1 in
    record {
      started = ap (λ q. q.started) (sym w.1) ∙ found.0 ∙ ap (λ r. started_after p (what.Issue asked r)) (sym told);
      number = ap (λ q. q.next_call) (sym w.1) ∙ found.1;
    }

piece_moved : (limits : Limits) (rows : Rows) (memory : Memory) (p next : ProgramState) (c j : ℕ) (given : PieceAnswer) →
    piece_step limits rows memory p c j given ≡ Some next → Moved p (what.Piece j given) next
piece_moved limits rows memory p next c j given h =
    let result : Placed → MarkedPiece → ProgramState = λ at left. with_placed p at (with_answer at.operation j left.piece given (bytes_found memory left.piece)) in
    let test : Placed → MarkedPiece → Bool =
    λ at left. may_come at.context at.operation j && may_answer limits (due_answer rows memory p.who at.operation.kind left.piece) given in
    let b = bind_some (placed p c) (λ at. slice_get at.operation.pieces j >>= λ left. when (test at left) (result at left)) next h in
    let d = bind_some (slice_get b.0.operation.pieces j) (λ left. when (test b.0 left) (result b.0 left)) next b.2 in
    let w = when_some (test b.0 d.0) (result b.0 d.0) next d.2 in
    record { started = ap (λ q. q.started) (sym w.1); number = ap (λ q. q.next_call) (sym w.1) }

lose_moved : (p next : ProgramState) (c j : ℕ) → lose_step p c j ≡ Some next → Moved p (what.Lose j) next
lose_moved p next c j h =
    let result : Placed → MarkedPiece → ProgramState = λ at left. with_placed p at (without_piece at.operation j left.piece) in
    let b = bind_some (placed p c) (λ at. slice_get at.operation.pieces j >>= λ left. when (has_crashed p.standing && is_left left) (result at left)) next h in
    let d = bind_some (slice_get b.0.operation.pieces j) (λ left. when (has_crashed p.standing && is_left left) (result b.0 left)) next b.2 in
    let w = when_some (has_crashed p.standing && is_left d.0) (result b.0 d.0) next d.2 in
    record { started = ap (λ q. q.started) (sym w.1); number = ap (λ q. q.next_call) (sym w.1) }

answer_by : (s : Started) (round : ℕ) (p next : ProgramState) (given : Reply) → answer_step s round p given ≡ Some next → Moved p (what.Answer given) next
answer_by begun.Nothing round p next given h = cc
answer_by (begun.Operation c) round p next given h =
    let b = bind_some (placed p c)
    (λ at. when (not (has_left at.operation) && same_reply given (result at.operation)) (with_nothing_started (with_placed p at (as_reported at.operation)))) next h in
    let w = when_some (not (has_left b.0.operation) && same_reply given (result b.0.operation)) (with_nothing_started (with_placed p b.0 (as_reported b.0.operation))) next b.2 in
    record { started = ap (λ q. q.started) (sym w.1); number = ap (λ q. q.next_call) (sym w.1) }
answer_by (begun.Barrier c) round p next given h =
    let w = when_some (has_passed round p && same_reply given reply.Passed) (with_nothing_started p) next h in
    record { started = ap (λ q. q.started) (sym w.1); number = ap (λ q. q.next_call) (sym w.1) }

-- the program with another context has the same call number, and the same call started
plain_moved : (p next last : ProgramState) (what : What) → started_after p what ≡ begun.Nothing → is_some (call_made what) ≡ true →
    next ≡ last → next.started ≡ p.started → next.next_call ≡ p.next_call + 1 → is_idle p.started ≡ true → Moved p what last
plain_moved p next last what none made same started number idle =
    record {
      started = ap (λ q. q.started) (sym same) ∙ started ∙ idle_nothing p.started idle ∙ sym none;
      number = ap (λ q. q.next_call) (sym same) ∙ number ∙ ap (λ b. if b then p.next_call + 1 else p.next_call) (sym made);
    }

open_moved : (p next : ProgramState) (c : ℕ) → is_idle p.started ≡ true → open_step p c ≡ Some next → Moved p (what.OpenContext c) next
open_moved p next c idle h =
    let w = when_some (not (is_open p c)) (with_context (counted p) c new_context) next h in
    plain_moved p (with_context (counted p) c new_context) next (what.OpenContext c) refl refl w.1 refl refl idle

fence_moved : (p next : ProgramState) (c : ℕ) → is_idle p.started ≡ true → fence_step p c ≡ Some next → Moved p (what.Fence c) next
fence_moved p next c idle h =
    let b = bind_some (open_context p c) (λ context. Some (with_context (counted p) c (record context { epoch = context.epoch + 1 }))) next h in
    let same : with_context (counted p) c (record b.0 { epoch = b.0.epoch + 1 }) ≡ next = cc in
    plain_moved p (with_context (counted p) c (record b.0 { epoch = b.0.epoch + 1 })) next (what.Fence c) refl refl same refl refl idle

quiet_moved : (p next : ProgramState) (c : ℕ) (given : Reply) → is_idle p.started ≡ true → quiet_step p c given ≡ Some next → Moved p (what.Quiet c given) next
quiet_moved p next c given idle h =
    let b = bind_some (open_context p c)
    (λ context. when (not (is_pending context) && same_reply given (report context)) (with_context (counted p) c (reported context))) next h in
    let w = when_some (not (is_pending b.0) && same_reply given (report b.0)) (with_context (counted p) c (reported b.0)) next b.2 in
    plain_moved p (with_context (counted p) c (reported b.0)) next (what.Quiet c given) refl refl w.1 refl refl idle

close_moved : (p next : ProgramState) (c : ℕ) (given : Reply) → is_idle p.started ≡ true → close_step p c given ≡ Some next → Moved p (what.CloseContext c given) next
close_moved p next c given idle h =
    let result : Context → ProgramState = λ context. with_context (counted p) c (record (reported context) { is_open = false }) in
    let test : Context → Bool = λ context. not (c == 0) && not (is_pending context) && same_reply given (report context) in
    let b = bind_some (open_context p c) (λ context. when (test context) (result context)) next h in
    let w = when_some (test b.0) (result b.0) next b.2 in
    plain_moved p (result b.0) next (what.CloseContext c given) refl refl w.1 refl refl idle

wait_moved : (p next : ProgramState) (c named : ℕ) (given : Reply) → is_idle p.started ≡ true → wait_step p c named given ≡ Some next → Moved p (what.Wait c named given) next
wait_moved p next c named given idle h =
    let result : Context → Operation → ProgramState = λ context operation. with_context (counted p) c (with_operation context (as_reported operation)) in
    let test : Operation → Bool = λ operation. not (has_left operation) && same_reply given (result_of operation) in
    let b = bind_some (slice_get p.contexts c) (λ context. unreported_copy p c named >>= λ operation. when (test operation) (result context operation)) next h in
    let d = bind_some (unreported_copy p c named) (λ operation. when (test operation) (result b.0 operation)) next b.2 in
    let w = when_some (test d.0) (result b.0 d.0) next d.2 in
    plain_moved p (result b.0 d.0) next (what.Wait c named given) refl refl w.1 refl refl idle

arrive_moved : (round : ℕ) (p next : ProgramState) → arrive_step round p ≡ Some next → Moved p what.Arrive next
arrive_moved round p next h =
    let w = when_some (may_arrive round p) (record (counted p) { arrived = Some round; started = begun.Barrier p.next_call }) next h in
    record { started = ap (λ q. q.started) (sym w.1); number = ap (λ q. q.next_call) (sym w.1) }

leave_moved : (p next : ProgramState) → is_idle p.started ≡ true → leave_step p ≡ Some next → Moved p what.Leave next
leave_moved p next idle h =
    let w = when_some (not (has_pending p)) (record (counted p) { standing = standing.Left }) next h in
    plain_moved p (record (counted p) { standing = standing.Left }) next what.Leave refl refl w.1 refl refl idle

crash_moved : (p next : ProgramState) → crash_step p ≡ Some next → Moved p what.Crash next
crash_moved p next h =
    let same : record (counted p) { standing = standing.Crashed; started = begun.Nothing } ≡ next = cc in
    record { started = ap (λ q. q.started) (sym same); number = ap (λ q. q.next_call) (sym same) }

refused_moved : (limits : Limits) (rows : Rows) (round : ℕ) (p next : ProgramState) (asked : Call) (error : FamError) (doubt : Bool) → is_idle p.started ≡ true →
    refused_step limits rows round p asked error doubt ≡ Some next → Moved p (what.Refused asked error doubt) next
refused_moved limits rows round p next asked error doubt idle h =
    let w = when_some (would_serve rows round p asked && may_refuse limits asked error doubt) (counted p) next h in
    plain_moved p (counted p) next (what.Refused asked error doubt) refl refl w.1 refl refl idle

-- any event

-- the state has this program changed, and the program has moved on
pub record MovesAt (state : State) (pe : ℕ) (p : ProgramState) (what : What) (next : State) : Type 0 where
  pub is : ProgramState
  pub programs : next.programs ≡ slice_set state.programs pe is
  pub moved : Moved p what is

moves_with : (state base next : State) (pe : ℕ) (p q : ProgramState) (what : What) → base.programs ≡ state.programs → with_program base pe q ≡ next → Moved p what q → MovesAt state pe p what next
moves_with state base next pe p q what same e moved =
    record { is = q; programs = ap (λ s. s.programs) (sym e) ∙ ap (λ ps. slice_set ps pe q) same; moved = moved }

moves_member : (state next : State) (pe : ℕ) (p q : ProgramState) (what : What) → with_member state pe q ≡ next → Moved p what q → MovesAt state pe p what next
moves_member state next pe p q what e moved = record { is = q; programs = ap (λ s. s.programs) (sym e); moved = moved }

effect_moves : (limits : Limits) (state next : State) (pe : ℕ) (p : ProgramState) (c : ℕ) (what : What) →
    is_in_turn p c what ≡ true → effect limits state pe p c what ≡ Some next → MovesAt state pe p what next
effect_moves limits state next pe p c (what.Meta asked given) turn h =
    let changed_state = changed state (served_change state.rows p asked given) in
    let m = map_some (with_program changed_state pe) (meta_step state.rows p asked given) next h in
    moves_with state changed_state next pe p m.0 (what.Meta asked given) (changed_programs state (served_change state.rows p asked given)) m.2
    (meta_moved state.rows p m.0 asked given (idle_in p c (call.Meta asked) turn) m.1)
effect_moves limits state next pe p c (what.Issue asked given) turn h =
    let m = map_some (with_program state pe) (issue_step state.service p asked given) next h in
    moves_with state state next pe p m.0 (what.Issue asked given) refl m.2
    (issue_by (issue_refusal state.service p asked) state.service p m.0 asked given (idle_in p c asked turn) m.1)
effect_moves limits state next pe p c (what.Piece j given) turn h =
    let base = record state { memory = memory_by_piece state.memory p c j given } in
    let m = map_some (with_program base pe) (piece_step limits state.rows state.memory p c j given) next h in
    moves_with state base next pe p m.0 (what.Piece j given) refl m.2 (piece_moved limits state.rows state.memory p m.0 c j given m.1)
effect_moves limits state next pe p c (what.Answer given) turn h =
    let m = map_some (with_program state pe) (answer_step p.started state.round p given) next h in
    moves_with state state next pe p m.0 (what.Answer given) refl m.2 (answer_by p.started state.round p m.0 given m.1)
effect_moves limits state next pe p c (what.OpenContext k) turn h =
    let m = map_some (with_program state pe) (open_step p k) next h in
    moves_with state state next pe p m.0 (what.OpenContext k) refl m.2 (open_moved p m.0 k (idle_in p c (call.OpenContext k) turn) m.1)
effect_moves limits state next pe p c (what.CloseContext k given) turn h =
    let m = map_some (with_program state pe) (close_step p k given) next h in
    moves_with state state next pe p m.0 (what.CloseContext k given) refl m.2 (close_moved p m.0 k given (idle_in p c (call.CloseContext k) turn) m.1)
effect_moves limits state next pe p c (what.Fence k) turn h =
    let m = map_some (with_program state pe) (fence_step p k) next h in
    moves_with state state next pe p m.0 (what.Fence k) refl m.2 (fence_moved p m.0 k (idle_in p c (call.Fence k) turn) m.1)
effect_moves limits state next pe p c (what.Quiet k given) turn h =
    let m = map_some (with_program state pe) (quiet_step p k given) next h in
    moves_with state state next pe p m.0 (what.Quiet k given) refl m.2 (quiet_moved p m.0 k given (idle_in p c (call.Quiet k) turn) m.1)
effect_moves limits state next pe p c (what.Wait k named given) turn h =
    let m = map_some (with_program state pe) (wait_step p k named given) next h in
    moves_with state state next pe p m.0 (what.Wait k named given) refl m.2 (wait_moved p m.0 k named given (idle_in p c (call.CopyWait k named) turn) m.1)
effect_moves limits state next pe p c what.Arrive turn h =
    let m = map_some (with_member state pe) (arrive_step state.round p) next h in
    moves_member state next pe p m.0 what.Arrive m.2 (arrive_moved state.round p m.0 m.1)
effect_moves limits state next pe p c what.Leave turn h =
    let m = map_some (with_member state pe) (leave_step p) next h in
    moves_member state next pe p m.0 what.Leave m.2 (leave_moved p m.0 (idle_in p c call.Leave turn) m.1)
effect_moves limits state next pe p c what.Crash turn h =
    let m = map_some (with_member state pe) (crash_step p) next h in
    moves_member state next pe p m.0 what.Crash m.2 (crash_moved p m.0 m.1)
effect_moves limits state next pe p c (what.Lose j) turn h =
    let m = map_some (with_program state pe) (lose_step p c j) next h in
    moves_with state state next pe p m.0 (what.Lose j) refl m.2 (lose_moved p m.0 c j m.1)
effect_moves limits state next pe p c (what.Refused asked error doubt) turn h =
    let m = map_some (with_program state pe) (refused_step limits state.rows state.round p asked error doubt) next h in
    moves_with state state next pe p m.0 (what.Refused asked error doubt) refl m.2
    (refused_moved limits state.rows state.round p m.0 asked error doubt (idle_in p c asked turn) m.1)

-- a step changes its program, and no other
pub step_moves : (limits : Limits) (state next : State) (event : Event) → step limits state event ≡ Some next → Moves state event next
step_moves limits state next event h =
    let b = bind_some (program_of state event.pe.0)
    (λ p. if is_in_turn p event.call event.what then effect limits state event.pe.0 p event.call event.what else None) next h in
    let c = if_some (is_in_turn b.0 event.call event.what) (effect limits state event.pe.0 b.0 event.call event.what) next b.2 in
    let m = effect_moves limits state next event.pe.0 b.0 event.call event.what c.0 c.1 in
    record { was = b.0; is = m.is; there = b.1; turn = c.0; programs = m.programs; moved = m.moved }
