-- What else a step changes of its program, and the round of the barrier.
use Rattle.std.proofs.Common.{◌≡◌, ℕ, ◌+◌, Bool, false, refl, sym, ap, ◌∙◌, subst}
use Rattle.std.specs.Prelude.{◌==◌, ◌&&◌, not, Option, Some, None, slice_get, slice_set, if◌then◌else◌}
use Rattle.fam_base.specs.declared.naming.Descriptor.{Descriptor}
use Rattle.fam_base.specs.declared.error.FamError.{FamError}
use Rattle.fam_model.specs.declared.call.Call.{Call}
use Rattle.fam_model.specs.declared.call.Call.TheVariants as call
use Rattle.fam_model.specs.declared.call.MetaCall.{MetaCall}
use Rattle.fam_model.specs.declared.call.MetaCall.TheVariants as meta
use Rattle.fam_model.specs.declared.change.Change.{Change}
use Rattle.fam_model.specs.declared.event.Event.{Event}
use Rattle.fam_model.specs.declared.event.What.{What}
use Rattle.fam_model.specs.declared.event.What.TheVariants as what
use Rattle.fam_model.specs.declared.piece.MarkedPiece.{MarkedPiece}
use Rattle.fam_model.specs.declared.piece.Operation.{Operation}
use Rattle.fam_model.specs.declared.reply.PieceAnswer.{PieceAnswer}
use Rattle.fam_model.specs.declared.reply.Reply.{Reply}
use Rattle.fam_model.specs.declared.reply.Reply.TheVariants as reply
use Rattle.fam_model.specs.declared.rows.Rows.{Rows}
use Rattle.fam_model.specs.declared.service.Service.{Service}
use Rattle.fam_model.specs.declared.state.Context.{Context}
use Rattle.fam_model.specs.declared.state.ProgramState.{ProgramState}
use Rattle.fam_model.specs.declared.state.Standing.{Standing}
use Rattle.fam_model.specs.declared.state.Standing.TheVariants as standing
use Rattle.fam_model.specs.declared.state.Started.{Started}
use Rattle.fam_model.specs.declared.state.Started.TheVariants as begun
use Rattle.fam_model.specs.declared.state.State.{State}
use Rattle.fam_model.specs.ContextStep.{answer_step, open_step, fence_step, quiet_step, close_step, wait_step, new_context, with_nothing_started}
use Rattle.fam_model.specs.Directory.{Memory}
use Rattle.fam_model.specs.EndStep.{arrive_step, leave_step, crash_step, may_arrive, has_pending}
use Rattle.fam_model.specs.Issue.{issue_refusal, targets}
use Rattle.fam_model.specs.IssueStep.{issue_step, issue_with, accepted, with_issued}
use Rattle.fam_model.specs.Limits.{Limits}
use Rattle.fam_model.specs.Lists.{◌>>=◌, when}
use Rattle.fam_model.specs.MetaStep.{meta_step, may_reply, served_change, changed}
use Rattle.fam_model.specs.Operations.{has_left, is_pending, is_left, may_come, result, report, reported, as_reported}
use Rattle.fam_model.specs.Pieces.{pieces}
use Rattle.fam_model.specs.PieceStep.{piece_step, lose_step, memory_by_piece, may_answer, due_answer, with_answer, without_piece, bytes_found}
use Rattle.fam_model.specs.Programs.{program_of, with_program, with_member, is_open, open_context, with_context, with_operation, Placed, placed, with_placed, unreported_copy, counted, filled, fill_region, fill_item, request_of, has_passed, has_crashed, round_after}
use Rattle.fam_model.specs.RefusedStep.{refused_step, would_serve, may_refuse}
use Rattle.fam_model.specs.Same.{same_reply}
use Rattle.fam_model.specs.Step.{step, effect}
use Rattle.fam_model.specs.Turn.{is_in_turn}
use Rattle.fam_schedule.proofs.Options.{bind_some, when_some, map_some, if_some}

-- whether the program still runs
abbrev pub standing_after : ProgramState → What → Standing
standing_after p what.Leave = standing.Left
standing_after p what.Crash = standing.Crashed
standing_after p _ = p.standing

-- the round at which it last arrived
abbrev pub arrived_after : ℕ → ProgramState → What → Option ℕ
arrived_after round p what.Arrive = Some round
arrived_after round p _ = p.arrived

-- the round, where these are the programs after the event
abbrev pub round_of : State → What → State → ℕ
round_of state what.Arrive next = round_after state.round next.programs
round_of state what.Leave next = round_after state.round next.programs
round_of state what.Crash next = round_after state.round next.programs
round_of state _ next = state.round

-- what else becomes of the program
pub record Rests (round : ℕ) (p : ProgramState) (what : What) (q : ProgramState) : Type 0 where
  pub is_local : q.is_local ≡ p.is_local
  pub standing_is : q.standing ≡ standing_after p what
  pub arrived_is : q.arrived ≡ arrived_after round p what

-- the same program but for its contexts, its slots, its counts and the call that it has started
abbrev Same : ProgramState → ProgramState → Type 0
Same p q = (q.is_local ≡ p.is_local) × (q.standing ≡ p.standing) × (q.arrived ≡ p.arrived)

rests_as : (round : ℕ) (p q last : ProgramState) (what : What) → standing_after p what ≡ p.standing → arrived_after round p what ≡ p.arrived → q ≡ last → Same p q → Rests round p what last
rests_as round p q last what s a same kept =
    record {
      is_local = ap (λ x. x.is_local) (sym same) ∙ kept.0;
      standing_is = ap (λ x. x.standing) (sym same) ∙ kept.1 ∙ sym s;
      arrived_is = ap (λ x. x.arrived) (sym same) ∙ kept.2 ∙ sym a;
    }

fill_region_same : (p : ProgramState) (slot : ℕ) (r : Reply) → Same p (fill_region p slot r)
fill_region_same p slot reply.Done = (refl, refl, refl)
fill_region_same p slot reply.Issued = (refl, refl, refl)
fill_region_same p slot (reply.Bytes b) = (refl, refl, refl)
fill_region_same p slot (reply.Region r) = (refl, refl, refl)
fill_region_same p slot (reply.Item d) = (refl, refl, refl)
fill_region_same p slot (reply.RegionStat i) = (refl, refl, refl)
fill_region_same p slot (reply.ItemStat i) = (refl, refl, refl)
fill_region_same p slot (reply.Value v) = (refl, refl, refl)
fill_region_same p slot (reply.Report r) = (refl, refl, refl)
fill_region_same p slot reply.Passed = (refl, refl, refl)
fill_region_same p slot reply.Left = (refl, refl, refl)
fill_region_same p slot reply.Crashed = (refl, refl, refl)
fill_region_same p slot (reply.Error e) = (refl, refl, refl)

fill_item_same : (p : ProgramState) (slot : ℕ) (r : Reply) → Same p (fill_item p slot r)
fill_item_same p slot reply.Done = (refl, refl, refl)
fill_item_same p slot reply.Issued = (refl, refl, refl)
fill_item_same p slot (reply.Bytes b) = (refl, refl, refl)
fill_item_same p slot (reply.Region r) = (refl, refl, refl)
fill_item_same p slot (reply.Item d) = (refl, refl, refl)
fill_item_same p slot (reply.RegionStat i) = (refl, refl, refl)
fill_item_same p slot (reply.ItemStat i) = (refl, refl, refl)
fill_item_same p slot (reply.Value v) = (refl, refl, refl)
fill_item_same p slot (reply.Report r) = (refl, refl, refl)
fill_item_same p slot reply.Passed = (refl, refl, refl)
fill_item_same p slot reply.Left = (refl, refl, refl)
fill_item_same p slot reply.Crashed = (refl, refl, refl)
fill_item_same p slot (reply.Error e) = (refl, refl, refl)

filled_same : (p : ProgramState) (asked : MetaCall) (r : Reply) → Same p (filled p asked r)
filled_same p (meta.CreateRegion slot name size mode) r = fill_region_same p slot r
filled_same p (meta.DestroyRegion slot) r = (refl, refl, refl)
filled_same p (meta.ResizeRegion slot size) r = (refl, refl, refl)
filled_same p (meta.SetRegionMode slot mode) r = (refl, refl, refl)
filled_same p (meta.LookupRegion slot name) r = fill_region_same p slot r
filled_same p (meta.StatRegion slot) r = (refl, refl, refl)
filled_same p (meta.Allocate slot name size mode region) r = fill_item_same p slot r
filled_same p (meta.Deallocate slot) r = (refl, refl, refl)
filled_same p (meta.SetItemMode slot mode) r = (refl, refl, refl)
filled_same p (meta.Lookup slot name region) r = fill_item_same p slot r
filled_same p (meta.Stat slot) r = (refl, refl, refl)

meta_rests : (round : ℕ) (rows : Rows) (p next : ProgramState) (asked : MetaCall) (given : Reply) → meta_step rows p asked given ≡ Some next → Rests round p (what.Meta asked given) next
meta_rests round rows p next asked given h =
    let b = bind_some (request_of p asked) (λ request. when (may_reply rows p.who request given) (filled (counted p) asked given)) next h in
    let w = when_some (may_reply rows p.who b.0 given) (filled (counted p) asked given) next b.2 in
    rests_as round p (filled (counted p) asked given) next (what.Meta asked given) refl refl w.1 (filled_same (counted p) asked given)

accepted_same : (service : Service) (p next : ProgramState) (asked : Call) → accepted service p asked ≡ Some next → Same p next
accepted_same service p next (call.Data c op blocking) h =
    let next_of : Context → Descriptor × Descriptor → ProgramState =
    λ context items. with_issued p c context op blocking (pieces service op items.0 items.1) in
    let b = bind_some (open_context p c) (λ context. targets p op >>= λ items. Some (next_of context items)) next h in
    let d = bind_some (targets p op) (λ items. Some (next_of b.0 items)) next b.2 in
    let same : next_of b.0 d.0 ≡ next = cc in
    subst (Same p) same (refl, refl, refl)
accepted_same service p next (call.Meta a) h = cc
accepted_same service p next (call.OpenContext c) h = cc
accepted_same service p next (call.CloseContext c) h = cc
accepted_same service p next (call.CopyWait c n) h = cc
accepted_same service p next (call.Fence c) h = cc
accepted_same service p next (call.Quiet c) h = cc
accepted_same service p next call.Barrier h = cc
accepted_same service p next call.Leave h = cc
accepted_same service p next call.Crash h = cc

issue_rests : (round : ℕ) (refusal : Option FamError) (service : Service) (p next : ProgramState) (asked : Call) (given : Reply) →
    issue_with refusal service p asked given ≡ Some next → Rests round p (what.Issue asked given) next
issue_rests round (Some error) service p next asked given h =
    let w = when_some (same_reply given (reply.Error error)) (counted p) next h in
    rests_as round p (counted p) next (what.Issue asked given) refl refl w.1 (refl, refl, refl)
issue_rests round None service p next asked given h =
    let b = bind_some (accepted service p asked) (λ q. when (same_reply given reply.Issued) q) next h in
    let w = when_some (same_reply given reply.Issued) b.0 next b.2 in
    rests_as round p b.0 next (what.Issue asked given) refl refl w.1 (accepted_same service p b.0 asked b.1)

piece_rests : (round : ℕ) (limits : Limits) (rows : Rows) (memory : Memory) (p next : ProgramState) (c j : ℕ) (given : PieceAnswer) →
    piece_step limits rows memory p c j given ≡ Some next → Rests round p (what.Piece j given) next
piece_rests round limits rows memory p next c j given h =
    let new : Placed → MarkedPiece → Operation = λ at left. with_answer at.operation j left.piece given (bytes_found memory left.piece) in
    let test : Placed → MarkedPiece → Bool =
    λ at left. may_come at.context at.operation j && may_answer limits (due_answer rows memory p.who at.operation.kind left.piece) given in
    let b = bind_some (placed p c) (λ at. slice_get at.operation.pieces j >>= λ left. when (test at left) (with_placed p at (new at left))) next h in
    let d = bind_some (slice_get b.0.operation.pieces j) (λ left. when (test b.0 left) (with_placed p b.0 (new b.0 left))) next b.2 in
    let w = when_some (test b.0 d.0) (with_placed p b.0 (new b.0 d.0)) next d.2 in
    rests_as round p (with_placed p b.0 (new b.0 d.0)) next (what.Piece j given) refl refl w.1 (refl, refl, refl)

lose_rests : (round : ℕ) (p next : ProgramState) (c j : ℕ) → lose_step p c j ≡ Some next → Rests round p (what.Lose j) next
lose_rests round p next c j h =
    let new : Placed → MarkedPiece → Operation = λ at left. without_piece at.operation j left.piece in
    let test : MarkedPiece → Bool = λ left. has_crashed p.standing && is_left left in
    let b = bind_some (placed p c) (λ at. slice_get at.operation.pieces j >>= λ left. when (test left) (with_placed p at (new at left))) next h in
    let d = bind_some (slice_get b.0.operation.pieces j) (λ left. when (test left) (with_placed p b.0 (new b.0 left))) next b.2 in
    let w = when_some (test d.0) (with_placed p b.0 (new b.0 d.0)) next d.2 in
    rests_as round p (with_placed p b.0 (new b.0 d.0)) next (what.Lose j) refl refl w.1 (refl, refl, refl)

answer_rests : (round : ℕ) (s : Started) (p next : ProgramState) (given : Reply) → answer_step s round p given ≡ Some next → Rests round p (what.Answer given) next
answer_rests round begun.Nothing p next given h = cc
answer_rests round (begun.Operation c) p next given h =
    let new : Placed → ProgramState = λ at. with_nothing_started (with_placed p at (as_reported at.operation)) in
    let test : Placed → Bool = λ at. not (has_left at.operation) && same_reply given (result at.operation) in
    let b = bind_some (placed p c) (λ at. when (test at) (new at)) next h in
    let w = when_some (test b.0) (new b.0) next b.2 in
    rests_as round p (new b.0) next (what.Answer given) refl refl w.1 (refl, refl, refl)
answer_rests round (begun.Barrier c) p next given h =
    let w = when_some (has_passed round p && same_reply given reply.Passed) (with_nothing_started p) next h in
    rests_as round p (with_nothing_started p) next (what.Answer given) refl refl w.1 (refl, refl, refl)

open_rests : (round : ℕ) (p next : ProgramState) (c : ℕ) → open_step p c ≡ Some next → Rests round p (what.OpenContext c) next
open_rests round p next c h =
    let w = when_some (not (is_open p c)) (with_context (counted p) c new_context) next h in
    rests_as round p (with_context (counted p) c new_context) next (what.OpenContext c) refl refl w.1 (refl, refl, refl)

fence_rests : (round : ℕ) (p next : ProgramState) (c : ℕ) → fence_step p c ≡ Some next → Rests round p (what.Fence c) next
fence_rests round p next c h =
    let y : Context → Context = λ context. record context { epoch = context.epoch + 1 } in
    let b = bind_some (open_context p c) (λ context. Some (with_context (counted p) c (y context))) next h in
    let same : with_context (counted p) c (y b.0) ≡ next = cc in
    rests_as round p (with_context (counted p) c (y b.0)) next (what.Fence c) refl refl same (refl, refl, refl)

quiet_rests : (round : ℕ) (p next : ProgramState) (c : ℕ) (given : Reply) → quiet_step p c given ≡ Some next → Rests round p (what.Quiet c given) next
quiet_rests round p next c given h =
    let test : Context → Bool = λ context. not (is_pending context) && same_reply given (report context) in
    let b = bind_some (open_context p c) (λ context. when (test context) (with_context (counted p) c (reported context))) next h in
    let w = when_some (test b.0) (with_context (counted p) c (reported b.0)) next b.2 in
    rests_as round p (with_context (counted p) c (reported b.0)) next (what.Quiet c given) refl refl w.1 (refl, refl, refl)

close_rests : (round : ℕ) (p next : ProgramState) (c : ℕ) (given : Reply) → close_step p c given ≡ Some next → Rests round p (what.CloseContext c given) next
close_rests round p next c given h =
    let y : Context → Context = λ context. record (reported context) { is_open = false } in
    let test : Context → Bool = λ context. not (c == 0) && not (is_pending context) && same_reply given (report context) in
    let b = bind_some (open_context p c) (λ context. when (test context) (with_context (counted p) c (y context))) next h in
    let w = when_some (test b.0) (with_context (counted p) c (y b.0)) next b.2 in
    rests_as round p (with_context (counted p) c (y b.0)) next (what.CloseContext c given) refl refl w.1 (refl, refl, refl)

wait_rests : (round : ℕ) (p next : ProgramState) (c named : ℕ) (given : Reply) → wait_step p c named given ≡ Some next → Rests round p (what.Wait c named given) next
wait_rests round p next c named given h =
    let new : Context → Operation → ProgramState = λ context operation. with_context (counted p) c (with_operation context (as_reported operation)) in
    let test : Operation → Bool = λ operation. not (has_left operation) && same_reply given (result operation) in
    let b = bind_some (slice_get p.contexts c) (λ context. unreported_copy p c named >>= λ operation. when (test operation) (new context operation)) next h in
    let d = bind_some (unreported_copy p c named) (λ operation. when (test operation) (new b.0 operation)) next b.2 in
    let w = when_some (test d.0) (new b.0 d.0) next d.2 in
    rests_as round p (new b.0 d.0) next (what.Wait c named given) refl refl w.1 (refl, refl, refl)

member_rests : (round : ℕ) (p q last : ProgramState) (what : What) → q ≡ last → (q.is_local ≡ p.is_local) × (q.standing ≡ standing_after p what) × (q.arrived ≡ arrived_after round p what) → Rests round p what last
member_rests round p q last what same kept =
    record {
      is_local = ap (λ x. x.is_local) (sym same) ∙ kept.0;
      standing_is = ap (λ x. x.standing) (sym same) ∙ kept.1;
      arrived_is = ap (λ x. x.arrived) (sym same) ∙ kept.2;
    }

arrive_rests : (round : ℕ) (p next : ProgramState) → arrive_step round p ≡ Some next → Rests round p what.Arrive next
arrive_rests round p next h =
    let q : ProgramState = record (counted p) { arrived = Some round; started = begun.Barrier p.next_call } in
    let w = when_some (may_arrive round p) q next h in
    member_rests round p q next what.Arrive w.1 (refl, refl, refl)

leave_rests : (round : ℕ) (p next : ProgramState) → leave_step p ≡ Some next → Rests round p what.Leave next
leave_rests round p next h =
    let q : ProgramState = record (counted p) { standing = standing.Left } in
    let w = when_some (not (has_pending p)) q next h in
    member_rests round p q next what.Leave w.1 (refl, refl, refl)

crash_rests : (round : ℕ) (p next : ProgramState) → crash_step p ≡ Some next → Rests round p what.Crash next
crash_rests round p next h =
    let q : ProgramState = record (counted p) { standing = standing.Crashed; started = begun.Nothing } in
    let same : q ≡ next = cc in
    member_rests round p q next what.Crash same (refl, refl, refl)

refused_rests : (round : ℕ) (limits : Limits) (rows : Rows) (p next : ProgramState) (asked : Call) (error : FamError) (doubt : Bool) →
    refused_step limits rows round p asked error doubt ≡ Some next → Rests round p (what.Refused asked error doubt) next
refused_rests round limits rows p next asked error doubt h =
    let w = when_some (would_serve rows round p asked && may_refuse limits asked error doubt) (counted p) next h in
    rests_as round p (counted p) next (what.Refused asked error doubt) refl refl w.1 (refl, refl, refl)

-- any event

pub record RestsAt (state : State) (pe : ℕ) (p : ProgramState) (what : What) (next : State) : Type 0 where
  pub is : ProgramState
  pub programs : next.programs ≡ slice_set state.programs pe is
  pub round : next.round ≡ round_of state what next
  pub rests : Rests state.round p what is

rests_at : (state base next : State) (pe : ℕ) (p q : ProgramState) (what : What) → (base.programs ≡ state.programs) × (base.round ≡ state.round) → with_program base pe q ≡ next →
    round_of state what next ≡ state.round → Rests state.round p what q → RestsAt state pe p what next
rests_at state base next pe p q what same e r rests =
    record {
      is = q;
      programs = ap (λ s. s.programs) (sym e) ∙ ap (λ ps. slice_set ps pe q) same.0;
      round = ap (λ s. s.round) (sym e) ∙ same.1 ∙ sym r;
      rests = rests;
    }

rests_member : (state next : State) (pe : ℕ) (p q : ProgramState) (what : What) → with_member state pe q ≡ next → round_of state what next ≡ round_after state.round next.programs →
    Rests state.round p what q → RestsAt state pe p what next
rests_member state next pe p q what e r rests =
    record {
      is = q;
      programs = ap (λ s. s.programs) (sym e);
      round = ap (λ s. s.round) (sym e) ∙ ap (λ s. round_after state.round s.programs) e ∙ sym r;
      rests = rests;
    }

changed_same : (state : State) (c : Option Change) → ((changed state c).programs ≡ state.programs) × ((changed state c).round ≡ state.round)
changed_same state None = (refl, refl)
changed_same state (Some c) = (refl, refl)

effect_rests : (limits : Limits) (state next : State) (pe : ℕ) (p : ProgramState) (c : ℕ) (what : What) → effect limits state pe p c what ≡ Some next → RestsAt state pe p what next
effect_rests limits state next pe p c (what.Meta asked given) h =
    let base = changed state (served_change state.rows p asked given) in
    let m = map_some (with_program base pe) (meta_step state.rows p asked given) next h in
    rests_at state base next pe p m.0 (what.Meta asked given) (changed_same state (served_change state.rows p asked given)) m.2 refl (meta_rests state.round state.rows p m.0 asked given m.1)
effect_rests limits state next pe p c (what.Issue asked given) h =
    let m = map_some (with_program state pe) (issue_step state.service p asked given) next h in
    rests_at state state next pe p m.0 (what.Issue asked given) (refl, refl) m.2 refl (issue_rests state.round (issue_refusal state.service p asked) state.service p m.0 asked given m.1)
effect_rests limits state next pe p c (what.Piece j given) h =
    let base = record state { memory = memory_by_piece state.memory p c j given } in
    let m = map_some (with_program base pe) (piece_step limits state.rows state.memory p c j given) next h in
    rests_at state base next pe p m.0 (what.Piece j given) (refl, refl) m.2 refl (piece_rests state.round limits state.rows state.memory p m.0 c j given m.1)
effect_rests limits state next pe p c (what.Answer given) h =
    let m = map_some (with_program state pe) (answer_step p.started state.round p given) next h in
    rests_at state state next pe p m.0 (what.Answer given) (refl, refl) m.2 refl (answer_rests state.round p.started p m.0 given m.1)
effect_rests limits state next pe p c (what.OpenContext k) h =
    let m = map_some (with_program state pe) (open_step p k) next h in
    rests_at state state next pe p m.0 (what.OpenContext k) (refl, refl) m.2 refl (open_rests state.round p m.0 k m.1)
effect_rests limits state next pe p c (what.CloseContext k given) h =
    let m = map_some (with_program state pe) (close_step p k given) next h in
    rests_at state state next pe p m.0 (what.CloseContext k given) (refl, refl) m.2 refl (close_rests state.round p m.0 k given m.1)
effect_rests limits state next pe p c (what.Fence k) h =
    let m = map_some (with_program state pe) (fence_step p k) next h in
    rests_at state state next pe p m.0 (what.Fence k) (refl, refl) m.2 refl (fence_rests state.round p m.0 k m.1)
effect_rests limits state next pe p c (what.Quiet k given) h =
    let m = map_some (with_program state pe) (quiet_step p k given) next h in
    rests_at state state next pe p m.0 (what.Quiet k given) (refl, refl) m.2 refl (quiet_rests state.round p m.0 k given m.1)
effect_rests limits state next pe p c (what.Wait k named given) h =
    let m = map_some (with_program state pe) (wait_step p k named given) next h in
    rests_at state state next pe p m.0 (what.Wait k named given) (refl, refl) m.2 refl (wait_rests state.round p m.0 k named given m.1)
effect_rests limits state next pe p c what.Arrive h =
    let m = map_some (with_member state pe) (arrive_step state.round p) next h in
    rests_member state next pe p m.0 what.Arrive m.2 refl (arrive_rests state.round p m.0 m.1)
effect_rests limits state next pe p c what.Leave h =
    let m = map_some (with_member state pe) (leave_step p) next h in
    rests_member state next pe p m.0 what.Leave m.2 refl (leave_rests state.round p m.0 m.1)
effect_rests limits state next pe p c what.Crash h =
    let m = map_some (with_member state pe) (crash_step p) next h in
    rests_member state next pe p m.0 what.Crash m.2 refl (crash_rests state.round p m.0 m.1)
effect_rests limits state next pe p c (what.Lose j) h =
    let m = map_some (with_program state pe) (lose_step p c j) next h in
    rests_at state state next pe p m.0 (what.Lose j) (refl, refl) m.2 refl (lose_rests state.round p m.0 c j m.1)
effect_rests limits state next pe p c (what.Refused asked error doubt) h =
    let m = map_some (with_program state pe) (refused_step limits state.rows state.round p asked error doubt) next h in
    rests_at state state next pe p m.0 (what.Refused asked error doubt) (refl, refl) m.2 refl (refused_rests state.round limits state.rows p m.0 asked error doubt m.1)

-- what a step does to the program of its event, and to the round
pub record StepRests (state : State) (event : Event) (next : State) : Type 0 where
  pub was : ProgramState
  pub there : program_of state event.pe.0 ≡ Some was
  pub after : RestsAt state event.pe.0 was event.what next

pub step_rests : (limits : Limits) (state next : State) (event : Event) → step limits state event ≡ Some next → StepRests state event next
step_rests limits state next event h =
    let b = bind_some (program_of state event.pe.0)
    (λ p. if is_in_turn p event.call event.what then effect limits state event.pe.0 p event.call event.what else None) next h in
    let c = if_some (is_in_turn b.0 event.call event.what) (effect limits state event.pe.0 b.0 event.call event.what) next b.2 in
    record { was = b.0; there = b.1; after = effect_rests limits state next event.pe.0 b.0 event.call event.what c.1 }
