-- How an event changes the contexts of its program.
use Rattle.std.proofs.Common.{◌≡◌, ℕ, ◌+◌, ◌<◌, ◌≤◌, Bool, true, false, List, [], ◌∷◌, ◌++◌, refl, sym, ap, ◌∙◌, arith, subst, inl, inr, le_refl, map}
use Rattle.std.specs.Prelude.{◌&&◌, ◌==◌, ◌⊎◌, not, Option, Some, None, is_some, slice_get, slice_set}
use Rattle.fam_base.specs.declared.error.FamError.{FamError}
use Rattle.fam_base.specs.declared.naming.Descriptor.{Descriptor}
use Rattle.fam_model.specs.declared.call.Call.{Call}
use Rattle.fam_model.specs.declared.call.Call.TheVariants as call
use Rattle.fam_model.specs.declared.call.MetaCall.{MetaCall}
use Rattle.fam_model.specs.declared.piece.MarkedPiece.{MarkedPiece}
use Rattle.fam_model.specs.declared.piece.Mark.TheVariants as mark
use Rattle.fam_model.specs.declared.piece.Operation.{Operation}
use Rattle.fam_model.specs.declared.reply.PieceAnswer.{PieceAnswer}
use Rattle.fam_model.specs.declared.reply.Reply.{Reply}
use Rattle.fam_model.specs.declared.reply.Reply.TheVariants as reply
use Rattle.fam_model.specs.declared.rows.Rows.{Rows}
use Rattle.fam_model.specs.declared.service.Service.{Service}
use Rattle.fam_model.specs.declared.state.Context.{Context}
use Rattle.fam_model.specs.declared.state.ProgramState.{ProgramState}
use Rattle.fam_model.specs.declared.state.Standing.TheVariants as standing
use Rattle.fam_model.specs.declared.state.Started.{Started}
use Rattle.fam_model.specs.declared.state.Started.TheVariants as begun
use Rattle.fam_model.specs.ContextStep.{answer_step, open_step, fence_step, quiet_step, close_step, wait_step, new_context, with_nothing_started}
use Rattle.fam_model.specs.Directory.{Memory}
use Rattle.fam_model.specs.EndStep.{arrive_step, leave_step, crash_step, may_arrive, has_pending}
use Rattle.fam_model.specs.Equals.{equal_replies}
use Rattle.fam_model.specs.Issue.{issue_refusal, targets}
use Rattle.fam_model.specs.IssueStep.{issue_with, accepted, with_issued, new_operation}
use Rattle.fam_model.specs.Limits.{Limits}
use Rattle.fam_model.specs.Lists.{◌>>=◌, when, is_some_and, place_of}
use Rattle.fam_model.specs.MetaStep.{meta_step, may_reply}
use Rattle.fam_model.specs.Operations.{has_left, is_pending, is_left, may_come, is_copy, is_unreported, result, report, reported, as_reported}
use Rattle.fam_model.specs.Pieces.{pieces}
use Rattle.fam_model.specs.PieceStep.{piece_step, lose_step, may_answer, due_answer, with_answer, without_piece, bytes_found, is_copy_read, marked, handed}
use Rattle.fam_model.specs.Programs.{is_open, open_context, with_context, with_operation, operation_of, call_number, Placed, placed, with_placed, unreported_copy, counted, filled, request_of, has_passed, has_crashed}
use Rattle.fam_model.specs.RefusedStep.{refused_step, would_serve, may_refuse}
use Rattle.fam_model.specs.Same.{same_reply}
use Rattle.fam_schedule.proofs.Changes.{found}
use Rattle.fam_schedule.proofs.Keeps.{AreChanges, with_both, answers_change, losses_change}
use Rattle.fam_schedule.proofs.Options.{bind_some, when_some}
use Rattle.fam_schedule.proofs.Steps.{is_placed, numbered, opened_at, waited, filled_contexts, set_none}
use Rattle.fam_ready.proofs.Coming.{first_true, parts_of}
use Rattle.fam_ready.proofs.Same.{plain, AreAlike}

-- what may become of a context

-- its operations are as they were but for what was told
pub record IsTold (x y : Context) : Type 0 where
  pub operations : AreAlike x.operations y.operations
  pub epoch : x.epoch ≤ y.epoch
  pub closed : (y.is_open ≡ x.is_open) ⊎ (is_pending x ≡ false)

-- it was not open, and has none now
pub record IsOpened (x y : Context) : Type 0 where
  pub was : x.is_open ≡ false
  pub operations : y.operations ≡ []

-- it has one more
pub record IsIssued (n m : ℕ) (x y : Context) : Type 0 where
  pub new : Operation
  pub operations : y.operations ≡ x.operations ++ new ∷ []
  pub call : new.call ≡ n
  pub number : n < m
  pub epoch : new.epoch ≡ x.epoch
  pub context : y.epoch ≡ x.epoch
  pub open_now : y.is_open ≡ true

-- piece j of the call u, which was left, is changed, and maybe the one after it
pub record IsAnswered (u j : ℕ) (x y : Context) : Type 0 where
  pub place : ℕ
  pub operation : Operation
  pub reads : Bool
  pub first : MarkedPiece → MarkedPiece
  pub second : MarkedPiece → MarkedPiece
  pub left : MarkedPiece
  pub there : slice_get x.operations place ≡ Some operation
  pub call : operation.call ≡ u
  pub left_there : slice_get operation.pieces j ≡ Some left
  pub is_left : is_left left ≡ true
  pub reads_is : reads ≡ is_copy_read operation left.piece
  pub operations : y.operations ≡ slice_set x.operations place (with_both operation reads j first second)
  pub changes : AreChanges first second
  pub epoch : y.epoch ≡ x.epoch
  pub same_open : y.is_open ≡ x.is_open

-- which pieces may come is as it was
abbrev pub IsQuiet : Context → Context → Type 0
IsQuiet x y = IsTold x y ⊎ IsOpened x y

-- programs

-- all contexts are as they were
pub record Stays (p q : ProgramState) : Type 0 where
  pub number : p.next_call ≤ q.next_call
  pub contexts : q.contexts ≡ p.contexts

-- one context has changed
pub record Turns (How : Context → Context → Type 0) (p q : ProgramState) : Type 0 where
  pub number : p.next_call ≤ q.next_call
  pub place : ℕ
  pub was : Context
  pub now : Context
  pub there : slice_get p.contexts place ≡ Some was
  pub contexts : q.contexts ≡ slice_set p.contexts place now
  pub how : How was now

-- no context has changed, or one quietly
abbrev pub IsAsBefore : ProgramState → ProgramState → Type 0
IsAsBefore p q = Stays p q ⊎ Turns IsQuiet p q

more : (n : ℕ) → n ≤ n + 1
more n = omega arith

-- each kind of event

pub meta_turns : (rows : Rows) (p q : ProgramState) (asked : MetaCall) (given : Reply) → meta_step rows p asked given ≡ Some q → Stays p q
meta_turns rows p q asked given h =
    let b = bind_some (request_of p asked) (λ request. when (may_reply rows p.who request given) (filled (counted p) asked given)) q h in
    let w = when_some (may_reply rows p.who b.0 given) (filled (counted p) asked given) q b.2 in
    let same = filled_contexts (counted p) asked given in
    let number : (filled (counted p) asked given).next_call ≡ p.next_call + 1 = same.1 in
    subst (Stays p) w.1 (record { number = omega arith; contexts = same.0 })

pub counted_turns : (p q : ProgramState) → counted p ≡ q → Stays p q
counted_turns p q same = subst (Stays p) same (record { number = more p.next_call; contexts = refl })

pub accepted_turns : (service : Service) (p q : ProgramState) (asked : Call) → accepted service p asked ≡ Some q → Turns (IsIssued p.next_call q.next_call) p q
accepted_turns service p q (call.Data c op blocking) h =
    let next_of : Context → Descriptor × Descriptor → ProgramState =
    λ context items. with_issued p c context op blocking (pieces service op items.0 items.1) in
    let b = bind_some (open_context p c) (λ context. targets p op >>= λ items. Some (next_of context items)) q h in
    let d = bind_some (targets p op) (λ items. Some (next_of b.0 items)) q b.2 in
    let same : next_of b.0 d.0 ≡ q = cc in
    let x = b.0 in
    let new = new_operation p.next_call x.epoch op blocking (pieces service op d.0.0 d.0.1) in
    let y : Context = record x { operations = x.operations ++ new ∷ [] } in
    let low : p.next_call < p.next_call + 1 = omega arith in
    subst (λ r. Turns (IsIssued p.next_call r.next_call) p r) same
    (record {
      number = more p.next_call;
      place = c;
      was = x;
      now = y;
      there = opened_at p c x b.1;
      contexts = refl;
      how = record { new = new; operations = refl; call = refl; number = low; epoch = refl; context = refl; open_now = is_opened p c x b.1 };
    })
  where
    is_opened : (p : ProgramState) (c : ℕ) (context : Context) → open_context p c ≡ Some context → context.is_open ≡ true
    is_opened p c context h =
        let b = bind_some (slice_get p.contexts c) (λ x. when x.is_open x) context h in
        let w = when_some b.0.is_open b.0 context b.2 in
        ap (λ (x : Context). x.is_open) (sym w.1) ∙ w.0
accepted_turns service p q (call.Meta a) h = cc
accepted_turns service p q (call.OpenContext c) h = cc
accepted_turns service p q (call.CloseContext c) h = cc
accepted_turns service p q (call.CopyWait c n) h = cc
accepted_turns service p q (call.Fence c) h = cc
accepted_turns service p q (call.Quiet c) h = cc
accepted_turns service p q call.Barrier h = cc
accepted_turns service p q call.Leave h = cc
accepted_turns service p q call.Crash h = cc

-- an accepted call has one operation more, a refused one leaves all as it was
abbrev pub IssueTurns : Reply → ProgramState → ProgramState → Type 0
IssueTurns reply.Issued p q = Turns (IsIssued p.next_call q.next_call) p q
IssueTurns _ p q = Stays p q

pub issue_turns : (refusal : Option FamError) (service : Service) (p q : ProgramState) (asked : Call) (given : Reply) →
    issue_with refusal service p asked given ≡ Some q → IssueTurns given p q
issue_turns (Some error) service p q asked given h =
    let w = when_some (same_reply given (reply.Error error)) (counted p) q h in
    let told : given ≡ reply.Error error = equal_replies given (reply.Error error) w.0 in
    subst (λ r. IssueTurns r p q) (sym told) (counted_turns p q w.1)
issue_turns None service p q asked given h =
    let b = bind_some (accepted service p asked) (λ r. when (same_reply given reply.Issued) r) q h in
    let w = when_some (same_reply given reply.Issued) b.0 q b.2 in
    let told : given ≡ reply.Issued = equal_replies given reply.Issued w.0 in
    subst (λ r. IssueTurns r p q) (sym told) (accepted_turns service p q asked (b.1 ∙ ap Some w.1))

-- the context with an operation for the one of its call
pub replaced : (x : Context) (u : ℕ) (old new : Operation) → operation_of x u ≡ Some old → new.call ≡ u →
    (k : ℕ) × (slice_get x.operations k ≡ Some old) × ((with_operation x new).operations ≡ slice_set x.operations k new)
replaced x u old new there number =
    let place = found x.operations u (place_of call_number u x.operations) old refl there in
    let at : place_of call_number new.call x.operations ≡ Some place.0 = subst (λ n. place_of call_number n x.operations ≡ Some place.0) (sym number) place.1 in
    (place.0, place.2, rw at (rw place.2 refl))

pub piece_turns : (limits : Limits) (rows : Rows) (memory : Memory) (p q : ProgramState) (u j : ℕ) (given : PieceAnswer) →
    piece_step limits rows memory p u j given ≡ Some q → Turns (IsAnswered u j) p q
piece_turns limits rows memory p q u j given h =
    let new : Placed → MarkedPiece → Operation = λ at left. with_answer at.operation j left.piece given (bytes_found memory left.piece) in
    let test : Placed → MarkedPiece → Bool =
    λ at left. may_come at.context at.operation j && may_answer limits (due_answer rows memory p.who at.operation.kind left.piece) given in
    let b = bind_some (placed p u) (λ at. slice_get at.operation.pieces j >>= λ left. when (test at left) (with_placed p at (new at left))) q h in
    let d = bind_some (slice_get b.0.operation.pieces j) (λ left. when (test b.0 left) (with_placed p b.0 (new b.0 left))) q b.2 in
    let w = when_some (test b.0 d.0) (with_placed p b.0 (new b.0 d.0)) q d.2 in
    let at = is_placed p u b.0 b.1 in
    let r = replaced b.0.context u b.0.operation (new b.0 d.0) at.operation at.number in
    let comes : may_come b.0.context b.0.operation j ≡ true = first_true (may_come b.0.context b.0.operation j) _ w.0 in
    let left : is_left d.0 ≡ true = ap (λ o. is_some_and o is_left) (sym d.1) ∙ (parts_of b.0.context b.0.operation j comes).left in
    subst (Turns (IsAnswered u j) p) w.1
    (record {
      number = le_refl p.next_call;
      place = b.0.number;
      was = b.0.context;
      now = with_operation b.0.context (new b.0 d.0);
      there = at.there;
      contexts = refl;
      how = record {
        place = r.0;
        operation = b.0.operation;
        reads = is_copy_read b.0.operation d.0.piece;
        first = marked (mark.Answered given);
        second = handed given (bytes_found memory d.0.piece);
        left = d.0;
        there = r.1;
        call = at.number;
        left_there = d.1;
        is_left = left;
        reads_is = refl;
        operations = r.2;
        changes = answers_change given (bytes_found memory d.0.piece);
        epoch = refl;
        same_open = refl;
      };
    })

pub lose_turns : (p q : ProgramState) (u j : ℕ) → lose_step p u j ≡ Some q → Turns (IsAnswered u j) p q
lose_turns p q u j h =
    let new : Placed → MarkedPiece → Operation = λ at left. without_piece at.operation j left.piece in
    let test : MarkedPiece → Bool = λ left. has_crashed p.standing && is_left left in
    let b = bind_some (placed p u) (λ at. slice_get at.operation.pieces j >>= λ left. when (test left) (with_placed p at (new at left))) q h in
    let d = bind_some (slice_get b.0.operation.pieces j) (λ left. when (test left) (with_placed p b.0 (new b.0 left))) q b.2 in
    let w = when_some (test d.0) (with_placed p b.0 (new b.0 d.0)) q d.2 in
    let at = is_placed p u b.0 b.1 in
    let r = replaced b.0.context u b.0.operation (new b.0 d.0) at.operation at.number in
    subst (Turns (IsAnswered u j) p) w.1
    (record {
      number = le_refl p.next_call;
      place = b.0.number;
      was = b.0.context;
      now = with_operation b.0.context (new b.0 d.0);
      there = at.there;
      contexts = refl;
      how = record {
        place = r.0;
        operation = b.0.operation;
        reads = is_copy_read b.0.operation d.0.piece;
        first = marked mark.Gone;
        second = marked mark.Gone;
        left = d.0;
        there = r.1;
        call = at.number;
        left_there = d.1;
        is_left = second_part (has_crashed p.standing) (is_left d.0) w.0;
        reads_is = refl;
        operations = r.2;
        changes = losses_change;
        epoch = refl;
        same_open = refl;
      };
    })
  where
    second_part : (a b : Bool) → (a && b) ≡ true → b ≡ true
    second_part true b e = e
    second_part false b e = cc
