-- The issue of a call.
use Rattle.std.specs.Prelude.{ℕ, ◌+◌, Bool, List, [], ◌∷◌, ◌++◌, map, length, Option, Some, None, if◌then◌else◌, false}
use Rattle.fam_base.specs.declared.error.FamError.{FamError}
use Rattle.fam_model.specs.declared.call.DataOp.{DataOp}
use Rattle.fam_model.specs.declared.call.Call.{Call}
use Rattle.fam_model.specs.declared.call.Call.TheVariants as call
use Rattle.fam_model.specs.declared.reply.Reply.{Reply}
use Rattle.fam_model.specs.declared.reply.Reply.TheVariants as reply
use Rattle.fam_model.specs.declared.piece.Mark.TheVariants as mark
use Rattle.fam_model.specs.declared.piece.MarkedPiece.{MarkedPiece}
use Rattle.fam_model.specs.declared.piece.Operation.{Operation}
use Rattle.fam_model.specs.declared.piece.PlanPiece.{PlanPiece}
use Rattle.fam_model.specs.declared.service.Service.{Service}
use Rattle.fam_model.specs.declared.state.Context.{Context}
use Rattle.fam_model.specs.declared.state.Started.TheVariants as started
use Rattle.fam_model.specs.declared.state.ProgramState.{ProgramState}
use Rattle.fam_model.specs.Issue.{issue_refusal, targets}
use Rattle.fam_model.specs.Lists.{◌>>=◌, when}
use Rattle.fam_model.specs.Pieces.{pieces, plan_kind, moved}
use Rattle.fam_model.specs.Programs.{open_context, with_context, counted}
use Rattle.fam_model.specs.Same.{same_reply}

-- a piece to which nothing has happened
abbrev pub left_piece : PlanPiece → MarkedPiece
left_piece piece = record { piece = piece; mark = mark.Left }

-- an operation as it is issued, with all its pieces left
abbrev pub new_operation : ℕ → ℕ → DataOp → Bool → List PlanPiece → Operation
new_operation call epoch op blocking ps =
    record {
      call = call;
      epoch = epoch;
      kind = plan_kind op;
      blocking = blocking;
      reported = false;
      pieces = map left_piece ps;
    }

-- a program with a new operation in a context: its counts rise, and a blocking call is started
abbrev pub with_issued : ProgramState → ℕ → Context → DataOp → Bool → List PlanPiece → ProgramState
with_issued p c context op blocking ps =
    let operation = new_operation p.next_call context.epoch op blocking ps in
    record (with_context p c (record context { operations = context.operations ++ operation ∷ [] })) {
      data_calls = p.data_calls + 1;
      moved = p.moved + moved op;
      pieces = p.pieces + length ps;
      next_call = p.next_call + 1;
      started = if blocking then started.Operation p.next_call else started.Nothing;
    }

-- the program once a data call is accepted; no other call is
abbrev pub accepted : Service → ProgramState → Call → Option ProgramState
accepted service p (call.Data c op blocking) = do
  context ← open_context p c
  items ← targets p op
  Some (with_issued p c context op blocking (pieces service op items.0 items.1))
accepted service p _ = None

-- a refused call leaves all as it was but the call number; an accepted one is issued
abbrev pub issue_with : Option FamError → Service → ProgramState → Call → Reply → Option ProgramState
issue_with (Some error) service p asked given = when (same_reply given (reply.Error error)) (counted p)
issue_with None service p asked given = do
  next ← accepted service p asked
  when (same_reply given reply.Issued) next

-- the issue of a call: of each data call, and of any other that is refused at once
abbrev pub issue_step : Service → ProgramState → Call → Reply → Option ProgramState
issue_step service p asked given = issue_with (issue_refusal service p asked) service p asked given
