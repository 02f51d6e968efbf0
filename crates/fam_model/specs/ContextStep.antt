-- Answers, and the calls that open, order, report and close contexts.
use Rattle.std.specs.Prelude.{ℕ, ◌+◌, true, false, not, ◌==◌, ◌&&◌, [], slice_get, Option, Some, None}
use Rattle.fam_model.specs.declared.reply.Reply.{Reply}
use Rattle.fam_model.specs.declared.reply.Reply.TheVariants as reply
use Rattle.fam_model.specs.declared.state.Context.{Context}
use Rattle.fam_model.specs.declared.state.Started.{Started}
use Rattle.fam_model.specs.declared.state.Started.TheVariants as started
use Rattle.fam_model.specs.declared.state.ProgramState.{ProgramState}
use Rattle.fam_model.specs.Lists.{◌>>=◌, when}
use Rattle.fam_model.specs.Operations.{has_left, is_pending, result, report, reported, as_reported}
use Rattle.fam_model.specs.Programs.{has_passed, is_open, open_context, with_context, with_operation, placed, with_placed, unreported_copy, counted}
use Rattle.fam_model.specs.Same.{same_reply}

-- answers

-- the program with nothing started
abbrev pub with_nothing_started : ProgramState → ProgramState
with_nothing_started p = record p { started = started.Nothing }

-- the answer of a started operation with no piece left is its result
abbrev pub answered_step : ProgramState → ℕ → Reply → Option ProgramState
answered_step p call given = do
  at ← placed p call
  when (not (has_left at.operation) && same_reply given (result at.operation))
      (with_nothing_started (with_placed p at (as_reported at.operation)))

-- an answer: of the started operation, or that the round of the started barrier has passed
abbrev pub answer_step : Started → ℕ → ProgramState → Reply → Option ProgramState
answer_step started.Nothing round p given = None
answer_step (started.Operation call) round p given = answered_step p call given
answer_step (started.Barrier call) round p given =
    when (has_passed round p && same_reply given reply.Passed) (with_nothing_started p)

-- contexts

-- a context as it is opened
abbrev pub new_context : Context
new_context = record { is_open = true; epoch = 0; operations = [] }

-- opening a context that is not open
abbrev pub open_step : ProgramState → ℕ → Option ProgramState
open_step p c = when (not (is_open p c)) (with_context (counted p) c new_context)

-- a fence raises the epoch by one
abbrev pub fence_step : ProgramState → ℕ → Option ProgramState
fence_step p c = do
  context ← open_context p c
  Some (with_context (counted p) c (record context { epoch = context.epoch + 1 }))

-- a quiet comes where no piece is left, and reports
abbrev pub quiet_step : ProgramState → ℕ → Reply → Option ProgramState
quiet_step p c given = do
  context ← open_context p c
  when (not (is_pending context) && same_reply given (report context)) (with_context (counted p) c (reported context))

-- closing is a quiet, of any context but the first, which is then not open
abbrev pub close_step : ProgramState → ℕ → Reply → Option ProgramState
close_step p c given = do
  context ← open_context p c
  when (not (c == 0) && not (is_pending context) && same_reply given (report context))
      (with_context (counted p) c (record (reported context) { is_open = false }))

-- waiting for an unreported copy with no piece left gives its result
abbrev pub wait_step : ProgramState → ℕ → ℕ → Reply → Option ProgramState
wait_step p c named given = do
  context ← slice_get p.contexts c
  operation ← unreported_copy p c named
  when (not (has_left operation) && same_reply given (result operation))
      (with_context (counted p) c (with_operation context (as_reported operation)))
