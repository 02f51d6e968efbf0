-- Pieces of a program, in whichever context their operation is.
use Rattle.std.specs.Prelude.{ℕ, ◌+◌, Bool, false, ◌&&◌, List, [], ◌∷◌, ◌++◌, length, replicate, position, slice_get, slice_set, Option, Some, None}
use Rattle.std.specs.Option.{option_map_or}
use Rattle.fam_layout.specs.declared.plan.Plan.{Plan}
use Rattle.fam_context.specs.declared.tracked.Tracked.{Tracked}
use Rattle.fam_context.specs.Effects.{is_answer_of, answered_with, with_flag}
use Rattle.fam_context.specs.Order.{tracked}
use Rattle.fam_model.specs.declared.call.DataOp.{DataOp}
use Rattle.fam_model.specs.declared.piece.MarkedPiece.{MarkedPiece}
use Rattle.fam_model.specs.declared.piece.PlanPiece.{PlanPiece}
use Rattle.fam_model.specs.declared.reply.PieceAnswer.{PieceAnswer}
use Rattle.fam_model.specs.declared.state.ProgramState.{ProgramState}
use Rattle.fam_model.specs.IssueStep.{with_issued}
use Rattle.fam_model.specs.Lists.{◌>>=◌, is_some_and, change_place}
use Rattle.fam_model.specs.Operations.{is_left}
use Rattle.fam_model.specs.Programs.{open_context, context_of, has_operation, placed, with_placed}
use Rattle.fam_program.specs.declared.tracked.TrackedProgram.{TrackedProgram}

-- contexts as they are kept

-- the place of the context that has the operation of a call
abbrev pub place_in : List Tracked → ℕ → Option ℕ
place_in contexts call = position (λ t. has_operation t.context call) contexts

-- the context that has the operation of a call
abbrev pub holder_in : List Tracked → ℕ → Option Tracked
holder_in contexts call = place_in contexts call >>= λ c. slice_get contexts c

-- pieces

-- a piece of the operation of a call
abbrev pub piece_of : ProgramState → ℕ → ℕ → Option MarkedPiece
piece_of p call j = placed p call >>= λ at. slice_get at.operation.pieces j

-- the piece is there and left
abbrev pub is_left_piece : ProgramState → ℕ → ℕ → Bool
is_left_piece p call j = is_some_and (placed p call) (λ at. is_some_and (slice_get at.operation.pieces j) is_left)

-- the piece is left, and may have this answer: so many bytes as it has for a read and a fetching atomic
abbrev pub may_collect : ProgramState → ℕ → ℕ → PieceAnswer → Bool
may_collect p call j given =
    is_some_and (placed p call) (λ at.
    is_some_and (slice_get at.operation.pieces j) (λ q. is_left q && is_answer_of at.operation.kind q.piece given))

-- the program once a piece has this answer; a copy's read has the bytes that it read
abbrev pub collected_step : ProgramState → ℕ → ℕ → PieceAnswer → Option ProgramState
collected_step p call j given = do
  at ← placed p call
  left ← slice_get at.operation.pieces j
  Some (with_placed p at (answered_with at.operation j left.piece given))

-- what is out

-- what is out in one context, once a piece is out or is not
abbrev pub flags_at : TrackedProgram → ℕ → ℕ → ℕ → Bool → List (List (List Bool))
flags_at h c call j flag =
    option_map_or (λ context.
    option_map_or (λ out. slice_set h.out c (with_flag (tracked context out) call j flag)) (slice_get h.out c) h.out)
    (slice_get h.state.contexts c) h.out

-- what is out, once a piece is out or is not
abbrev pub with_flags : TrackedProgram → ℕ → ℕ → Bool → List (List (List Bool))
with_flags h call j flag = option_map_or (λ c. flags_at h c call j flag) (context_of h.state call) h.out

-- issue

-- the program with a new operation of these pieces in an open context
abbrev pub issued_step : ProgramState → ℕ → DataOp → Bool → List PlanPiece → Option ProgramState
issued_step p c op blocking ps = do
  context ← open_context p c
  Some (with_issued p c context op blocking ps)

-- what is out, with an operation more of which nothing is out
abbrev pub with_none_out : List (List (List Bool)) → ℕ → ℕ → List (List (List Bool))
with_none_out out c n = change_place c (λ flags. flags ++ replicate n false ∷ []) out
