-- What a context tells of its operations, and how calls change it.
use Rattle.std.specs.Prelude.{ℕ, ◌+◌, Bool, true, false, not, ◌==◌, ◌&&◌, ◌||◌, List, [], ◌∷◌, ◌++◌, map, length, replicate, slice_get, count_by, Option, if◌then◌else◌}
use Rattle.std.specs.Option.{option_map_or, option_map}
use Rattle.fam_layout.specs.declared.plan.Plan.{Plan}
use Rattle.fam_model.specs.declared.piece.PieceKind.{PieceKind}
use Rattle.fam_model.specs.declared.piece.PieceKind.TheVariants as kind
use Rattle.fam_model.specs.declared.piece.PlanKind.{PlanKind}
use Rattle.fam_model.specs.declared.piece.PlanKind.TheVariants as plan
use Rattle.fam_model.specs.declared.piece.PlanPiece.{PlanPiece}
use Rattle.fam_model.specs.declared.piece.MarkedPiece.{MarkedPiece}
use Rattle.fam_model.specs.declared.piece.Mark.{Mark}
use Rattle.fam_model.specs.declared.piece.Mark.TheVariants as mark
use Rattle.fam_model.specs.declared.piece.Operation.{Operation}
use Rattle.fam_model.specs.declared.reply.PieceAnswer.{PieceAnswer}
use Rattle.fam_model.specs.declared.reply.PieceAnswer.TheVariants as answer
use Rattle.fam_model.specs.declared.reply.Reply.{Reply}
use Rattle.fam_model.specs.declared.state.Context.{Context}
use Rattle.fam_model.specs.IssueStep.{left_piece}
use Rattle.fam_model.specs.Lists.{◌>>=◌, when, is_some_and, place_of, change_place}
use Rattle.fam_model.specs.Operations.{is_left, has_left, may_come, is_copy, as_reported, result, reported as all_reported}
use Rattle.fam_model.specs.PieceStep.{is_copy_read, handed, marked, with_answer, without_piece}
use Rattle.fam_model.specs.Programs.{call_number, operation_of, with_operation}
use Rattle.fam_model.specs.Same.{same_reply}
use Rattle.fam_context.specs.declared.tracked.Tracked.{Tracked}

-- what is told

-- a piece of the operation of a call
abbrev pub piece_of : Context → ℕ → ℕ → Option MarkedPiece
piece_of context call j = operation_of context call >>= λ operation. slice_get operation.pieces j

-- the piece is there and left
abbrev pub is_left_of : Context → ℕ → ℕ → Bool
is_left_of context call j = is_some_and (piece_of context call j) is_left

-- the piece is there and may come
abbrev pub may_come_of : Context → ℕ → ℕ → Bool
may_come_of context call j = is_some_and (operation_of context call) (λ operation. may_come context operation j)

-- the operation of a call, where its result was not told
abbrev pub untold_of : Context → ℕ → Option Operation
untold_of context call = operation_of context call >>= λ operation. when (not operation.reported) operation

-- the pieces of an operation that are left
abbrev pub left_count : Operation → ℕ
left_count operation = count_by is_left operation.pieces

-- the pieces left of the operation of a call, where its result was not told
abbrev pub left_of : Context → ℕ → Option ℕ
left_of context call = option_map left_count (untold_of context call)

-- the operation of a call is a copy whose result was not told
abbrev pub is_copy_of : Context → ℕ → Bool
is_copy_of context call = is_some_and (untold_of context call) (λ operation. is_copy operation.kind)

-- the operation of a call is there, and this is its result
abbrev pub is_result_of : Context → ℕ → Reply → Bool
is_result_of context call given =
    is_some_and (operation_of context call) (λ operation. same_reply given (result operation))

-- opening, closing and fences

-- the context is not open
abbrev pub closed : Tracked → Tracked
closed t = record t { context = record t.context { is_open = false } }

-- the epoch is one more
abbrev pub fenced : Tracked → Tracked
fenced t = record t { context = record t.context { epoch = t.context.epoch + 1 } }

-- issue

-- the operation of a plan, with all its pieces left
abbrev pub planned_operation : ℕ → ℕ → Plan → Bool → Operation
planned_operation call epoch plan blocking =
    record {
      call = call;
      epoch = epoch;
      kind = plan.kind;
      blocking = blocking;
      reported = false;
      pieces = map left_piece plan.pieces;
    }

-- the context with one operation more
abbrev pub with_one_more : Context → Operation → Context
with_one_more context operation = record context { operations = context.operations ++ operation ∷ [] }

-- one operation more, with nothing out
abbrev pub issued : Tracked → ℕ → Plan → Bool → Tracked
issued t call plan blocking =
    record {
      context = with_one_more t.context (planned_operation call t.context.epoch plan blocking);
      out = t.out ++ replicate (length plan.pieces) false ∷ [];
    }

-- what is out

-- the piece is out
abbrev pub is_out : Tracked → ℕ → ℕ → Bool
is_out t call j =
    is_some_and (place_of call_number call t.context.operations) (λ k.
    is_some_and (slice_get t.out k) (λ flags. is_some_and (slice_get flags j) (λ flag. flag)))

-- the piece may come, and is not out
abbrev pub may_post : Tracked → ℕ → ℕ → Bool
may_post t call j = may_come_of t.context call j && not (is_out t call j)

-- what is out once this piece is, or is not
abbrev pub with_flag : Tracked → ℕ → ℕ → Bool → List (List Bool)
with_flag t call j flag =
    option_map_or (λ k. change_place k (change_place j (λ _. flag)) t.out) (place_of call_number call t.context.operations)
    t.out

-- answers

-- a get, a copy's read and a fetching atomic are answered with bytes
abbrev pub gives_bytes : PlanKind → PieceKind → Bool
gives_bytes _ kind.Read = true
gives_bytes plan.Fetch (kind.Atomic op width a b) = true
gives_bytes _ _ = false

-- a piece may have this answer: a refusal, or just so many bytes as it has, or that it is done
abbrev pub is_answer_of : PlanKind → PlanPiece → PieceAnswer → Bool
is_answer_of plan piece answer.Ok = not (gives_bytes plan piece.kind)
is_answer_of plan piece (answer.Data bytes) = gives_bytes plan piece.kind && length bytes == piece.n
is_answer_of plan piece (answer.Refused error) = true

-- piece j is left, and may have this answer
abbrev pub may_answer : Operation → ℕ → PieceAnswer → Bool
may_answer operation j given =
    is_some_and (slice_get operation.pieces j) (λ p. is_left p && is_answer_of operation.kind p.piece given)

-- the piece of the operation of a call is left, and may have this answer
abbrev pub may_collect : Context → ℕ → ℕ → PieceAnswer → Bool
may_collect context call j given = is_some_and (operation_of context call) (λ operation. may_answer operation j given)

-- the operation with another mark of piece j
abbrev pub with_mark : ℕ → Mark → Operation → Operation
with_mark j new operation = record operation { pieces = change_place j (marked new) operation.pieces }

-- the operation with other pieces
abbrev pub with_pieces : (List MarkedPiece → List MarkedPiece) → Operation → Operation
with_pieces change operation = record operation { pieces = change operation.pieces }

-- the operation with other bytes of piece j
abbrev pub with_bytes : ℕ → List ℕ → Operation → Operation
with_bytes j bytes operation = record operation { pieces = change_place j (handed answer.Ok bytes) operation.pieces }

-- the pieces once the read of a copy at j has this answer
abbrev pub handed_over : ℕ → PieceAnswer → List MarkedPiece → List MarkedPiece
handed_over j (answer.Data bytes) pieces =
    change_place (j + 1) (handed answer.Ok bytes) (change_place j (marked (mark.Answered answer.Ok)) pieces)
handed_over j given pieces = change_place (j + 1) (handed given []) (change_place j (marked (mark.Answered given)) pieces)

-- the operation once piece j has this answer; the bytes of a copy's read go to its write
abbrev pub answered_with : Operation → ℕ → PlanPiece → PieceAnswer → Operation
answered_with operation j piece (answer.Data bytes) =
    if is_copy_read operation piece
    then with_answer operation j piece answer.Ok bytes
    else with_answer operation j piece (answer.Data bytes) bytes
answered_with operation j piece given = with_answer operation j piece given []

-- the operation once piece j has this answer, if it is there
abbrev pub with_collected : Operation → ℕ → PieceAnswer → Operation
with_collected operation j given =
    option_map_or (λ p. answered_with operation j p.piece given) (slice_get operation.pieces j) operation

-- the operation once piece j is lost, if it is there
abbrev pub with_lost : Operation → ℕ → Operation
with_lost operation j = option_map_or (λ p. without_piece operation j p.piece) (slice_get operation.pieces j) operation

-- the context with the operation of a call changed
abbrev pub changed : Context → ℕ → (Operation → Operation) → Context
changed context call change =
    option_map_or (λ operation. with_operation context (change operation)) (operation_of context call) context

-- the context once this piece has its answer
abbrev pub collected : Tracked → ℕ → ℕ → PieceAnswer → Tracked
collected t call j given =
    record {
      context = changed t.context call (λ operation. with_collected operation j given);
      out = with_flag t call j false;
    }

-- the context once this piece is lost
abbrev pub lost : Tracked → ℕ → ℕ → Tracked
lost t call j =
    record { context = changed t.context call (λ operation. with_lost operation j); out = with_flag t call j false }

-- the context once the result of a call was told
abbrev pub told : Tracked → ℕ → Tracked
told t call = record t { context = changed t.context call as_reported }

-- the context once all results were told
abbrev pub reported : Tracked → Tracked
reported t = record t { context = all_reported t.context }

-- the context once this piece is out
abbrev pub posted : Tracked → ℕ → ℕ → Tracked
posted t call j = record t { out = with_flag t call j true }

-- the operation of a call is blocking or a copy, has no piece left, and its result was not told
abbrev pub may_tell : Context → ℕ → Bool
may_tell context call =
    is_some_and (untold_of context call) (λ operation. (operation.blocking || is_copy operation.kind) && not (has_left operation))
