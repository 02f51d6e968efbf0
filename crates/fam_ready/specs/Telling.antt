-- What was asked anew of the pieces of a program after an event, and what the lists have then.
use Rattle.std.specs.Prelude.{◌≡◌, ℕ, ◌+◌, ◌<◌, ◌≤◌, ◌≢◌, Bool, true, not, ◌==◌, ◌&&◌, ◌||◌, nat_le, nat_lt, List, length, slice_get, Some, if◌then◌else◌}
use Rattle.fam_context.specs.Effects.{may_come_of}
use Rattle.fam_context.specs.Order.{are_in_turn, reads_of}
use Rattle.fam_model.specs.declared.event.What.{What}
use Rattle.fam_model.specs.declared.event.What.TheVariants as what
use Rattle.fam_model.specs.declared.piece.Operation.{Operation}
use Rattle.fam_model.specs.declared.reply.Reply.{Reply}
use Rattle.fam_model.specs.declared.reply.Reply.TheVariants as reply
use Rattle.fam_model.specs.declared.state.Context.{Context}
use Rattle.fam_model.specs.declared.state.ProgramState.{ProgramState}
use Rattle.fam_model.specs.Lists.{is_some_and, place_of}
use Rattle.fam_model.specs.Operations.{has_left, is_copy}
use Rattle.fam_model.specs.Programs.{call_number, operation_of, Placed, placed}
use Rattle.fam_schedule.specs.Schedule.{PieceName}
use Rattle.ready_lists.specs.Lists.{AreSorted, has_name, names_at}

-- which pieces were asked for, by call and number

-- one piece
abbrev pub is_piece : ℕ → ℕ → ℕ → ℕ → Bool
is_piece call j u i = u == call && i == j

-- the pieces of a call with numbers below j
abbrev pub is_below : ℕ → ℕ → ℕ → ℕ → Bool
is_below call j u i = u == call && nat_lt i j

-- all pieces of a call
abbrev pub is_call : ℕ → ℕ → ℕ → Bool
is_call call u i = u == call

-- all pieces of the operations between two places
abbrev pub is_between : Context → ℕ → ℕ → ℕ → ℕ → Bool
is_between context from to u i = is_some_and (place_of call_number u context.operations) (λ k. nat_le from k && nat_lt k to)

-- those, or these
abbrev pub is_either : (ℕ → ℕ → Bool) → (ℕ → ℕ → Bool) → ℕ → ℕ → Bool
is_either one other u i = one u i || other u i

-- the answers

-- the piece lies on the stripe
abbrev pub lies_on : ℕ → Operation → ℕ → Bool
lies_on stripe operation i = is_some_and (slice_get operation.pieces i) (λ marked. marked.piece.place.stripe == stripe)

-- piece i of the call u lies on the stripe
abbrev pub lies_in : Context → ℕ → ℕ → ℕ → Bool
lies_in context stripe u i = is_some_and (operation_of context u) (λ operation. lies_on stripe operation i)

-- the name is of a piece on the stripe that was asked for
abbrev pub is_told : Context → ℕ → (ℕ → ℕ → Bool) → ℕ → PieceName → Bool
is_told context pe asked stripe name = name.pe == pe && (asked name.call name.piece && lies_in context stripe name.call name.piece)

-- of each piece that was asked for the list of its stripe has now whether it may come; all else is as it was
pub record Tells (context : Context) (pe : ℕ) (asked : ℕ → ℕ → Bool) (old new : List (List PieceName)) : Type 0 where
  pub stripes : length new ≡ length old
  pub sorted : AreSorted old → AreSorted new
  pub names : (stripe : ℕ) (name : PieceName) → stripe < length old →
      has_name name (names_at new stripe)
      ≡ (if is_told context pe asked stripe name then may_come_of context name.call name.piece else has_name name (names_at old stripe))

-- what is freed

-- an operation of the epoch comes after none with a piece left
abbrev pub comes_after : ℕ → Operation → Bool
comes_after epoch earlier = nat_le epoch earlier.epoch || not (has_left earlier)

-- Of the operations of a later epoch than this all that have a piece left, and stand behind no fence, lie between these
-- places.
pub record Covers (epoch : ℕ) (context : Context) (from to : ℕ) : Type 0 where
  pub between : (k : ℕ) (operation : Operation) → slice_get context.operations k ≡ Some operation → epoch < operation.epoch →
      has_left operation ≡ true →
      ((i : ℕ) (earlier : Operation) → slice_get context.operations i ≡ Some earlier → comes_after operation.epoch earlier ≡ true) →
      (from ≤ k) × (k < to)

-- the operation at the second place, if there is one, is of another epoch than that at the first
pub record EndsEpoch (operations : List Operation) (from to : ℕ) : Type 0 where
  pub behind : from ≤ to
  pub within : to ≤ length operations
  pub another : (one other : Operation) → slice_get operations from ≡ Some one → slice_get operations to ≡ Some other →
      one.epoch ≢ other.epoch

-- events

-- piece j of the operation was asked for, and the one after it, and what is freed
pub record AsksAgain (at : Placed) (pe j : ℕ) (old new : List (List PieceName)) : Type 0 where
  pub from : ℕ
  pub to : ℕ
  pub covers : Covers at.operation.epoch at.context from to
  pub turns : is_copy at.operation.kind ≡ true → are_in_turn (reads_of at.operation.pieces) ≡ true
  pub tells : Tells at.context pe
      (is_either (is_either (is_piece at.operation.call j) (is_piece at.operation.call (j + 1))) (is_between at.context from to)) old new

-- after piece j of a call was answered or lost
abbrev pub FollowsPiece : ProgramState → ℕ → ℕ → ℕ → List (List PieceName) → List (List PieceName) → Type 0
FollowsPiece p pe call j old new = (at : Placed) → placed p call ≡ Some at → AsksAgain at pe j old new

-- after a call was accepted
abbrev pub FollowsIssue : ProgramState → ℕ → ℕ → List (List PieceName) → List (List PieceName) → Type 0
FollowsIssue p pe call old new = (at : Placed) → placed p call ≡ Some at → Tells at.context pe (is_call at.operation.call) old new

-- after a call had this reply
abbrev pub FollowsReply : Reply → ProgramState → ℕ → ℕ → List (List PieceName) → List (List PieceName) → Type 0
FollowsReply reply.Issued p pe call old new = FollowsIssue p pe call old new
FollowsReply _ p pe call old new = new ≡ old

-- after any event
abbrev pub Follows : What → ProgramState → ℕ → ℕ → List (List PieceName) → List (List PieceName) → Type 0
Follows (what.Piece j given) p pe call old new = FollowsPiece p pe call j old new
Follows (what.Lose j) p pe call old new = FollowsPiece p pe call j old new
Follows (what.Issue asked given) p pe call old new = FollowsReply given p pe call old new
Follows _ p pe call old new = new ≡ old
