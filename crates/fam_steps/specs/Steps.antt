-- What may be asked of the service on one thread, and what comes of it.
use Rattle.std.specs.Prelude.{◌≡◌, ℕ, Bool, true, false, List, [], ◌∷◌, ◌++◌, Option, Some, None, Result, Ok, Err, is_some, not}
use Rattle.fam_base.specs.declared.error.FamError.TheVariants as error
use Rattle.fam_keeper.specs.declared.kept.Kept.{Kept}
use Rattle.fam_keeper.specs.declared.kept.Kept.TheVariants.{Served, Refused}
use Rattle.fam_model.specs.declared.call.Call.{Call}
use Rattle.fam_model.specs.declared.call.Call.TheVariants as call
use Rattle.fam_model.specs.declared.event.Event.{Event}
use Rattle.fam_model.specs.declared.event.What.{What}
use Rattle.fam_model.specs.declared.event.What.TheVariants as what
use Rattle.fam_model.specs.declared.change.Change.{Change}
use Rattle.fam_model.specs.declared.reply.PieceAnswer.{PieceAnswer}
use Rattle.fam_model.specs.declared.reply.Reply.{Reply}
use Rattle.fam_model.specs.declared.state.Started.TheVariants as begun
use Rattle.fam_model.specs.declared.state.State.{State}
use Rattle.fam_model.specs.Directory.{first_choice}
use Rattle.fam_model.specs.Earned.{is_disk_fault}
use Rattle.fam_model.specs.History.{change_served, state_after}
use Rattle.fam_model.specs.Limits.{service_limits}
use Rattle.fam_model.specs.Lists.{◌>>=◌, is_some_and}
use Rattle.fam_model.specs.Programs.{program_of, request_of}
use Rattle.fam_model.specs.Step.{step}
use Rattle.fam_model.specs.Turn.{call_made, is_idle}
use Rattle.fam_schedule.specs.Schedule.{Comes, PieceName, event_of, loss, piece_event}
use Rattle.fam_turns.specs.Turns.{event_with, next_by}
use Rattle.fam_steps.specs.declared.step.Step.{Step}
use Rattle.fam_steps.specs.declared.step.Step.TheVariants as asked
use Rattle.fam_steps.specs.declared.step.CoreFault.{CoreFault}
use Rattle.fam_steps.specs.declared.step.CoreFault.TheVariants.{Memory, NotEnabled}

-- the change that serves a call of a program, with the least fitting base
abbrev pub least_change : State → ℕ → Option Call → Option Change
least_change state pe (Some (call.Meta asked)) = do
  p ← program_of state pe
  request ← request_of p asked
  first_choice state.rows p.who request
least_change state pe made = None

-- events

-- An event has the shape of a step: it is of that program, and makes that call or moves that piece.
abbrev pub HasShape : Step → Event → Type 0
HasShape (asked.Call pe call) event = (event.pe ≡ pe) × (call_made event.what ≡ Some call)
HasShape (asked.Answer pe) event = (event.pe ≡ pe) × ((given : Reply) × (event.what ≡ what.Answer given))
HasShape (asked.Piece pe call piece) event =
    (event.pe ≡ pe) × (event.call ≡ call) × ((given : PieceAnswer) × (event.what ≡ what.Piece piece given))
HasShape (asked.Lose pe call piece) event = (event.pe ≡ pe) × (event.call ≡ call) × (event.what ≡ what.Lose piece)

-- the name of a piece
abbrev pub piece_name : ℕ → ℕ → ℕ → PieceName
piece_name pe call piece = record { pe = pe; call = call; piece = piece }

-- The event that a step is for: of all that have its shape, the one of the schedule. A new item gets the least fitting base,
-- and a piece is answered as memory and the directory say.
abbrev pub event_for : State → Step → Option Event
event_for state (asked.Call pe call) = do
  p ← program_of state pe.0
  next ← next_by state.service state.rows p begun.Nothing (Some call)
  Some (event_of pe.0 next.call next.what)
event_for state (asked.Answer pe) = do
  p ← program_of state pe.0
  next ← next_by state.service state.rows p p.started None
  Some (event_of pe.0 next.call next.what)
event_for state (asked.Piece pe call piece) = piece_event state (piece_name pe.0 call piece)
event_for state (asked.Lose pe call piece) = Some (loss (piece_name pe.0 call piece))

-- no event of the shape of a step has a next state
abbrev pub IsNotEnabled : State → Step → Type 0
IsNotEnabled state asked = (event : Event) → HasShape asked event → step service_limits state event ≡ None

-- this is the event that a step is for, and it may come
pub record IsEnabled (state : State) (asked : Step) (event : Event) : Type 0 where
  pub shape : HasShape asked event
  pub is_due : event_for state asked ≡ Some event
  pub comes : is_some (step service_limits state event) ≡ true

-- the event that a step is for, if any of its shape may come
abbrev pub IsFound : State → Step → Option Event → Type 0
IsFound state asked (Some event) = IsEnabled state asked event
IsFound state asked None = IsNotEnabled state asked

-- what comes

-- what is told where the disk refuses a change
abbrev pub refused_what : What → Bool → What
refused_what (what.Meta asked given) doubt = what.Refused (call.Meta asked) error.DiskFault doubt
refused_what made doubt = made

-- the event that comes where this one is due, by whether its change was kept
abbrev pub come : Event → Kept → Event
come due Served = due
come due (Refused doubt) = record due { what = refused_what due.what doubt }

-- An event that is due may come, and is no refusal by a disk. Where it would serve a change, that is the one with the least
-- fitting base.
pub record IsDue (state : State) (due : Event) : Type 0 where
  pub comes : is_some (step service_limits state due) ≡ true
  pub calm : is_disk_fault due.what ≡ false
  pub least : (change : Change) → change_served state due ≡ Some change → least_change state due.pe.0 (call_made due.what) ≡ Some change

-- calls

-- the program has something started
abbrev pub has_started : State → ℕ → Bool
has_started state pe = is_some_and (program_of state pe) (λ p. not (is_idle p.started))

-- a crash
abbrev pub crash : Call
crash = call.Crash

-- the service

-- the events that the service has made, and its state after them
pub record Course : Type 0 where
  pub history : List Event
  pub state : State

-- it began in this state and made nothing yet
abbrev pub begun_in : State → Course
begun_in start = record { history = []; state = start }

-- a service that began in this state made one legal history
abbrev pub Ran : State → Course → Type 0
Ran start course = state_after service_limits start course.history ≡ Some course.state

-- in whichever state it began, its history is still legal
abbrev pub GoesOn : Course → Course → Type 0
GoesOn old new = (start : State) → Ran start old → Ran start new

-- an event was made
pub record Makes (old : Course) (event : Event) (new : Course) : Type 0 where
  pub steps : step service_limits old.state event ≡ Some new.state
  pub kept : new.history ≡ old.history ++ event ∷ []

-- an event was made where one is due: this one, or in its place its refusal by the disk
pub record MakesDue (old : Course) (due event : Event) (new : Course) : Type 0 where
  pub comes : Comes old.state due event
  pub makes : Makes old event new

-- An event was made that has the shape of a step. It is the one that the step is for, or its refusal by the disk.
pub record Serves (old : Course) (asked : Step) (event : Event) (new : Course) : Type 0 where
  pub shape : HasShape asked event
  pub due : Event
  pub is_due : event_for old.state asked ≡ Some due
  pub makes : MakesDue old due event new

-- what comes of a step; after a fault the service is as it was
abbrev pub Applies : Course → Step → Course → Result Event CoreFault → Type 0
Applies old asked new (Ok event) = Serves old asked event new
Applies old asked new (Err NotEnabled) = IsNotEnabled old.state asked × (new ≡ old)
Applies old asked new (Err Memory) = new ≡ old

-- the same where the event is not handed out
abbrev pub Advances : Course → Step → Course → Result Unit CoreFault → Type 0
Advances old asked new (Ok _) = (event : Event) × Serves old asked event new
Advances old asked new (Err NotEnabled) = IsNotEnabled old.state asked × (new ≡ old)
Advances old asked new (Err Memory) = new ≡ old

-- the next event of a program was made, where this is its next call, or its refusal by the disk
abbrev pub TakesTurn : Course → ℕ → Option Call → Course → Result Unit CoreFault → Type 0
TakesTurn old pe wanted new (Ok _) =
    (due : Event) × (event : Event) × (event_with old.state pe wanted ≡ Some due) × MakesDue old due event new
TakesTurn old pe wanted new (Err NotEnabled) = (event_with old.state pe wanted ≡ None) × (new ≡ old)
TakesTurn old pe wanted new (Err Memory) = new ≡ old
