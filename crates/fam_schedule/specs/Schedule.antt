-- Which event comes next on one thread: an actor is drawn among those that may act, and it takes one step.
use Rattle.std.specs.Prelude.{◌≡◌, ◌⊎◌, ℕ, ◌%◌, Bool, true, not, ◌==◌, ◌&&◌, nat_le, List, [], ◌∷◌, ◌++◌, map, filter, length, slice_get, Option, Some, None, is_some, if◌then◌else◌}
use Rattle.std.specs.List.{filter_map, flat_map, enumerate_from}
use Rattle.std.specs.Option.{option_map, option_map_or, option_or}
use Rattle.rand_pcg.specs.Lcg.{Lcg, started, increment_of}
use Rattle.rand_pcg.specs.Pcg.{multiplier_64, pcg32}
use Rattle.fam_base.specs.declared.error.FamError.TheVariants as error
use Rattle.fam_base.specs.declared.naming.Who.{Who}
use Rattle.fam_model.specs.declared.call.Call.{Call}
use Rattle.fam_model.specs.declared.call.Call.TheVariants as call
use Rattle.fam_model.specs.declared.call.MetaCall.{MetaCall}
use Rattle.fam_model.specs.declared.event.Event.{Event}
use Rattle.fam_model.specs.declared.event.What.{What}
use Rattle.fam_model.specs.declared.event.What.TheVariants as what
use Rattle.fam_model.specs.declared.reply.Reply.{Reply}
use Rattle.fam_model.specs.declared.reply.Reply.TheVariants as reply
use Rattle.fam_model.specs.declared.request.Request.{Request}
use Rattle.fam_model.specs.declared.rows.Rows.{Rows}
use Rattle.fam_model.specs.declared.script.Script.{Script}
use Rattle.fam_model.specs.declared.service.Service.{Service}
use Rattle.fam_model.specs.declared.state.ProgramState.{ProgramState}
use Rattle.fam_model.specs.declared.state.Started.{Started}
use Rattle.fam_model.specs.declared.state.Started.TheVariants as begun
use Rattle.fam_model.specs.declared.state.State.{State}
use Rattle.fam_model.specs.Directory.{answer, refusal, first_choice}
use Rattle.fam_model.specs.Headline.{opening}
use Rattle.fam_model.specs.History.{calls, change_served}
use Rattle.fam_model.specs.Issue.{issue_refusal}
use Rattle.fam_model.specs.Limits.{service_limits}
use Rattle.fam_model.specs.Lists.{◌>>=◌, when, is_some_and, numbers_below}
use Rattle.fam_model.specs.MetaStep.{unchanging_reply}
use Rattle.fam_model.specs.Operations.{may_come, result, report}
use Rattle.fam_model.specs.Pieces.{stripe_count}
use Rattle.fam_model.specs.PieceStep.{due_answer}
use Rattle.fam_model.specs.Programs.{request_of, open_context, unreported_copy, placed, Placed, program_of, has_crashed}
use Rattle.fam_model.specs.Step.{step}
use Rattle.fam_model.specs.Text.{next_call}

-- a run so far: its events, the state after them, and the generator of the words that are still to be drawn
pub record Run : Type 0 where
  pub before : List Event
  pub now : State
  pub words : Lcg

-- an event of a program
abbrev pub event_of : ℕ → ℕ → What → Event
event_of pe call what = record { pe = record { 0 = pe }; call = call; what = what }

-- the next event of a program

-- the reply to a request: its refusal, or what it finds, or the answer of the choice with the least base
abbrev pub due_reply : Rows → Who → Request → Option Reply
due_reply rows who request =
    option_or (unchanging_reply (refusal rows who request) rows request) (option_map answer (first_choice rows who request))

-- the event by which a call begins that is not refused at once
abbrev pub begins : Rows → ProgramState → Call → Option What
begins rows p (call.Meta asked) = do
  request ← request_of p asked
  given ← due_reply rows p.who request
  Some (what.Meta asked given)
begins rows p (call.Data context op blocking) = Some (what.Issue (call.Data context op blocking) reply.Issued)
begins rows p (call.OpenContext c) = Some (what.OpenContext c)
begins rows p (call.CloseContext c) = do
  context ← open_context p c
  Some (what.CloseContext c (report context))
begins rows p (call.CopyWait c named) = do
  operation ← unreported_copy p c named
  Some (what.Wait c named (result operation))
begins rows p (call.Fence c) = Some (what.Fence c)
begins rows p (call.Quiet c) = do
  context ← open_context p c
  Some (what.Quiet c (report context))
begins rows p call.Barrier = Some what.Arrive
begins rows p call.Leave = Some what.Leave
begins rows p call.Crash = Some what.Crash

-- the event by which a call begins: it is refused at once, or it is not
abbrev pub first_event : Service → Rows → ProgramState → Call → Option What
first_event service rows p asked =
    option_map_or (λ error. Some (what.Issue asked (reply.Error error))) (issue_refusal service p asked) (begins rows p asked)

-- the replies that a program has had, in order
abbrev pub replies_to : List Event → ℕ → List Reply
replies_to history pe = filter_map (λ asked. asked.1) (calls history pe)

-- the next event of a program with this call started: its answer, or else the first event of its next call
abbrev pub event_after : Script → Run → ℕ → ProgramState → Started → Option Event
event_after script run pe p begun.Nothing = do
  program ← slice_get script.programs pe
  asked ← next_call program (replies_to run.before pe)
  first ← first_event run.now.service run.now.rows p asked
  Some (event_of pe p.next_call first)
event_after script run pe p (begun.Operation call) = do
  at ← placed p call
  Some (event_of pe call (what.Answer (result at.operation)))
event_after script run pe p (begun.Barrier call) = Some (event_of pe call (what.Answer reply.Passed))

-- the next event of a program, where it may come now
abbrev pub program_event : Script → Run → ℕ → Option Event
program_event script run pe = do
  p ← program_of run.now pe
  event ← event_after script run pe p p.started
  when (is_some (step service_limits run.now event)) event

-- the pieces of a stripe

-- a piece by its program, its call and its number
pub record PieceName : Type 0 where
  pub pe : ℕ
  pub call : ℕ
  pub piece : ℕ

-- piece j may come, and lies on the stripe
abbrev pub is_ready : ℕ → Placed → ℕ → Bool
is_ready stripe at j =
    may_come at.context at.operation j
    && is_some_and (slice_get at.operation.pieces j) (λ marked. marked.piece.place.stripe == stripe)

-- the pieces of a call that may come on a stripe, in order
abbrev pub ready_of_call : ℕ → ℕ → ProgramState → ℕ → List PieceName
ready_of_call stripe pe p call =
    option_map_or (λ at.
    map (λ j. record { pe = pe; call = call; piece = j })
    (filter (is_ready stripe at) (numbers_below (length at.operation.pieces))))
    (placed p call) []

-- those of a program, in order of call
abbrev pub ready_of_program : ℕ → ℕ → ProgramState → List PieceName
ready_of_program stripe pe p = flat_map (ready_of_call stripe pe p) (numbers_below p.next_call)

-- the pieces that may come on a stripe, in order of program, call and piece
abbrev pub ready_on : State → ℕ → List PieceName
ready_on state stripe =
    flat_map (λ entry. ready_of_program stripe entry.0 entry.1) (enumerate_from 0 state.programs)

-- the piece is answered as it is due
abbrev pub piece_event : State → PieceName → Option Event
piece_event state name = do
  p ← program_of state name.pe
  at ← placed p name.call
  left ← slice_get at.operation.pieces name.piece
  Some (event_of name.pe name.call (what.Piece name.piece (due_answer state.rows state.memory p.who at.operation.kind left.piece)))

-- the piece is lost
abbrev pub loss : PieceName → Event
loss name = event_of name.pe name.call (what.Lose name.piece)

-- the program of the piece has crashed
abbrev pub is_orphan : State → PieceName → Bool
is_orphan state name = is_some_and (program_of state name.pe) (λ p. has_crashed p.standing)

-- draws

-- a number below n and the words left; where there is no choice, none is drawn
abbrev pub drawn : ℕ → Lcg → ℕ × Lcg
drawn n words = if nat_le n 1 then (0, words) else ((pcg32 words).0 % n, (pcg32 words).1)

-- an event, and the generator of the words left
abbrev pub Step : Type 0
Step = Event × Lcg

-- the event with these words left
abbrev pub with_words : Lcg → Option Event → Option Step
with_words words event = option_map (λ e. (e, words)) event

-- what becomes of a piece that was taken: where its program has crashed, an odd word loses it
abbrev pub taken : State → PieceName → Lcg → Option Step
taken state name words =
    if is_orphan state name
    then (if (pcg32 words).0 % 2 == 1
    then Some (loss name, (pcg32 words).1)
    else with_words (pcg32 words).1 (piece_event state name))
    else with_words words (piece_event state name)

-- actors

-- who may act: a program, or a stripe
pub data Actor : Type 0 where
  Program : ℕ → Actor
  Stripe : ℕ → Actor

-- the list is not empty
abbrev pub is_some_of : {A : Type 0} → List A → Bool
is_some_of xs = not (length xs == 0)

-- the actors that may act, the programs in order and then the stripes in order
abbrev pub actors : Script → Run → List Actor
actors script run =
    map Program (filter (λ pe. is_some (program_event script run pe)) (numbers_below (length run.now.programs)))
    ++ map Stripe (filter (λ stripe. is_some_of (ready_on run.now stripe)) (numbers_below (stripe_count run.now.service)))

-- one step of an actor
abbrev pub acts : Script → Run → Actor → Lcg → Option Step
acts script run (Program pe) words = with_words words (program_event script run pe)
acts script run (Stripe stripe) words =
    let ready = ready_on run.now stripe in
    let choice = drawn (length ready) words in
    slice_get ready choice.0 >>= λ name. taken run.now name choice.1

-- the event that comes next; none where nobody may act
abbrev pub next_step : Script → Run → Option Step
next_step script run =
    let choice = drawn (length (actors script run)) run.words in
    slice_get (actors script run) choice.0 >>= λ actor. acts script run actor choice.1

-- histories

-- the run with one event more
abbrev pub went_on : Run → Event → State → Lcg → Run
went_on run event next words = record { before = run.before ++ event ∷ []; now = next; words = words }

-- the disk refuses the change that this event would serve; nothing is changed, and the change may be in doubt
pub record IsDiskRefusal (state : State) (due event : Event) : Type 0 where
  pub asked : MetaCall
  pub given : Reply
  pub doubt : Bool
  pub asks : due.what ≡ what.Meta asked given
  pub changes : is_some (change_served state due) ≡ true
  pub is : event ≡ event_of due.pe.0 due.call (what.Refused (call.Meta asked) error.DiskFault doubt)

-- what comes where this event is due: it, or in its place its refusal by the disk
abbrev pub Comes : State → Event → Event → Type 0
Comes state due event = (event ≡ due) ⊎ IsDiskRefusal state due event

-- by these events, each of which comes where one is due, a run leads to another
abbrev pub LeadsTo : Script → Run → List Event → Run → Type 0
LeadsTo script run [] end = end ≡ run
LeadsTo script run (event ∷ history) end =
    (due : Event) × (words : Lcg) × (next : State) × (next_step script run ≡ Some (due, words)) × Comes run.now due event
    × (step service_limits run.now event ≡ Some next) × LeadsTo script (went_on run event next words) history end

-- by these events, each of which is the one that is due, a run leads to another
abbrev pub LeadsAsDue : Script → Run → List Event → Run → Type 0
LeadsAsDue script run [] end = end ≡ run
LeadsAsDue script run (event ∷ history) end =
    (words : Lcg) × (next : State) × (next_step script run ≡ Some (event, words))
    × (step service_limits run.now event ≡ Some next) × LeadsAsDue script (went_on run event next words) history end

-- the words of a seed
abbrev pub words_of : ℕ → Lcg
words_of seed = started 64 multiplier_64 seed (increment_of 64 54)

-- a run of a script from these rows before its first event
abbrev pub new_run : Rows → Script → ℕ → Run
new_run rows script seed = record { before = []; now = opening rows script; words = words_of seed }

-- The history is the one that the seed gives, but for refusals by the disk, or a front of it. Where it is whole, nobody
-- may act at its end.
pub record IsScheduled (rows : Rows) (script : Script) (seed : ℕ) (history : List Event) (whole : Bool) : Type 0 where
  pub end : Run
  pub leads : LeadsTo script (new_run rows script seed) history end
  pub stops : whole ≡ true → next_step script end ≡ None
