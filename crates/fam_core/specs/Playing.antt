-- Where a run stands between two events, and how it goes on.
use Rattle.std.specs.Prelude.{Result, Ok, Err, ◌⊎◌, ◌≡◌, ◌≢◌, ℕ, ◌<◌, ◌≤◌, Bool, true, false, List, [], ◌∷◌, ◌++◌, filter, length, map, slice_get, Option, Some, None, is_some}
use Rattle.rand_pcg.specs.Lcg.{Lcg}
use Rattle.fam_model.specs.declared.call.Call.{Call}
use Rattle.fam_model.specs.declared.event.Event.{Event}
use Rattle.fam_model.specs.declared.rows.Rows.{Rows}
use Rattle.fam_model.specs.declared.script.Program.{Program as Text}
use Rattle.fam_model.specs.declared.script.Script.{Script}
use Rattle.fam_model.specs.declared.state.ProgramState.{ProgramState}
use Rattle.fam_model.specs.declared.state.State.{State}
use Rattle.fam_base.specs.declared.error.NoMemory.{NoMemory}
use Rattle.fam_model.specs.Headline.{opening}
use Rattle.fam_model.specs.History.{state_after}
use Rattle.fam_model.specs.Limits.{service_limits}
use Rattle.fam_model.specs.Lists.{◌>>=◌, numbers_below}
use Rattle.fam_model.specs.Programs.{program_of}
use Rattle.fam_model.specs.ReportText.{reply_lines}
use Rattle.fam_model.specs.Step.{step}
use Rattle.fam_ready.specs.Ready.{AreReady, IsTidy}
use Rattle.fam_steps.specs.Steps.{Course, event_for}
use Rattle.fam_steps.specs.Steps as steps
use Rattle.fam_steps.specs.declared.step.CoreFault.{CoreFault}
use Rattle.fam_steps.specs.declared.step.Step.{Step as Asked}
use Rattle.fam_schedule.specs.Schedule.{Run, Actor, Comes, Program, Stripe, PieceName, LeadsTo, IsScheduled, drawn, new_run, next_step, replies_to, taken, with_words}
use Rattle.fam_schedule.proofs.Runs.{TellsAll}
use Rattle.fam_turns.specs.Turns.{TellsEvent, event_with}
use Rattle.ready_lists.specs.Lists.{busy_stripes, names_at}
use Rattle.fam_core.specs.declared.able.Able.{Able}
use Rattle.fam_core.specs.declared.actors.Actor.{Actor as Listed}
use Rattle.fam_core.specs.declared.actors.Actor.TheVariants as listed
use Rattle.fam_core.specs.declared.chosen.Chosen.{Chosen}
use Rattle.fam_core.specs.declared.chosen.Chosen.TheVariants as chosen
use Rattle.fam_core.specs.declared.playing.Player.{Player}
use Rattle.fam_core.specs.declared.simulation.Played.{Played}
use Rattle.fam_core.specs.declared.turn.Turn.{Turn}
use Rattle.fam_core.specs.Turns.{IsTurn, AreHeard, StartsAs}

-- who may act

-- an actor of the schedule
abbrev pub actor_of : Listed → Actor
actor_of (listed.Program pe) = Program pe
actor_of (listed.Stripe stripe) = Stripe stripe

-- the next call of a program, if it has one
abbrev pub asked_by : List Turn → ℕ → Option Call
asked_by turns pe = slice_get turns pe >>= λ turn. turn.asked

-- the next event of a program may come
abbrev pub may_go : Player → ℕ → Bool
may_go player pe = is_some (event_with player.service.state pe (asked_by player.turns pe))

-- who may act: the programs in order, and then the stripes in order
abbrev pub acting : Player → List Actor
acting player =
    map Program (filter (may_go player) (numbers_below (length player.turns))) ++ map Stripe (busy_stripes player.ready)

-- the flags of the programs

-- The flag tells whether the next event of a program may come, in every state with that program and this round. It is false
-- where there is no such program.
abbrev pub TellsNext : Option ProgramState → ℕ → Option Call → Bool → Type 0
TellsNext None round asked flag = flag ≡ false
TellsNext (Some p) round asked flag = TellsEvent round p asked flag

-- the flag is right for the program of that number
abbrev pub IsFlag : State → List Turn → ℕ → Bool → Type 0
IsFlag state turns pe flag = TellsNext (program_of state pe) state.round (asked_by turns pe) flag

-- the flag of one program was set anew, if it has one, and the others are as they were
pub record IsRenewed (state : State) (turns : List Turn) (pe : ℕ) (olds news : List Bool) : Type 0 where
  pub count : length news ≡ length olds
  pub here : (flag : Bool) → slice_get news pe ≡ Some flag → IsFlag state turns pe flag
  pub others : (other : ℕ) (flag : Bool) → other ≢ pe → slice_get news other ≡ Some flag → slice_get olds other ≡ Some flag

-- the flags of the first n programs were set anew
pub record AreRenewed (state : State) (turns : List Turn) (n : ℕ) (olds news : List Bool) : Type 0 where
  pub count : length news ≡ length olds
  pub each : (pe : ℕ) (flag : Bool) → pe < n → slice_get news pe ≡ Some flag → IsFlag state turns pe flag

-- each program has a flag, and it is right at this round
pub record AreAble (state : State) (turns : List Turn) (able : Able) : Type 0 where
  pub current : able.round ≡ state.round
  pub count : length able.flags ≡ length turns
  pub each : (pe : ℕ) (flag : Bool) → slice_get able.flags pe ≡ Some flag → IsFlag state turns pe flag

-- the programs of a player have their flags
abbrev pub HasFlags : Player → Type 0
HasFlags player = AreAble player.service.state player.turns player.able

-- where a run stands

-- the run of this history, with these words left
abbrev pub run_of : Player → List Event → Lcg → Run
run_of player history words = record { before = history; now = player.service.state; words = words }

-- the player has what a script leads to by this history
pub record Stands (script : Script) (history : List Event) (player : Player) : Type 0 where
  pub few : length player.turns ≤ 64
  pub programs : length player.service.state.programs ≡ length script.programs
  pub count : length player.turns ≡ length script.programs
  pub turns : (pe : ℕ) (turn : Turn) (text : Text) → slice_get player.turns pe ≡ Some turn → slice_get script.programs pe ≡ Some text →
      IsTurn text pe (replies_to history pe) turn
  pub ready : AreReady player.service.state player.ready
  pub flags : HasFlags player
  pub tells : (words : Lcg) → TellsAll script (run_of player history words)
  pub tidy : IsTidy player.service.state
  pub made : player.service.history ≡ history

-- of some script, by some history
abbrev pub IsStanding : Player → Type 0
IsStanding player = (script : Script) × (history : List Event) × Stands script history player

-- by this history, which the seed gives
pub record StandsAfter (rows : Rows) (script : Script) (seed : ℕ) (history : List Event) (player : Player) (words : Lcg) : Type 0 where
  pub leads : LeadsTo script (new_run rows script seed) history (run_of player history words)
  pub stands : Stands script history player

-- by its own history, of some script
abbrev pub IsRunning : Player → Lcg → Type 0
IsRunning player words = (rows : Rows) × (script : Script) × (seed : ℕ) × StandsAfter rows script seed player.service.history player words

-- how it begins

-- the first n programs before their first calls
pub record StartSoFar (texts : List Text) (n : ℕ) (turns : List Turn) : Type 0 where
  pub count : length turns ≡ n
  pub each : (pe : ℕ) (turn : Turn) → slice_get turns pe ≡ Some turn → StartsAs texts pe turn

-- all of them
abbrev pub StartAs : List Text → List Turn → Type 0
StartAs texts turns = StartSoFar texts (length texts) turns

-- a player before the first event of a run
pub record IsOpened (rows : Rows) (script : Script) (player : Player) : Type 0 where
  pub machine : player.service.state ≡ opening rows script
  pub stands : Stands script [] player

-- a run of some script before its first event
abbrev pub IsBegun : Player → Type 0
IsBegun player = (rows : Rows) × (script : Script) × IsOpened rows script player

-- what comes next

-- the event that is made where this was chosen
abbrev pub chosen_event : Player → Chosen → Option Event
chosen_event player (chosen.Turn pe) = event_with player.service.state pe (asked_by player.turns pe)
chosen_event player (chosen.Move asked) = event_for player.service.state asked

-- one of these pieces is drawn, and an event comes of it
abbrev pub drawn_of : State → List PieceName → Lcg → Option (Event × Lcg)
drawn_of state ready words =
    let choice = drawn (length ready) words in
    slice_get ready choice.0 >>= λ name. taken state name choice.1

-- the step of a stripe, and the words left
abbrev pub OnStripe : Player → ℕ → Lcg → Lcg → Option Asked → Type 0
OnStripe player stripe words later asked =
    drawn_of player.service.state (names_at player.ready stripe) words ≡ with_words later (asked >>= event_for player.service.state)

-- what comes next, and the words left
abbrev pub Chooses : Player → Lcg → Lcg → Option Chosen → Type 0
Chooses player words later choice =
    (script : Script) (history : List Event) → Stands script history player →
    next_step script (run_of player history words) ≡ with_words later (choice >>= chosen_event player)

-- how it goes on

-- the lists are right after a step, if they were so before it
abbrev pub Follows : List (List PieceName) → Event → State → List (List PieceName) → Type 0
Follows ready event next ready_next =
    (old : State) → AreReady old ready → IsTidy old → step service_limits old event ≡ Some next → AreReady next ready_next

-- the flags are right after a step, if they were so before it
pub record KeepsAble (event : Event) (next : State) (turns_next : List Turn) (able able_next : Able) : Type 0 where
  pub right : (old : State) (turns : List Turn) → AreAble old turns able → AreHeard event turns turns_next → step service_limits old event ≡ Some next →
      AreAble next turns_next able_next

-- the player after an event
pub record Makes (old : Player) (event : Event) (new : Player) : Type 0 where
  pub makes : steps.Makes old.service event new.service
  pub follows : Follows old.ready event new.service.state new.ready
  pub hears : AreHeard event old.turns new.turns
  pub keeps : KeepsAble event new.service.state new.turns old.able new.able

-- the player after what came where this event is due
pub record MakesDue (old : Player) (due event : Event) (new : Player) : Type 0 where
  pub comes : Comes old.service.state due event
  pub makes : Makes old event new

-- the service after what was chosen; after a fault it is as it was
abbrev pub Acts : Player → Chosen → Course → Result Unit CoreFault → Type 0
Acts player (chosen.Turn pe) new result = steps.TakesTurn player.service pe (asked_by player.turns pe) new result
Acts player (chosen.Move asked) new result = steps.Advances player.service asked new result

-- the last event is known to the lists, to its program and to the flags, if there is one
abbrev pub LetsKnow : Player → Player → Bool → Type 0
LetsKnow old new true =
    (before : List Event) (event : Event) → old.service.history ≡ before ++ event ∷ [] →
    Follows old.ready event old.service.state new.ready × AreHeard event old.turns new.turns
    × KeepsAble event old.service.state new.turns old.able new.able
LetsKnow old new false = (before : List Event) (event : Event) → ¬ (old.service.history ≡ before ++ event ∷ [])

-- no event comes of what was chosen
abbrev pub ComesNot : Player → Chosen → Type 0
ComesNot player (chosen.Turn pe) = event_with player.service.state pe (asked_by player.turns pe) ≡ None
ComesNot player (chosen.Move asked) = steps.IsNotEnabled player.service.state asked

-- whether what was chosen was made; after want of memory the service may have made its event, and nobody heard of it
abbrev pub IsMade : Player → Chosen → Player → Result Bool NoMemory → Type 0
IsMade old choice new (Ok true) = (due : Event) × (event : Event) × (chosen_event old choice ≡ Some due) × MakesDue old due event new
IsMade old choice new (Ok false) = ComesNot old choice × (new ≡ old)
IsMade old choice new (Err _) =
    (new.service ≡ old.service)
    ⊎ ((due : Event) × (event : Event) × (chosen_event old choice ≡ Some due) × steps.MakesDue old.service due event new.service)

-- the event that comes where this one is due, and the words left; by it the service is in this state
abbrev pub IsNext : Player → Lcg → Event → Event → Lcg → State → Type 0
IsNext player words due event later next =
    (script : Script) (history : List Event) → Stands script history player →
    (next_step script (run_of player history words) ≡ with_words later (Some due)) × Comes player.service.state due event
    × (step service_limits player.service.state event ≡ Some next)

-- The player after what comes next, and the words left. Nothing does where nobody may act. After want of memory the service
-- may have made its event.
abbrev pub Advances : Player → Lcg → Player → Lcg → Result Bool NoMemory → Type 0
Advances old words new later (Ok false) =
    (new ≡ old) × ((script : Script) (history : List Event) → Stands script history old → next_step script (run_of old history words) ≡ None)
Advances old words new later (Ok true) =
    (due : Event) × (event : Event) × IsNext old words due event later new.service.state
    × ((script : Script) (history : List Event) → Stands script history old → Stands script (history ++ event ∷ []) new)
Advances old words new later (Err _) =
    (new.service.history ≡ old.service.history)
    ⊎ ((due : Event) × (event : Event) × IsNext old words due event later new.service.state × (new.service.history ≡ old.service.history ++ event ∷ []))

-- a run that was played on until nobody may act, or until memory was wanting
abbrev pub IsPlayed : Rows → Script → ℕ → Player → Bool → Type 0
IsPlayed rows script seed player true =
    (words : Lcg) × StandsAfter rows script seed player.service.history player words × (next_step script (run_of player player.service.history words) ≡ None)
IsPlayed rows script seed player false = IsScheduled rows script seed player.service.history false

-- a script was played: this is its history, its state and, where it is whole, its reply lines
pub record IsPlayedOut (rows : Rows) (script : Script) (seed : ℕ) (played : Played) : Type 0 where
  pub scheduled : IsScheduled rows script seed played.service.history played.whole
  pub state : played.whole ≡ true → state_after service_limits (opening rows script) played.service.history ≡ Some played.service.state
  pub replies : played.whole ≡ true → played.replies.items ≡ reply_lines (length script.programs) played.service.history
