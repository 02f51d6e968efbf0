-- What a crash leaves of a run.
use Rattle.std.specs.Prelude.{◌≡◌, ◌⊎◌, ℕ, ◌+◌, ◌-◌, ◌^◌, ◌<◌, ◌≤◌, Bool, true, false, List, [], ◌∷◌, ◌++◌, Option, Some, None, Result, Ok, Err}
use Rattle.fam_base.specs.declared.error.FamError.TheVariants as error
use Rattle.fam_disk.specs.declared.disk.Disk.{Ghosts}
use Rattle.fam_keeper.specs.Keeping.{HasKeptIn, IsTaken, Keeps, IsInDoubt, LeavesRows, doubt_of, faults_of}
use Rattle.fam_keeper.specs.declared.keeper.Keeper.{Keeper}
use Rattle.fam_model.specs.declared.change.Change.{Change}
use Rattle.fam_model.specs.declared.event.Event.{Event}
use Rattle.fam_model.specs.declared.event.What.{What}
use Rattle.fam_model.specs.declared.event.What.TheVariants as what
use Rattle.fam_model.specs.declared.rows.Rows.{Rows}
use Rattle.fam_model.specs.declared.state.State.{State}
use Rattle.fam_model.specs.Directory.{after}
use Rattle.fam_model.specs.Earned.{disk_faults}
use Rattle.fam_model.specs.History.{state_after}
use Rattle.fam_model.specs.Limits.{service_limits}
use Rattle.fam_base.specs.declared.error.NoMemory.{NoMemory}
use Rattle.fam_keeper.specs.declared.kept.Kept.{Kept}
use Rattle.fam_keeper.specs.declared.kept.Kept.TheVariants.{Served, Refused}
use Rattle.fam_model.specs.History.{change_served}
use Rattle.fam_steps.specs.Steps.{Course, GoesOn, Makes, MakesDue, Ran, come, least_change}

-- the change that an event left in doubt: its refusal by the disk says so; a new item has the least fitting base
abbrev pub doubted_by : State → ℕ → What → Option Change
doubted_by state pe (what.Refused asked error.DiskFault true) = least_change state pe (Some asked)
doubted_by state pe _ = None

abbrev pub doubted : State → Event → Option Change
doubted state event = doubted_by state event.pe.0 event.what

-- the rows of a state, or these with the change that the next event left in doubt
abbrev pub IsLeftBefore : State → List Event → Rows → Type 0
IsLeftBefore state [] left = left ≡ state.rows
IsLeftBefore state (event ∷ rest) left = IsInDoubt state.rows (doubted state event) left

-- Rows that a crash may leave of a history: those behind a front of it, or these with the change that the next event left in
-- doubt.
pub record IsLeft (start : State) (history : List Event) (left : Rows) : Type 0 where
  pub front : List Event
  pub rest : List Event
  pub parts : history ≡ front ++ rest
  pub state : State
  pub reached : state_after service_limits start front ≡ Some state
  pub left_is : IsLeftBefore state rest left

-- A change is in doubt at the end of a history with these rows: an event left it so, and the rows are still those before it.
pub record IsDoubted (start : State) (history : List Event) (rows : Rows) (change : Change) : Type 0 where
  pub front : List Event
  pub event : Event
  pub rest : List Event
  pub parts : history ≡ front ++ event ∷ rest
  pub state : State
  pub reached : state_after service_limits start front ≡ Some state
  pub doubts : doubted state event ≡ Some change
  pub same : state.rows ≡ rows

-- the rows behind a history, with one change more: memory was wanting for it
abbrev pub IsUnserved : Bool → Rows → Rows → Type 0
IsUnserved stopped rows left = (stopped ≡ true) × (change : Change) × (left ≡ after rows change)

-- rows that a crash may leave of a service
abbrev pub MayBeLeft : State → Course → Bool → Rows → Type 0
MayBeLeft start course stopped left = IsLeft start course.history left ⊎ IsUnserved stopped course.state.rows left

-- A service that began in a state with a keeper, and made one legal history: what its keeper has now, and what a crash has
-- left at each moment since.
pub record IsKeptRun {D : Type 0} {disk : Ghosts D} (start : State) (first : Keeper D disk) (course : Course) (now : Keeper D disk) : Type 0 where
  pub ran : Ran start course
  pub kept : Keeps now course.state.rows
  pub leaves : LeavesRows (MayBeLeft start course now.stopped) first now
  pub doubt : now.stopped ≡ false → (change : Change) → doubt_of now ≡ Some change → IsDoubted start course.history course.state.rows change
  pub later : faults_of first ≤ faults_of now
  pub faults : faults_of now < 2 ^ 64 - 1 → disk_faults (course.history ∷ []) + faults_of first ≤ faults_of now

-- in whichever state it began, and with whichever keeper, this holds still
abbrev pub KeepsOn : {D : Type 0} {disk : Ghosts D} → Course → Keeper D disk → Course → Keeper D disk → Type 0
KeepsOn {D} {disk} old before new now =
    (start : State) (first : Keeper D disk) → IsKeptRun start first old before → IsKeptRun start first new now

-- a keeper before a run: it has kept what leads to these rows, and nothing is in doubt
pub record IsFresh {D : Type 0} {disk : Ghosts D} (keeper : Keeper D disk) (rows : Rows) : Type 0 where
  pub kept : HasKeptIn keeper.journal rows
  pub goes_on : keeper.stopped ≡ false
  pub settled : doubt_of keeper ≡ None

-- Rows that a crash may leave at the end of a history: those behind it, or these with the change that is in doubt.
pub record IsLeftAtEnd (start : State) (history : List Event) (left : Rows) : Type 0 where
  pub state : State
  pub reached : state_after service_limits start history ≡ Some state
  pub left_is : (left ≡ state.rows) ⊎ ((change : Change) × IsDoubted start history state.rows change × (left ≡ after state.rows change))

-- A history that began in a state with a keeper, and led to some state: what a crash has left at each moment since, and what it
-- leaves now. Where the disk failed no oftener than the history tells, nothing is in doubt now.
pub record IsKeptHistory {D : Type 0} {disk : Ghosts D} (start : State) (first : Keeper D disk) (history : List Event) (now : Keeper D disk) : Type 0 where
  pub state : State
  pub run : IsKeptRun start first (record { history = history; state = state }) now
  pub last : LeavesRows (λ left. IsLeftAtEnd start history left ⊎ IsUnserved now.stopped state.rows left) now now
  pub settled : faults_of now < 2 ^ 64 - 1 → faults_of now ≤ disk_faults (history ∷ []) + faults_of first → LeavesRows (λ left. (left ≡ state.rows) ⊎ IsUnserved now.stopped state.rows left) now now

-- for the contracts of private functions

-- The change of an event that is due was kept; or it would serve none, or nothing is kept any more.
abbrev pub IsKeptDue : {D : Type 0} {disk : Ghosts D} → State → Event → Keeper D disk → Keeper D disk → Result Kept NoMemory → Type 0
IsKeptDue state due before now (Ok kept) =
    ((change_served state due ≡ None) × (kept ≡ Served) × (now ≡ before))
    ⊎ ((change : Change) × (change_served state due ≡ Some change) × (before.stopped ≡ false) × IsTaken state.rows change before now (Ok kept))
IsKeptDue state due before now (Err e) =
    (now ≡ before) ⊎ ((change : Change) × (before.stopped ≡ false) × IsTaken state.rows change before now (Err e))

-- an event was added; or memory was wanting, and the keeper is stopped
abbrev pub IsFinished : {D : Type 0} {disk : Ghosts D} → Course → Event → Kept → Keeper D disk → Course → Keeper D disk → Result Kept NoMemory → Type 0
IsFinished old event kept before new now (Ok told) = (told ≡ kept) × Makes old event new × (now ≡ before)
IsFinished old event kept before new now (Err e) = (new ≡ old) × (now.journal ≡ before.journal) × (now.stopped ≡ true)

-- what comes was made; or memory was wanting, and the service is as it was
abbrev pub MadeOrNot : Course → Event → Course → Result Kept NoMemory → Type 0
MadeOrNot old due new (Ok kept) = MakesDue old due (come due kept) new
MadeOrNot old due new (Err e) = new ≡ old

-- either way the keeper keeps on
pub record IsMade {D : Type 0} {disk : Ghosts D} (old : Course) (due : Event) (before : Keeper D disk) (new : Course) (now : Keeper D disk) (result : Result Kept NoMemory) : Type 0 where
  pub made : MadeOrNot old due new result
  pub legal : GoesOn old new
  pub kept : Keeps now new.state.rows
  pub keeps : KeepsOn old before new now
