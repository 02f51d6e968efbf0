-- A run over a disk: its journal is opened, and then keeps each change before it is served.
use Rattle.std.specs.Prelude.{◌≡◌, ◌⊎◌, ℕ, ◌+◌, ◌-◌, ◌^◌, ◌<◌, ◌≤◌, Bool, true, false, List, [], ◌∷◌, Some, IfSome, IsSome, Err}
use Rattle.fam_disk.specs.Crash.{DiskState, Leaves, LeavesOnly}
use Rattle.fam_keeper.specs.Keeping.{HasSome}
use Rattle.fam_model.specs.declared.change.Change.{Change}
use Rattle.fam_model.specs.declared.event.Event.{Event}
use Rattle.fam_model.specs.declared.rows.Rows.{Rows}
use Rattle.fam_model.specs.declared.script.Script.{Script}
use Rattle.fam_model.specs.declared.state.State.{State}
use Rattle.fam_model.specs.Directory.{after}
use Rattle.fam_model.specs.Earned.{disk_faults}
use Rattle.fam_model.specs.Headline.{IsRun, HasEnded, opening}
use Rattle.fam_model.specs.History.{state_after}
use Rattle.fam_model.specs.Limits.{service_limits}
use Rattle.fam_model.specs.Rows.{IsLawful}
use Rattle.fam_schedule.specs.Schedule.{IsScheduled}
use Rattle.fam_steps.specs.Crash.{IsLeft, IsLeftAtEnd}
use Rattle.meta_journal.specs.Opened.{HasRowsOf, Opens}
use Rattle.meta_journal.specs.Reading.{HasRows, journal}

-- A run of a script from these rows, or the run so far, over a disk whose count of faults rose from one number to another: it
-- is legal, and the one that the schedule gives for the seed.
pub record IsPlayed (seed : ℕ) (rows : Rows) (script : Script) (history : List Event) (whole : Bool) (faults_before faults_after : ℕ) : Type 0 where
  pub run : IsRun rows script history faults_before faults_after
  pub scheduled : IsScheduled rows script seed history whole
  pub ended : whole ≡ true → HasEnded rows script history

-- what a disk reads

-- its journal has these rows; a disk that tells nothing may have any
abbrev pub ReadsRows : DiskState → Rows → Type 0
ReadsRows disk rows = (bytes : List ℕ) → disk.content ≡ Some bytes → HasRows service_limits.journal rows bytes

-- its journal is damaged there
abbrev pub IsDamagedAt : DiskState → ℕ → Type 0
IsDamagedAt disk place = (bytes : List ℕ) → disk.content ≡ Some bytes → journal service_limits.journal bytes ≡ Err place

-- what a crash leaves

-- A journal was opened, or nothing was done. From the first sync on that was served a crash leaves the rows that the disk had.
abbrev pub Looks : DiskState → DiskState → Type 0
Looks old new = IfSome old.content (λ bytes. Opens (HasRowsOf service_limits.journal bytes) old new)

-- the rows behind a history with one change more: memory was wanting for it
abbrev pub IsOneMore : State → List Event → Rows → Type 0
IsOneMore start history left =
    (state : State) × (state_after service_limits start history ≡ Some state) × (change : Change) × (left ≡ after state.rows change)

-- Rows that a crash may leave at any moment of a run: those behind a front of its history, or these with the change that the
-- next event left in doubt.
abbrev pub MayBeLeft : State → List Event → Bool → Rows → Type 0
MayBeLeft start history whole left = IsLeft start history left ⊎ ((whole ≡ false) × IsOneMore start history left)

-- those that it may leave at its end
abbrev pub MayRemain : State → List Event → Bool → Rows → Type 0
MayRemain start history whole left = IsLeftAtEnd start history left ⊎ ((whole ≡ false) × IsOneMore start history left)

-- the rows behind a history
abbrev pub IsBehind : State → List Event → Rows → Type 0
IsBehind start history left = (state : State) × (state_after service_limits start history ≡ Some state) × (left ≡ state.rows)

-- A journal was opened on a disk, and has these rows.
pub record IsOpenedFrom {D : Type 0} (state : D → DiskState) (rows : Rows) (old opened : D) : Type 0 where
  pub lawful : IsLawful rows
  pub reads : ReadsRows (state old) rows
  pub opens : IsSome (state old).content → Opens (HasRows service_limits.journal rows) (state old) (state opened)
  pub later : (state old).faults ≤ (state opened).faults

-- A script was played over a disk, from the rows of its journal; or the run so far.
pub record RunsOver {D : Type 0} (state : D → DiskState) (seed : ℕ) (script : Script) (rows : Rows) (history : List Event) (whole : Bool) (old new : D) : Type 0 where
  pub opened : D
  pub opens : IsOpenedFrom state rows old opened
  pub played : IsPlayed seed rows script history whole (state old).faults (state new).faults
  pub leaves : LeavesOnly (HasSome (MayBeLeft (opening rows script) history whole)) (state opened) (state new)
  pub remains : Leaves (state new) (state new).moment (HasSome (MayRemain (opening rows script) history whole))
  -- nothing is in doubt at its end, unless the disk failed oftener than the history tells
  pub settled : whole ≡ true → (state new).faults < 2 ^ 64 - 1 → (state new).faults ≤ disk_faults (history ∷ []) + (state old).faults →
      Leaves (state new) (state new).moment (HasSome (IsBehind (opening rows script) history))
