-- What contracts see of a keeper of changes: a journal, or none.
use Rattle.std.specs.Prelude.{◌≡◌, ◌≢◌, ◌⊎◌, ℕ, ◌≤◌, Bool, true, false, List, Option, Some, None, IsSome, Result, Ok, Err}
use Rattle.fam_base.specs.Causes.{Rose}
use Rattle.fam_base.specs.declared.error.NoMemory.{NoMemory}
use Rattle.fam_disk.specs.declared.disk.Disk.{Ghosts}
use Rattle.fam_disk.specs.Crash.{DiskState, LeavesOnly}
use Rattle.fam_model.specs.declared.change.Change.{Change}
use Rattle.fam_model.specs.declared.rows.Rows.{Rows}
use Rattle.fam_model.specs.Directory.{after}
use Rattle.fam_model.specs.Journal.{rows_of}
use Rattle.fam_model.specs.Limits.{service_limits}
use Rattle.meta_journal.specs.Reading.{HasRows}
use Rattle.meta_journal.specs.State.{IsSound, acknowledged, change_in_doubt}
use Rattle.meta_journal.specs.declared.journal.Journal.{Journal}
use Rattle.fam_keeper.specs.declared.keeper.Keeper.{Keeper}
use Rattle.fam_keeper.specs.declared.kept.Kept.{Kept}
use Rattle.fam_keeper.specs.declared.kept.Kept.TheVariants.{Served, Refused}

-- what a journal has kept

-- the journal is sound, has the limit of the service and, where its disk tells what it reads, these rows
pub record HasKept {D : Type 0} {disk : Ghosts D} (journal : Journal D disk) (rows : Rows) : Type 0 where
  pub sound : IsSound journal
  pub limit : journal.limit ≡ service_limits.journal
  pub rows_are : IsSome (disk.state journal.disk).content → rows_of (acknowledged journal) ≡ rows

-- the same of the journal of a keeper, where there is one
abbrev pub HasKeptIn : {D : Type 0} {disk : Ghosts D} → Option (Journal D disk) → Rows → Type 0
HasKeptIn None rows = Unit {0}
HasKeptIn (Some journal) rows = HasKept journal rows

-- the change that a crash may leave beside what was kept
abbrev pub doubt_in : {D : Type 0} {disk : Ghosts D} → Option (Journal D disk) → Option Change
doubt_in None = None
doubt_in (Some journal) = change_in_doubt journal.doubt

-- A keeper has kept the changes that lead to these rows. One that was stopped may have kept one change more.
abbrev pub HasKeptOrMore : {D : Type 0} {disk : Ghosts D} → Option (Journal D disk) → Bool → Rows → Type 0
HasKeptOrMore journal false rows = HasKeptIn journal rows
HasKeptOrMore journal true rows =
    HasKeptIn journal rows ⊎ ((change : Change) × HasKeptIn journal (after rows change) × (doubt_in journal ≡ None))

abbrev pub Keeps : {D : Type 0} {disk : Ghosts D} → Keeper D disk → Rows → Type 0
Keeps keeper rows = HasKeptOrMore keeper.journal keeper.stopped rows

abbrev pub doubt_of : {D : Type 0} {disk : Ghosts D} → Keeper D disk → Option Change
doubt_of keeper = doubt_in keeper.journal

-- faults

abbrev pub faults_in : {D : Type 0} {disk : Ghosts D} → Option (Journal D disk) → ℕ
faults_in None = 0
faults_in {D} {disk} (Some journal) = (disk.state journal.disk).faults

-- how often the disk has failed; without a journal nothing fails
abbrev pub faults_of : {D : Type 0} {disk : Ghosts D} → Keeper D disk → ℕ
faults_of keeper = faults_in keeper.journal

-- what a crash leaves

-- an image is a journal of rows of which this holds
abbrev pub HasSome : (Rows → Type 0) → List ℕ → Type 0
HasSome P image = (rows : Rows) × P rows × HasRows service_limits.journal rows image

-- From one journal to a later one on the same disk: at each moment in between a crash leaves rows of which this holds.
abbrev pub LeavesIn : {D : Type 0} {disk : Ghosts D} → (Rows → Type 0) → Option (Journal D disk) → Option (Journal D disk) → Type 0
LeavesIn P None None = Unit {0}
LeavesIn {D} {disk} P (Some old) (Some new) = LeavesOnly (HasSome P) (disk.state old.disk) (disk.state new.disk)
LeavesIn P None (Some new) = ⊥
LeavesIn P (Some old) None = ⊥

abbrev pub LeavesRows : {D : Type 0} {disk : Ghosts D} → (Rows → Type 0) → Keeper D disk → Keeper D disk → Type 0
LeavesRows P old new = LeavesIn P old.journal new.journal

-- these rows, or these with the change that is in doubt
abbrev pub IsInDoubt : Rows → Option Change → Rows → Type 0
IsInDoubt rows doubt left = (left ≡ rows) ⊎ ((change : Change) × (doubt ≡ Some change) × (left ≡ after rows change))

-- keeping a change

-- a crash may leave the change already, or still
abbrev pub may_count : Result Kept NoMemory → Bool
may_count (Ok Served) = true
may_count (Ok (Refused doubt)) = doubt
may_count (Err e) = false

-- the rows that were kept behind a change
abbrev pub rows_behind : Rows → Change → Result Kept NoMemory → Rows
rows_behind rows change (Ok Served) = after rows change
rows_behind rows change (Ok (Refused doubt)) = rows
rows_behind rows change (Err e) = rows

-- rows that a crash may leave while a change is kept: those before it, these with the change that was in doubt, or these with
-- this change, where it counts
abbrev pub MayLeave : Rows → Option Change → Bool → Change → Rows → Type 0
MayLeave rows doubt counts change left = IsInDoubt rows doubt left ⊎ ((counts ≡ true) × (left ≡ after rows change))

-- what is in doubt behind a change: nothing, once it is kept; the change itself exactly where the refusal says so
abbrev pub DoubtsAfter : Option Change → Change → Option Change → Result Kept NoMemory → Type 0
DoubtsAfter before change now (Ok Served) = now ≡ None
DoubtsAfter before change now (Ok (Refused true)) = now ≡ Some change
DoubtsAfter before change now (Ok (Refused false)) = (now ≢ Some change) × ((now ≡ before) ⊎ (now ≡ None))
DoubtsAfter before change now (Err e) = now ≡ before

-- a change is refused only where the disk failed
abbrev pub HasFailed : ℕ → ℕ → Result Kept NoMemory → Type 0
HasFailed before now (Ok Served) = before ≤ now
HasFailed before now (Ok (Refused doubt)) = (before ≤ now) × Rose before now
HasFailed before now (Err e) = now ≡ before

-- what came of a change of these rows
pub record IsTaken {D : Type 0} {disk : Ghosts D} (rows : Rows) (change : Change) (old new : Keeper D disk) (result : Result Kept NoMemory) : Type 0 where
  pub kept : HasKeptIn new.journal (rows_behind rows change result)
  pub goes_on : new.stopped ≡ false
  pub leaves : LeavesRows (MayLeave rows (doubt_of old) (may_count result) change) old new
  pub doubt : DoubtsAfter (doubt_of old) change (doubt_of new) result
  pub cause : HasFailed (faults_of old) (faults_of new) result

-- the same of a journal
pub record IsAppended {D : Type 0} {disk : Ghosts D} (rows : Rows) (change : Change) (old new : Journal D disk) (result : Result Kept NoMemory) : Type 0 where
  pub kept : HasKept new (rows_behind rows change result)
  pub leaves : LeavesOnly (HasSome (MayLeave rows (change_in_doubt old.doubt) (may_count result) change)) (disk.state old.disk) (disk.state new.disk)
  pub doubt : DoubtsAfter (change_in_doubt old.doubt) change (change_in_doubt new.doubt) result
  pub cause : HasFailed (disk.state old.disk).faults (disk.state new.disk).faults result

-- what was in doubt beside these rows was closed, if the disk let it be
pub record IsSettled {D : Type 0} {disk : Ghosts D} (rows : Rows) (old new : Keeper D disk) : Type 0 where
  pub kept : HasKeptIn new.journal rows
  pub stopped : new.stopped ≡ old.stopped
  pub leaves : LeavesRows (IsInDoubt rows (doubt_of old)) old new
  pub doubt : (doubt_of new ≡ None) ⊎ ((doubt_of new ≡ doubt_of old) × Rose (faults_of old) (faults_of new))
  pub cause : faults_of old ≤ faults_of new
