-- What opening a journal does to a disk.
use Rattle.std.specs.Prelude.{◌≡◌, ℕ, ◌<◌, ◌≤◌, false, List, [], ◌∷◌, ◌++◌, length, slice_index, Some, Result, Ok, Err, OnOk, if◌then◌else◌}
use Rattle.fam_disk.specs.Crash.{DiskState, IsKept, IsSynced, Leaves, LeavesOnly, Passes, written}
use Rattle.fam_model.specs.Journal.{rows_of}
use Rattle.fam_model.specs.Rows.{common_rows}
use Rattle.meta_journal.specs.Found.{header_in}
use Rattle.meta_journal.specs.Image.{IsImage}
use Rattle.meta_journal.specs.Layout.{area_bytes, is_fresh, is_first_version}
use Rattle.meta_journal.specs.Opening.{read_from}
use Rattle.meta_journal.specs.Reading.{Contents, area_contents, journal, on_disk, HasRows}
use Rattle.meta_journal.specs.declared.header.Header.{Header}
use Rattle.meta_journal.specs.declared.doubt.Doubt.TheVariants.{Nothing}
use Rattle.meta_journal.specs.declared.starting.Started.{Started}
use Rattle.meta_journal.specs.declared.starting.OpenFault.{OpenFault}
use Rattle.meta_journal.specs.declared.starting.OpenFault.TheVariants.{Memory, DiskFault, Damaged}

-- a journal of no changes, behind its first byte
abbrev pub empty_behind : List ℕ
empty_behind = 65 ∷ 77 ∷ 74 ∷ 2 ∷ 0 ∷ 0 ∷ 0 ∷ 0 ∷ 0 ∷ 0 ∷ 0 ∷ 0 ∷ 0 ∷ 0 ∷ 0 ∷ 0 ∷ []

-- a journal of no changes
abbrev pub empty_journal : List ℕ
empty_journal = 70 ∷ empty_behind

-- what a disk with these bytes reads once its journal was opened
abbrev pub opened_bytes : List ℕ → List ℕ
opened_bytes bytes =
    if is_fresh bytes then empty_journal
    else (if is_first_version bytes then written 4 (2 ∷ []) bytes else bytes)

-- nothing was written, and no sync was served
pub record Looks (old new : DiskState) : Type 0 where
  pub crash : Passes IsKept old new
  pub content : new.content ≡ old.content
  pub syncs : new.syncs ≡ old.syncs

-- the rows of these bytes, if they are a journal
abbrev pub HasRowsOf : ℕ → List ℕ → List ℕ → Type 0
HasRowsOf limit bytes image = (contents : Contents) → journal limit bytes ≡ Ok contents → HasRows limit (rows_of contents.changes) image

-- From the first sync on that was served a crash leaves what has P. It does so from the start on where a crash left
-- what a read gave.
pub record Opens (P : List ℕ → Type 0) (old new : DiskState) : Type 0 where
  pub run : LeavesOnly (λ image. Unit {0}) old new
  pub from_start : IsSynced old → LeavesOnly P old new
  pub from_sync : (t : ℕ) (later : List ℕ) → new.syncs ≡ old.syncs ++ t ∷ later → (m : ℕ) → t ≤ m → m ≤ new.moment → Leaves new m P

-- a journal was opened on a disk that had these bytes
pub record IsStarted (limit : ℕ) (bytes : List ℕ) (new : DiskState) (started : Started) : Type 0 where
  pub contents : Contents
  pub reads : journal limit bytes ≡ Ok contents
  pub place : contents.place ≡ started.used
  pub rows : rows_of contents.changes ≡ started.rows
  pub images : Leaves new new.moment (IsImage limit started.used started.area Nothing contents.changes)
  pub content : new.content ≡ Some (opened_bytes bytes)

-- why it was not
abbrev pub IsRefused : ℕ → List ℕ → OpenFault → Type 0
IsRefused limit bytes Memory = Unit {0}
IsRefused limit bytes DiskFault = Unit {0}
IsRefused limit bytes (Damaged place) = journal limit bytes ≡ Err place

abbrev pub Answers : ℕ → List ℕ → DiskState → Result Started OpenFault → Type 0
Answers limit bytes new (Ok started) = IsStarted limit bytes new started
Answers limit bytes new (Err fault) = IsRefused limit bytes fault

-- what came of opening a disk that had these bytes
pub record OpensAs (limit : ℕ) (bytes : List ℕ) (old new : DiskState) (result : Result Started OpenFault) : Type 0 where
  pub opens : Opens (HasRowsOf limit bytes) old new
  pub answers : Answers limit bytes new result

-- a fresh disk was made a journal of no changes, or not
pub record Makes {T E : Type 0} (old new : DiskState) (result : Result T E) : Type 0 where
  pub opens : (limit : ℕ) → 17 ≤ limit → Opens (HasRows limit common_rows) old new
  pub later : List ℕ
  pub syncs : new.syncs ≡ old.syncs ++ later
  pub content : OnOk result (new.content ≡ Some empty_journal)
  pub synced : OnOk result (IsSynced new)

-- these are bytes
abbrev pub AreBytes : List ℕ → Type 0
AreBytes bytes = (i : ℕ) → slice_index bytes i < 256

-- what the records of the area that a header names lead to
abbrev pub ReadsArea : ℕ → Header → List ℕ → Result Started OpenFault → Type 0
ReadsArea limit header bytes (Ok started) =
    (started.area ≡ header.area)
    × AreBytes (area_bytes limit header.area bytes)
    × (read_from header.is_first_version common_rows 16 (area_bytes limit header.area bytes) ≡ Ok (record { rows = started.rows; place = started.used }))
ReadsArea limit header bytes (Err Memory) = Unit {0}
ReadsArea limit header bytes (Err DiskFault) = Unit {0}
ReadsArea limit header bytes (Err (Damaged place)) =
    on_disk limit header.area (area_contents header.is_first_version (area_bytes limit header.area bytes)) ≡ Err place

-- A crash left what the disk read before, and goes on to leave its rows.
pub record StartsSynced (limit : ℕ) (bytes : List ℕ) (old new : DiskState) (result : Result Started OpenFault) : Type 0 where
  pub only : LeavesOnly (HasRowsOf limit bytes) old new
  pub later : List ℕ
  pub syncs : new.syncs ≡ old.syncs ++ later
  pub answers : Answers limit bytes new result

-- what is known of a disk that is not fresh, where its header was read
pub record IsSeen (limit : ℕ) (header : Header) (len : ℕ) (bytes : List ℕ) : Type 0 where
  pub old : is_fresh bytes ≡ false
  pub header_is : header_in bytes ≡ Some header
  pub len_is : len ≡ length bytes
