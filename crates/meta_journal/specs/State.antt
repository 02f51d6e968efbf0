-- What contracts see of a journal.
use Rattle.std.specs.Prelude.{◌≡◌, ◌⊎◌, ℕ, ◌+◌, ◌-◌, ◌<◌, ◌≤◌, nat_le, Bool, List, [], ◌∷◌, ◌++◌, length, Option, Some, None, IsSome, IsTrue, IsFalse, unwrap_or, Result, Ok, Err, false, if◌then◌else◌}
use Rattle.fam_base.specs.declared.error.FamError.{FamError}
use Rattle.fam_base.specs.declared.error.FamError.TheVariants.{Memory, JournalFull}
use Rattle.fam_disk.specs.declared.disk.Disk.{Ghosts}
use Rattle.fam_disk.specs.Crash.{Leaves}
use Rattle.fam_model.specs.declared.change.Change.{Change}
use Rattle.fam_model.specs.declared.rows.Rows.{Rows}
use Rattle.fam_model.specs.Directory.{after}
use Rattle.fam_model.specs.Journal.{record_length, rows_of, short, short_place}
use Rattle.fam_model.specs.Lawful.{is_lawful_change}
use Rattle.fam_model.specs.Rows.{common_rows}
use Rattle.meta_codec.specs.Body.{HasBody}
use Rattle.meta_journal.specs.Image.{IsImage}
use Rattle.meta_journal.specs.Layout.{part, area_start}
use Rattle.meta_journal.specs.Reading.{Contents, records_from, HasRows}
use Rattle.meta_journal.specs.Short.{Restores, short_bytes}
use Rattle.meta_journal.specs.declared.area.Area.{Area}
use Rattle.meta_journal.specs.declared.doubt.Doubt.{Doubt}
use Rattle.meta_journal.specs.declared.doubt.Doubt.TheVariants.{Nothing, OfChange, OfArea}
use Rattle.meta_journal.specs.declared.journal.Journal.{Journal}
use Rattle.meta_journal.specs.declared.reserve.Reserve.{Reserve}

abbrev pub changes_in : Result Contents ℕ → List Change
changes_in (Ok contents) = contents.changes
changes_in (Err place) = []

-- the changes of the records before a place of an area of a disk
abbrev pub changes_before : ℕ → Area → ℕ → List ℕ → List Change
changes_before limit area used disk =
    let bytes = part (area_start limit area) (used - 16) disk in
    changes_in (records_from (length bytes) false common_rows 16 (bytes ++ 0 ∷ []))

-- the acknowledged changes: those of the records before `used` in the area in use; none where the disk does not tell
abbrev pub acknowledged : {D : Type 0} {disk : Ghosts D} → Journal D disk → List Change
acknowledged {D} {disk} journal =
    changes_before journal.limit journal.area journal.used (unwrap_or (disk.state journal.disk).content [])

-- each image now has the acknowledged changes, then at most what is in doubt
abbrev pub IsSound : {D : Type 0} {disk : Ghosts D} → Journal D disk → Type 0
IsSound {D} {disk} journal =
    Leaves (disk.state journal.disk) (disk.state journal.disk).moment
    (IsImage journal.limit journal.used journal.area journal.doubt (acknowledged journal))

-- a journal of the same limit, area and place
pub record IsSameJournal {D : Type 0} {disk : Ghosts D} (old new : Journal D disk) : Type 0 where
  pub limit : new.limit ≡ old.limit
  pub area : new.area ≡ old.area
  pub used : new.used ≡ old.used

-- the change that may stand behind the acknowledged ones
abbrev pub change_in_doubt : Doubt → Option Change
change_in_doubt Nothing = None
change_in_doubt (OfChange change) = Some change
change_in_doubt OfArea = None

-- an image reads as the rows of changes, or of these and one more
abbrev pub HasRowsOrAfter : ℕ → List Change → Change → List ℕ → Type 0
HasRowsOrAfter limit changes change image = HasRows limit (rows_of changes) image ⊎ HasRows limit (after (rows_of changes) change) image

-- an image reads as the rows of changes, or of these and the one in doubt
abbrev pub HasRowsInDoubt : ℕ → List Change → Doubt → List ℕ → Type 0
HasRowsInDoubt limit changes Nothing image = HasRows limit (rows_of changes) image
HasRowsInDoubt limit changes (OfChange doubt) image = HasRowsOrAfter limit changes doubt image
HasRowsInDoubt limit changes OfArea image = HasRows limit (rows_of changes) image

-- an image reads as the rows of changes, or of these and the doubt that stood, or of these and this change
abbrev pub MayHold : ℕ → List Change → Doubt → Change → List ℕ → Type 0
MayHold limit changes doubt change image = HasRowsInDoubt limit changes doubt image ⊎ HasRowsOrAfter limit changes change image

-- Appending

-- a change fits behind the records up to a place, with a closed gate behind it
abbrev pub has_room : ℕ → ℕ → Change → Bool
has_room limit used change = nat_le (used + record_length change + 1) limit

-- the changes that an append goes on from: these, or the short form of their rows where there is no room behind them
abbrev pub kept_changes : ℕ → ℕ → List Change → Change → List Change
kept_changes limit used changes change = if has_room limit used change then changes else short (rows_of changes)

-- the place that it goes on from
abbrev pub kept_place : ℕ → ℕ → Rows → Change → ℕ
kept_place limit used rows change = if has_room limit used change then used else short_place rows

-- the short form that has to be written first, if one has, so that there is room for a change
abbrev pub IsForm : ℕ → ℕ → Rows → Change → Option (List ℕ) → Type 0
IsForm limit used rows change None = IsTrue (has_room limit used change)
IsForm limit used rows change (Some form) =
    IsFalse (has_room limit used change) × IsTrue (has_room limit (short_place rows) change) × (form ≡ short_bytes rows) × Restores rows (short rows)

-- the memory for the append of a change to a journal of these rows is taken
pub record IsReserved {D : Type 0} {disk : Ghosts D} (journal : Journal D disk) (change : Change) (rows : Rows) : Type 0 where
  pub reserve : Reserve
  pub is_there : journal.reserve ≡ Some reserve
  pub of_change : reserve.record.change ≡ change
  pub of_rows : IsSome (disk.state journal.disk).content → rows_of (acknowledged journal) ≡ rows
  pub lawful : IsSome (disk.state journal.disk).content → IsTrue (is_lawful_change rows change)
  pub has_body : HasBody change
  pub form : IsForm journal.limit journal.used rows change reserve.short

-- a change is reserved, with this short form to be written first, or none
abbrev pub Keeps : Option Reserve → Change → Option (List ℕ) → Type 0
Keeps None change form = ⊥
Keeps (Some reserve) change form = (reserve.record.change ≡ change) × (reserve.short ≡ form)

-- only what is reserved differs
pub record IsUntouched {D : Type 0} {disk : Ghosts D} (old new : Journal D disk) : Type 0 where
  pub same_disk : new.disk ≡ old.disk
  pub limit : new.limit ≡ old.limit
  pub area : new.area ≡ old.area
  pub used : new.used ≡ old.used
  pub doubt : new.doubt ≡ old.doubt

-- The doubt after an append that failed: the one before it, or none, or that of the change; or that of the area in use,
-- where there was no room.
abbrev pub MayDoubt : Doubt → Bool → Change → Doubt → Type 0
MayDoubt before room change now = (now ≡ before) ⊎ (now ≡ Nothing) ⊎ (now ≡ OfChange change) ⊎ ((now ≡ OfArea) × IsFalse room)

-- why there is no memory for the append of a change to a journal of these rows: none was given, or there is no room, neither
-- behind the records up to a place nor behind the short form
abbrev pub IsRefusal : ℕ → ℕ → Rows → Change → FamError → Type 0
IsRefusal limit used rows change error =
    (error ≡ Memory)
    ⊎ ((error ≡ JournalFull (short_place rows) (record_length change)) × IsFalse (has_room limit used change) × IsFalse (has_room limit (short_place rows) change))

-- Going over to the other area, or not

-- what a journal goes on from where this short form is written first, or none
abbrev pub changes_behind : Option (List ℕ) → List Change → List Change
changes_behind None changes = changes
changes_behind (Some form) changes = short (rows_of changes)

abbrev pub place_behind : Option (List ℕ) → ℕ → ℕ
place_behind None used = used
place_behind (Some form) used = 15 + length form

-- a short form may be written now
pub record MayGoOver {D : Type 0} {disk : Ghosts D} (journal : Journal D disk) (form : List ℕ) : Type 0 where
  pub near : journal.limit ≤ journal.used + 128
  pub room : 15 + length form < journal.limit
  pub is_form : IsSome (disk.state journal.disk).content → form ≡ short_bytes (rows_of (acknowledged journal))
  pub restores : IsSome (disk.state journal.disk).content
      → Restores (rows_of (acknowledged journal)) (short (rows_of (acknowledged journal)))
  pub is_written : 1 ≤ length form

-- it may, if there is one
abbrev pub MayGoOn : {D : Type 0} {disk : Ghosts D} → Journal D disk → Option (List ℕ) → Type 0
MayGoOn journal None = Unit {0}
MayGoOn journal (Some form) = MayGoOver journal form
