-- What the images of a journal's disk hold.
use Rattle.std.specs.Prelude.{◌≡◌, ◌≢◌, ℕ, ◌+◌, ◌<◌, List, [], ◌∷◌, ◌++◌, length, slice_index, replicate, IsTrue}
use Rattle.fam_model.specs.declared.rows.Rows.{Rows}
use Rattle.fam_model.specs.declared.change.Change.{Change}
use Rattle.fam_model.specs.Directory.{after}
use Rattle.fam_model.specs.Journal.{record_length, rows_of}
use Rattle.fam_model.specs.Lawful.{is_lawful_change}
use Rattle.meta_codec.specs.Body.{HasBody}
use Rattle.meta_journal.specs.declared.area.Area.{Area}
use Rattle.meta_journal.specs.declared.area.Area.TheVariants.{First, Second}
use Rattle.meta_journal.specs.Layout.{Holds, magic, area_in_use, area_start, disk_place, records_end, records, record_bytes}
use Rattle.meta_journal.specs.declared.doubt.Doubt.{Doubt}
use Rattle.meta_journal.specs.declared.doubt.Doubt.TheVariants.{Nothing, OfChange, OfArea}
use Rattle.fam_model.specs.Rows.{common_rows}

-- each change is lawful on the rows that those before it make, and has a body
abbrev pub AreLawful : Rows → List Change → Type 0
AreLawful rows [] = Unit {0}
AreLawful rows (change ∷ changes) =
    IsTrue (is_lawful_change rows change) × HasBody change × AreLawful (after rows change) changes

-- a change that may follow changes
abbrev pub IsAddable : List Change → Change → Type 0
IsAddable changes change = IsTrue (is_lawful_change (rows_of changes) change) × HasBody change

-- the header of a journal of the second version
pub record HasHeader (image : List ℕ) : Type 0 where
  pub magic : Holds 0 magic image
  pub gap : Holds 5 (replicate 3 0) image
  pub rest : Holds 9 (replicate 7 0) image
  pub version : slice_index image 4 ≢ 1

-- a closed gate at a place of the disk
pub record IsClosed (at : ℕ) (image : List ℕ) : Type 0 where
  pub inside : at < length image
  pub shut : slice_index image at ≢ 1

-- an area has records of these changes, and behind them a closed gate
pub record HasChanges (limit : ℕ) (area : Area) (changes : List Change) (image : List ℕ) : Type 0 where
  pub front : Holds (area_start limit area) (records changes) image
  pub end : IsClosed (disk_place limit area (records_end changes)) image

-- An area has records of these changes, behind them a gate of any kind, and behind it a record of one change more
-- with a closed gate.
pub record HasChangesAndDoubt (limit : ℕ) (area : Area) (changes : List Change) (doubt : Change) (image : List ℕ) : Type 0 where
  pub front : Holds (area_start limit area) (records changes) image
  pub doubtful : Holds (disk_place limit area (records_end changes) + 1) (record_bytes doubt ++ 0 ∷ []) image
  pub room : records_end changes + record_length doubt < limit

-- the area that is not in use
abbrev pub other_area : Area → Area
other_area First = Second
other_area Second = First

-- the other area has the records of lawful changes that make the same rows, and behind them a closed gate
pub record HasOther (limit : ℕ) (area : Area) (changes : List Change) (image : List ℕ) : Type 0 where
  pub other : List Change
  pub same_rows : rows_of other ≡ rows_of changes
  pub lawful : AreLawful common_rows other
  pub room : records_end other < limit
  pub has : HasChanges limit (other_area area) other image

-- What an image of a journal's disk holds where nothing is in doubt, where a change is, or where the area in use is.
abbrev pub HoldsInDoubt : ℕ → Area → List Change → Doubt → List ℕ → Type 0
HoldsInDoubt limit area changes Nothing image = (area_in_use image ≡ area) × HasChanges limit area changes image
HoldsInDoubt limit area changes (OfChange doubt) image =
    (area_in_use image ≡ area) × IsAddable changes doubt × HasChangesAndDoubt limit area changes doubt image
HoldsInDoubt limit area changes OfArea image = HasChanges limit area changes image × HasOther limit area changes image

-- an image of the disk of a journal with these changes, whose closed gate is at a place of the area in use
pub record IsImage (limit used : ℕ) (area : Area) (doubt : Doubt) (changes : List Change) (image : List ℕ) : Type 0 where
  pub place : records_end changes ≡ used
  pub room : used < limit
  pub lawful : AreLawful common_rows changes
  pub header : HasHeader image
  pub held : HoldsInDoubt limit area changes doubt image
