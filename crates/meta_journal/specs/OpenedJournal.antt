-- A journal that was opened.
use Rattle.std.specs.Prelude.{◌≡◌, ℕ, List, Some, Result, Ok, Err}
use Rattle.fam_disk.specs.declared.disk.Disk.{Ghosts}
use Rattle.fam_model.specs.declared.rows.Rows.{Rows}
use Rattle.fam_model.specs.Journal.{rows_of}
use Rattle.meta_journal.specs.Opened.{opened_bytes}
use Rattle.meta_journal.specs.Reading.{Contents, journal}
use Rattle.meta_journal.specs.State.{acknowledged}
use Rattle.meta_journal.specs.declared.journal.Journal.{Journal}
use Rattle.meta_journal.specs.declared.starting.OpenFault.{OpenFault}

-- The journal on a disk that had these bytes, with its rows. The acknowledged changes are those that were read.
pub record IsOpened {D : Type 0} {disk : Ghosts D} (limit : ℕ) (bytes : List ℕ) (opened : Journal D disk) (rows : Rows) : Type 0 where
  pub contents : Contents
  pub reads : journal limit bytes ≡ Ok contents
  pub used : opened.used ≡ contents.place
  pub rows_are : rows_of contents.changes ≡ rows
  pub changes : acknowledged opened ≡ contents.changes
  pub content : (disk.state opened.disk).content ≡ Some (opened_bytes bytes)

-- the disk after an opening: inside the journal, or handed back
abbrev pub disk_after : {D : Type 0} {disk : Ghosts D} → Result (Journal D disk × Rows) (D × OpenFault) → D
disk_after (Ok opened) = opened.0.disk
disk_after (Err refused) = refused.0
