-- What contracts see of the reading of records.
use Rattle.std.specs.Prelude.{◌≡◌, ℕ, Bool, List, length, Result, Ok, Err}
use Rattle.fam_model.specs.declared.rows.Rows.{Rows}
use Rattle.fam_model.specs.Journal.{rows_from}
use Rattle.meta_journal.specs.Reading.{Contents, records_from}
use Rattle.meta_journal.specs.declared.reading.Records.{Records}
use Rattle.meta_journal.specs.declared.reading.Unread.{Unread}
use Rattle.meta_journal.specs.declared.reading.Unread.TheVariants.{Memory, Damaged}

-- the rows that changes lead to, in place of the changes
abbrev pub summed : Rows → Result Contents ℕ → Result Records ℕ
summed rows (Ok contents) = Ok (record { rows = rows_from rows contents.changes; place = contents.place })
summed rows (Err place) = Err place

-- what the records from a place on lead to, or where they are damaged
abbrev pub read_from : Bool → Rows → ℕ → List ℕ → Result Records ℕ
read_from is_first rows place bytes = summed rows (records_from (length bytes) is_first rows place bytes)

-- What a reader of records answers is what reading gives, unless memory was wanting.
abbrev pub Fails : Unread → Result Records ℕ → Type 0
Fails Memory read = Unit {0}
Fails (Damaged place) read = read ≡ Err place

abbrev pub Gives : Result Records Unread → Result Records ℕ → Type 0
Gives (Ok records) read = read ≡ Ok records
Gives (Err unread) read = Fails unread read
