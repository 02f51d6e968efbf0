-- What the bytes of a disk stand for.
use Rattle.std.specs.Prelude.{◌≡◌, ℕ, zero, suc, ◌+◌, Bool, not, ◌==◌, nat_le, nat_lt, List, [], ◌∷◌, length, take, drop, Some, None, Result, Ok, Err, if◌then◌else◌}
use Rattle.std.specs.Int.{w32}
use Rattle.fam_model.specs.declared.rows.Rows.{Rows}
use Rattle.fam_model.specs.declared.change.Change.{Change}
use Rattle.fam_model.specs.Directory.{after}
use Rattle.fam_model.specs.Journal.{record_length, rows_of}
use Rattle.fam_model.specs.Lists.{◌>>=◌, when}
use Rattle.fam_model.specs.Rows.{common_rows}
use Rattle.meta_codec.specs.Reading.{Field, decoded, number_at}
use Rattle.meta_journal.specs.declared.area.Area.{Area}
use Rattle.meta_journal.specs.Layout.{has_header, is_fresh, is_first_version, area_in_use, area_start, area_bytes, disk_place, header_end}
use Rattle.meta_journal.specs.Versions.{may_hold}

-- changes, and the place of the closed gate behind their records, counted from 16
pub record Contents : Type 0 where
  pub changes : List Change
  pub place : ℕ

abbrev pub no_changes : Contents
no_changes = record { changes = []; place = header_end }

-- a body behind an open gate and its length, with the next gate behind it
unfoldable pub body_at : List ℕ → Field (List ℕ)
body_at bytes = do
  size ← number_at w32 bytes
  when (nat_lt size.0 (length size.1)) (take size.0 size.1, drop size.0 size.1)

-- the change behind an open gate, which these rows may take
unfoldable pub change_at : Bool → Rows → List ℕ → Field Change
change_at is_first rows bytes = do
  found ← body_at bytes
  change ← decoded found.0
  when (may_hold is_first rows change) (change, found.1)

-- contents with one change more in front
abbrev pub with_first : Change → Result Contents ℕ → Result Contents ℕ
with_first change (Ok contents) = Ok (record contents { changes = change ∷ contents.changes })
with_first change (Err place) = Err place

-- what follows from a field, or damage at a place
abbrev pub damaged_unless : ℕ → Field Change → (Change × List ℕ → Result Contents ℕ) → Result Contents ℕ
damaged_unless place None read = Err place
damaged_unless place (Some found) read = read found

-- the records from a place on, at most so many, over rows: up to the first closed gate, or damaged at a place
abbrev pub records_from : ℕ → Bool → Rows → ℕ → List ℕ → Result Contents ℕ
records_from most is_first rows place [] = Ok (record { changes = []; place = place })
records_from zero is_first rows place (gate ∷ bytes) = Ok (record { changes = []; place = place })
records_from (suc most) is_first rows place (gate ∷ bytes) =
    if gate == 1 then damaged_unless place (change_at is_first rows bytes) (λ found.
    with_first found.0 (records_from most is_first (after rows found.0) (place + record_length found.0) found.1))
    else Ok (record { changes = []; place = place })

-- the records of an area
abbrev pub area_contents : Bool → List ℕ → Result Contents ℕ
area_contents is_first bytes = records_from (length bytes) is_first common_rows header_end bytes

-- damage lies at a place of the disk
abbrev pub on_disk : ℕ → Area → Result Contents ℕ → Result Contents ℕ
on_disk limit area (Ok contents) = Ok contents
on_disk limit area (Err place) = Err (disk_place limit area place)

-- an area does not begin on the disk
abbrev pub is_missing : ℕ → Area → List ℕ → Bool
is_missing limit area disk = nat_le (length disk) (area_start limit area)

-- the journal on a disk of an area's limit: its changes, or the place where it is damaged
abbrev pub journal : ℕ → List ℕ → Result Contents ℕ
journal limit disk =
    if is_fresh disk then Ok no_changes
    else (if not (has_header disk) then Err 0
    else (if is_missing limit (area_in_use disk) disk then Err 8
    else on_disk limit (area_in_use disk) (area_contents (is_first_version disk) (area_bytes limit (area_in_use disk) disk))))

-- an image reads as changes that make the rows
abbrev pub HasRows : ℕ → Rows → List ℕ → Type 0
HasRows limit rows image = (contents : Contents) × (journal limit image ≡ Ok contents) × (rows_of contents.changes ≡ rows)
