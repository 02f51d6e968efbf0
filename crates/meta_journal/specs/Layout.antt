-- How a journal lies on a disk: a header of 16 bytes, and two areas of records, of which one is in use.
use Rattle.std.specs.Prelude.{◌≡◌, ℕ, ◌+◌, ◌-◌, Bool, not, ◌==◌, ◌&&◌, ◌||◌, nat_lt, List, ◌∷◌, ◌++◌, length, take, drop, slice_index, replicate, codes, if◌then◌else◌}
use Rattle.std.specs.List.{flat_map}
use Rattle.std.specs.Str.{bytes_eq}
use Rattle.fam_model.specs.declared.change.Change.{Change}
use Rattle.meta_codec.specs.Body.{body, u32}
use Rattle.meta_journal.specs.declared.area.Area.{Area}
use Rattle.meta_journal.specs.declared.area.Area.TheVariants.{First, Second}

-- so many bytes of a disk from a place on
abbrev pub part : ℕ → ℕ → List ℕ → List ℕ
part at n bytes = take n (drop at bytes)

-- these bytes stand at a place
abbrev pub Holds : ℕ → List ℕ → List ℕ → Type 0
Holds at bytes disk = part at (length bytes) disk ≡ bytes

abbrev pub stands_at : ℕ → List ℕ → List ℕ → Bool
stands_at at bytes disk = bytes_eq (part at (length bytes) disk) bytes

-- The header

abbrev pub magic : List ℕ
magic = codes "FAMJ"

abbrev pub header_end : ℕ
header_end = 16

-- the bytes of a header that are always the same
abbrev pub has_header : List ℕ → Bool
has_header disk = stands_at 0 magic disk && stands_at 5 (replicate 3 0) disk && stands_at 9 (replicate 7 0) disk

-- byte 4 is the version: 1, and else 2
abbrev pub is_first_version : List ℕ → Bool
is_first_version disk = slice_index disk 4 == 1

-- byte 8 is the area in use: 1 is the second, and else the first
abbrev pub area_in_use : List ℕ → Area
area_in_use disk = if slice_index disk 8 == 1 then Second else First

abbrev pub area_byte : Area → ℕ
area_byte First = 0
area_byte Second = 1

-- a disk that holds no journal yet
abbrev pub is_fresh : List ℕ → Bool
is_fresh disk = nat_lt (length disk) 17 || (length disk == 17 && not (slice_index disk 0 == 70))

-- The areas. A place in an area is counted from 16.

abbrev pub area_start : ℕ → Area → ℕ
area_start limit First = header_end
area_start limit Second = limit

-- where a place of an area lies on the disk
abbrev pub disk_place : ℕ → Area → ℕ → ℕ
disk_place limit area place = area_start limit area + (place - header_end)

-- the bytes of an area
abbrev pub area_bytes : ℕ → Area → List ℕ → List ℕ
area_bytes limit area disk = part (area_start limit area) (limit - header_end) disk

-- The records

-- a record of a change, behind its gate
abbrev pub record_bytes : Change → List ℕ
record_bytes change = u32 (length (body change)) ++ body change

-- records of changes, each behind an open gate
abbrev pub records : List Change → List ℕ
records changes = flat_map (λ change. 1 ∷ record_bytes change) changes

-- the place behind records of changes, counted from 16
abbrev pub records_end : List Change → ℕ
records_end changes = header_end + length (records changes)
