-- How a disk is found.
use Rattle.std.specs.Prelude.{◌≡◌, ◌≢◌, ℕ, ◌≤◌, Bool, true, false, List, length, slice_index, Option, Some, None, if◌then◌else◌}
use Rattle.meta_journal.specs.Layout.{area_in_use, has_header, is_first_version, is_fresh}
use Rattle.meta_journal.specs.declared.header.Header.{Header}
use Rattle.meta_journal.specs.declared.starting.Found.{Found}
use Rattle.meta_journal.specs.declared.starting.Found.TheVariants.{Fresh, Old}

-- a disk of at most 17 bytes whose first byte is no letter of a journal
pub record IsBlank (bytes : List ℕ) : Type 0 where
  pub some : 1 ≤ length bytes
  pub few : length bytes ≤ 17
  pub other : slice_index bytes 0 ≢ 70

-- a disk is fresh, and where its first byte is not to be cleared it is no letter of a journal
abbrev pub IsReady : Bool → List ℕ → Type 0
IsReady true bytes = length bytes ≤ 16
IsReady false bytes = IsBlank bytes

-- a disk with these bytes is found so
abbrev pub IsFound : List ℕ → Found → Type 0
IsFound bytes (Fresh clear) = IsReady clear bytes
IsFound bytes (Old len) = (is_fresh bytes ≡ false) × (len ≡ length bytes)

-- a disk that is not fresh is found with at least 17 bytes
abbrev pub IsLong : Found → Type 0
IsLong (Fresh clear) = Unit {0}
IsLong (Old len) = 17 ≤ len

-- what the header of a disk says, if it has one
abbrev pub header_in : List ℕ → Option Header
header_in bytes =
    if has_header bytes then Some (record { is_first_version = is_first_version bytes; area = area_in_use bytes }) else None
