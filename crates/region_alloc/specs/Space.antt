-- The rooms that are taken in a region, and where another one fits.
use Rattle.std.specs.Prelude.{ℕ, ◌+◌, ◌%◌, Bool, not, ◌==◌, ◌&&◌, ◌||◌, nat_le, nat_lt, List, ◌∷◌, ◌++◌, filter, find, Option}
use Rattle.std.specs.List.{list_all, list_any}
use Rattle.fam_model.specs.Rows.{room, bases_up_to}
use Rattle.region_alloc.specs.declared.extent.Extent.{Extent}

-- a region of this size with its rooms in order of base
pub record Space : Type 0 where
  pub size : ℕ
  pub rooms : List Extent

-- where an extent ends
abbrev pub end_of : Extent → ℕ
end_of extent = extent.base + extent.length

-- the room of n bytes at base does not meet a room
abbrev pub is_clear : ℕ → ℕ → Extent → Bool
is_clear n base taken = nat_le (base + room n) taken.base || nat_le (end_of taken) base

-- n bytes may lie at base
abbrev pub has_place : Space → ℕ → ℕ → Bool
has_place space n base = base % 64 == 0 && nat_le (base + room n) space.size && list_all (is_clear n base) space.rooms

-- the least base at which n bytes may lie
abbrev pub least_place : Space → ℕ → Option ℕ
least_place space n = find (has_place space n) (bases_up_to space.size)

-- n bytes may lie nowhere
abbrev pub has_no_place : Space → ℕ → Bool
has_no_place space n = not (list_any (has_place space n) (bases_up_to space.size))

-- some room ends past a size
abbrev pub is_cut_at : ℕ → List Extent → Bool
is_cut_at size rooms = list_any (λ taken. nat_lt size (end_of taken)) rooms

-- the room of n bytes at base is one of the rooms
abbrev pub has_room : ℕ → ℕ → List Extent → Bool
has_room base n rooms = list_any (λ taken. taken.base == base && taken.length == room n) rooms

-- the room of n bytes at base
abbrev pub room_at : ℕ → ℕ → Extent
room_at base n = record { base = base; length = room n }

-- the rooms with that of n bytes at base in its place
abbrev pub with_room : ℕ → ℕ → List Extent → List Extent
with_room base n rooms =
    filter (λ taken. nat_lt taken.base base) rooms ++ room_at base n ∷ filter (λ taken. nat_lt base taken.base) rooms

-- the rooms without the one at base
abbrev pub without_room : ℕ → List Extent → List Extent
without_room base rooms = filter (λ taken. not (taken.base == base)) rooms
