-- The free ranges in front of the rooms of a region.
use Rattle.std.specs.Prelude.{◌≡◌, ℕ, ◌-◌, ◌%◌, ◌<◌, ◌≤◌, Bool, ◌==◌, ◌&&◌, nat_lt, nat_le, List, [], ◌∷◌, ◌++◌, length, slice_get, filter, find, if◌then◌else◌}
use Rattle.std.specs.Option.{option_map_or}
use Rattle.fam_model.specs.Limits.{max_region_size}
use Rattle.region_alloc.specs.declared.extent.Extent.{Extent}
use Rattle.region_alloc.specs.Space.{Space, end_of}

-- what is seen of a region: its size, the free ranges in front of its rooms, where the last room ends, and how many rooms there are;
-- where it is ready, one more room takes no memory
pub record FreeRanges : Type 0 where
  pub size : ℕ
  pub gaps : List Extent
  pub end : ℕ
  pub count : ℕ
  pub is_ready : Bool

-- the range from one place to another, unless it is empty
abbrev pub gap_of : ℕ → ℕ → List Extent
gap_of from to = if nat_lt from to then record { base = from; length = to - from } ∷ [] else []

-- the gaps in front of rooms, the first of which begins at `from` or behind it
abbrev pub gaps_from : ℕ → List Extent → List Extent
gaps_from from [] = []
gaps_from from (taken ∷ rooms) = gap_of from taken.base ++ gaps_from (end_of taken) rooms

-- where the last of these rooms ends
abbrev pub end_from : ℕ → List Extent → ℕ
end_from from [] = from
end_from from (taken ∷ rooms) = end_from (end_of taken) rooms

-- rooms of whole blocks, one behind the other between two places
abbrev pub LieIn : ℕ → ℕ → List Extent → Type 0
LieIn from limit [] = from ≤ limit
LieIn from limit (taken ∷ rooms) =
    (from ≤ taken.base) × (taken.base % 64 ≡ 0) × (taken.length % 64 ≡ 0) × (0 < taken.length) × LieIn (end_of taken) limit rooms

-- the rooms lie in a region of this size, and leave these gaps in front of them, up to this end
pub record Leave (rooms : List Extent) (size : ℕ) (gaps : List Extent) (end : ℕ) : Type 0 where
  pub lie : LieIn 0 size rooms
  pub are_gaps : gaps ≡ gaps_from 0 rooms
  pub is_end : end ≡ end_from 0 rooms

-- the region holds just these rooms: its free ranges are those that the rooms leave
pub record Holds (free : FreeRanges) (rooms : List Extent) : Type 0 where
  pub leave : Leave rooms free.size free.gaps free.end
  pub counted : free.count ≡ length rooms

-- a region with rooms that it holds
abbrev pub space_with : FreeRanges → List Extent → Space
space_with free rooms = record { size = free.size; rooms = rooms }

-- the free ranges from the fields
abbrev pub ranges_of : ℕ → List Extent → ℕ → ℕ → ℕ → FreeRanges
ranges_of size gaps end count capacity = record { size = size; gaps = gaps; end = end; count = count; is_ready = nat_lt count capacity }

-- what is kept: some rooms are held, and each has a place for a gap
pub record IsKept (free : FreeRanges) (capacity : ℕ) : Type 0 where
  pub limit : free.size ≤ max_region_size
  pub places : free.count ≤ capacity
  pub rooms : List Extent
  pub held : Holds free rooms

-- the base of the first gap of at least this length, or else the end of the last room
abbrev pub first_gap : ℕ → List Extent → ℕ → ℕ
first_gap want gaps end = option_map_or (λ gap. gap.base) (find (λ gap. nat_le want gap.length) gaps) end

-- so many bytes at a base lie in a gap
abbrev pub has_bytes : ℕ → ℕ → Extent → Bool
has_bytes base long gap = nat_le gap.base base && nat_le long gap.length && nat_le (base - gap.base) (gap.length - long)

-- extents in order of base, from a place on
abbrev pub Rise : ℕ → List Extent → Type 0
Rise from [] = Unit {0}
Rise from (extent ∷ rest) = (from ≤ extent.base) × Rise extent.base rest

-- extents in order, each behind the end of the one before it
abbrev pub Apart : ℕ → List Extent → Type 0
Apart from [] = Unit {0}
Apart from (extent ∷ rest) = (from ≤ extent.base) × Apart (end_of extent) rest

-- how many extents begin before a place
abbrev pub count_before : ℕ → List Extent → ℕ
count_before base extents = length (filter (λ extent. nat_lt extent.base base) extents)

-- a gap ends at a place
abbrev pub ends_at : ℕ → Extent → Bool
ends_at place gap = nat_le gap.base place && (place - gap.base) == gap.length

-- where the last of the first `count` gaps begins if it ends at a place, or else that place
abbrev pub start_of : List Extent → ℕ → ℕ → ℕ
start_of gaps count place =
    if count == 0 then place else option_map_or (λ gap. if ends_at place gap then gap.base else place) (slice_get gaps (count - 1)) place

-- how long the gap behind the first `count` is if it begins at a place, or else 0
abbrev pub length_at : List Extent → ℕ → ℕ → ℕ
length_at gaps count place = option_map_or (λ gap. if gap.base == place then gap.length else 0) (slice_get gaps count) 0
