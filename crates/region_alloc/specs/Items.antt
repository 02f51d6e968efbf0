-- The rooms of a region's items, and what they say of rows.
use Rattle.std.specs.Prelude.{◌≡◌, ℕ, Bool, List}
use Rattle.std.specs.List.{list_all}
use Rattle.fam_model.specs.declared.rows.ItemRow.{ItemRow}
use Rattle.fam_model.specs.declared.rows.RegionRow.{RegionRow}
use Rattle.fam_model.specs.declared.rows.Rows.{Rows}
use Rattle.fam_model.specs.Directory.{cuts_item}
use Rattle.fam_model.specs.Rows.{room, region_number, items_in, fits, least_base, no_gap}
use Rattle.region_alloc.specs.declared.extent.Extent.{Extent}
use Rattle.region_alloc.specs.Gaps.{FreeRanges, Holds, space_with}
use Rattle.region_alloc.specs.Space.{Space, has_place, least_place, has_no_place, is_cut_at}

-- the room of an item
abbrev pub room_of : ItemRow → Extent
room_of item = record { base = item.base; length = room item.size }

-- the space of a region in rows: it has the region's size, and its rooms are just those of the region's items
pub record IsSpaceOf (rows : Rows) (row : RegionRow) (space : Space) : Type 0 where
  pub same_size : space.size ≡ row.size
  pub same_rooms : (test : Extent → Bool) → list_all test space.rooms ≡ list_all (λ item. test (room_of item)) (items_in rows (region_number row))

-- free ranges are those of a region in rows: they hold just the rooms of the region's items
pub record AreRangesOf (rows : Rows) (row : RegionRow) (free : FreeRanges) : Type 0 where
  pub rooms : List Extent
  pub held : Holds free rooms
  pub space : IsSpaceOf rows row (space_with free rooms)

-- then bytes fit in the space just where they fit in the region
pub record PlacesAreBases : Type 0 where
  pub place : (rows : Rows) (row : RegionRow) (space : Space) (n base : ℕ) → IsSpaceOf rows row space → has_place space n base ≡ fits rows row n base
  pub least : (rows : Rows) (row : RegionRow) (space : Space) (n : ℕ) → IsSpaceOf rows row space → least_place space n ≡ least_base rows row n
  pub nowhere : (rows : Rows) (row : RegionRow) (space : Space) (n : ℕ) → IsSpaceOf rows row space → has_no_place space n ≡ no_gap rows row n
  pub cut : (rows : Rows) (row : RegionRow) (space : Space) (size : ℕ) → IsSpaceOf rows row space → is_cut_at size space.rooms ≡ cuts_item rows row size
