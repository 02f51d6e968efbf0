-- What the directory keeps beside its rows.
use Rattle.std.specs.Prelude.{◌≡◌, ℕ, ◌<◌, Bool, true, false, List, [], map, find, All, Option, Some, None, Vec}
use Rattle.std.specs.Option.{option_map}
use Rattle.std.specs.Str.{bytes_eq}
use Rattle.std.specs.Vec.{vec_len, vec_capacity}
use Rattle.fam_base.specs.declared.naming.RegionId.{RegionId}
use Rattle.fam_model.specs.declared.rows.ItemRow.{ItemRow}
use Rattle.fam_model.specs.declared.rows.RegionRow.{RegionRow}
use Rattle.fam_model.specs.declared.rows.Rows.{Rows}
use Rattle.fam_model.specs.declared.change.Change.{Change}
use Rattle.fam_model.specs.declared.change.Change.TheVariants as change
use Rattle.fam_model.specs.Rows.{IsLawful, region_number, item_number, region_of, region_named, item_named, items_in, total_size}
use Rattle.fam_directory.specs.declared.region.Region.{Region}
use Rattle.fam_directory.specs.declared.region.Coming.{Coming}
use Rattle.fam_directory.specs.Names.{NameMap, named}
use Rattle.fam_directory.specs.Slots.{ItemList}
use Rattle.region_alloc.specs.Items.{AreRangesOf}

-- the name of a new row: that of an item in a region, or else of a region
pub record NewName : Type 0 where
  pub region : Option ℕ
  pub name : List ℕ

-- what a directory is: its rows, and the name for which memory is held, if there is one
pub record Listing : Type 0 where
  pub rows : Rows
  pub coming : Option NewName

-- the name of a new row
abbrev pub waits_for : Option ℕ → List ℕ → NewName
waits_for region name = record { region = region; name = name }

-- the change adds a region
abbrev pub adds_region : Change → Bool
adds_region (change.CreateRegion region uid gid mode size name) = true
adds_region _ = false

-- the change adds an item
abbrev pub adds_item : Change → Bool
adds_item (change.Allocate item region base size uid gid mode name) = true
adds_item _ = false

-- the change takes no memory: the memory for the row that it adds, if it adds one, is held
abbrev pub IsReserved : Listing → Change → Type 0
IsReserved listing (change.CreateRegion region uid gid mode size name) =
    listing.coming ≡ Some (waits_for None name)
IsReserved listing (change.Allocate item region base size uid gid mode name) =
    listing.coming ≡ Some (waits_for (Some region.0) name)
IsReserved listing _ = Unit {0}

-- the rows, from the lists in which they lie
abbrev pub rows_of : List Region → List ItemRow → ℕ → ℕ → Rows
rows_of regions items next_region next_item =
    record { regions = map (λ region. region.row) regions; items = items; next_region = next_region; next_item = next_item }

-- the number of a region with its index
abbrev pub number_of : Region → ℕ
number_of region = region_number region.row

-- the index of a region: its items by their names, and their room
pub record IsIndexOf (rows : Rows) (region : Region) : Type 0 where
  pub names : (name : List ℕ) → named name region.items ≡ option_map item_number (item_named rows (number_of region) name)
  pub ranges : AreRangesOf rows region.row region.room

-- the region of a number with its index, if there is such a region; else no item lies there
abbrev pub IsEntry : Rows → ℕ → Option Region → Type 0
IsEntry rows number None = (region_of rows number ≡ None) × (items_in rows number ≡ [])
IsEntry rows number (Some region) = (region_of rows number ≡ Some region.row) × IsIndexOf rows region

-- the rows are lawful, and the indexes are theirs
pub record IsIndexed (rows : Rows) (regions : List Region) (names : NameMap) (total : ℕ) : Type 0 where
  pub lawful : IsLawful rows
  pub by_name : (name : List ℕ) → named name names ≡ option_map region_number (region_named rows name)
  pub sum : total ≡ total_size rows
  pub indexes : All (IsIndexOf rows) regions

-- the name of a row that comes
abbrev pub new_name : Coming → NewName
new_name coming = record { region = option_map (λ region. region.0) coming.region; name = coming.name }

-- there is memory for one more row, and for its name
abbrev pub HasRoom : {Z : Type 0} → Vec Region Z → ItemList → NameMap → Option RegionId → Type 0
HasRoom regions items names None = (vec_len regions < vec_capacity regions) × (names.is_ready ≡ true)
HasRoom regions items names (Some number) =
    (items.is_ready ≡ true)
    × All (λ region. number_of region ≡ number.0 → (region.items.is_ready ≡ true) × (region.room.is_ready ≡ true)) regions.items

-- a row that comes has its name twice, and memory is held for it
abbrev pub IsAwaited : {Z : Type 0} → Vec Region Z → ItemList → NameMap → Option Coming → Type 0
IsAwaited regions items names None = Unit {0}
IsAwaited regions items names (Some coming) = (coming.key ≡ coming.name) × HasRoom regions items names coming.region

-- the number of a name among the rows of regions
abbrev pub named_in : List ℕ → List RegionRow → Option ℕ
named_in name regions = option_map region_number (find (λ row. bytes_eq row.name name) regions)

-- the rows with no items
abbrev pub without_items : Rows → Rows
without_items rows = record rows { items = [] }
