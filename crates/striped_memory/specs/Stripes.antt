-- How the bytes of a region lie in the rows of the stripes' stores.
use Rattle.std.specs.Prelude.{ℕ, ◌+◌, ◌-◌, ◌*◌, ◌/◌, ◌<◌, ◌≤◌, ◌^◌, ◌≡◌, ◌≢◌, List, [], ◌∷◌, length, map, take, replicate, slice_index, slice_index_or, Option, unwrap_or, IsTrue}
use Rattle.std.specs.FinMap.{FinMap, empty, insert}
use Rattle.std.specs.Int.{div_ceil}
use Rattle.std.specs.Ordering.{nat_cmp}
use Rattle.std.specs.declared.cmp.Ordering.{Ordering}
use Rattle.std.specs.Map.{lookup}
use Rattle.std.specs.BTreeMap.{is_at}
use Rattle.fam_base.specs.declared.naming.RegionId.{RegionId}
use Rattle.fam_model.specs.declared.piece.Place.{Place}
use Rattle.fam_model.specs.declared.service.Service.{Service}
use Rattle.fam_model.specs.Lists.{numbers_below}
use Rattle.fam_model.specs.Pieces.{stripe_count, place_at}
use Rattle.fam_layout.specs.Layouts.{is_lawful}
use Rattle.stripe_store.specs.Kept.{Kept, rows_of}
use Rattle.stripe_store.specs.Rows.{bytes_of, grown}
use Rattle.striped_memory.specs.Striped.{first_unit, resized}

-- the store of a stripe
abbrev pub store_at : List Kept → ℕ → Kept
store_at stores stripe = slice_index_or stores stripe empty

-- so many stores with no rows
abbrev pub no_rows : ℕ → List Kept
no_rows count = replicate count empty

-- the rows that a region has on a stripe
abbrev pub rows_on : List Kept → ℕ → ℕ → List (List ℕ)
rows_on stores stripe region = rows_of (store_at stores stripe) region

-- the byte at a place
abbrev pub byte_at : List Kept → ℕ → Place → ℕ
byte_at stores region place = slice_index (bytes_of (rows_on stores place.stripe region) place.row) place.at

-- the byte of a region at an address
unfoldable pub byte_of : Service → List Kept → ℕ → ℕ → ℕ
byte_of service stores region address = byte_at stores region (place_at service region address)

-- the bytes of a region of this size
unfoldable pub bytes_in : Service → List Kept → ℕ → ℕ → List ℕ
bytes_in service stores region size = map (byte_of service stores region) (numbers_below size)

-- how many rows a region of this size has on a stripe
unfoldable pub row_count : Service → ℕ → ℕ → ℕ → ℕ
row_count service region size stripe =
    (div_ceil size service.unit + (stripe_count service - 1 - first_unit service region stripe)) / stripe_count service

-- on each stripe the region has the rows that its size asks for, each of one unit
pub record HasRows (service : Service) (stores : List Kept) (region size : ℕ) : Type 0 where
  pub rows : (stripe : ℕ) → stripe < stripe_count service →
      map length (rows_on stores stripe region) ≡ replicate (row_count service region size stripe) service.unit

-- changes of the stores

-- each region but one has the rows that it had
abbrev pub SameElsewhere : List Kept → List Kept → ℕ → Type 0
SameElsewhere old new region = (stripe other : ℕ) → other ≢ region → rows_on new stripe other ≡ rows_on old stripe other

-- each region has the rows that it had
abbrev pub SameRows : List Kept → List Kept → Type 0
SameRows old new = (stripe region : ℕ) → rows_on new stripe region ≡ rows_on old stripe region

-- the region has zero rows more, up to those of this size
pub record Grew (service : Service) (old new : List Kept) (region size : ℕ) : Type 0 where
  pub here : (stripe : ℕ) → stripe < length old →
      rows_on new stripe region ≡ grown (rows_on old stripe region) (row_count service region size stripe) service.unit
  pub elsewhere : SameElsewhere old new region

-- the region has at least the rows that it had
pub record KeptFront (old new : List Kept) (region : ℕ) : Type 0 where
  pub here : (stripe : ℕ) → take (length (rows_on old stripe region)) (rows_on new stripe region) ≡ rows_on old stripe region
  pub elsewhere : SameElsewhere old new region

-- the region has at most the rows of this size
pub record Shrank (service : Service) (old new : List Kept) (region size : ℕ) : Type 0 where
  pub here : (stripe : ℕ) → stripe < length old →
      rows_on new stripe region ≡ take (row_count service region size stripe) (rows_on old stripe region)
  pub elsewhere : SameElsewhere old new region

-- in the unit in which the byte behind so many bytes lies, the bytes from there on are zero
pub record Zeroed (service : Service) (old new : List Kept) (region size : ℕ) : Type 0 where
  pub count : length new ≡ length old
  pub shape : (stripe : ℕ) → map length (rows_on new stripe region) ≡ map length (rows_on old stripe region)
  pub before : (address : ℕ) → address < size → byte_of service new region address ≡ byte_of service old region address
  pub rest : (address : ℕ) → size ≤ address → address / service.unit * service.unit < size →
      byte_of service new region address ≡ 0
  pub behind : (address : ℕ) → size ≤ address / service.unit * service.unit →
      byte_of service new region address ≡ byte_of service old region address
  pub elsewhere : SameElsewhere old new region

-- the region has the rows of its new size, and the bytes that it had as far as they go, and then zeros
pub record Resized (service : Service) (old new : List Kept) (region from to : ℕ) : Type 0 where
  pub count : length new ≡ length old
  pub rows : HasRows service new region to
  pub bytes : bytes_in service new region to ≡ resized (bytes_in service old region from) to
  pub elsewhere : SameElsewhere old new region

-- the region has no rows
pub record Dropped (old new : List Kept) (region : ℕ) : Type 0 where
  pub here : (stripe : ℕ) → rows_on new stripe region ≡ []
  pub elsewhere : SameElsewhere old new region

-- the sizes of regions

-- the entries of a map from regions to their sizes
abbrev pub Sizes : Type 0
Sizes = List (RegionId × ℕ)

-- the order of regions
abbrev pub by_number : RegionId → RegionId → Ordering
by_number a b = nat_cmp a.0 b.0

-- the size of a region, if it is there
abbrev pub found : Sizes → ℕ → Option ℕ
found sizes region = lookup (is_at (by_number (record { 0 = region }))) sizes

-- its size; a region that is not there has none
abbrev pub size_in : Sizes → ℕ → ℕ
size_in sizes region = unwrap_or (found sizes region) 0

-- the bytes of each region
abbrev pub regions_of : Service → List Kept → Sizes → FinMap nat_cmp (List ℕ)
regions_of service stores [] = empty
regions_of service stores (entry ∷ sizes) =
    insert (regions_of service stores sizes) entry.0.0 (bytes_in service stores entry.0.0 entry.1)

-- a store for each stripe, with the rows of every region
pub record IsStriped (service : Service) (stores : List Kept) (sizes : Sizes) : Type 0 where
  pub lawful : IsTrue (is_lawful service)
  pub stripes : length stores ≡ stripe_count service
  pub rows : (region : ℕ) → HasRows service stores region (size_in sizes region)
  pub small : (region : ℕ) → size_in sizes region ≤ 2 ^ 26
