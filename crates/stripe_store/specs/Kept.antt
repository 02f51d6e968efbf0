-- What a store holds: the rows of each region that has any.
use Rattle.std.specs.Prelude.{ℕ, List, [], ◌∷◌, slice_set, unwrap_or}
use Rattle.std.specs.Ordering.{nat_cmp}
use Rattle.std.specs.FinMap.{FinMap, empty, get, insert, remove}
use Rattle.std.specs.Coded.{Coded, coded_ℕ, coded_list}
use Rattle.std.specs.FinMap as map
use Rattle.fam_base.specs.declared.naming.RegionId.{RegionId}
use Rattle.stripe_store.specs.Rows.{bytes_of}

-- from the number of a region to its rows
abbrev pub Kept : Type 0
Kept = FinMap nat_cmp (List (List ℕ))

-- it is stored as the list of its entries
abbrev pub coded_kept : Coded Kept
coded_kept = map.code coded_ℕ (coded_list (coded_list coded_ℕ))

-- the rows of a region; none where the region is not there
abbrev pub rows_of : Kept → ℕ → List (List ℕ)
rows_of kept region = unwrap_or (get kept region) []

-- the bytes of a row; none where the row is not there
abbrev pub row_of : Kept → ℕ → ℕ → List ℕ
row_of kept region row = bytes_of (rows_of kept region) row

-- the same but for the rows of one region; with no rows the region is not there
abbrev pub with_rows : Kept → ℕ → List (List ℕ) → Kept
with_rows kept region [] = remove kept region
with_rows kept region (row ∷ rows) = insert kept region (row ∷ rows)

-- the same but for the bytes of one row
abbrev pub with_row : Kept → ℕ → ℕ → List ℕ → Kept
with_row kept region row bytes = with_rows kept region (slice_set (rows_of kept region) row bytes)

-- what the entries of a map say
abbrev pub kept_of : List (RegionId × List (List ℕ)) → Kept
kept_of [] = empty
kept_of (entry ∷ entries) = with_rows (kept_of entries) entry.0.0 entry.1
