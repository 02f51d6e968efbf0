-- The rows of one region, each of them a list of bytes.
use Rattle.std.specs.Prelude.{ℕ, ◌+◌, ◌-◌, ◌<◌, ◌≤◌, List, [], ◌++◌, length, take, drop, replicate, slice_index_or}

-- the bytes of a row; none where the row is not there
abbrev pub bytes_of : List (List ℕ) → ℕ → List ℕ
bytes_of rows row = slice_index_or rows row []

-- n bytes from a place on lie inside a row that is there
abbrev pub Reaches : List (List ℕ) → ℕ → ℕ → ℕ → Type 0
Reaches rows row at n = (row < length rows) × (at + n ≤ length (bytes_of rows row))

-- a row with other bytes from a place on
abbrev pub overwritten : List ℕ → ℕ → List ℕ → List ℕ
overwritten row at bytes = take at row ++ bytes ++ drop (at + length bytes) row

-- a row of zeros
abbrev pub zeros : ℕ → List ℕ
zeros n = replicate n 0

-- at least n rows: the ones that were there, and then rows of unit zeros
abbrev pub grown : List (List ℕ) → ℕ → ℕ → List (List ℕ)
grown rows n unit = rows ++ replicate (n - length rows) (zeros unit)
