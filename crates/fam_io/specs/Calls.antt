-- Calls that are counted, and which of them fail.
use Rattle.std.specs.Prelude.{ℕ, Bool, ◌+◌, ◌-◌, ◌^◌, ◌==◌, min, max, List, length, slice_index, if◌then◌else◌}
use Rattle.std.specs.List.{list_any}

-- the next number of a count, which stays at the last number of u64
abbrev pub next_number : ℕ → ℕ
next_number n = min (n + 1) (2 ^ 64 - 1)

-- where so many calls were made, whether the next is one of those that fail
abbrev pub fails_next : List ℕ → ℕ → Bool
fails_next failing calls = list_any (λ n. n == next_number calls) failing

-- where so many reads were made, how many bytes the next may give
abbrev pub piece_of : List ℕ → ℕ → ℕ
piece_of pieces calls = if length pieces == 0 then 2 ^ 64 - 1 else max 1 (slice_index pieces (min calls (length pieces - 1)))
