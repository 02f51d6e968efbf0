-- Calls that are counted, and which of them fail.
use Rattle.std.specs.Prelude.{ℕ, Bool, ◌+◌, ◌-◌, ◌^◌, ◌==◌, min}
use Rattle.std.specs.List.{list_any}
use Rattle.fam_disk.specs.declared.calls.Calls.{Calls}

-- the next number of a count, which stays at the last number of u64
abbrev pub next_number : ℕ → ℕ
next_number n = min (n + 1) (2 ^ 64 - 1)

-- whether the next call is one of those that fail
abbrev pub fails_next : Calls → Bool
fails_next calls = list_any (λ n. n == next_number calls.made) calls.failing

-- after one more call
abbrev pub counted : Calls → Calls
counted calls = record { failing = calls.failing; made = next_number calls.made }
