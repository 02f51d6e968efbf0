-- A source in memory goes on.
use Rattle.std.proofs.Common.{◌≡◌, ℕ, ◌+◌, List, take, drop}
use Rattle.std.proofs.lemmas.List.{drop-drop}
use Rattle.std.proofs.Math.Seq.{take-add}
use Rattle.fam_io.specs.Calls.{next_number}
use Rattle.fam_io.specs.Memory.{MemorySource, after_read}

-- a source of these bytes, of which so many were read
abbrev pub source_at : List ℕ → ℕ → List ℕ → ℕ → ℕ → MemorySource
source_at bytes at failing calls faults = record { taken = take at bytes; left = drop at bytes; failing = failing; calls = calls; faults = faults }

-- one read more
pub source_at-read : (bytes : List ℕ) (at n : ℕ) (failing : List ℕ) (calls faults : ℕ)
    → source_at bytes (at + n) failing (next_number calls) faults ≡ after_read (source_at bytes at failing calls faults) n
source_at-read bytes at n failing calls faults =
    let front = take-add at n bytes in
    let back = drop-drop n at bytes in
    cc
