-- What contracts see of a source and of a sink in memory.
use Rattle.std.specs.Prelude.{ℕ, List, ◌++◌, take, drop, Some}
use Rattle.fam_io.specs.Calls.{next_number}
use Rattle.fam_io.specs.State.{SourceState, SinkState}

-- a source in memory
pub record MemorySource : Type 0 where
  -- what was read of it
  pub taken : List ℕ
  -- what is left
  pub left : List ℕ
  -- the numbers of the reads that fail
  pub failing : List ℕ
  -- how many reads were made
  pub calls : ℕ
  -- how many of them failed
  pub faults : ℕ

-- a sink in memory
pub record MemorySink : Type 0 where
  -- what was written to it
  pub written : List ℕ
  -- the numbers of the writes that fail
  pub failing : List ℕ
  -- how many writes were made
  pub calls : ℕ
  -- how many of them failed
  pub faults : ℕ

-- a source after a read that gave so many bytes
abbrev pub after_read : MemorySource → ℕ → MemorySource
after_read old n = record old { taken = old.taken ++ take n old.left; left = drop n old.left; calls = next_number old.calls }

-- a source after a read that failed
abbrev pub after_failed_read : MemorySource → MemorySource
after_failed_read old = record old { calls = next_number old.calls; faults = next_number old.faults }

-- a sink after a write that took these bytes
abbrev pub after_write : MemorySink → List ℕ → MemorySink
after_write old bytes = record old { written = old.written ++ bytes; calls = next_number old.calls }

-- a sink after a write that failed
abbrev pub after_failed_write : MemorySink → MemorySink
after_failed_write old = record old { calls = next_number old.calls; faults = next_number old.faults }

-- a source in memory tells all
abbrev pub told_source : MemorySource → SourceState
told_source s = record { taken = Some s.taken; left = Some s.left; faults = s.faults }

-- a sink in memory tells all
abbrev pub told_sink : MemorySink → SinkState
told_sink s = record { written = Some s.written; faults = s.faults }
