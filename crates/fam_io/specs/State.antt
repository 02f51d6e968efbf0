-- What contracts see of a source and of a sink, and what their calls do to it.
use Rattle.std.specs.Prelude.{◌≡◌, ℕ, ◌≤◌, List, length, take, Option, None}
use Rattle.std.specs.Io.KnownBytes.{Appends, Consumes}

-- What contracts see of a source. It tells what was read of it, or not, and what is left, or not.
pub record SourceState : Type 0 where
  -- what was read of it
  pub taken : Option (List ℕ)
  -- what reads give from here on
  pub left : Option (List ℕ)
  -- how often a read has failed
  pub faults : ℕ

-- What contracts see of a sink. It tells what was written to it, or not.
pub record SinkState : Type 0 where
  -- what was written to it
  pub written : Option (List ℕ)
  -- how often a write has failed
  pub faults : ℕ

-- These bytes go from the front of what is left to the end of what was read.
pub record Moves (old new : SourceState) (bytes : List ℕ) : Type 0 where
  pub given : Consumes old.left new.left bytes
  pub kept : Appends old.taken new.taken bytes

-- At most so many bytes go from the front of what is left to the end of what was read.
abbrev pub MovesUpTo : SourceState → SourceState → ℕ → Type 0
MovesUpTo old new most = (bytes : List ℕ) × (length bytes ≤ most) × Moves old new bytes

-- a prefix of the piece is added at the end of what was written
abbrev pub AddsPrefix : SinkState → SinkState → List ℕ → Type 0
AddsPrefix old new piece = (n : ℕ) × (n ≤ length piece) × Appends old.written new.written (take n piece)

-- Exactly so many bytes go from the front of what is left to the end of what was read.
abbrev pub MovesExactly : SourceState → SourceState → ℕ → Type 0
MovesExactly old new count = (bytes : List ℕ) × (length bytes ≡ count) × Moves old new bytes

-- what an object that is no source is as a source
abbrev pub no_source : SourceState
no_source = record { taken = None; left = None; faults = 0 }

-- what an object that is no sink is as a sink
abbrev pub no_sink : SinkState
no_sink = record { written = None; faults = 0 }
