-- What a loop has done so far, and what it has done after one more call.
use Rattle.std.proofs.Common.{◌≡◌, ℕ, ◌+◌, ◌≤◌, List, ◌++◌, length, take, drop, sym, ap, subst, arith, length-append, length-drop}
use Rattle.std.specs.Prelude.{Result, Ok, Err, OnErr}
use Rattle.std.specs.Io.KnownBytes.{Appends}
use Rattle.fam_io.specs.State.{SourceState, SinkState, AddsPrefix, Moves, MovesUpTo}
use Rattle.fam_io.proofs.Known.{Appends-rest, Moves-trans}

-- the first of these bytes were written
pub record HasWritten (old new : SinkState) (bytes : List ℕ) (count : ℕ) : Type 0 where
  pub within : count ≤ length bytes
  pub added : Appends old.written new.written (take count bytes)
  pub later : old.faults ≤ new.faults

-- these bytes were read
pub record HasRead (old new : SourceState) (bytes : List ℕ) (most : ℕ) : Type 0 where
  pub within : length bytes ≤ most
  pub moved : Moves old new bytes
  pub later : old.faults ≤ new.faults

-- a fact of an error, whatever the result
pub on_err : {T E P : Type 0} (r : Result T E) → P → OnErr r P
on_err (Ok x) p = tt
on_err (Err e) p = p

-- one write more
pub HasWritten-more : (a b c : SinkState) (bytes : List ℕ) (count n : ℕ) → HasWritten a b bytes count → n ≤ length (drop count bytes) → Appends b.written c.written (take n (drop count bytes)) → b.faults ≤ c.faults
    → HasWritten a c bytes (count + n)
HasWritten-more a b c bytes count n so_far le added later =
    record {
      within = omega (arith, so_far.within, length-drop count bytes);
      added = Appends-rest a.written b.written c.written count n bytes so_far.added added;
      later = omega (arith, so_far.later);
    }

-- a write that failed
pub HasWritten-lost : (a b c : SinkState) (bytes : List ℕ) (count : ℕ) → HasWritten a b bytes count → AddsPrefix b c (drop count bytes) → AddsPrefix a c bytes
HasWritten-lost a b c bytes count so_far (n, le, added) =
    (count + n, omega (arith, so_far.within, length-drop count bytes), Appends-rest a.written b.written c.written count n bytes so_far.added added)

-- one read more
pub HasRead-more : (a b c : SourceState) (bytes more given : List ℕ) (n room most : ℕ) → HasRead a b bytes most → length given ≡ n → n ≤ room → room + length bytes ≤ most
    → more ≡ bytes ++ given → Moves b c given → b.faults ≤ c.faults → HasRead a c more most
HasRead-more a b c bytes more given n room most so_far count le fits is moved later =
    record {
      within = omega (arith, ap length is, length-append bytes given);
      moved = subst (Moves a c) (sym is) (Moves-trans a b c bytes given so_far.moved moved);
      later = omega (arith, so_far.later);
    }

-- a read that failed
pub HasRead-lost : (a b c : SourceState) (bytes : List ℕ) (room most : ℕ) → HasRead a b bytes most → room + length bytes ≤ most → MovesUpTo b c room → MovesUpTo a c most
HasRead-lost a b c bytes room most so_far fits (given, le, moved) =
    (bytes ++ given, omega (arith, length-append bytes given), Moves-trans a b c bytes given so_far.moved moved)
