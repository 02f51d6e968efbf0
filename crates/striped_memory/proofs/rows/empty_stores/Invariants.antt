use Rattle.std.proofs.Common.{◌≡◌}
use Rattle.striped_memory.specs.Stripes.{no_rows}
use Rattle.striped_memory.proofs.rows.empty_stores.Given as goal

-- so many stores so far
abbrev pub invariant-loop : goal.invariant-loop
invariant-loop l = l.stores.items ≡ no_rows l.counter
