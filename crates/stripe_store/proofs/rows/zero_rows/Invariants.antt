use Rattle.std.proofs.Common.{◌≡◌, replicate}
use Rattle.stripe_store.specs.Rows.{zeros}
use Rattle.stripe_store.proofs.rows.zero_rows.Given as goal

-- so many rows so far
abbrev pub invariant-loop : goal.invariant-loop
invariant-loop l = l.rows.items ≡ replicate l.counter (zeros l.unit)
