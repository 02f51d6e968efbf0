use Rattle.std.proofs.Common.{◌≤◌}
use Rattle.turn_cell.specs.Words.{IsPassOf, IsSamePass}
use Rattle.counter.proofs.tests.add_hundred.Given as goal

abbrev pub invariant-loop : goal.invariant-loop
invariant-loop g l = IsPassOf l.cell l.pass × IsSamePass l.initial.pass l.pass × (l.added ≤ l.counter)
