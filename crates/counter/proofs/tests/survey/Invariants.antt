use Rattle.std.proofs.Common.{◌+◌, ◌≤◌, length, vec_len, vec_capacity}
use Rattle.turn_cell.specs.Words.{AllHeld, AllOfEach}
use Rattle.counter.specs.Counting.{gives, owner}
use Rattle.counter.proofs.tests.survey.Given as goal

abbrev pub invariant-loop-pass : goal.invariant-loop-pass
invariant-loop-pass g l = AllHeld (λ c. c) gives (λ c. c.booked) owner l.turns.items × AllOfEach l.left l.pass-iterator.s.now × (vec_len l.turns + length l.pass-iterator.s.now ≤ vec_capacity l.turns)
