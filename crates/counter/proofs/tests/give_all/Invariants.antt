use Rattle.std.proofs.Common.{vec_len}
use Rattle.turn_cell.specs.Words.{AllHeld}
use Rattle.counter.specs.Counting.{gives, owner}
use Rattle.counter.proofs.tests.give_all.Given as goal

abbrev pub invariant-loop-held : goal.invariant-loop-held
invariant-loop-held l = AllHeld (λ c. c) gives (λ c. c.booked) owner l.turns.items

abbrev pub decreases-loop-held : goal.decreases-loop-held
decreases-loop-held l = vec_len l.turns
