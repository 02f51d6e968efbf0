use Rattle.std.proofs.Common.{subst}
use Rattle.turn_cell.specs.Words.{AllHeld}
use Rattle.counter.specs.Counting.{gives, owner}
use Rattle.counter.proofs.Turns.{held_front}
use Rattle.counter.proofs.tests.give_all.Goals as goal

pub give_back-requires-after_bounds : goal.give_back-requires-after_bounds
give_back-requires-after_bounds c = λ κs. (held_front _ _ _ _ _ _ (subst (AllHeld (λ c. c) gives (λ c. c.booked) owner) c.in-Some.ensures.items c.loop-held.invariant)).1

pub loop-held-preserved : goal.loop-held-preserved
loop-held-preserved c = (held_front _ _ _ _ _ _ (subst (AllHeld (λ c. c) gives (λ c. c.booked) owner) c.in-Some.ensures.items c.loop-held.invariant)).0
