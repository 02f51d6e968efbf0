use Rattle.std.proofs.Common.{rules, arith, sym, subst}
use Rattle.turn_cell.specs.Words.{AllHeld}
use Rattle.counter.specs.Counting.{gives, owner}
use Rattle.counter.proofs.Turns.{held_more}
use Rattle.counter.proofs.tests.survey.Goals as goal

pub loop-pass-preserved : goal.loop-pass-preserved
loop-pass-preserved g c = (
  subst (AllHeld (λ c. c) gives (λ c. c.booked) owner) (sym c.push_reserved.ensures.items) (held_more _ _ _ _ _ _ c.loop-pass.invariant.0 c.take.ensures.held.0),
  search rules,
  search (rules, arith),
)
