use Rattle.fam_keeper.specs.Keeping.{Keeps}
use Rattle.fam_steps.proofs.tests.makes_what_may_come_and_refuses_the_rest.Given as goal

-- the keeper has the rows of the service
abbrev pub invariant-loop-ask : goal.invariant-loop-ask
invariant-loop-ask g l = Keeps l.keeper l.core.state.rows
