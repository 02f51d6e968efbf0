use Rattle.fam_context.proofs.Nexts.{NoneBefore}
use Rattle.fam_context.proofs.context.Context.next_on.Given as goal

abbrev pub invariant-loop-at : goal.invariant-loop-at
invariant-loop-at l = NoneBefore l.self-inside.context l.self-inside.sides.items l.stripe l.at
