use Rattle.std.proofs.Common.{◌≡◌, map, take, drop, ◌++◌}
use Rattle.fam_context.specs.Sides.{told_side}
use Rattle.fam_context.proofs.changes.tell_all.Given as goal

abbrev pub invariant-loop-at : goal.invariant-loop-at
invariant-loop-at l = l.sides ≡ map told_side (take l.at l.initial.sides) ++ drop l.at l.initial.sides
