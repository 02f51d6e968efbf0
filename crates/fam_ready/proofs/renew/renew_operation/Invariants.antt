use Rattle.std.proofs.Common.{◌≡◌, ◌≤◌, length}
use Rattle.fam_ready.specs.Telling.{Tells, is_below}
use Rattle.fam_ready.proofs.renew.renew_operation.Given as goal

abbrev pub invariant-loop-piece : goal.invariant-loop-piece
invariant-loop-piece l = Tells l.context.context l.pe (is_below l.operation.call l.piece) l.initial.lists l.lists
