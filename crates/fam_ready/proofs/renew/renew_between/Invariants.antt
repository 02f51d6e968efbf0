use Rattle.std.proofs.Common.{◌≡◌, ◌≤◌, length}
use Rattle.fam_ready.specs.Telling.{Tells, is_between}
use Rattle.fam_ready.proofs.renew.renew_between.Given as goal

abbrev pub invariant-loop-place : goal.invariant-loop-place
invariant-loop-place l = Tells l.context.context l.pe (is_between l.context.context l.initial.place l.place) l.initial.lists l.lists
