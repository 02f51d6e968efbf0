use Rattle.std.proofs.Common.{◌≡◌, ◌+◌}
use Rattle.fam_schedule.specs.Schedule.{is_some_of}
use Rattle.ready_lists.specs.Lists.{names_at}
use Rattle.ready_lists.proofs.Busy.{passing}
use Rattle.ready_lists.proofs.lists.ReadyLists.busy_at.Given as goal

abbrev pub invariant-loop-stripe : goal.invariant-loop-stripe
invariant-loop-stripe l = l.k ≡ l.left + passing (λ stripe. is_some_of (names_at l.self stripe)) 0 l.stripe
