use Rattle.std.proofs.Common.{◌≡◌, ◌++◌, map}
use Rattle.std.specs.Prelude.{filter}
use Rattle.fam_model.specs.Lists.{numbers_below}
use Rattle.fam_schedule.specs.Schedule as schedule
use Rattle.ready_lists.specs.Lists.{names_at}
use Rattle.fam_core.specs.Playing.{actor_of}
use Rattle.fam_core.proofs.actors.list_stripes.Given as goal

-- the stripes below this one are listed
abbrev pub invariant-loop-stripe : goal.invariant-loop-stripe
invariant-loop-stripe l =
    map actor_of l.actors.items ≡ map actor_of l.fn.actors.items ++ map schedule.Stripe (filter (λ stripe. schedule.is_some_of (names_at l.ready stripe)) (numbers_below l.stripe))
