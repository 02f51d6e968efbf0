use Rattle.std.proofs.Common.{◌≡◌, ◌++◌, map}
use Rattle.std.specs.Prelude.{filter}
use Rattle.fam_model.specs.Lists.{numbers_below}
use Rattle.fam_schedule.specs.Schedule as schedule
use Rattle.fam_core.specs.Playing.{actor_of, may_go}
use Rattle.fam_core.proofs.actors.list_programs.Given as goal

-- the programs below this one are listed
abbrev pub invariant-loop-pe : goal.invariant-loop-pe
invariant-loop-pe l =
    map actor_of l.actors.items ≡ map actor_of l.fn.actors.items ++ map schedule.Program (filter (may_go l.player) (numbers_below l.pe))
