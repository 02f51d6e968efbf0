-- The barrier, and the end of a program.
use Rattle.std.specs.Prelude.{ℕ, Bool, not, ◌&&◌, Option, Some}
use Rattle.std.specs.List.{list_any}
use Rattle.fam_model.specs.declared.state.Standing.TheVariants as standing
use Rattle.fam_model.specs.declared.state.Started.TheVariants as started
use Rattle.fam_model.specs.declared.state.ProgramState.{ProgramState}
use Rattle.fam_model.specs.Lists.{when}
use Rattle.fam_model.specs.Operations.{is_pending}
use Rattle.fam_model.specs.Programs.{is_member, has_arrived, counted}

-- a member that has not arrived in this round
abbrev pub may_arrive : ℕ → ProgramState → Bool
may_arrive round p = is_member p && not (has_arrived round p)

-- arriving starts a barrier
abbrev pub arrive_step : ℕ → ProgramState → Option ProgramState
arrive_step round p =
    when (may_arrive round p)
    (record (counted p) { arrived = Some round; started = started.Barrier p.next_call })

-- some piece of the program is left, in whichever context
abbrev pub has_pending : ProgramState → Bool
has_pending p = list_any is_pending p.contexts

-- leaving comes where no piece is left in any context
abbrev pub leave_step : ProgramState → Option ProgramState
leave_step p = when (not (has_pending p)) (record (counted p) { standing = standing.Left })

-- a crash comes at any time, and nothing is started then
abbrev pub crash_step : ProgramState → Option ProgramState
crash_step p = Some (record (counted p) { standing = standing.Crashed; started = started.Nothing })
