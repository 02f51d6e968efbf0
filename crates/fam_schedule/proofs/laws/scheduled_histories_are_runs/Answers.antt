use Rattle.fam_schedule.proofs.Whole.{scheduled_is_run}
use Rattle.fam_schedule.proofs.laws.scheduled_histories_are_runs.Goals as goal

pub returns : goal.returns
returns c = record { run = scheduled_is_run }
