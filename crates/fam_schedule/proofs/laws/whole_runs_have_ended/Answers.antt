use Rattle.fam_schedule.proofs.RunEnds.{run_ends}
use Rattle.fam_schedule.proofs.laws.whole_runs_have_ended.Goals as goal

pub returns : goal.returns
returns c = record { ended = run_ends }
