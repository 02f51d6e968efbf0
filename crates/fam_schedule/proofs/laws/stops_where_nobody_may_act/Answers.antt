use Rattle.fam_schedule.proofs.Acting.{stops_still}
use Rattle.fam_schedule.proofs.laws.stops_where_nobody_may_act.Goals as goal

pub returns : goal.returns
returns c = record { still = stops_still }
