use Rattle.fam_schedule.proofs.Unrefused.{leads_as_due}
use Rattle.fam_schedule.proofs.laws.unrefused_events_are_due.Goals as goal

pub returns : goal.returns
returns c = record { due = leads_as_due }
