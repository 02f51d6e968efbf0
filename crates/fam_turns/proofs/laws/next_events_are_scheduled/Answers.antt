use Rattle.fam_turns.proofs.Scheduled.{is_scheduled}
use Rattle.fam_turns.proofs.laws.next_events_are_scheduled.Goals as goal

pub returns : goal.returns
returns c = is_scheduled
