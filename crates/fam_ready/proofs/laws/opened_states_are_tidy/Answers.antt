use Rattle.fam_ready.proofs.States.{opening_tidy}
use Rattle.fam_ready.proofs.laws.opened_states_are_tidy.Goals as goal

pub returns : goal.returns
returns c = opening_tidy
