use Rattle.fam_model.specs.Limits.{service_limits}
use Rattle.fam_ready.proofs.States.{step_tidy}
use Rattle.fam_ready.proofs.laws.steps_keep_states_tidy.Goals as goal

pub returns : goal.returns
returns c = step_tidy service_limits
