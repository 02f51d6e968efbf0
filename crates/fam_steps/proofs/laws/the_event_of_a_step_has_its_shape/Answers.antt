use Rattle.fam_steps.proofs.Shapes.{shape_of}
use Rattle.fam_steps.proofs.laws.the_event_of_a_step_has_its_shape.Goals as goal

pub returns : goal.returns
returns c = shape_of
