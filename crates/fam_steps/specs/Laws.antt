-- What holds of steps.
use Rattle.std.specs.Prelude.{◌≡◌, Some}
use Rattle.fam_model.specs.declared.event.Event.{Event}
use Rattle.fam_model.specs.declared.state.State.{State}
use Rattle.fam_steps.specs.declared.step.Step.{Step}
use Rattle.fam_steps.specs.Steps.{HasShape, event_for}

-- the event that a step is for has the shape of the step
abbrev pub EventsHaveShapes : Type 0
EventsHaveShapes = (state : State) (asked : Step) (event : Event) → event_for state asked ≡ Some event → HasShape asked event
