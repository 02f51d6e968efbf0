-- Laws of tidy states.
use Rattle.std.specs.Prelude.{◌≡◌, [], replicate, Some}
use Rattle.fam_model.specs.declared.event.Event.{Event}
use Rattle.fam_model.specs.declared.rows.Rows.{Rows}
use Rattle.fam_model.specs.declared.script.Script.{Script}
use Rattle.fam_model.specs.declared.state.State.{State}
use Rattle.fam_model.specs.Headline.{opening}
use Rattle.fam_model.specs.Limits.{service_limits}
use Rattle.fam_model.specs.Pieces.{stripe_count}
use Rattle.fam_model.specs.Step.{step}
use Rattle.fam_ready.specs.Ready.{AreReady, IsTidy}

-- the state in which a run begins is tidy
abbrev pub OpenedStatesAreTidy : Type 0
OpenedStatesAreTidy = (rows : Rows) (script : Script) → IsTidy (opening rows script)

-- a step leads from a tidy state to a tidy one
abbrev pub StepsKeepStatesTidy : Type 0
StepsKeepStatesTidy = (state next : State) (event : Event) → step service_limits state event ≡ Some next → IsTidy state → IsTidy next

-- in the state in which a run begins all lists are empty
abbrev pub OpenedListsAreEmpty : Type 0
OpenedListsAreEmpty = (rows : Rows) (script : Script) → AreReady (opening rows script) (replicate (stripe_count script.service) [])
