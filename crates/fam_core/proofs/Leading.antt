-- A run with one event more.
use Rattle.std.proofs.Common.{◌≡◌, List, [], ◌∷◌, ◌++◌, ap, subst}
use Rattle.std.specs.Prelude.{Some}
use Rattle.rand_pcg.specs.Lcg.{Lcg}
use Rattle.fam_model.specs.declared.event.Event.{Event}
use Rattle.fam_model.specs.declared.script.Script.{Script}
use Rattle.fam_model.specs.declared.state.State.{State}
use Rattle.fam_model.specs.Limits.{service_limits}
use Rattle.fam_model.specs.Step.{step}
use Rattle.fam_schedule.specs.Schedule.{Comes, Run, Step, LeadsTo, next_step, went_on}

-- an event, and the generator of the words left
abbrev pub the_step : Event → Lcg → Step
the_step event words = (event, words)

-- what comes next leads on
pub leads_more : (script : Script) (run mid : Run) (history : List Event) (due event : Event) (words : Lcg) (next : State) → LeadsTo script run history mid →
    next_step script mid ≡ Some (the_step due words) → Comes mid.now due event → step service_limits mid.now event ≡ Some next →
    LeadsTo script run (history ++ event ∷ []) (went_on mid event next words)
leads_more script run mid [] due event words next same chosen comes steps = (
  due,
  words,
  next,
  subst (λ r. next_step script r ≡ Some (the_step due words)) same chosen,
  subst (λ r. Comes r.now due event) same comes,
  subst (λ r. step service_limits r.now event ≡ Some next) same steps,
  ap (λ r. went_on r event next words) same,
)
leads_more script run mid (e ∷ history) due event words next (d, w, n, c, i, s, leads) chosen comes steps =
    (d, w, n, c, i, s, leads_more script (went_on run e n w) mid history due event words next leads chosen comes steps)
