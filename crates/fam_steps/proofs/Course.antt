-- One event more keeps a history legal.
use Rattle.std.proofs.Common.{◌≡◌, sym, ap, ◌∙◌}
use Rattle.std.specs.Prelude.{[], ◌∷◌, Option, Some}
use Rattle.fam_model.specs.declared.event.Event.{Event}
use Rattle.fam_model.specs.declared.state.State.{State}
use Rattle.fam_model.specs.History.{state_after}
use Rattle.fam_model.specs.Limits.{service_limits}
use Rattle.fam_model.specs.Lists.{◌>>=◌}
use Rattle.fam_model.proofs.Histories.{state_after-append}
use Rattle.fam_steps.specs.Steps.{Course, GoesOn, Makes}

pub goes_on : (old new : Course) (event : Event) → Makes old event new → GoesOn old new
goes_on old new event m start ran =
    ap (state_after service_limits start) m.kept
    ∙ state_after-append service_limits start old.history (event ∷ [])
    ∙ ap (λ (o : Option State). o >>= λ s. state_after service_limits s (event ∷ [])) ran
    ∙ ap (λ (o : Option State). o >>= λ s. state_after service_limits s []) m.steps

pub stays : (old new : Course) → new ≡ old → GoesOn old new
stays old new same start ran = ap (λ c. state_after service_limits start c.history) same ∙ ran ∙ ap (λ c. Some c.state) (sym same)
