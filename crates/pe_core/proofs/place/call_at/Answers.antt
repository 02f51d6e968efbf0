use Rattle.std.proofs.Common.{◌+◌, ◌∷◌, drop, Some, ap, sym, ◌∙◌}
use Rattle.fam_model.specs.declared.call.Call.{Call}
use Rattle.pe_core.specs.declared.action.Action.{Action}
use Rattle.pe_core.specs.Actions.{turn_of, in_order, turns_from}
use Rattle.pe_core.proofs.Places.{due, spin_next, turns_call}
use Rattle.pe_core.proofs.place.call_at.Goals as goal

pub returns-in-Some-Spin : goal.returns-in-Some-Spin
returns-in-Some-Spin c =
    let actions = c.args.actions.now in
    let order = c.args.order.now in
    let place = c.args.place in
    let turns = c.in-Some-Spin.ensures.turns ∙ ap (λ (a : Action). turn_of a ∷ in_order actions (drop (place.at + 1) order)) c.in-Some-Spin.field-0-is in
    due place.over (turns_from actions order place) c.fetch.result
    (spin_next place.tries _ (in_order actions (drop place.at order)) _ _ _ turns (turns_call actions order place c.requires.ready) ∙ ap (λ (asked : Call). Some asked) (sym c.fetch.ensures))
    c.requires.due
