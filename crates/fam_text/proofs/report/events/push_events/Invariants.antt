use Rattle.std.proofs.Common.{◌≡◌, ◌∷◌, ◌++◌, [], take}
use Rattle.std.specs.List.{flat_map}
use Rattle.fam_model.specs.EventText.{event_text}
use Rattle.fam_text.proofs.report.events.push_events.Given as goal

abbrev pub invariant-loop-event : goal.invariant-loop-event
invariant-loop-event l =
    l.text.items ≡ l.initial.text.items ++ flat_map (λ event. event_text event ++ 10 ∷ []) (take l.event-index l.events)
