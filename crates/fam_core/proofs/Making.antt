-- What was chosen was made, and is known.
use Rattle.std.proofs.Common.{◌≡◌, Bool, true, false, sym, subst, inr}
use Rattle.std.specs.Prelude.{Result, Ok, Err, IfOk, Some}
use Rattle.fam_base.specs.declared.error.NoMemory.{NoMemory}
use Rattle.fam_model.specs.declared.event.Event.{Event}
use Rattle.fam_steps.specs.Steps as steps
use Rattle.fam_steps.specs.Steps.{Course}
use Rattle.fam_core.specs.declared.chosen.Chosen.{Chosen}
use Rattle.fam_core.specs.declared.chosen.Chosen.TheVariants as chosen
use Rattle.fam_core.specs.declared.playing.Player.{Player}
use Rattle.fam_core.specs.Playing.{Acts, Follows, IsMade, KeepsAble, LetsKnow, Makes, chosen_event}
use Rattle.fam_core.specs.Turns.{AreHeard}

-- the event that came of what was chosen
abbrev EventOf : Player → Chosen → Course → Type 0
EventOf old choice new = (due : Event) × (event : Event) × (chosen_event old choice ≡ Some due) × steps.MakesDue old.service due event new

event_of_choice : (old : Player) (choice : Chosen) (new : Course) (unit : Unit {0}) → Acts old choice new (Ok unit) → EventOf old choice new
event_of_choice old (chosen.Turn pe) new unit acts = acts
event_of_choice old (chosen.Move asked) new unit (event, serves) = (serves.due, event, serves.is_due, serves.makes)

-- the player once its event is known
knows : (old mid new : Player) (event : Event) → steps.Makes old.service event mid.service → mid.turns ≡ old.turns → mid.ready ≡ old.ready → mid.able ≡ old.able → new.service ≡ mid.service →
    LetsKnow mid new true → Makes old event new
knows old mid new event makes turns ready able service known =
    let now = known old.service.history event makes.kept in
    record {
      makes = subst (steps.Makes old.service event) (sym service) makes;
      follows = subst (λ lists. Follows lists event new.service.state new.ready) ready (subst (λ (course : Course). Follows mid.ready event course.state new.ready) (sym service) now.0);
      hears = subst (λ olds. AreHeard event olds new.turns) turns now.1;
      keeps = subst (λ was. KeepsAble event new.service.state new.turns was new.able) able
          (subst (λ (course : Course). KeepsAble event course.state new.turns mid.able new.able) (sym service) now.2);
    }

pub is_made : (old mid new : Player) (choice : Chosen) (unit : Unit {0}) (made : Result Bool NoMemory) → Acts old choice mid.service (Ok unit) → mid.turns ≡ old.turns → mid.ready ≡ old.ready →
    mid.able ≡ old.able → new.service ≡ mid.service → IfOk made (LetsKnow mid new) → IsMade old choice new made
is_made old mid new choice unit (Ok true) acts turns ready able service known =
    let e = event_of_choice old choice mid.service unit acts in
    (e.0, e.1, e.2, record { comes = e.3.comes; makes = knows old mid new e.1 e.3.makes turns ready able service known })
is_made old mid new choice unit (Ok false) acts turns ready able service known =
    let e = event_of_choice old choice mid.service unit acts in
    absurd (known old.service.history e.1 e.3.makes.kept)
is_made old mid new choice unit (Err error) acts turns ready able service known =
    let e = event_of_choice old choice mid.service unit acts in
    inr (e.0, e.1, e.2, subst (steps.MakesDue old.service e.0 e.1) (sym service) e.3)
