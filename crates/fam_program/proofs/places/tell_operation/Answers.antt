use Rattle.std.proofs.Common.{◌≡◌, ◌∙◌, ap, sym, ℕ, List}
use Rattle.std.specs.Prelude.{Option}
use Rattle.std.specs.Option.{option_map_or}
use Rattle.fam_context.specs.declared.tracked.Tracked.{Tracked}
use Rattle.fam_context.specs.Effects as effects
use Rattle.fam_model.specs.Lists.{change_place}
use Rattle.fam_program.proofs.Issuing.{change_there}
use Rattle.fam_program.proofs.Parts.{place_has}
use Rattle.fam_program.proofs.places.tell_operation.Goals as goal

pub mark_answered-requires : goal.mark_answered-requires
mark_answered-requires c =
    place_has c.args.contexts.now c.args.call c.place_of-at.result c.at_mut-there.result.now c.place_of-at.ensures.value c.at_mut-there.ensures.value

pub returns : goal.returns
returns c =
    change_there c.place_of-at.result (λ (t : Tracked). effects.told t c.args.call) c.args.contexts.now c.at_mut-there.result.now _ c.at_mut-there.ensures.value c.mark_answered.ensures
    ∙ sym (ap (λ (o : Option ℕ). option_map_or (λ k. change_place k (λ t. effects.told t c.args.call) c.args.contexts.now) o c.args.contexts.now) c.place_of-at.ensures.value)
