use Rattle.std.proofs.Common.{◌≡◌, true}
use Rattle.fam_context.specs.declared.tracked.Tracked.{Tracked}
use Rattle.fam_context.specs.Effects as effects
use Rattle.fam_model.specs.Programs.{has_operation}
use Rattle.fam_program.proofs.Issuing.{change_there}
use Rattle.fam_program.proofs.Waiting.{passes_within, passes_at}
use Rattle.fam_program.proofs.places.tell_copy.Goals as goal

pub at_mut-there-requires : goal.at_mut-there-requires
at_mut-there-requires c = passes_within c.args.contexts.now c.args.at (λ (t : Tracked). has_operation t.context c.args.call) c.requires

pub mark_answered-requires : goal.mark_answered-requires
mark_answered-requires c =
    passes_at c.args.contexts.now c.args.at (λ (t : Tracked). has_operation t.context c.args.call) c.at_mut-there.result.now c.requires c.at_mut-there.ensures.value

pub returns : goal.returns
returns c =
    change_there c.args.at (λ (t : Tracked). effects.told t c.args.call) c.args.contexts.now c.at_mut-there.result.now _ c.at_mut-there.ensures.value c.mark_answered.ensures
