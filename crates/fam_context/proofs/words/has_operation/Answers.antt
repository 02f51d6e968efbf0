use Rattle.std.proofs.Common.{◌∙◌, ap, sym, ◌==◌}
use Rattle.std.specs.Prelude.{is_some}
use Rattle.fam_model.specs.Programs.{call_number}
use Rattle.fam_context.proofs.Places.{found_any}
use Rattle.fam_context.proofs.words.has_operation.Goals as goal

pub returns : goal.returns
returns c =
    c.is_some.ensures ∙ (ap is_some c.place_of.ensures
    ∙ sym (found_any (λ operation. call_number operation == c.args.call) c.args.context.now.operations))
