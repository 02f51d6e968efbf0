use Rattle.fam_context.specs.declared.tracked.Tracked.{Tracked}
use Rattle.fam_context.specs.Effects as effects
use Rattle.fam_program.proofs.Issuing.{change_there, set_same}
use Rattle.fam_program.proofs.program.issue.add.Goals as goal

pub returns-in-Ok-clause-ok : goal.returns-in-Ok-clause-ok
returns-in-Ok-clause-ok c =
    change_there _ (λ (t : Tracked). effects.issued t c.args.call c.args.plan c.args.blocking) _ _ _ c.at_mut-there.ensures.value c.in-Ok.ensures.ok

pub returns-in-Err-clause-err : goal.returns-in-Err-clause-err
returns-in-Err-clause-err c = set_same _ _ _ _ c.at_mut-there.ensures.value c.in-Err.ensures.err
