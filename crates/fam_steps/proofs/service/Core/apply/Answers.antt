use Rattle.std.proofs.Common.{◌≡◌, sym, ◌∙◌, ap, subst}
use Rattle.std.specs.Prelude.{Some}
use Rattle.fam_steps.specs.Steps.{IsFound}
use Rattle.fam_steps.proofs.Awaited.{step_due}
use Rattle.fam_steps.proofs.service.Core.apply.Goals as goal

pub make-requires-clause-due : goal.make-requires-clause-due
make-requires-clause-due g c κs within =
    let e = subst (IsFound c.args.self.now.state c.args.wanted.now) c.in-Some.is c.in_ok-due.ensures in
    step_due c.args.self.now.state c.args.wanted.now c.in-Some.due e.is_due e.comes
