use Rattle.std.proofs.Common.{◌≡◌, sym, ◌∙◌, ap, subst}
use Rattle.std.specs.Prelude.{Some}
use Rattle.fam_steps.specs.Steps.{IsFound, come}
use Rattle.fam_steps.proofs.Awaited.{served, step_due}
use Rattle.fam_steps.proofs.service.Core.advance.Goals as goal

pub make-requires-clause-due : goal.make-requires-clause-due
make-requires-clause-due g c κs within =
    let e = subst (IsFound c.args.self.now.state c.args.wanted.now) c.in-Some.is c.in_ok-due.ensures in
    step_due c.args.self.now.state c.args.wanted.now c.in-Some.due e.is_due e.comes

pub returns-clause-goes : goal.returns-clause-goes
returns-clause-goes g c =
    let e = subst (IsFound c.args.self.now.state c.args.wanted.now) c.in-Some.is c.in_ok-due.ensures in (
      come c.in-Some.due c.in_ok-make.field-0,
      served c.args.self.now c.make.new.self c.args.wanted.now c.in-Some.due c.in_ok-make.field-0 e c.in_ok-make.ensures.made,
    )
