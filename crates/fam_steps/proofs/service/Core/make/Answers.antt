use Rattle.std.proofs.Common.{◌≡◌, sym, ◌∙◌, ap, subst, true}
use Rattle.std.specs.Prelude.{Ok, Err, is_some}
use Rattle.fam_model.specs.Limits.{service_limits}
use Rattle.fam_model.specs.Step.{step}
use Rattle.fam_model.specs.declared.event.Event.{Event}
use Rattle.fam_steps.specs.Crash.{IsFinished, IsKeptDue}
use Rattle.fam_steps.specs.Steps.{Course}
use Rattle.fam_steps.proofs.Keeping.{due_comes, finished, not_kept}
use Rattle.fam_steps.proofs.service.Core.make.Goals as goal

pub finish-requires : goal.finish-requires
finish-requires g c =
    let old = c.args.self.now in
    let kept = subst (λ (v : Course). IsKeptDue v.state c.args.due c.args.keeper.now c.keep_due.new.keeper (Ok c.in-Ok.kept)) c.self.view_is c.in-Ok.ensures in (
      c.type_bounds.send-D,
      ap (λ (e : Event). is_some (step service_limits old.state e)) c.come.ensures
          ∙ due_comes old.state c.args.due c.args.keeper.now c.keep_due.new.keeper c.in-Ok.kept c.requires.due kept,
    )

pub returns-in-Ok : goal.returns-in-Ok
returns-in-Ok g c =
    let old = c.args.self.now in
    let kept = subst (λ (v : Course). IsKeptDue v.state c.args.due c.args.keeper.now c.keep_due.new.keeper (Ok c.in-Ok.kept)) c.self.view_is c.in-Ok.ensures in
    finished old c.finish.new.self c.args.due c.args.keeper.now c.keep_due.new.keeper c.finish.new.keeper c.in-Ok.kept c.finish.result c.requires.due c.requires.kept kept
    (subst (λ (e : Event). IsFinished old e c.in-Ok.kept c.keep_due.new.keeper c.finish.new.self c.finish.new.keeper c.finish.result) c.come.ensures c.finish.ensures)

pub returns-in-Err : goal.returns-in-Err
returns-in-Err g c =
    not_kept c.args.self.now c.args.due c.args.keeper.now c.keep_due.new.keeper c.in-Err.field-0 c.requires.kept
    (subst (λ (v : Course). IsKeptDue v.state c.args.due c.args.keeper.now c.keep_due.new.keeper (Err c.in-Err.field-0)) c.self.view_is c.in-Err.ensures)
