use Rattle.std.proofs.Common.{◌≡◌, ◌<◌, ◌+◌, true, sym, ◌∙◌, ap, refl}
use Rattle.fam_context.specs.declared.tracked.Tracked.{Tracked}
use Rattle.fam_context.specs.Effects as effects
use Rattle.fam_model.specs.Limits.{number_end}
use Rattle.fam_model.specs.Turn.{is_idle}
use Rattle.fam_program.specs.declared.tracked.TrackedProgram.{TrackedProgram}
use Rattle.fam_program.specs.Reports as reports
use Rattle.fam_program.specs.View.{tracked_program}
use Rattle.fam_program.proofs.Reporting.{told_program, keeps_closed, closes, out_kept}
use Rattle.fam_program.proofs.program.Program.tell_and_close.Goals as goal

pub invariant_of-self : goal.invariant_of-self
invariant_of-self c =
    let p = (tracked_program c.self.inside).state in
    let small : p.next_call < number_end = rw (← c.self.view_is) at c.requires.number in
    let idle : is_idle p.started ≡ true = rw (← c.self.view_is) at c.requires.idle in
    told_program p c.self.inside.contexts c.mark_closed.new.contexts c.args.context reports.closed c.self.invariant refl small (keeps_closed (p.next_call + 1) p.started idle) c.mark_closed.ensures

pub returns-clause-state : goal.returns-clause-state
returns-clause-state c =
    closes c.args.self.now.state (tracked_program c.self.inside).state c.self.inside.contexts c.mark_closed.new.contexts c.args.context
    (ap (λ (h : TrackedProgram). h.state) c.self.view_is) refl c.mark_closed.ensures

pub returns-clause-out : goal.returns-clause-out
returns-clause-out c =
    rw (← c.self.view_is) (out_kept c.self.inside.contexts c.mark_closed.new.contexts c.args.context reports.closed (λ t. refl) c.mark_closed.ensures)
