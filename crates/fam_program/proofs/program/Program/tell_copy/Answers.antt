use Rattle.std.proofs.Common.{◌≡◌, ◌<◌, ◌+◌, true, sym, ◌∙◌, ap, refl}
use Rattle.std.specs.Prelude.{is_some}
use Rattle.fam_context.specs.declared.tracked.Tracked.{Tracked}
use Rattle.fam_context.specs.Effects as effects
use Rattle.fam_model.specs.Limits.{number_end}
use Rattle.fam_model.specs.Programs.{unreported_copy}
use Rattle.fam_model.specs.Turn.{is_idle}
use Rattle.fam_program.specs.declared.tracked.TrackedProgram.{TrackedProgram}
use Rattle.fam_program.specs.View.{tracked_program}
use Rattle.fam_program.proofs.Reporting.{told_program, out_kept}
use Rattle.fam_program.proofs.Telling.{told_within}
use Rattle.fam_program.proofs.Waiting.{copy_held, waits}
use Rattle.fam_program.proofs.program.Program.tell_copy.Goals as goal

pub tell_copy-requires : goal.tell_copy-requires
tell_copy-requires c =
    let p = (tracked_program c.self.inside).state in
    let copy : is_some (unreported_copy p c.args.context c.args.named) ≡ true = rw (← c.self.view_is) at c.requires.copy in
    copy_held p c.self.inside.contexts c.args.context c.args.named refl copy

pub invariant_of-self : goal.invariant_of-self
invariant_of-self c =
    let p = (tracked_program c.self.inside).state in
    let small : p.next_call < number_end = rw (← c.self.view_is) at c.requires.number in
    let idle : is_idle p.started ≡ true = rw (← c.self.view_is) at c.requires.idle in
    told_program p c.self.inside.contexts c.tell_copy.new.contexts c.args.context (λ (t : Tracked). effects.told t c.args.named) c.self.invariant refl small
    (told_within (p.next_call + 1) p.started idle c.args.named) c.tell_copy.ensures

pub returns-clause-state : goal.returns-clause-state
returns-clause-state c =
    waits c.args.self.now.state (tracked_program c.self.inside).state c.self.inside.contexts c.tell_copy.new.contexts c.args.context c.args.named c.self.invariant
    (ap (λ (h : TrackedProgram). h.state) c.self.view_is) refl c.tell_copy.ensures

pub returns-clause-out : goal.returns-clause-out
returns-clause-out c =
    rw (← c.self.view_is) (out_kept c.self.inside.contexts c.tell_copy.new.contexts c.args.context (λ (t : Tracked). effects.told t c.args.named) (λ t. refl) c.tell_copy.ensures)
