use Rattle.std.proofs.Common.{◌≡◌, ◌<◌, ◌+◌, ◌∙◌, ap, sym, refl, arith}
use Rattle.std.specs.Prelude.{slice_set}
use Rattle.fam_context.specs.declared.tracked.Tracked.{Tracked}
use Rattle.fam_model.specs.ContextStep.{new_context}
use Rattle.fam_model.specs.Limits.{number_end}
use Rattle.fam_program.specs.declared.tracked.TrackedProgram.{TrackedProgram}
use Rattle.fam_program.specs.Held.{outs_of}
use Rattle.fam_program.specs.View.{tracked_program}
use Rattle.fam_program.proofs.Contexts.{out_set}
use Rattle.fam_program.proofs.Opening.{opened_is}
use Rattle.fam_program.proofs.Within.{program_set, new_within_as}
use Rattle.fam_program.proofs.program.Program.open.Goals as goal

pub invariant_of-self : goal.invariant_of-self
invariant_of-self c =
    let p = (tracked_program c.self.inside).state in
    let small : p.next_call < number_end = rw (← c.self.view_is) at c.requires.number in
    program_set p (p.next_call + 1) p.started c.self.inside.contexts c.args.context c.open.new.self c.self.invariant refl (omega arith) (omega arith) (λ call below same. same)
    (new_within_as (p.next_call + 1) p.started c.open.new.self c.open.ensures)

pub returns-clause-state : goal.returns-clause-state
returns-clause-state c =
    opened_is c.args.self.now.state (tracked_program c.self.inside).state c.self.inside.contexts c.args.context c.open.new.self
    (ap (λ (h : TrackedProgram). h.state) c.self.view_is) refl c.requires.closed (ap (λ (t : Tracked). t.context) c.open.ensures)

pub returns-clause-out : goal.returns-clause-out
returns-clause-out c =
    rw (← c.self.view_is) (out_set c.self.inside.contexts c.args.context c.open.new.self ∙ ap (λ (t : Tracked). slice_set (outs_of c.self.inside.contexts) c.args.context t.out) c.open.ensures)
