use Rattle.std.proofs.Common.{◌≡◌, ◌<◌, ◌+◌, ◌∙◌, ap, sym, refl, arith}
use Rattle.fam_context.specs.declared.tracked.Tracked.{Tracked}
use Rattle.fam_model.specs.Limits.{number_end}
use Rattle.fam_program.specs.declared.tracked.TrackedProgram.{TrackedProgram}
use Rattle.fam_program.specs.View.{tracked_program}
use Rattle.fam_program.proofs.Contexts.{out_same}
use Rattle.fam_program.proofs.Opening.{fenced_is}
use Rattle.fam_program.proofs.Within.{program_set, fenced_within, context_within}
use Rattle.fam_program.proofs.program.Program.fence.Goals as goal

pub invariant_of-self : goal.invariant_of-self
invariant_of-self c =
    let p = (tracked_program c.self.inside).state in
    let small : p.next_call < number_end = rw (← c.self.view_is) at c.requires.number in
    let ts = c.self.inside.contexts in
    let there = context_within p ts c.args.context c.at_mut-there.result.now c.self.invariant refl c.at_mut-there.ensures.value in
    program_set p (p.next_call + 1) p.started ts c.args.context c.fence.new.self c.self.invariant refl (omega arith) (omega arith) (λ call below same. same)
    (fenced_within p.next_call p.started c.at_mut-there.result.now c.fence.new.self there c.fence.ensures)

pub returns-clause-state : goal.returns-clause-state
returns-clause-state c =
    fenced_is c.args.self.now.state (tracked_program c.self.inside).state c.self.inside.contexts c.args.context c.at_mut-there.result.now c.fence.new.self
    (ap (λ (h : TrackedProgram). h.state) c.self.view_is) refl c.at_mut-there.ensures.value c.requires.open c.fence.ensures

pub returns-clause-out : goal.returns-clause-out
returns-clause-out c =
    rw (← c.self.view_is) (out_same c.self.inside.contexts c.args.context c.at_mut-there.result.now c.fence.new.self c.at_mut-there.ensures.value
    (ap (λ (t : Tracked). t.out) c.fence.ensures))
