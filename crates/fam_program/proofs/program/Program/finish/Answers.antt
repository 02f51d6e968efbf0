use Rattle.std.proofs.Common.{◌≡◌, true, ◌∙◌, ap, sym, refl}
use Rattle.fam_program.specs.declared.tracked.TrackedProgram.{TrackedProgram}
use Rattle.fam_program.specs.Reports as reports
use Rattle.fam_program.specs.View.{tracked_program}
use Rattle.fam_program.proofs.Telling.{held_is, finished_program, finishes, told_out}
use Rattle.fam_program.proofs.program.Program.finish.Goals as goal

pub tell_started-requires : goal.tell_started-requires
tell_started-requires c =
    let p = (tracked_program c.self.inside).state in
    let there : reports.has_started p.started p ≡ true = rw (← c.self.view_is) at c.requires in
    held_is p.started p c.self.inside.contexts refl there

pub invariant_of-self : goal.invariant_of-self
invariant_of-self c = finished_program (tracked_program c.self.inside).state c.self.inside.contexts c.tell_started.new.contexts c.self.invariant refl c.tell_started.ensures

pub returns-clause-state : goal.returns-clause-state
returns-clause-state c =
    finishes c.args.self.now.state (tracked_program c.self.inside).state c.self.inside.contexts c.tell_started.new.contexts
    (ap (λ (h : TrackedProgram). h.state) c.self.view_is) refl c.tell_started.ensures

pub returns-clause-out : goal.returns-clause-out
returns-clause-out c =
    rw (← c.self.view_is) (told_out c.self.inside.started c.self.inside.contexts c.tell_started.new.contexts c.tell_started.ensures)
