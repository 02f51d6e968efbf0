use Rattle.std.proofs.Common.{sym, ◌∙◌, refl}
use Rattle.fam_program.specs.View.{tracked_program}
use Rattle.fam_program.proofs.Waiting.{may_wait}
use Rattle.fam_program.proofs.program.Program.may_wait_with.Goals as goal

pub returns : goal.returns
returns c =
    rw (← c.self.view_is) (c.may_wait.ensures ∙ sym (may_wait (tracked_program c.self.inside).state c.self.inside.contexts c.args.context c.args.named c.args.given.now c.self.invariant refl))
