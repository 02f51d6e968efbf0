use Rattle.std.proofs.Common.{sym, ◌∙◌, refl}
use Rattle.fam_program.specs.View.{tracked_program}
use Rattle.fam_program.proofs.Waiting.{copy_is}
use Rattle.fam_program.proofs.program.Program.has_copy.Goals as goal

pub returns : goal.returns
returns c =
    rw (← c.self.view_is) (c.has_copy.ensures ∙ sym (copy_is (tracked_program c.self.inside).state c.self.inside.contexts c.args.context c.args.named c.self.invariant refl))
