use Rattle.std.proofs.Common.{◌≡◌, ◌∙◌, ap, sym, refl}
use Rattle.fam_program.specs.View.{tracked_program}
use Rattle.fam_program.proofs.Telling.{operation_may}
use Rattle.fam_program.proofs.program.Program.may_answer_with.Goals as goal

pub returns-in-Operation : goal.returns-in-Operation
returns-in-Operation c =
    rw (← c.self.view_is) (c.may_answer.ensures ∙ sym (operation_may (tracked_program c.self.inside).state c.self.inside.contexts c.in-Operation.call _ c.args.given.now c.self.invariant refl c.in-Operation.is))
