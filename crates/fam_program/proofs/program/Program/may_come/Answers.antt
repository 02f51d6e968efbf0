use Rattle.std.proofs.Common.{sym, ◌∙◌, refl}
use Rattle.fam_program.specs.View.{tracked_program}
use Rattle.fam_program.proofs.Parts.{due_there}
use Rattle.fam_program.proofs.program.Program.may_come.Goals as goal

pub returns : goal.returns
returns c =
    rw (← c.self.view_is) (c.may_come.ensures ∙ sym (due_there (tracked_program c.self.inside).state c.self.inside.contexts c.args.call c.args.piece refl))
