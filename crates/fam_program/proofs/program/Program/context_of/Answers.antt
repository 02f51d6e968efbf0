use Rattle.std.proofs.Common.{sym, ◌∙◌, refl}
use Rattle.fam_program.specs.View.{tracked_program}
use Rattle.fam_program.proofs.Parts.{place_is}
use Rattle.fam_program.proofs.program.Program.context_of.Goals as goal

pub returns : goal.returns
returns c =
    rw (← c.self.view_is) (c.place_with.ensures ∙ sym (place_is (tracked_program c.self.inside).state c.self.inside.contexts c.args.call refl))
