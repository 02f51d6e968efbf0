use Rattle.std.proofs.Common.{sym, ◌∙◌, refl}
use Rattle.fam_program.specs.View.{tracked_program}
use Rattle.fam_program.proofs.Reporting.{may_quiet}
use Rattle.fam_program.proofs.program.Program.may_quiet_with.Goals as goal

pub returns : goal.returns
returns c =
    rw (← c.self.view_is) (c.may_report.ensures ∙ sym (may_quiet (tracked_program c.self.inside).state c.self.inside.contexts c.args.context c.args.given.now refl))
