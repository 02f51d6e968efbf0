use Rattle.std.proofs.Common.{sym, ◌∙◌}
use Rattle.fam_model.specs.Operations.{is_pending}
use Rattle.fam_program.proofs.Contexts.{any_of_contexts}
use Rattle.fam_program.proofs.program.Program.has_pending.Goals as goal

pub returns : goal.returns
returns c =
    rw (← c.self.view_is) (c.some_pending.ensures ∙ sym (any_of_contexts is_pending c.self.inside.contexts))
