use Rattle.std.proofs.Common.{rules, sym, ◌∙◌}
use Rattle.fam_context.proofs.Places.{none_found}
use Rattle.std.proofs.lemmas.Bool.{false≢true}
use Rattle.fam_context.proofs.context.Context.result_of.Goals as goal

pub unreachable-requires : goal.unreachable-requires
unreachable-requires c =
    false≢true (sym (none_found c.self.inside.context c.args.call (search rules)) ∙ (rw (← c.self.view_is) at c.requires))
