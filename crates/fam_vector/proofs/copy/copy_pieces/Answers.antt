use Rattle.std.proofs.Common.{ap, ◌∙◌, arith}
use Rattle.fam_layout.specs.Layouts.{is_border_of_either}
use Rattle.fam_model.specs.Issue.{ends_past}
use Rattle.fam_plan.proofs.Within.{cuts_within}
use Rattle.fam_vector.proofs.copy.copy_pieces.Goals as goal

pub copied_parts-requires-clause-within : goal.copied_parts-requires-clause-within
copied_parts-requires-clause-within c =
    ap (ends_past c.args.count) c.in_ok-parts.ensures
    ∙ cuts_within (is_border_of_either c.args.layout.now.unit _ _) 0 c.args.count c.args.count (omega arith)
