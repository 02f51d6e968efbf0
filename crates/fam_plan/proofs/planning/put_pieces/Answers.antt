use Rattle.std.proofs.Common.{ap, ◌∙◌, arith}
use Rattle.fam_model.specs.Issue.{ends_past}
use Rattle.fam_model.specs.Pieces.{is_border}
use Rattle.fam_plan.proofs.Within.{cuts_within}
use Rattle.fam_plan.proofs.planning.put_pieces.Goals as goal

pub writes-requires-clause-within : goal.writes-requires-clause-within
writes-requires-clause-within c =
    ap (ends_past c.args.from.size) c.in_ok-parts.ensures
    ∙ cuts_within (is_border c.args.layout.now.unit c.args.from.base) c.args.offset c.len.result c.args.from.size (omega arith)
