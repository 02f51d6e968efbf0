use Rattle.std.proofs.Common.{ap, ◌∙◌}
use Rattle.fam_model.specs.Issue.{ends_past}
use Rattle.fam_model.specs.Pieces.{elements}
use Rattle.fam_vector.proofs.Allowed.{elements_within}
use Rattle.fam_vector.proofs.Elements.{all_cuts_within}
use Rattle.fam_vector.proofs.planning.pieces.Goals as goal

pub reads-requires-clause-within : goal.reads-requires-clause-within
reads-requires-clause-within c =
    ap (ends_past c.args.from.size) c.in_ok-parts-in-Gather.ensures
    ∙ all_cuts_within c.args.layout.now.unit c.args.from.base c.args.from.size (elements c.args.op.now)
    (elements_within c.args.op.now c.args.from c.args.to c.requires.allowed)

pub writes-requires-clause-within : goal.writes-requires-clause-within
writes-requires-clause-within c =
    ap (ends_past c.args.from.size) c.in_ok-parts-in-Scatter.ensures
    ∙ all_cuts_within c.args.layout.now.unit c.args.from.base c.args.from.size (elements c.args.op.now)
    (elements_within c.args.op.now c.args.from c.args.to c.requires.allowed)
