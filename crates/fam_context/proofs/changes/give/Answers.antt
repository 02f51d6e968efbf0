use Rattle.std.proofs.Common.{refl}
use Rattle.fam_model.specs.declared.reply.PieceAnswer.TheVariants as answer
use Rattle.fam_model.specs.PieceStep.{handed}
use Rattle.fam_context.proofs.Kept.{side_same}
use Rattle.fam_context.proofs.changes.give.Goals as goal

pub returns-then-j-len-clause-kept : goal.returns-then-j-len-clause-kept
returns-then-j-len-clause-kept c =
    side_same c.args.operation.now c.args.side.now c.args.j (handed answer.Ok c.args.bytes c.at_mut.result.now) c.at_mut.result.now c.requires
    c.at_mut.ensures.value refl refl
