use Rattle.std.proofs.Common.{◌∙◌, refl}
use Rattle.fam_context.proofs.Counts.{flag_recounts, fits_flag, side_flag}
use Rattle.fam_context.proofs.side.set_flag.Goals as goal

pub recount-side-requires : goal.recount-side-requires
recount-side-requires c =
    fits_flag c.args.operation.now c.args.side.now c.args.j c.args.flag _ c.requires
    (flag_recounts c.args.operation.now c.args.side.now c.args.j c.at.result.now c.at-then-j-len.result.now c.args.flag c.share-before.result
    c.share-after.result c.requires c.at.ensures c.at-then-j-len.ensures c.share-before.ensures c.share-after.ensures)

pub returns-then-j-len-clause-kept : goal.returns-then-j-len-clause-kept
returns-then-j-len-clause-kept c =
    side_flag c.args.operation.now c.args.side.now _ c.args.j c.args.flag c.requires refl refl
    (c.recount-side.ensures
    ∙ flag_recounts c.args.operation.now c.args.side.now c.args.j c.at.result.now c.at-then-j-len.result.now c.args.flag c.share-before.result
    c.share-after.result c.requires c.at.ensures c.at-then-j-len.ensures c.share-before.ensures c.share-after.ensures)
