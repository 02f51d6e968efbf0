use Rattle.std.proofs.Common.{refl}
use Rattle.fam_context.proofs.Kept.{fresh_side}
use Rattle.fam_context.proofs.changes.fresh.Goals as goal

pub returns-clause-kept : goal.returns-clause-kept
returns-clause-kept c =
    fresh_side c.args.operation.now c.args.count _ c.requires.fresh c.requires.few c.in_ok-flags.ensures refl c.in_ok-room.ensures
