use Rattle.std.proofs.Common.{rules, refl, sym, subst, ◌≡◌, ◌≤◌, length}
use Rattle.fam_context.specs.Sides.{needed}
use Rattle.fam_context.proofs.Kept.{side_told, room_enough}
use Rattle.fam_context.proofs.changes.give_result.Goals as goal

pub reply-reply-requires : goal.reply-reply-requires
reply-reply-requires c =
    let same : c.replace-room.result ≡ c.args.side.now.room = search rules in
    λ g. subst (λ r. needed c.args.operation.now.pieces ≤ length r.items) (sym same)
    (room_enough c.args.operation.now c.args.side.now c.requires.kept c.requires.untold c.requires.answered g)

pub returns-clause-kept : goal.returns-clause-kept
returns-clause-kept c = side_told c.args.operation.now c.args.side.now _ c.requires.kept refl refl
