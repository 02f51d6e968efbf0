use Rattle.std.proofs.Common.{◌≡◌, ◌<◌, ◌^◌, ℕ, subst}
use Rattle.meta_journal.proofs.Bodies.{bodies}
use Rattle.fam_keeper.proofs.Holding.{appended_on, not_reserved, reserved_kept}
use Rattle.fam_keeper.proofs.appending.append.Goals as goal

pub reserve-requires-clause-has_body : goal.reserve-requires-clause-has_body
reserve-requires-clause-has_body g c κs within =
    bodies c.args.rows.now c.rows_are_lawful.ensures c.args.change.now c.requires.lawful_change (subst (λ n. n < 2 ^ 32) c.group_of.ensures.value c.group_of.ensures.bound)

pub returns-in-Ok : goal.returns-in-Ok
returns-in-Ok g c =
    let r = c.in-Ok.ensures in
    let old = c.args.journal.now in
    let mid = c.reserve.new.journal in
    appended_on c.args.rows.now c.args.change.now old mid c.append_reserved.new.journal c.append_reserved.result r.same
    (c.append_reserved.ensures c.args.rows.now (reserved_kept old mid c.args.rows.now r.same r.sound r.acknowledged c.requires.kept))

pub returns-in-Err : goal.returns-in-Err
returns-in-Err g c =
    let laws = g.met.D.Disk g.world.𝓛 g.world.𝓜 g.world.𝓡 ((λ s x. x), (λ x. x), (λ x. x), λ x. x) in
    let r = c.in-Err.ensures in
    not_reserved c.args.rows.now c.args.change.now c.args.journal.now c.reserve.new.journal _ r.same r.sound r.acknowledged c.requires.kept (laws.tells_content c.args.journal.now.disk)
