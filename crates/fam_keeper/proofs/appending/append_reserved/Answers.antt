use Rattle.std.proofs.Common.{◌≡◌, refl}
use Rattle.meta_journal.specs.State.{has_room}
use Rattle.fam_keeper.proofs.Holding.{appended, refused, untouched}
use Rattle.fam_keeper.proofs.appending.append_reserved.Goals as goal

pub returns-in-Ok : goal.returns-in-Ok
returns-in-Ok g c rows has =
    let laws = g.met.D.Disk g.world.𝓛 g.world.𝓜 g.world.𝓡 ((λ s x. x), (λ x. x), (λ x. x), λ x. x) in
    let a = c.in-Ok.ensures in
    let old = c.args.journal.now in
    let new = c.append.new.self in
    appended rows c.args.change.now old old new (untouched old) has (laws.tells_content new.disk) a.sound a.limit a.settled a.rows a.any_moment a.cause.later

pub returns-in-Err : goal.returns-in-Err
returns-in-Err g c rows has =
    let laws = g.met.D.Disk g.world.𝓛 g.world.𝓜 g.world.𝓡 ((λ s x. x), (λ x. x), (λ x. x), λ x. x) in
    let a = c.in-Err.ensures in
    let old = c.args.journal.now in
    let new = c.append.new.self in
    refused rows c.args.change.now old old new (has_room old.limit old.used c.args.change.now) c.is_in_doubt.result (untouched old) has
    (laws.tells_content new.disk) a.sound a.limit a.same_rows a.any_moment a.not_yet a.in_doubt a.cause.later a.cause.failed c.is_in_doubt.ensures
