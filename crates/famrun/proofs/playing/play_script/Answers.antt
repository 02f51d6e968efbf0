use Rattle.famrun.proofs.OverDisk.{fresh, opened_from}
use Rattle.famrun.proofs.Runs.{not_opened, unopened}
use Rattle.famrun.proofs.playing.play_script.Goals as goal

pub returns-in-Ok : goal.returns-in-Ok
returns-in-Ok g c =
    c.play_on.ensures c.args.disk
    (opened_from c.args.disk c.in-Ok.journal c.in-Ok.rows c.in-Ok.ensures.opened c.in-Ok.ensures.lawful c.in-Ok.ensures.any_moment c.in-Ok.ensures.cause)
    c.in-Ok.ensures.any_moment

pub returns-in-Err : goal.returns-in-Err
returns-in-Err g c =
    let before = g.K.Sink.sink c.args.output.now in
    let after = g.K.Sink.sink c.tell_unopened.new.output in
    unopened g.D.Disk.state c.args.seed c.args.script.now c.new.result.items before after c.args.disk c.in-Err.disk c.tell_unopened.result c.new.ensures.items c.in-Err.ensures.any_moment
    (not_opened (g.D.Disk.state c.args.disk) (g.D.Disk.state c.in-Err.disk) before after c.in-Err.fault c.tell_unopened.result c.in-Err.ensures.failed c.in-Err.ensures.refused c.tell_unopened.ensures)
