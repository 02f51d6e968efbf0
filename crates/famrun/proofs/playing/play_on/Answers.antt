use Rattle.std.proofs.Common.{subst}
use Rattle.fam_model.specs.Headline.{opening}
use Rattle.fam_steps.specs.Crash.{IsKeptHistory}
use Rattle.famrun.specs.Ending.{ReportsRun}
use Rattle.famrun.proofs.OverDisk.{keeper_is, ran_over}
use Rattle.famrun.proofs.Runs.{reported}
use Rattle.famrun.proofs.playing.play_on.Goals as goal

pub returns : goal.returns
returns g c old opens looks =
    let script = c.args.script.now in
    let history = c.simulate-simulated.result.history.items in
    let whole = c.simulate-simulated.result.whole in
    let now = c.simulate-simulated.new.keeper in
    let before = g.K.Sink.sink c.args.output.now in
    let after = g.K.Sink.sink c.report_run-ending.new.output in
    let kept = subst (λ k. IsKeptHistory (opening c.args.rows script) k history now)
    (keeper_is c.of-keeper.result c.args.journal c.of-keeper.ensures.journal c.of-keeper.ensures.goes_on) c.simulate-simulated.ensures.kept in
    let over = ran_over c.args.seed script c.args.rows history whole old c.args.journal now c.close-2.result c.in-Some.disk c.requires.script opens
    c.simulate-simulated.ensures.scheduled kept c.simulate-simulated.ensures.goes_on c.in-Some.is c.close-2.ensures in
    reported g.D.Disk.state c.args.seed script c.args.rows history c.report_run-ending.result.1.items whole before after old c.in-Some.disk c.report_run-ending.result.0 over
    c.report_run-ending.ensures.history
    (subst (λ rows. ReportsRun script rows history whole before after c.report_run-ending.result.0) c.in-Ok.ensures c.report_run-ending.ensures.ending)
