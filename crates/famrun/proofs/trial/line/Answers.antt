use Rattle.std.proofs.Common.{sym, ap, ◌∙◌, arith, ◌≤◌}
use Rattle.famrun.proofs.Made.{no_faults, trial_told}
use Rattle.fam_steps.proofs.Keeping.{nothing_fresh}
use Rattle.famrun.proofs.trial.line.Goals as goal

pub play_script-requires-clause-script : goal.play_script-requires-clause-script
play_script-requires-clause-script c κs =
    let few = c.requires.0 in
    let short = c.requires.1 in
    c.in_ok-script.ensures.lawful (omega (arith, few)) (omega (arith, short))

pub play_script-requires-clause-fresh : goal.play_script-requires-clause-fresh
play_script-requires-clause-fresh c κs = nothing_fresh c.nothing-keeper.result _ c.nothing-keeper.ensures.journal c.nothing-keeper.ensures.goes_on

pub returns : goal.returns
returns c =
    let few = c.requires.0 in
    let short = c.requires.1 in
    trial_told c.args.wanted _ c.in_ok-script.script c.in_ok-played.played c.history.result.now c.deref.result.now c.machine.result.now c.trial_line.result
    c.in_ok-rows.ensures.rows c.in_ok-script.ensures.script (c.in_ok-script.ensures.lawful (omega (arith, few)) (omega (arith, short))) (no_faults _ c.nothing-keeper.result c.play_script.new.keeper c.in_ok-played.played.service c.nothing-keeper.ensures.journal c.in_ok-played.ensures.kept) c.in_ok-played.ensures.played c.if-not-played.false
    c.history.ensures c.deref.ensures.value c.machine.ensures c.trial_line.ensures.of_history
