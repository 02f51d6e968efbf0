use Rattle.std.proofs.Common.{subst}
use Rattle.fam_model.specs.Headline.{opening}
use Rattle.fam_steps.specs.Crash.{IsKeptRun}
use Rattle.fam_steps.proofs.Keeping.{first_run}
use Rattle.fam_core.proofs.Endings.{begun_course}
use Rattle.fam_core.proofs.simulation.play_script.Goals as goal

pub returns-clause-played : goal.returns-clause-played
returns-clause-played g c = c.play_out.ensures.played c.args.rows c.args.script.now c.in_ok-player.ensures

pub returns-clause-kept : goal.returns-clause-kept
returns-clause-kept g c =
    let start = opening c.args.rows c.args.script.now in
    let first = c.args.keeper.now in
    c.play_out.ensures.keeps start first
    (subst (λ course. IsKeptRun start first course first) (begun_course c.args.rows c.args.script.now c.in_ok-player.player c.in_ok-player.ensures)
    (first_run start first c.requires.fresh (c.leaves_what_was_kept.ensures c.args.rows c.requires.fresh.kept)))
