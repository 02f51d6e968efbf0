use Rattle.std.proofs.Common.{sym, subst}
use Rattle.std.specs.Prelude.{false}
use Rattle.fam_model.specs.Headline.{opening}
use Rattle.fam_schedule.specs.Schedule.{IsScheduled}
use Rattle.fam_steps.specs.Crash.{IsKeptHistory}
use Rattle.fam_steps.proofs.Keeping.{kept_history, no_history}
use Rattle.fam_core.proofs.Endings.{any_kept, nothing_yet}
use Rattle.fam_core.proofs.simulation.simulate.Goals as goal

pub settle-requires-after_bounds : goal.settle-requires-after_bounds
settle-requires-after_bounds g c κs within =
    any_kept (opening c.args.rows c.args.script.now) c.args.keeper.now c.play_script-played.new.keeper c.args.rows c.play_script-played.result c.requires.fresh
    c.play_script-played.ensures.kept c.play_script-played.ensures.untouched

pub returns-in-Ok-clause-kept : goal.returns-in-Ok-clause-kept
returns-in-Ok-clause-kept g c =
    let start = opening c.args.rows c.args.script.now in
    subst (λ history. IsKeptHistory start c.args.keeper.now history c.settle.new.self) (sym c.into_history.ensures)
    (kept_history start c.args.keeper.now c.play_script-played.new.keeper c.settle.new.self c.in-Ok.field-0.service c.in-Ok.ensures.kept c.settle.ensures c.leaves_what_was_kept-2.ensures)

pub returns-in-Err-clause-kept : goal.returns-in-Err-clause-kept
returns-in-Err-clause-kept g c =
    let start = opening c.args.rows c.args.script.now in
    subst (λ history. IsKeptHistory start c.args.keeper.now history c.settle.new.self) (sym c.new.ensures.items)
    (no_history start c.args.keeper.now c.play_script-played.new.keeper c.settle.new.self c.requires.fresh (c.leaves_what_was_kept.ensures c.args.rows c.requires.fresh.kept)
    c.in-Err.ensures.untouched c.settle.ensures c.leaves_what_was_kept-2.ensures)

pub returns-in-Err-clause-scheduled : goal.returns-in-Err-clause-scheduled
returns-in-Err-clause-scheduled g c =
    subst (λ history. IsScheduled c.args.rows c.args.script.now c.args.seed history false) (sym c.new.ensures.items)
    (nothing_yet c.args.rows c.args.script.now c.args.seed)
