use Rattle.std.proofs.Common.{sym, subst}
use Rattle.fam_steps.specs.Crash.{IsKeptRun}
use Rattle.fam_core.specs.Playing.{IsPlayed}
use Rattle.fam_core.proofs.Endings.{begins, out_so_far, out_whole, played_so_far}
use Rattle.fam_core.proofs.simulation.play_out.Goals as goal

pub play-whole-requires-clause-running : goal.play-whole-requires-clause-running
play-whole-requires-clause-running g c κs lives = (
  c.requires.begun.0,
  c.requires.begun.1,
  c.args.seed,
  begins c.requires.begun.0 c.requires.begun.1 c.args.seed c.args.player c.words_of-words.result c.requires.begun.2 c.words_of-words.ensures,
)

pub returns-then-not-whole-clause-played : goal.returns-then-not-whole-clause-played
returns-then-not-whole-clause-played g c rows script opened =
    out_so_far rows script c.args.seed c.play-whole.new.player c.so_far.result c.so_far.ensures.service c.so_far.ensures.whole
    (played_so_far rows script c.args.seed c.play-whole.new.player c.play-whole.result
    (c.play-whole.ensures.played rows script c.args.seed (begins rows script c.args.seed c.args.player c.words_of-words.result opened c.words_of-words.ensures)))

pub returns-then-not-whole-clause-keeps : goal.returns-then-not-whole-clause-keeps
returns-then-not-whole-clause-keeps g c start first run =
    subst (λ course. IsKeptRun start first course c.play-whole.new.keeper) (sym c.so_far.ensures.service) (c.play-whole.ensures.keeps start first run)

pub returns-in-Ok-clause-played : goal.returns-in-Ok-clause-played
returns-in-Ok-clause-played g c rows script opened =
    out_whole rows script c.args.seed c.play-whole.new.player c.in-Ok.replies c.in-Ok.ensures
    (subst (IsPlayed rows script c.args.seed c.play-whole.new.player) c.if-not-whole.false
    (c.play-whole.ensures.played rows script c.args.seed (begins rows script c.args.seed c.args.player c.words_of-words.result opened c.words_of-words.ensures)))

pub returns-clause-played : goal.returns-clause-played
returns-clause-played g c rows script opened =
    out_so_far rows script c.args.seed c.play-whole.new.player c.so_far-in-Err.result c.so_far-in-Err.ensures.service c.so_far-in-Err.ensures.whole
    (played_so_far rows script c.args.seed c.play-whole.new.player c.play-whole.result
    (c.play-whole.ensures.played rows script c.args.seed (begins rows script c.args.seed c.args.player c.words_of-words.result opened c.words_of-words.ensures)))

pub returns-clause-keeps : goal.returns-clause-keeps
returns-clause-keeps g c start first run =
    subst (λ course. IsKeptRun start first course c.play-whole.new.keeper) (sym c.so_far-in-Err.ensures.service) (c.play-whole.ensures.keeps start first run)
