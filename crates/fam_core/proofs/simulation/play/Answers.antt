use Rattle.std.proofs.Common.{subst}
use Rattle.std.specs.Prelude.{Ok}
use Rattle.fam_core.specs.Playing.{Advances}
use Rattle.fam_core.proofs.Going.{goes_on, running_on, stops_short}
use Rattle.fam_core.proofs.simulation.play.Goals as goal

pub returns-in-Err-clause-played : goal.returns-in-Err-clause-played
returns-in-Err-clause-played g c rows script seed s =
    stops_short rows script seed c.loop.player c.advance.new.player c.loop.words c.advance.new.words c.in-Err.field-0 (c.loop.invariant.after rows script seed s)
    c.in-Err.ensures.advances

pub loop-preserved : goal.loop-preserved
loop-preserved g c =
    let went = subst (λ made. Advances c.loop.player c.loop.words c.advance.new.player c.advance.new.words (Ok made)) c.in-Ok-true.field-0-test c.in-Ok-true.ensures.advances in
    record {
      running = running_on c.loop.player c.advance.new.player c.loop.words c.advance.new.words c.loop.invariant.running went;
      kept = c.advance.ensures.kept;
      keeps = λ start first before. c.advance.ensures.keeps start first (c.loop.invariant.keeps start first before);
      after = λ rows script seed s.
          goes_on rows script seed c.loop.player c.advance.new.player c.loop.words c.advance.new.words (c.loop.invariant.after rows script seed s) went;
    }
