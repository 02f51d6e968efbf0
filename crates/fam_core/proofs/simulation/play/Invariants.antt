use Rattle.std.proofs.Common.{ℕ}
use Rattle.fam_model.specs.declared.rows.Rows.{Rows}
use Rattle.fam_model.specs.declared.script.Script.{Script}
use Rattle.fam_keeper.specs.Keeping.{Keeps}
use Rattle.fam_steps.specs.Crash.{KeepsOn}
use Rattle.fam_core.specs.Playing.{IsRunning, StandsAfter}
use Rattle.fam_core.proofs.simulation.play.Given as goal

-- the run so far
abbrev pub invariant-loop : goal.invariant-loop
invariant-loop g l =
    record {
      running : IsRunning l.player l.words;
      kept : Keeps l.keeper l.player.service.state.rows;
      keeps : KeepsOn l.fn.player.service l.fn.keeper l.player.service l.keeper;
      after : (rows : Rows) (script : Script) (seed : ℕ) → StandsAfter rows script seed l.fn.player.service.history l.fn.player l.fn.words →
          StandsAfter rows script seed l.player.service.history l.player l.words;
    }
