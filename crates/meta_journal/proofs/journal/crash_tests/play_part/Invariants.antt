use Rattle.std.specs.Prelude.{◌≡◌}
use Rattle.fam_model.specs.Journal.{rows_of}
use Rattle.fam_model.specs.Rows.{IsLawful}
use Rattle.meta_journal.specs.State.{IsSound, acknowledged}
use Rattle.meta_journal.proofs.journal.crash_tests.play_part.Given as goal

abbrev pub invariant-loop-place : goal.invariant-loop-place
invariant-loop-place g l = IsSound l.kept.journal × (rows_of (acknowledged l.kept.journal) ≡ l.kept.rows) × IsLawful l.kept.rows
