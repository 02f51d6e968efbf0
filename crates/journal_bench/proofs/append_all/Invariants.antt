use Rattle.fam_model.specs.Rows.{IsLawful}
use Rattle.meta_journal.specs.State.{IsSound}
use Rattle.journal_bench.proofs.append_all.Given as goal

abbrev pub invariant-loop-place : goal.invariant-loop-place
invariant-loop-place l = IsSound l.journal × IsLawful l.rows
