use Rattle.fam_model.specs.Rows.{IsLawful}
use Rattle.fam_rows.proofs.tests.play.Given as goal

-- the rows stay lawful
abbrev pub invariant-loop-at : goal.invariant-loop-at
invariant-loop-at g l = IsLawful l.rows
