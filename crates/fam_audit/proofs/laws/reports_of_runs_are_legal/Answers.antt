use Rattle.fam_audit.proofs.Meaning.{right_is_legal}
use Rattle.fam_audit.proofs.laws.reports_of_runs_are_legal.Goals as goal

pub returns : goal.returns
returns c = right_is_legal
