use Rattle.fam_audit.proofs.Meaning.{legal_is_right}
use Rattle.fam_audit.proofs.laws.legal_reports_are_of_runs.Goals as goal

pub returns : goal.returns
returns c = legal_is_right
