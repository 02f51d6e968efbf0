use Rattle.fam_rows.proofs.Keeping.{keeps_law}
use Rattle.fam_rows.proofs.laws.lawful_changes_keep_law.Goals as goal

pub returns : goal.returns
returns c = record { kept = keeps_law }
