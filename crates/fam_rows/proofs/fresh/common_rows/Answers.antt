use Rattle.fam_rows.proofs.CommonLaw.{lawful_first}
use Rattle.fam_rows.proofs.fresh.common_rows.Goals as goal

pub returns-clause-lawful : goal.returns-clause-lawful
returns-clause-lawful c = lawful_first c.first_rows.result c.first_rows.ensures
