use Rattle.fam_rows.proofs.Served.{served_lawful, told_lawful}
use Rattle.fam_rows.proofs.laws.served_changes_are_lawful.Goals as goal

pub returns : goal.returns
returns c = record { served = served_lawful; told = told_lawful }
