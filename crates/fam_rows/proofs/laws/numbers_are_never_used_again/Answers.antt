use Rattle.fam_rows.proofs.Numbering.{numbers_are_new}
use Rattle.fam_rows.proofs.laws.numbers_are_never_used_again.Goals as goal

pub returns : goal.returns
returns c = record { new = numbers_are_new }
