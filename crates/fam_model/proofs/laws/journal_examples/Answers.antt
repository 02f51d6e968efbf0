use Rattle.std.proofs.Common.{refl}
use Rattle.fam_model.proofs.laws.journal_examples.Goals as goal

pub returns : goal.returns
returns c = record { creation = refl; skip = refl; destruction = refl; shortest = refl; place = refl; leads_back = refl; nothing = refl }
