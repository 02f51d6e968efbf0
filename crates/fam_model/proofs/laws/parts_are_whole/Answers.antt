use Rattle.fam_model.proofs.Histories.{parts-joined, are_earned-legal}
use Rattle.fam_model.proofs.laws.parts_are_whole.Goals as goal

pub returns : goal.returns
returns c = record { joined = parts-joined; legal = are_earned-legal }
