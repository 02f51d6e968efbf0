use Rattle.fam_model.proofs.Histories.{state_after-append, is_legal-front}
use Rattle.fam_model.proofs.laws.histories_go_on.Goals as goal

pub returns : goal.returns
returns c = record { goes_on = state_after-append; front = is_legal-front }
