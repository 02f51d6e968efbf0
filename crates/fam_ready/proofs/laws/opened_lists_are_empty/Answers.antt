use Rattle.fam_ready.proofs.Opening.{opened_empty}
use Rattle.fam_ready.proofs.laws.opened_lists_are_empty.Goals as goal

pub returns : goal.returns
returns c = opened_empty
