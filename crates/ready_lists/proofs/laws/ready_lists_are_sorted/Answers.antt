use Rattle.ready_lists.proofs.Ready.{ready_on_sorted, has_name-ready_on}
use Rattle.ready_lists.proofs.laws.ready_lists_are_sorted.Goals as goal

pub returns : goal.returns
returns c = record { sorted = ready_on_sorted; has = has_name-ready_on }
