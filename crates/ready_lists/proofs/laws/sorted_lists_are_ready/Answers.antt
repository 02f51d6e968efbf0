use Rattle.ready_lists.proofs.Ready.{is_ready_on}
use Rattle.ready_lists.proofs.Sorted.{sorted_same}
use Rattle.ready_lists.proofs.laws.sorted_lists_are_ready.Goals as goal

pub returns : goal.returns
returns c = record { same = sorted_same; ready = is_ready_on }
