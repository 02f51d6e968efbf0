use Rattle.striped_memory.proofs.Ranges.{writes_of_items}
use Rattle.striped_memory.proofs.laws.writes_of_items.Goals as goal

pub returns : goal.returns
returns c = writes_of_items
