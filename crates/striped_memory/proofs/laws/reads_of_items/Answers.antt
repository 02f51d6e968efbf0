use Rattle.striped_memory.proofs.Ranges.{reads_of_items}
use Rattle.striped_memory.proofs.laws.reads_of_items.Goals as goal

pub returns : goal.returns
returns c = reads_of_items
