use Rattle.striped_memory.proofs.Ranges.{writes_stay_inside}
use Rattle.striped_memory.proofs.laws.writes_stay_inside.Goals as goal

pub returns : goal.returns
returns c = writes_stay_inside
