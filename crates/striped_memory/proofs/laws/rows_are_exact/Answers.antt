use Rattle.striped_memory.proofs.Places.{rows_are_exact}
use Rattle.striped_memory.proofs.laws.rows_are_exact.Goals as goal

pub returns : goal.returns
returns c = rows_are_exact
