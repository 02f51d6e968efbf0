use Rattle.striped_memory.proofs.Walks.{Walked, to_shrunk}
use Rattle.striped_memory.proofs.rows.shrink_rows.Given as goal

-- the first stores have no more
abbrev pub invariant-loop-stripe : goal.invariant-loop-stripe
invariant-loop-stripe l = Walked (to_shrunk l.layout l.region.0 l.size) l.region.0 l.stripe l.initial.stores l.stores
