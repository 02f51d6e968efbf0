use Rattle.striped_memory.proofs.Walks.{Walked, to_grown}
use Rattle.striped_memory.proofs.rows.grow_rows.Given as goal

-- the first stores have them
abbrev pub invariant-loop-stripe : goal.invariant-loop-stripe
invariant-loop-stripe l = Walked (to_grown l.layout l.region.0 l.size) l.region.0 l.stripe l.initial.stores l.stores
