use Rattle.striped_memory.proofs.Walks.{Walked, to_none}
use Rattle.striped_memory.proofs.rows.drop_rows.Given as goal

-- the first stores have none
abbrev pub invariant-loop-store : goal.invariant-loop-store
invariant-loop-store l = Walked to_none l.region.0 l.store-index l.initial.stores l.stores
