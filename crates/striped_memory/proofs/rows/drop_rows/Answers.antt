use Rattle.std.proofs.Common.{arith}
use Rattle.striped_memory.proofs.Walks.{to_none, walked_by, walked_dropped}
use Rattle.striped_memory.proofs.rows.drop_rows.Goals as goal

pub loop-store-preserved : goal.loop-store-preserved
loop-store-preserved c =
    walked_by to_none c.args.region.0 c.loop-store.store-index c.args.stores.now c.loop-store.stores c.store-item.result c.drop_region.new.self
    c.loop-store.invariant (omega arith) c.drop_region.ensures

pub returns : goal.returns
returns c = walked_dropped c.args.region.0 c.loop-store.store-index c.args.stores.now c.loop-store.stores c.loop-store.invariant (omega arith)
