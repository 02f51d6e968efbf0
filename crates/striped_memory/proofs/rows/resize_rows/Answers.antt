use Rattle.std.proofs.Common.{arith}
use Rattle.striped_memory.proofs.Sizes.{grew_rows, resized_down, resized_back, resized_up}
use Rattle.striped_memory.proofs.rows.resize_rows.Goals as goal

pub returns-then-new-old-clause-ok : goal.returns-then-new-old-clause-ok
returns-then-new-old-clause-ok c =
    resized_down c.args.layout.now c.args.stores.now c.shrink_rows.new.stores c.args.region.0 c.args.old c.args.new
    c.requires.lawful c.requires.all (omega arith) c.requires.rows c.if-new-old.true c.shrink_rows.ensures

pub returns-in-Err-clause-err : goal.returns-in-Err-clause-err
returns-in-Err-clause-err c =
    resized_back c.args.layout.now c.args.stores.now c.grow_rows.new.stores c.shrink_rows-in-Err.new.stores c.args.region.0 c.args.old
    c.requires.all (omega arith) (omega arith) c.requires.rows c.in-Err.ensures.err c.shrink_rows-in-Err.ensures

pub zero_rest-requires-clause-rows : goal.zero_rest-requires-clause-rows
zero_rest-requires-clause-rows c = (
  c.args.new,
  omega arith,
  grew_rows c.args.layout.now c.args.stores.now c.grow_rows.new.stores c.args.region.0 c.args.old c.args.new
      c.requires.lawful c.requires.all c.requires.rows (omega arith) c.in_default.ensures.ok,
)

pub returns-clause-ok : goal.returns-clause-ok
returns-clause-ok c =
    resized_up c.args.layout.now c.args.stores.now c.grow_rows.new.stores c.zero_rest.new.stores c.args.region.0 c.args.old c.args.new
    c.requires.lawful c.requires.all (omega arith) c.requires.rows (omega arith) c.in_default.ensures.ok c.zero_rest.ensures
