use Rattle.striped_memory.proofs.Sizes.{rest_reach, rest_zeroed}
use Rattle.striped_memory.proofs.rows.zero_rest.Goals as goal

pub zero-requires : goal.zero-requires
zero-requires c =
    rest_reach c.args.layout.now c.service.result c.args.stores.now c.args.region.0 c.args.size c.place-place.result c.index-stores-place.result
    c.service.ensures.lawful c.requires.all c.requires.rows c.place-place.ensures c.service.ensures.is c.if-place-gt0.true

pub returns-then-place-gt0 : goal.returns-then-place-gt0
returns-then-place-gt0 c =
    rest_zeroed c.args.layout.now c.service.result c.args.stores.now c.args.region.0 c.args.size c.place-place.result c.index-stores-place.result c.zero.new.self
    c.service.ensures.lawful c.requires.all c.requires.rows c.place-place.ensures c.service.ensures.is c.if-place-gt0.true c.zero.ensures
