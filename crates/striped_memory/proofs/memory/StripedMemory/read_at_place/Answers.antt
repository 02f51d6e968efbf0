use Rattle.std.proofs.Common.{◌∙◌, length}
use Rattle.striped_memory.proofs.Accesses.{some_by, place_reaches, place_read}
use Rattle.striped_memory.proofs.memory.StripedMemory.read_at_place.Goals as goal

pub read-requires : goal.read-requires
read-requires c =
    let s = c.self.inside in
    place_reaches s.layout s.stores.items s.sizes.entries c.args.region.0 c.args.place c.index.result.now c.self.invariant c.index.ensures
    (length c.args.into.now) c.args.self.now c.self.view_is c.requires (some_by c.is_empty.result (length c.args.into.now) c.is_empty.ensures c.if-is_empty.false)

pub returns : goal.returns
returns c =
    let s = c.self.inside in
    c.read.ensures
    ∙ place_read s.layout s.stores.items s.sizes.entries c.args.region.0 c.args.place c.index.result.now c.self.invariant c.index.ensures
    (length c.args.into.now) c.args.self.now c.self.view_is c.requires (some_by c.is_empty.result (length c.args.into.now) c.is_empty.ensures c.if-is_empty.false)
