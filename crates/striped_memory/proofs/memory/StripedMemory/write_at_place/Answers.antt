use Rattle.std.proofs.Common.{length}
use Rattle.striped_memory.proofs.Accesses.{some_by, none_by, nothing_written, place_reaches, place_kept, place_written}
use Rattle.striped_memory.specs.Striped.{address_at}
use Rattle.striped_memory.proofs.memory.StripedMemory.write_at_place.Goals as goal

pub returns-then-is_empty : goal.returns-then-is_empty
returns-then-is_empty c =
    nothing_written c.args.self.now c.args.region.0 (address_at c.args.self.now.service c.args.region.0 c.args.place) c.args.from.now c.requires.lies.there
    (none_by c.is_empty.result (length c.args.from.now) c.is_empty.ensures c.if-is_empty.true)

pub write-requires : goal.write-requires
write-requires c =
    let s = c.self.inside in
    place_reaches s.layout s.stores.items s.sizes.entries c.args.region.0 c.args.place c.index_mut.result.now c.self.invariant c.index_mut.ensures.value
    (length c.args.from.now) c.args.self.now c.self.view_is c.requires (some_by c.is_empty.result (length c.args.from.now) c.is_empty.ensures c.if-is_empty.false)

pub invariant_of-self : goal.invariant_of-self
invariant_of-self c =
    let s = c.self.inside in
    place_kept s.layout s.stores.items s.sizes.entries c.args.region.0 c.args.place c.index_mut.result.now c.self.invariant c.index_mut.ensures.value
    c.args.from.now c.write.new.self c.args.self.now c.self.view_is c.requires (some_by c.is_empty.result (length c.args.from.now) c.is_empty.ensures c.if-is_empty.false)
    c.write.ensures

pub returns : goal.returns
returns c =
    let s = c.self.inside in
    place_written s.layout s.stores.items s.sizes.entries c.args.region.0 c.args.place c.index_mut.result.now c.self.invariant c.index_mut.ensures.value
    c.args.from.now c.write.new.self c.args.self.now c.self.view_is c.requires (some_by c.is_empty.result (length c.args.from.now) c.is_empty.ensures c.if-is_empty.false)
    c.write.ensures
