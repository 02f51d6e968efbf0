use Rattle.striped_memory.proofs.Accesses.{zeros_reach, zeros_kept, zeros_written}
use Rattle.striped_memory.proofs.memory.StripedMemory.zero_part.Goals as goal

pub zero-requires : goal.zero-requires
zero-requires c =
    let s = c.self.inside in
    zeros_reach s.layout s.stores.items s.sizes.entries c.args.region.0 c.args.address c.args.n c.place-place.result c.index_mut.result.now c.self.invariant
    c.place-place.ensures c.index_mut.ensures.value c.requires.some c.args.self.now c.self.view_is c.requires.lies

pub invariant_of-self : goal.invariant_of-self
invariant_of-self c =
    let s = c.self.inside in
    zeros_kept s.layout s.stores.items s.sizes.entries c.args.region.0 c.args.address c.args.n c.place-place.result c.index_mut.result.now c.self.invariant
    c.place-place.ensures c.index_mut.ensures.value c.requires.some c.zero.new.self c.args.self.now c.self.view_is c.requires.lies c.zero.ensures

pub returns : goal.returns
returns c =
    let s = c.self.inside in
    zeros_written s.layout s.stores.items s.sizes.entries c.args.region.0 c.args.address c.args.n c.place-place.result c.index_mut.result.now c.self.invariant
    c.place-place.ensures c.index_mut.ensures.value c.requires.some c.zero.new.self c.args.self.now c.self.view_is c.requires.lies c.zero.ensures
