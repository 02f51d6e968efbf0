use Rattle.std.proofs.Common.{◌∙◌, ap, arith}
use Rattle.fam_model.specs.declared.service.Service.{Service}
use Rattle.striped_memory.specs.Striped.{Striped}
use Rattle.striped_memory.proofs.Places.{wide}
use Rattle.striped_memory.proofs.Zeros.{no_zeros, small_seen, zeros_lie, zeros_more}
use Rattle.striped_memory.proofs.memory.StripedMemory.zero.Goals as goal

pub loop-left-init : goal.loop-left-init
loop-left-init c =
    let unit = c.from-unit.ensures in
    let is = c.service.ensures.is in
    record {
      least = omega arith;
      wide = omega (arith, wide c.self.inside.layout c.self.invariant.lawful, ap (λ (s : Service). s.unit) is, unit);
      unit = unit ∙ ap (λ (s : Service). s.unit) is ∙ ap (λ (m : Striped). m.service.unit) c.self.view_is;
      written = no_zeros c.args.self.now c.args.region.0 c.args.address c.args.n c.requires.there;
    }

pub overflow_add-at : goal.overflow_add-at
overflow_add-at c =
    let s = c.self.inside in
    let small = small_seen s.layout s.stores.items s.sizes.entries c.args.region.0 c.args.self.now c.self.invariant c.self.view_is c.requires.there in
    let inside = c.requires.inside in
    omega (arith, small, inside)

pub zero_part-requires-clause-lies : goal.zero_part-requires-clause-lies
zero_part-requires-clause-lies c =
    let kept = c.loop-left.invariant in
    zeros_lie c.args.self.now c.loop-left.self c.args.region.0 c.args.address c.args.n c.loop-left.left c.min-part.result c.from-unit.result
    kept.written c.requires.inside kept.least kept.unit kept.wide c.min-part.ensures

pub loop-left-preserved : goal.loop-left-preserved
loop-left-preserved c =
    let kept = c.loop-left.invariant in
    let least = kept.least in
    let cut = c.min-part.ensures in
    record {
      least = omega arith;
      wide = kept.wide;
      unit = kept.unit;
      written = zeros_more c.args.self.now c.loop-left.self c.zero_part.new.self c.args.region.0 c.args.address c.args.n c.loop-left.left c.min-part.result
          kept.written c.zero_part.ensures c.requires.inside least (omega (arith, cut));
    }
