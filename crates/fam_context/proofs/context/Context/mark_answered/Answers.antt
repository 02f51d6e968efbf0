use Rattle.std.proofs.Common.{rules, ap}
use Rattle.fam_context.specs.Order.{frame_of}
use Rattle.fam_context.specs.Sides.{IsSideOf, flags_of}
use Rattle.fam_context.proofs.Kept.{all_zip_at, side_there, kept_set, fits_set, flags_same, told_is}
use Rattle.fam_context.proofs.Reached.{indexed_same}
use Rattle.fam_model.specs.declared.piece.Operation.{Operation}
use Rattle.fam_context.proofs.Told.{told_set}
use Rattle.fam_context.proofs.context.Context.mark_answered.Goals as goal

pub tell-requires : goal.tell-requires
tell-requires c =
    all_zip_at IsSideOf c.self.inside.context.operations c.self.inside.sides.items c.in-Some.at c.at_mut.result.now c.index_mut-side.result.now
    c.self.invariant.indexed.kept.each c.at_mut.ensures.value
    (side_there c.self.inside.context c.self.inside.sides.items c.in-Some.at c.at_mut.result.now c.index_mut-side.result.now c.self.invariant.indexed.kept.each
    c.at_mut.ensures.value c.index_mut-side.ensures.value)

pub recount-self-inside-requires : goal.recount-self-inside-requires
recount-self-inside-requires c =
    fits_set c.self.inside.context c.self.inside.sides.items c.self.inside.pending c.self.inside.pieces c.in-Some.at c.at_mut.result.now
    c.tell.new.operation c.index_mut-side.result.now c.tell.new.side c.self.invariant.indexed.kept (search rules) c.at_mut.ensures.value
    (side_there c.self.inside.context c.self.inside.sides.items c.in-Some.at c.at_mut.result.now c.index_mut-side.result.now c.self.invariant.indexed.kept.each
    c.at_mut.ensures.value c.index_mut-side.ensures.value)
    (ap frame_of c.tell.ensures.operation) c.tell.ensures.kept

pub invariant_of-self : goal.invariant_of-self
invariant_of-self c =
    record {
      indexed = indexed_same c.self.inside.context c.self.inside.sides.items _ c.self.inside.pending c.recount-self-inside.result c.self.inside.pieces
          c.self.inside.first c.in-Some.at c.at_mut.result.now c.tell.new.operation c.self.invariant.indexed c.at_mut.ensures.value c.tell.ensures.operation
          (kept_set c.self.inside.context c.self.inside.sides.items c.self.inside.pending c.recount-self-inside.result c.self.inside.pieces c.in-Some.at
          c.at_mut.result.now c.tell.new.operation c.index_mut-side.result.now c.tell.new.side c.self.invariant.indexed.kept
          c.at_mut.ensures.value
          (side_there c.self.inside.context c.self.inside.sides.items c.in-Some.at c.at_mut.result.now c.index_mut-side.result.now c.self.invariant.indexed.kept.each
          c.at_mut.ensures.value c.index_mut-side.ensures.value)
          (ap frame_of c.tell.ensures.operation) c.tell.ensures.kept c.recount-self-inside.ensures);
      settled = told_set c.self.inside.context.operations c.self.inside.told c.in-Some.at c.at_mut.result.now c.tell.new.operation
          c.self.invariant.settled c.at_mut.ensures.value (λ _. ap (λ (o : Operation). o.reported) c.tell.ensures.operation);
    }

pub returns : goal.returns
returns c = rw (← c.self.view_is)
    (told_is c.self.inside.context (flags_of c.self.inside.sides.items) _ c.args.call c.in-Some.at c.at_mut.result.now c.tell.new.operation
    (search rules) c.at_mut.ensures.value c.tell.ensures.operation
    (flags_same c.self.inside.sides.items c.in-Some.at c.index_mut-side.result.now c.tell.new.side
    (side_there c.self.inside.context c.self.inside.sides.items c.in-Some.at c.at_mut.result.now c.index_mut-side.result.now c.self.invariant.indexed.kept.each
    c.at_mut.ensures.value c.index_mut-side.ensures.value) c.tell.ensures.flags))
