use Rattle.std.proofs.Common.{rules, ap, ◌∙◌, false}
use Rattle.fam_model.specs.Lists.{change_place}
use Rattle.fam_context.specs.Order.{frame_of}
use Rattle.fam_context.specs.Sides.{flags_of}
use Rattle.fam_context.proofs.Places.{collected_is, frame_collected}
use Rattle.fam_context.proofs.Kept.{all_zip_at, side_there, kept_set, fits_set, flags_set}
use Rattle.fam_context.specs.Sides.{IsSideOf}
use Rattle.std.proofs.Common.{subst, sym}
use Rattle.std.specs.Prelude.{slice_set}
use Rattle.std.specs.List.{position_or_len}
use Rattle.fam_context.specs.Sides.{AreIdleBut, is_busy}
use Rattle.fam_context.proofs.Reached.{idle_set, indexed_from}
use Rattle.fam_model.specs.declared.piece.Operation.{Operation}
use Rattle.fam_context.proofs.Told.{told_set, reported_collected}
use Rattle.fam_context.proofs.context.Context.collected.Goals as goal

pub collect-requires-clause-kept : goal.collect-requires-clause-kept
collect-requires-clause-kept c =
    all_zip_at IsSideOf c.self.inside.context.operations c.self.inside.sides.items c.in-Some.at c.at_mut-operation.result.now c.index_mut-side.result.now
    c.self.invariant.indexed.kept.each c.at_mut-operation.ensures.value
    (side_there c.self.inside.context c.self.inside.sides.items c.in-Some.at c.at_mut-operation.result.now c.index_mut-side.result.now c.self.invariant.indexed.kept.each
    c.at_mut-operation.ensures.value c.index_mut-side.ensures.value)

pub recount-self-inside-requires : goal.recount-self-inside-requires
recount-self-inside-requires c =
    fits_set c.self.inside.context c.self.inside.sides.items c.self.inside.pending c.self.inside.pieces c.in-Some.at c.at_mut-operation.result.now
    c.collect.new.operation c.index_mut-side.result.now c.collect.new.side c.self.invariant.indexed.kept (search rules) c.at_mut-operation.ensures.value
    (side_there c.self.inside.context c.self.inside.sides.items c.in-Some.at c.at_mut-operation.result.now c.index_mut-side.result.now c.self.invariant.indexed.kept.each
    c.at_mut-operation.ensures.value c.index_mut-side.ensures.value)
    (ap frame_of c.collect.ensures.operation ∙ frame_collected c.at_mut-operation.result.now c.args.piece c.args.answer) c.collect.ensures.kept

pub advance-self-inside-requires : goal.advance-self-inside-requires
advance-self-inside-requires c =
    subst (λ ss. AreIdleBut ss c.self.inside.first c.in-Some.at) (sym c.as_slice.ensures.value)
    (idle_set c.self.inside.context c.self.inside.sides.items c.self.inside.pending c.self.inside.pieces c.self.inside.first c.in-Some.at
    c.index_mut-side.result.now c.collect.new.side c.self.invariant.indexed
    (side_there c.self.inside.context c.self.inside.sides.items c.in-Some.at c.at_mut-operation.result.now c.index_mut-side.result.now c.self.invariant.indexed.kept.each
    c.at_mut-operation.ensures.value c.index_mut-side.ensures.value))

pub invariant_of-self : goal.invariant_of-self
invariant_of-self c =
    record {
      indexed = indexed_from _ (slice_set c.self.inside.sides.items c.in-Some.at c.collect.new.side) c.recount-self-inside.result c.self.inside.pieces
          c.advance-self-inside.result
          (kept_set c.self.inside.context c.self.inside.sides.items c.self.inside.pending c.recount-self-inside.result c.self.inside.pieces c.in-Some.at
          c.at_mut-operation.result.now c.collect.new.operation c.index_mut-side.result.now c.collect.new.side c.self.invariant.indexed.kept
          c.at_mut-operation.ensures.value
          (side_there c.self.inside.context c.self.inside.sides.items c.in-Some.at c.at_mut-operation.result.now c.index_mut-side.result.now c.self.invariant.indexed.kept.each
          c.at_mut-operation.ensures.value c.index_mut-side.ensures.value)
          (ap frame_of c.collect.ensures.operation ∙ frame_collected c.at_mut-operation.result.now c.args.piece c.args.answer) c.collect.ensures.kept
          c.recount-self-inside.ensures)
          (c.advance-self-inside.ensures ∙ ap (position_or_len is_busy) c.as_slice.ensures.value);
      settled = told_set c.self.inside.context.operations c.self.inside.told c.in-Some.at c.at_mut-operation.result.now c.collect.new.operation
          c.self.invariant.settled c.at_mut-operation.ensures.value
          (λ e. ap (λ (o : Operation). o.reported) c.collect.ensures.operation ∙ (reported_collected c.at_mut-operation.result.now c.args.piece c.args.answer ∙ e));
    }

pub returns : goal.returns
returns c = rw (← c.self.view_is)
    (collected_is c.self.inside.context (flags_of c.self.inside.sides.items) _ c.args.call c.args.piece c.in-Some.at c.args.answer
    c.at_mut-operation.result.now c.collect.new.operation (search rules) c.at_mut-operation.ensures.value c.collect.ensures.operation
    (flags_set c.self.inside.sides.items c.in-Some.at c.index_mut-side.result.now c.collect.new.side (change_place c.args.piece (λ _. false))
    (side_there c.self.inside.context c.self.inside.sides.items c.in-Some.at c.at_mut-operation.result.now c.index_mut-side.result.now c.self.invariant.indexed.kept.each
    c.at_mut-operation.ensures.value c.index_mut-side.ensures.value) c.collect.ensures.flags))
