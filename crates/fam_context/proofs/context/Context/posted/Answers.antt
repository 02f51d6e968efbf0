use Rattle.std.proofs.Common.{rules, true}
use Rattle.fam_model.specs.Lists.{change_place}
use Rattle.fam_context.specs.Sides.{IsSideOf, flags_of}
use Rattle.fam_context.proofs.Kept.{all_zip_at, side_there, kept_side, fits_side, flags_set, posted_is}
use Rattle.std.proofs.Common.{subst, sym}
use Rattle.std.specs.Prelude.{slice_set}
use Rattle.std.specs.List.{position_or_len}
use Rattle.fam_context.specs.Sides.{AreIdleBut, is_busy}
use Rattle.fam_context.proofs.Reached.{idle_set, indexed_from}
use Rattle.std.proofs.Common.{ap, ◌∙◌}
use Rattle.fam_context.proofs.context.Context.posted.Goals as goal

pub set_flag-requires : goal.set_flag-requires
set_flag-requires c =
    all_zip_at IsSideOf c.self.inside.context.operations c.self.inside.sides.items c.in-Some.at c.at.result.now c.index_mut-side.result.now
    c.self.invariant.indexed.kept.each c.at.ensures
    (side_there c.self.inside.context c.self.inside.sides.items c.in-Some.at c.at.result.now c.index_mut-side.result.now c.self.invariant.indexed.kept.each
    c.at.ensures c.index_mut-side.ensures.value)

pub recount-self-inside-requires : goal.recount-self-inside-requires
recount-self-inside-requires c =
    fits_side c.self.inside.context c.self.inside.sides.items c.self.inside.pending c.self.inside.pieces c.in-Some.at c.at.result.now
    c.index_mut-side.result.now c.set_flag.new.side c.self.invariant.indexed.kept (search rules) c.at.ensures
    (side_there c.self.inside.context c.self.inside.sides.items c.in-Some.at c.at.result.now c.index_mut-side.result.now c.self.invariant.indexed.kept.each
    c.at.ensures c.index_mut-side.ensures.value) c.set_flag.ensures.kept

pub advance-self-inside-requires : goal.advance-self-inside-requires
advance-self-inside-requires c =
    subst (λ ss. AreIdleBut ss c.self.inside.first c.in-Some.at) (sym c.as_slice.ensures.value)
    (idle_set c.self.inside.context c.self.inside.sides.items c.self.inside.pending c.self.inside.pieces c.self.inside.first c.in-Some.at
    c.index_mut-side.result.now c.set_flag.new.side c.self.invariant.indexed
    (side_there c.self.inside.context c.self.inside.sides.items c.in-Some.at c.at.result.now c.index_mut-side.result.now c.self.invariant.indexed.kept.each
    c.at.ensures c.index_mut-side.ensures.value))

pub invariant_of-self : goal.invariant_of-self
invariant_of-self c =
    record {
      indexed = indexed_from _ (slice_set c.self.inside.sides.items c.in-Some.at c.set_flag.new.side) c.recount-self-inside.result c.self.inside.pieces
          c.advance-self-inside.result
          (kept_side c.self.inside.context c.self.inside.sides.items c.self.inside.pending c.recount-self-inside.result c.self.inside.pieces c.in-Some.at
          c.at.result.now c.index_mut-side.result.now c.set_flag.new.side c.self.invariant.indexed.kept c.at.ensures
          (side_there c.self.inside.context c.self.inside.sides.items c.in-Some.at c.at.result.now c.index_mut-side.result.now c.self.invariant.indexed.kept.each
          c.at.ensures c.index_mut-side.ensures.value) c.set_flag.ensures.kept c.recount-self-inside.ensures)
          (c.advance-self-inside.ensures ∙ ap (position_or_len is_busy) c.as_slice.ensures.value);
      settled = c.self.invariant.settled;
    }

pub returns : goal.returns
returns c = rw (← c.self.view_is)
    (posted_is c.self.inside.context (flags_of c.self.inside.sides.items) _ c.args.call c.args.piece c.in-Some.at (search rules)
    (flags_set c.self.inside.sides.items c.in-Some.at c.index_mut-side.result.now c.set_flag.new.side (change_place c.args.piece (λ _. true))
    (side_there c.self.inside.context c.self.inside.sides.items c.in-Some.at c.at.result.now c.index_mut-side.result.now c.self.invariant.indexed.kept.each
    c.at.ensures c.index_mut-side.ensures.value) c.set_flag.ensures.flags))
