use Rattle.std.proofs.Common.{rules, arith, sym, length, ◌≤◌}
use Rattle.fam_context.specs.Sides.{IsSideOf}
use Rattle.fam_context.proofs.Kept.{all_zip_at, side_there}
use Rattle.fam_context.proofs.Nexts.{none_left, none_past_fence, none_more, none_on, next_is}
use Rattle.fam_context.proofs.Searches.{calls_rise}
use Rattle.fam_context.proofs.context.Context.next_on.Goals as goal

pub next_in-requires-clause-side : goal.next_in-requires-clause-side
next_in-requires-clause-side c =
    all_zip_at IsSideOf c.self.inside.context.operations c.self.inside.sides.items c.loop-at.at c.at-operation.result.now c.index-side.result.now
    c.self.invariant.indexed.kept.each c.at-operation.ensures
    (side_there c.self.inside.context c.self.inside.sides.items c.loop-at.at c.at-operation.result.now c.index-side.result.now c.self.invariant.indexed.kept.each
    c.at-operation.ensures c.index-side.ensures)

pub loop-at-init : goal.loop-at-init
loop-at-init c =
    none_left c.self.inside.context c.self.inside.sides.items c.self.inside.pending c.self.inside.pieces c.self.inside.first c.args.stripe
    c.self.invariant.indexed

pub returns-then-not-is_past_fences : goal.returns-then-not-is_past_fences
returns-then-not-is_past_fences c = rw (← c.self.view_is)
    (none_on c.self.inside.context c.self.inside.sides.items c.args.stripe (length c.self.inside.sides.items) c.self.invariant.indexed.kept.each
    (none_past_fence c.self.inside.context c.self.inside.sides.items c.args.stripe c.loop-at.at c.at-operation.result.now
    c.self.invariant.indexed.kept.ordered.order.pairs c.loop-at.invariant c.at-operation.ensures (sym c.if-not-is_past_fences.ensures)) (omega arith))

pub loop-at-preserved : goal.loop-at-preserved
loop-at-preserved c =
    none_more c.self.inside.context c.self.inside.sides.items c.args.stripe c.loop-at.at c.at-operation.result.now c.index-side.result.now
    c.loop-at.invariant c.at-operation.ensures
    (side_there c.self.inside.context c.self.inside.sides.items c.loop-at.at c.at-operation.result.now c.index-side.result.now c.self.invariant.indexed.kept.each
    c.at-operation.ensures c.index-side.ensures) c.in_default.ensures

pub returns-in-Some : goal.returns-in-Some
returns-in-Some c = rw (← c.self.view_is)
    (next_is c.self.inside.context c.self.inside.sides.items c.args.stripe c.loop-at.at c.in-Some.piece c.at-operation.result.now
    c.index-side.result.now c.self.invariant.indexed.kept.each (calls_rise c.self.inside.context.operations c.self.invariant.indexed.kept.ordered.order.pairs)
    c.loop-at.invariant c.at-operation.ensures
    (side_there c.self.inside.context c.self.inside.sides.items c.loop-at.at c.at-operation.result.now c.index-side.result.now c.self.invariant.indexed.kept.each
    c.at-operation.ensures c.index-side.ensures) c.in-Some.ensures.0 c.in-Some.ensures.1)

pub returns : goal.returns
returns c = rw (← c.self.view_is)
    (none_on c.self.inside.context c.self.inside.sides.items c.args.stripe c.loop-at.at c.self.invariant.indexed.kept.each c.loop-at.invariant
    (let past : length c.self.inside.sides.items ≤ c.loop-at.at = search rules in past))
