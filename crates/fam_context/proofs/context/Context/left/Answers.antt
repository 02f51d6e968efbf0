use Rattle.std.proofs.Common.{rules, arith}
use Rattle.fam_context.specs.Sides.{IsSideOf}
use Rattle.fam_context.proofs.Kept.{all_zip_at, side_there}
use Rattle.fam_context.proofs.Nexts.{left_is}
use Rattle.fam_context.proofs.Reached.{few_counts}
use Rattle.fam_context.proofs.context.Context.left.Goals as goal

pub overflow_add-result : goal.overflow_add-result
overflow_add-result c =
    let few = few_counts c.at.result.now c.index-side.result.now
    (all_zip_at IsSideOf c.self.inside.context.operations c.self.inside.sides.items c.in-Some.at c.at.result.now c.index-side.result.now
    c.self.invariant.indexed.kept.each c.at.ensures
    (side_there c.self.inside.context c.self.inside.sides.items c.in-Some.at c.at.result.now c.index-side.result.now c.self.invariant.indexed.kept.each
    c.at.ensures c.index-side.ensures))
    in
    omega (arith, few)

pub returns : goal.returns
returns c = rw (← c.self.view_is)
    (left_is c.self.inside.context c.args.call c.in-Some.at c.at.result.now c.index-side.result.now (search rules) c.at.ensures c.if-at.false
    (all_zip_at IsSideOf c.self.inside.context.operations c.self.inside.sides.items c.in-Some.at c.at.result.now c.index-side.result.now
    c.self.invariant.indexed.kept.each c.at.ensures
    (side_there c.self.inside.context c.self.inside.sides.items c.in-Some.at c.at.result.now c.index-side.result.now c.self.invariant.indexed.kept.each
    c.at.ensures c.index-side.ensures)))
