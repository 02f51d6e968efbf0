use Rattle.std.proofs.Common.{◌+ℤ◌, FitsSigned, rules}
use Rattle.std.specs.Int.{w128}
use Rattle.std.proofs.lemmas.Int.{to_z-of_z}
use Rattle.word_ops.proofs.Ranges.{sum_fits}
use Rattle.word_ops.proofs.atomic.sum.Goals as goal

pub returns-clause-value : goal.returns-clause-value
returns-clause-value c =
    let whole : FitsSigned w128 (c.args.x +ℤ c.args.y) = sum_fits _ _ _ c.requires.supported c.requires.x_in_range c.requires.y_in_range in
    let first : FitsSigned w128 c.args.x = c.ranges.x in
    let second : FitsSigned w128 c.args.y = c.ranges.y in
    let given : FitsSigned w128 c.reduced.result = search rules in
    simp to_z-of_z (simp to_z-of_z at c.reduced.ensures.value)
