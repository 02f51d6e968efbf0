use Rattle.std.proofs.Common.{◌≡◌, ◌+ℤ◌, ◌-ℤ◌, FitsSigned, rules}
use Rattle.std.specs.Int.{w128}
use Rattle.std.proofs.lemmas.Int.{to_z-of_z}
use Rattle.fam_model.specs.declared.call.Op.TheVariants as op
use Rattle.fam_model.specs.Atomic as atomics
use Rattle.word_ops.proofs.Ranges.{of_two_ops}
use Rattle.word_ops.proofs.atomic.changed.Goals as goal

pub returns-in-Add-clause-value : goal.returns-in-Add-clause-value
returns-in-Add-clause-value c =
    let first : FitsSigned w128 c.args.old = c.ranges.old in
    let second : FitsSigned w128 c.args.a = c.ranges.a in
    let given : FitsSigned w128 c.sum.result = search rules in
    let value : c.sum.result ≡ atomics.reduced c.args.width (c.args.old +ℤ c.args.a) = simp to_z-of_z at c.sum.ensures.value in
    simp to_z-of_z (of_two_ops c.args.op op.Add op.FetchAdd c.args.width c.args.old c.args.a c.args.b _ c.in-Add.is value value)

pub returns-in-Sub-clause-value : goal.returns-in-Sub-clause-value
returns-in-Sub-clause-value c =
    let first : FitsSigned w128 c.args.old = c.ranges.old in
    let second : FitsSigned w128 c.args.a = c.ranges.a in
    let given : FitsSigned w128 c.difference.result = search rules in
    let value : c.difference.result ≡ atomics.reduced c.args.width (c.args.old -ℤ c.args.a) = simp to_z-of_z at c.difference.ensures.value in
    simp to_z-of_z (of_two_ops c.args.op op.Sub op.FetchSub c.args.width c.args.old c.args.a c.args.b _ c.in-Sub.is value value)
