use Rattle.std.proofs.Common.{◌^◌, arith}
use Rattle.fam_script.proofs.Bounds.{all_below}
use Rattle.fam_script.proofs.script.lawful.numbers_fit.Goals as goal

pub returns : goal.returns
returns c = all_below (2 ^ 64) c.args.numbers.now (λ i. omega (arith, c.type_inv.numbers i))
