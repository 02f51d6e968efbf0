use Rattle.std.proofs.Common.{arith}
use Rattle.fam_script.proofs.Bounds.{all_below}
use Rattle.report_reader.proofs.fits.bytes_fit.Goals as goal

pub returns : goal.returns
returns c = all_below 256 c.args.bytes.now (λ i. omega (arith, c.type_inv.bytes i))
