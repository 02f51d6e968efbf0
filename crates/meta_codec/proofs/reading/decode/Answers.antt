use Rattle.std.proofs.Common.{arith}
use Rattle.meta_codec.proofs.Spelled.{decoded-spelled}
use Rattle.meta_codec.proofs.reading.decode.Goals as goal

pub returns-in-Ok-clause-spelled : goal.returns-in-Ok-clause-spelled
returns-in-Ok-clause-spelled c = decoded-spelled c.args.bytes.now c.in-Ok.change (λ i. omega (arith, c.type_inv.bytes i)) c.in-Ok.ensures
