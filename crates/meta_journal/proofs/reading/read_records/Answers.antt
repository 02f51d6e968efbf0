use Rattle.std.proofs.Common.{arith}
use Rattle.meta_journal.proofs.AreaRead.{gives_damaged, gives_inside}
use Rattle.meta_journal.proofs.reading.read_records.Goals as goal

pub returns-clause-bytes : goal.returns-clause-bytes
returns-clause-bytes c i = omega (arith, c.type_inv.bytes i)

pub returns-clause-inside : goal.returns-clause-inside
returns-clause-inside c some = gives_inside c.args.is_first c.args.bytes.now c.take_all.result (λ i. omega (arith, c.type_inv.bytes i)) c.take_all.ensures.read some

pub returns-clause-damaged : goal.returns-clause-damaged
returns-clause-damaged c = gives_damaged c.args.is_first c.args.bytes.now c.take_all.result (λ i. omega (arith, c.type_inv.bytes i)) c.take_all.ensures.read
