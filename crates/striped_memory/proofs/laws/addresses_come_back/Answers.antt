use Rattle.striped_memory.proofs.Places.{address_is}
use Rattle.striped_memory.proofs.laws.addresses_come_back.Goals as goal

pub returns : goal.returns
returns c = address_is
