use Rattle.pe_core.proofs.Places.{has_next}
use Rattle.pe_core.proofs.pe.Pe.has_next.Goals as goal

pub returns : goal.returns
returns c = has_next c.args.self.now.actions c.args.self.now.order c.args.self.now.place c.args.self.now.ready
