use Rattle.fam_core.proofs.Making.{is_made}
use Rattle.fam_core.proofs.playing.Player.make.Goals as goal

pub returns-in-Ok-clause-made : goal.returns-in-Ok-clause-made
returns-in-Ok-clause-made g c =
    is_made c.args.self.now c.act.new.self c.let_know.new.self c.args.chosen.now c.in-Ok.field-0 c.let_know.result c.in-Ok.ensures.acts c.in-Ok.ensures.turns c.in-Ok.ensures.ready
    c.in-Ok.ensures.able c.let_know.ensures.service c.let_know.ensures.known
