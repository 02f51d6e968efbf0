use Rattle.fam_core.proofs.Going.{advances}
use Rattle.fam_core.proofs.simulation.advance.Goals as goal

pub returns-clause-advances : goal.returns-clause-advances
returns-clause-advances g c =
    advances c.args.player.now c.make.new.self c.args.words.now c.choose.new.words c.in-Some.chosen c.make.result c.in-Some.ensures c.make.ensures.made
