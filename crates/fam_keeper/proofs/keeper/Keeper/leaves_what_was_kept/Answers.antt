use Rattle.fam_keeper.proofs.Holding.{leaves_in}
use Rattle.fam_keeper.proofs.keeper.Keeper.leaves_what_was_kept.Goals as goal

pub returns : goal.returns
returns g c rows has =
    let laws = g.met.D.Disk g.world.𝓛 g.world.𝓜 g.world.𝓡 ((λ s x. x), (λ x. x), (λ x. x), λ x. x) in
    leaves_in c.args.self.now.journal rows laws.tells_content has
