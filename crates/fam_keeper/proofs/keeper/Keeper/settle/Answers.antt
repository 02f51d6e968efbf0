use Rattle.std.proofs.Common.{◌≡◌, inl, inr, subst, sym, ◌∙◌, Bool, true, ap}
use Rattle.std.specs.Prelude.{◌⊎◌, Some, Result, Ok, Err}
use Rattle.fam_base.specs.declared.error.FamError.{FamError}
use Rattle.fam_base.specs.Causes.{HasCause, Rose}
use Rattle.meta_journal.specs.declared.doubt.Doubt.TheVariants.{Nothing}
use Rattle.fam_keeper.specs.Keeping.{HasKeptIn, IsSettled}
use Rattle.fam_keeper.proofs.Holding.{settled, settled_doubt}
use Rattle.fam_keeper.proofs.keeper.Keeper.settle.Goals as goal

pub returns-in-Some : goal.returns-in-Some
returns-in-Some g c rows has =
    let laws = g.met.D.Disk g.world.𝓛 g.world.𝓜 g.world.𝓡 ((λ s x. x), (λ x. x), (λ x. x), λ x. x) in
    let s = c.settle-settled.ensures in
    let old = c.in-Some.journal in
    let here = subst (λ o. HasKeptIn o rows) (c.in-Some.is) has in
    let is = settled rows c.args.self.now.stopped old c.settle-settled.new.self true here (laws.tells_content c.settle-settled.new.self.disk) s.same s.sound s.acknowledged s.any_moment
    (settled_doubt c.settle-settled.result old.doubt c.settle-settled.new.self.doubt (g.D.Disk.state old.disk).faults (g.D.Disk.state c.settle-settled.new.self.disk).faults s.settled s.in_doubt s.cause) s.cause.later in
    subst (λ k. IsSettled rows k (record { journal = Some c.settle-settled.new.self; stopped = c.args.self.now.stopped })) (ap (λ o. record { journal = o; stopped = c.args.self.now.stopped }) (sym c.in-Some.is)) is
