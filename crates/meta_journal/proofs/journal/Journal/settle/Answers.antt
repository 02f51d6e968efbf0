use Rattle.std.proofs.Common.{subst}
use Rattle.fam_disk.specs.Crash.{Leaves}
use Rattle.meta_journal.specs.Image.{IsImage}
use Rattle.meta_journal.specs.State.{acknowledged}
use Rattle.meta_journal.specs.declared.doubt.Doubt.{Doubt}
use Rattle.meta_journal.specs.declared.doubt.Doubt.TheVariants.{Nothing}
use Rattle.meta_journal.proofs.Settling.{reads_in_doubt}
use Rattle.meta_journal.proofs.journal.Journal.settle.Goals as goal

pub returns-in-Ok-clause-images : goal.returns-in-Ok-clause-images
returns-in-Ok-clause-images g c image left =
    let new = c.settle_doubt.new.self in
    let A = acknowledged new in
    let S = g.D.Disk.state new.disk in
    let now : Leaves S S.moment (IsImage new.limit new.used new.area Nothing A) =
    subst (λ (d : Doubt). Leaves S S.moment (IsImage new.limit new.used new.area d A)) c.in-Ok.ensures.settled c.in-Ok.ensures.sound in
    reads_in_doubt new.limit new.used new.area A Nothing image (now image left)
