use Rattle.meta_journal.proofs.Syncs.{same_syncs}
use Rattle.std.proofs.Common.{refl, subst}
use Rattle.fam_disk.specs.Crash.{Leaves}
use Rattle.fam_disk.proofs.Moments.{started}
use Rattle.fam_model.specs.Journal.{rows_of}
use Rattle.meta_journal.specs.Image.{IsImage}
use Rattle.meta_journal.specs.Reading.{HasRows}
use Rattle.meta_journal.specs.State.{acknowledged}
use Rattle.meta_journal.specs.declared.doubt.Doubt.{Doubt}
use Rattle.meta_journal.specs.declared.doubt.Doubt.TheVariants.{Nothing}
use Rattle.meta_journal.proofs.Settling.{reads_in_doubt}
use Rattle.meta_journal.proofs.journal.Journal.make_room.Goals as goal

pub returns-in-None-clause-any_moment : goal.returns-in-None-clause-any_moment
returns-in-None-clause-any_moment g c =
    let j = c.args.self.now in
    let A = acknowledged j in
    let at_first = g.D.Disk.state j.disk in
    let was : Leaves at_first at_first.moment (IsImage j.limit j.used j.area Nothing A) =
    subst (λ (d : Doubt). Leaves at_first at_first.moment (IsImage j.limit j.used j.area d A)) c.requires.settled c.requires.sound in
    started (HasRows j.limit (rows_of A)) at_first (λ image left. reads_in_doubt j.limit j.used j.area A Nothing image (was image left))

pub returns-in-None-clause-syncs : goal.returns-in-None-clause-syncs
returns-in-None-clause-syncs g c =
    let D = g.D.Disk.state in
    let at_first = D c.args.self.now.disk in
    same_syncs at_first at_first refl
