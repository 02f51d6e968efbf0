use Rattle.std.proofs.Common.{refl}
use Rattle.std.specs.Prelude.{None}
use Rattle.fam_model.specs.Journal.{rows_of}
use Rattle.meta_journal.specs.State.{acknowledged}
use Rattle.meta_journal.proofs.Reserving.{reserves}
use Rattle.meta_journal.proofs.journal.Journal.reserve.Goals as goal

pub returns-in-Ok-clause-ok : goal.returns-in-Ok-clause-ok
returns-in-Ok-clause-ok g c =
    let j = c.args.self.now in
    reserves j c.keep.new.self c.keep.ensures.same (rows_of (acknowledged j)) c.args.change.now None c.in-Ok.ensures.kept (λ told. refl) (λ told. (c.requires.addable told).0) c.requires.has_body c.requires.fits
