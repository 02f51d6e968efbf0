use Rattle.fam_model.specs.Journal.{rows_of}
use Rattle.meta_journal.specs.State.{acknowledged}
use Rattle.fam_keeper.proofs.Holding.{reserved_for}
use Rattle.fam_keeper.proofs.appending.reserve_fitting.Goals as goal

pub returns-in-Ok-clause-ok : goal.returns-in-Ok-clause-ok
returns-in-Ok-clause-ok g c =
    reserved_for c.args.journal.now c.reserve.new.self c.args.change.now c.args.rows.now (rows_of (acknowledged c.args.journal.now)) c.requires.kept c.in-Ok.ensures.same c.in-Ok.ensures.acknowledged
    c.requires.fits c.requires.lawful_change c.in-Ok.ensures.ok
