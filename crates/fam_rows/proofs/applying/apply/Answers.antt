use Rattle.fam_rows.proofs.Keeping.{made_lawful}
use Rattle.fam_rows.proofs.applying.apply.Goals as goal

pub returns-clause-lawful : goal.returns-clause-lawful
returns-clause-lawful c = made_lawful c.args.rows.now c.make_change.new.rows c.args.change c.make_change.result c.requires.lawful c.requires.change c.make_change.ensures.ok c.make_change.ensures.err
