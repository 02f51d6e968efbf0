use Rattle.std.proofs.Common.{subst}
use Rattle.fam_model.specs.Rows.{IsLawful}
use Rattle.fam_directory.proofs.Chosen.{chosen_lawful}
use Rattle.fam_directory.proofs.directory.Directory.check.Goals as goal

pub returns-clause-lawful : goal.returns-clause-lawful
returns-clause-lawful c user modest = chosen_lawful c.args.self.now.rows c.args.who c.args.request.now c.chosen.result (subst (λ l. IsLawful l.rows) c.self.view_is c.self.invariant.indexed.lawful) user modest c.chosen.ensures
