use Rattle.std.proofs.Common.{◌∙◌, ap}
use Rattle.fam_model.specs.Rows.{total_size}
use Rattle.fam_directory.proofs.directory.Directory.total_size.Goals as goal

pub returns : goal.returns
returns c = c.self.invariant.indexed.sum ∙ ap (λ l. total_size l.rows) c.self.view_is
