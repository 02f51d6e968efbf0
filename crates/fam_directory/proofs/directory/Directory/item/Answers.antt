use Rattle.std.proofs.Common.{◌∙◌, ap}
use Rattle.fam_model.specs.Rows.{item_of}
use Rattle.fam_directory.proofs.directory.Directory.item.Goals as goal

pub returns : goal.returns
returns c = c.find.ensures ∙ ap (λ l. item_of l.rows c.args.number.0) c.self.view_is
