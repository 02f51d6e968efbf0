use Rattle.std.proofs.Common.{◌∙◌, ap}
use Rattle.std.specs.Option.{option_map}
use Rattle.fam_model.specs.Rows.{region_named, region_number}
use Rattle.fam_directory.proofs.directory.Directory.number_named.Goals as goal

pub returns-clause-number : goal.returns-clause-number
returns-clause-number c = c.find.ensures ∙ c.self.invariant.indexed.by_name c.args.name.now ∙ ap (λ l. option_map region_number (region_named l.rows c.args.name.now)) c.self.view_is
