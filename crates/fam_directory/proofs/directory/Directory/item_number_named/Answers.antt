use Rattle.std.proofs.Common.{sym, ◌∙◌, ap}
use Rattle.std.specs.Option.{option_map}
use Rattle.std.specs.List.{find}
use Rattle.std.specs.Str.{bytes_eq}
use Rattle.fam_model.specs.Rows.{item_named, item_number}
use Rattle.fam_directory.proofs.Lookups.{row_number}
use Rattle.fam_directory.proofs.directory.Directory.item_number_named.Goals as goal

pub returns-in-Some-clause-number : goal.returns-in-Some-clause-number
returns-in-Some-clause-number c =
    c.find.ensures ∙ c.in-Some.ensures.entry.1.names c.args.name.now
    ∙ ap (λ n. option_map item_number (item_named c.args.self.now.rows n c.args.name.now)) (row_number c.args.self.now.rows c.args.region.0 c.in-Some.region.now.row c.in-Some.ensures.entry.0)

pub returns-in-None-clause-number : goal.returns-in-None-clause-number
returns-in-None-clause-number c = sym (ap (λ l. option_map item_number (find (λ row. bytes_eq row.name c.args.name.now) l)) c.in-None.ensures.entry.1)
