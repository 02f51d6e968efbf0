use Rattle.fam_directory.proofs.Lookups.{item_from_name}
use Rattle.fam_directory.proofs.directory.Directory.item_named.Goals as goal

pub returns-in-Some : goal.returns-in-Some
returns-in-Some c = item_from_name c.args.self.now.rows c.item_number_named.ensures.lawful c.args.region.0 c.args.name.now c.in-Some.number _ c.in-Some.ensures.number c.item.ensures
