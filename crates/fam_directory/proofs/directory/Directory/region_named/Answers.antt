use Rattle.fam_directory.proofs.Lookups.{region_from_name}
use Rattle.fam_directory.proofs.directory.Directory.region_named.Goals as goal

pub returns-in-Some : goal.returns-in-Some
returns-in-Some c = region_from_name c.args.self.now.rows c.number_named.ensures.lawful c.args.name.now c.in-Some.number _ c.in-Some.ensures.number c.region.ensures
