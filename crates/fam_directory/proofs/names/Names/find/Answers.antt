use Rattle.std.proofs.Common.{◌∙◌, ap}
use Rattle.fam_directory.specs.Names.{named}
use Rattle.fam_directory.proofs.Naming.{lookup_is}
use Rattle.fam_directory.proofs.names.Names.find.Goals as goal

pub returns : goal.returns
returns c = c.copied.ensures ∙ c.get.ensures.value ∙ lookup_is c.args.name.now c.self.inside.map.entries ∙ ap (named c.args.name.now) c.self.view_is
