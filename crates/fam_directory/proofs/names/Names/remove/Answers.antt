use Rattle.std.proofs.Common.{None, cond, ◌∙◌, ap}
use Rattle.std.specs.Str.{bytes_eq}
use Rattle.fam_directory.specs.Names.{named}
use Rattle.fam_directory.proofs.Naming.{renamed}
use Rattle.fam_directory.proofs.names.Names.remove.Goals as goal

pub returns : goal.returns
returns c other =
    renamed c.args.name.now c.self.inside.map.entries c.swap_remove.new.self.entries None c.swap_remove.ensures.updates.1 c.swap_remove.ensures.updates.3 other
    ∙ ap (λ names. cond (bytes_eq c.args.name.now other) None (named other names)) c.self.view_is
