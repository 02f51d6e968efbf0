use Rattle.std.proofs.Common.{Some, cond, ◌∙◌, ap}
use Rattle.std.specs.Str.{bytes_eq}
use Rattle.std.proofs.lemmas.Bool.{ltb-true}
use Rattle.fam_directory.specs.Names.{named}
use Rattle.fam_directory.proofs.Naming.{on_ok, renamed}
use Rattle.fam_directory.proofs.names.Names.add.Goals as goal

pub returns : goal.returns
returns c other =
    let room = ltb-true _ _ (ap (λ n. n.is_ready) c.self.view_is ∙ c.requires.ready) in
    let updates = on_ok c.insert.result _ (c.insert.ensures.succeeds room) c.insert.ensures.updates in
    renamed c.into_vec.result.items c.self.inside.map.entries c.insert.new.self.entries (Some c.args.number) updates.1 updates.3 other
    ∙ (λ i. cond (bytes_eq (c.into_vec.ensures i) other) (Some c.args.number) (named other (c.self.view_is i)))
