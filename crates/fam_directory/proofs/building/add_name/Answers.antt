use Rattle.std.proofs.Common.{Some, cond, ap, ◌∙◌}
use Rattle.std.specs.Str.{bytes_eq}
use Rattle.fam_directory.specs.Names.{named}
use Rattle.fam_directory.proofs.building.add_name.Goals as goal

pub add-requires-clause-absent : goal.add-requires-clause-absent
add-requires-clause-absent c =
    c.reserve.ensures.names c.in_ok-key.key ∙ ap (λ name. named name c.args.names.now) (c.in_ok-key.ensures ∙ c.as_slice.ensures) ∙ c.requires

pub returns : goal.returns
returns c name =
    c.add.ensures name
    ∙ (λ i. cond (bytes_eq ((c.in_ok-key.ensures ∙ c.as_slice.ensures) i) name) (Some c.args.row.now.number.0) (c.reserve.ensures.names name i))
