use Rattle.std.proofs.Common.{sym, ap, ◌∙◌}
use Rattle.ready_lists.specs.Lists.{has_name}
use Rattle.ready_lists.specs.Views.{name_of}
use Rattle.ready_lists.proofs.Found.{found}
use Rattle.ready_lists.proofs.names.Names.has.Goals as goal

pub returns : goal.returns
returns c =
    let f = found c.args.piece c.self.inside.items.items c.as_slice.result.now c.as_slice-2.result.now c.place_of-place.result c.stands_at.result c.self.invariant c.as_slice.ensures.value c.as_slice-2.ensures.value c.place_of-place.ensures.value c.stands_at.ensures in
    sym f.has ∙ ap (has_name (name_of c.args.piece)) c.self.view_is
