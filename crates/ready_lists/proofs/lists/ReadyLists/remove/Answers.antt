use Rattle.std.proofs.Common.{◌<◌, length, sym, ap, subst, ◌∙◌}
use Rattle.fam_model.specs.Lists.{change_place}
use Rattle.ready_lists.specs.Lists.{without_name}
use Rattle.ready_lists.specs.Views.{name_of}
use Rattle.ready_lists.proofs.Stripes.{sorted_removed, set_is_change}
use Rattle.ready_lists.proofs.lists.ReadyLists.remove.Goals as goal

within : (c : goal.After-self-1) → c.args.stripe < length c.self.inside.lists.items
within c = subst (λ lists. c.args.stripe < length lists) (sym c.self.view_is) c.requires

pub invariant_of-self : goal.invariant_of-self
invariant_of-self c =
    sorted_removed (name_of c.args.piece) c.self.inside.lists.items c.args.stripe c.index_mut.result.now c.remove.new.self c.self.invariant (within c) c.index_mut.ensures.value c.remove.ensures

pub returns : goal.returns
returns c =
    set_is_change (without_name (name_of c.args.piece)) c.self.inside.lists.items c.args.stripe c.index_mut.result.now c.remove.new.self (within c) c.index_mut.ensures.value c.remove.ensures
    ∙ ap (change_place c.args.stripe (without_name (name_of c.args.piece))) c.self.view_is
