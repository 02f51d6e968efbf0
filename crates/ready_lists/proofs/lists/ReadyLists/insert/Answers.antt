use Rattle.std.proofs.Common.{◌<◌, length, sym, subst}
use Rattle.ready_lists.specs.Views.{name_of}
use Rattle.ready_lists.proofs.Stripes.{sorted_inserted, list_inserted}
use Rattle.ready_lists.proofs.lists.ReadyLists.insert.Goals as goal

within : (c : goal.After-self-1) → c.args.stripe < length c.self.inside.lists.items
within c = subst (λ lists. c.args.stripe < length lists) (sym c.self.view_is) c.requires

pub invariant_of-self : goal.invariant_of-self
invariant_of-self c =
    sorted_inserted c.insert.result (name_of c.args.piece) c.self.inside.lists.items c.args.stripe c.index_mut.result.now c.insert.new.self c.self.invariant (within c) c.index_mut.ensures.value c.insert.ensures.ok c.insert.ensures.err

pub returns-clause-ok : goal.returns-clause-ok
returns-clause-ok c =
    list_inserted c.insert.result (name_of c.args.piece) c.self.inside.lists.items c.args.self.now c.args.stripe c.index_mut.result.now c.insert.new.self c.self.view_is (within c) c.index_mut.ensures.value c.insert.ensures.ok
