use Rattle.std.proofs.Common.{true, sym, ap, subst, ◌∙◌, map}
use Rattle.ready_lists.specs.Lists.{IsSorted, without_name}
use Rattle.ready_lists.specs.Views.{name_of}
use Rattle.ready_lists.proofs.Found.{IsFound, found, removed, removed_sorted}
use Rattle.ready_lists.proofs.Places.{without_name-kept}
use Rattle.ready_lists.proofs.names.Names.remove.Goals as goal

standing : (c : goal.After-remove) → IsFound c.args.piece c.self.inside.items.items c.place_of-place.result true
standing c =
    found c.args.piece c.self.inside.items.items c.as_slice.result.now c.as_slice-2.result.now c.place_of-place.result true c.self.invariant c.as_slice.ensures.value c.as_slice-2.ensures.value c.place_of-place.ensures.value (sym c.if-stands_at.true ∙ c.stands_at.ensures)

pub invariant_of-self : goal.invariant_of-self
invariant_of-self c =
    subst (λ items. IsSorted (map name_of items)) (sym c.remove.ensures.items) (removed_sorted c.args.piece c.self.inside.items.items c.place_of-place.result (standing c))

pub returns-then-stands_at : goal.returns-then-stands_at
returns-then-stands_at c =
    ap (map name_of) c.remove.ensures.items
    ∙ removed c.args.piece c.self.inside.items.items c.place_of-place.result (standing c)
    ∙ ap (without_name (name_of c.args.piece)) c.self.view_is

pub returns-else-stands_at : goal.returns-else-stands_at
returns-else-stands_at c =
    let name = name_of c.args.piece in
    let f = found c.args.piece c.self.inside.items.items c.as_slice.result.now c.as_slice-2.result.now c.place_of-place.result c.stands_at.result c.self.invariant c.as_slice.ensures.value c.as_slice-2.ensures.value c.place_of-place.ensures.value c.stands_at.ensures in
    sym (ap (without_name name) (sym c.self.view_is) ∙ without_name-kept name (map name_of c.self.inside.items.items) (f.has ∙ c.if-stands_at.false) ∙ c.self.view_is)
