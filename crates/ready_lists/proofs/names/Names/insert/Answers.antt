use Rattle.std.proofs.Common.{false, sym, ap, subst, ◌∙◌, map}
use Rattle.std.proofs.lemmas.Bool.{false≢true}
use Rattle.ready_lists.specs.Lists.{IsSorted, has_name, with_name}
use Rattle.ready_lists.specs.Views.{name_of}
use Rattle.ready_lists.proofs.Found.{IsFound, found, inserted, inserted_sorted}
use Rattle.ready_lists.proofs.Places.{with_name-kept}
use Rattle.ready_lists.proofs.names.Names.insert.Goals as goal

pub returns-then-stands_at-clause-ok : goal.returns-then-stands_at-clause-ok
returns-then-stands_at-clause-ok c =
    let name = name_of c.args.piece in
    let f = found c.args.piece c.self.inside.items.items c.as_slice.result.now c.as_slice-2.result.now c.place_of-place.result c.stands_at.result c.self.invariant c.as_slice.ensures.value c.as_slice-2.ensures.value c.place_of-place.ensures.value c.stands_at.ensures in
    sym (ap (with_name name) (sym c.self.view_is) ∙ with_name-kept name (map name_of c.self.inside.items.items) c.self.invariant (f.has ∙ c.if-stands_at.true) ∙ c.self.view_is)

missing : (c : goal.In_ok-insert) → IsFound c.args.piece c.self.inside.items.items c.place_of-place.result false
missing c =
    found c.args.piece c.self.inside.items.items c.as_slice.result.now c.as_slice-2.result.now c.place_of-place.result false c.self.invariant c.as_slice.ensures.value c.as_slice-2.ensures.value c.place_of-place.ensures.value (sym c.if-stands_at.false ∙ c.stands_at.ensures)

pub invariant_of-self-2 : goal.invariant_of-self-2
invariant_of-self-2 c =
    subst (λ items. IsSorted (map name_of items)) (sym c.in_ok-insert.ensures.items) (inserted_sorted c.args.piece c.self.inside.items.items c.place_of-place.result (missing c))

pub returns-clause-ok : goal.returns-clause-ok
returns-clause-ok c =
    ap (map name_of) c.in_ok-insert.ensures.items
    ∙ inserted c.args.piece c.self.inside.items.items c.place_of-place.result (missing c)
    ∙ ap (with_name (name_of c.args.piece)) c.self.view_is

pub returns-in_err-insert-clause-held : goal.returns-in_err-insert-clause-held
returns-in_err-insert-clause-held c =
    let f = found c.args.piece c.self.inside.items.items c.as_slice.result.now c.as_slice-2.result.now c.place_of-place.result c.stands_at.result c.self.invariant c.as_slice.ensures.value c.as_slice-2.ensures.value c.place_of-place.ensures.value c.stands_at.ensures in
    λ h. absurd (false≢true (sym (f.has ∙ c.if-stands_at.false) ∙ ap (has_name (name_of c.args.piece)) c.self.view_is ∙ h))
