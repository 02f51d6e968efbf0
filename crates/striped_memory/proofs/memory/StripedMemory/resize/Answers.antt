use Rattle.std.proofs.Common.{◌∙◌, List, length, subst, sym, ap}
use Rattle.std.proofs.lemmas.List.{with_items_is}
use Rattle.stripe_store.specs.Kept.{Kept}
use Rattle.striped_memory.specs.Stripes.{HasRows, SameRows, Resized, IsStriped}
use Rattle.striped_memory.proofs.Changes.{not_there, size_found, rows_found, written_through, same_striped, same_seen, resized_striped, resized_seen, on_any_err}
use Rattle.striped_memory.proofs.Accesses.{seen}
use Rattle.striped_memory.proofs.memory.StripedMemory.resize.Goals as goal

pub returns-in_default-clause-ok : goal.returns-in_default-clause-ok
returns-in_default-clause-ok c =
    let s = c.self.inside in
    absurd (not_there s.layout s.stores.items s.sizes.entries c.args.region.0 c.args.self.now c.self.view_is c.requires.there c.in_default.ensures.value)

pub resize_rows-requires-clause-old_small : goal.resize_rows-requires-clause-old_small
resize_rows-requires-clause-old_small c =
    let s = c.self.inside in
    size_found s.layout s.stores.items s.sizes.entries c.args.region.0 c.in-Some.place.now c.self.invariant c.in-Some.ensures.value

pub resize_rows-requires-clause-rows : goal.resize_rows-requires-clause-rows
resize_rows-requires-clause-rows c =
    let s = c.self.inside in
    subst (λ (stores : List Kept). HasRows s.layout stores c.args.region.0 c.in-Some.place.now) (sym c.deref_mut.ensures.value)
    (rows_found s.layout s.stores.items s.sizes.entries c.args.region.0 c.in-Some.place.now c.self.invariant c.in-Some.ensures.value)

pub invariant_of-self-in_err-resize_rows : goal.invariant_of-self-in_err-resize_rows
invariant_of-self-in_err-resize_rows c =
    let s = c.self.inside in
    let n = c.in-Some.place.now in
    let new = c.resize_rows.new.stores in
    subst (λ (stores : List Kept). IsStriped s.layout stores (c.get_mut.follows.lender n).entries)
    (sym (with_items_is s.stores new (c.resize_rows.auto.stores ∙ c.deref_mut.ensures.len)))
    (same_striped s.layout s.stores.items new s.sizes.entries (c.get_mut.follows.lender n).entries c.args.region.0 n c.self.invariant
    (c.resize_rows.auto.stores ∙ ap length c.deref_mut.ensures.value)
    (subst (λ (stores : List Kept). SameRows stores new) c.deref_mut.ensures.value c.in_err-resize_rows.ensures.err)
    c.in-Some.ensures.value
    (written_through s.sizes (c.get_mut.follows.lender n) c.args.region n n c.in-Some.ensures.value (c.get_mut.follows.holds n)))

pub returns-in_err-resize_rows-clause-err : goal.returns-in_err-resize_rows-clause-err
returns-in_err-resize_rows-clause-err c =
    let s = c.self.inside in
    let n = c.in-Some.place.now in
    let new = c.resize_rows.new.stores in
    let sizes = c.get_mut.follows.lender n in
    on_any_err c.from_residual.result
    (ap (λ (stores : List Kept). seen s.layout stores sizes.entries) (with_items_is s.stores new (c.resize_rows.auto.stores ∙ c.deref_mut.ensures.len))
    ∙ same_seen s.layout s.stores.items new s.sizes.entries sizes.entries c.args.region.0 n
    (subst (λ (stores : List Kept). SameRows stores new) c.deref_mut.ensures.value c.in_err-resize_rows.ensures.err)
    c.in-Some.ensures.value
    (written_through s.sizes sizes c.args.region n n c.in-Some.ensures.value (c.get_mut.follows.holds n))
    ∙ c.self.view_is)

pub invariant_of-self-2 : goal.invariant_of-self-2
invariant_of-self-2 c =
    let s = c.self.inside in
    let new = c.resize_rows.new.stores in
    let sizes = c.get_mut.follows.lender c.args.size in
    subst (λ (stores : List Kept). IsStriped s.layout stores sizes.entries)
    (sym (with_items_is s.stores new (c.resize_rows.auto.stores ∙ c.deref_mut.ensures.len)))
    (resized_striped s.layout s.stores.items new s.sizes.entries sizes.entries c.args.region.0 c.in-Some.place.now c.args.size c.self.invariant
    (c.resize_rows.auto.stores ∙ ap length c.deref_mut.ensures.value)
    (subst (λ (stores : List Kept). Resized s.layout stores new c.args.region.0 c.in-Some.place.now c.args.size) c.deref_mut.ensures.value c.in_ok-resize_rows.ensures.ok)
    (written_through s.sizes sizes c.args.region c.in-Some.place.now c.args.size c.in-Some.ensures.value (c.get_mut.follows.holds c.args.size))
    c.requires.small)

pub returns-clause-ok : goal.returns-clause-ok
returns-clause-ok c =
    let s = c.self.inside in
    let new = c.resize_rows.new.stores in
    let sizes = c.get_mut.follows.lender c.args.size in
    ap (λ (stores : List Kept). seen s.layout stores sizes.entries) (with_items_is s.stores new (c.resize_rows.auto.stores ∙ c.deref_mut.ensures.len))
    ∙ resized_seen s.layout s.stores.items new s.sizes.entries sizes.entries c.args.region.0 c.in-Some.place.now c.args.size c.args.self.now c.self.view_is
    c.in-Some.ensures.value
    (subst (λ (stores : List Kept). Resized s.layout stores new c.args.region.0 c.in-Some.place.now c.args.size) c.deref_mut.ensures.value c.in_ok-resize_rows.ensures.ok)
    (written_through s.sizes sizes c.args.region c.in-Some.place.now c.args.size c.in-Some.ensures.value (c.get_mut.follows.holds c.args.size))
