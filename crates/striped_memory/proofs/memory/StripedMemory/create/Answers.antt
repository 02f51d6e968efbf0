use Rattle.std.proofs.Common.{List, length, subst, sym, ap, ◌∙◌}
use Rattle.std.specs.Prelude.{Some, None}
use Rattle.std.specs.Vec.{with_items}
use Rattle.std.proofs.lemmas.List.{with_items_is}
use Rattle.stripe_store.specs.Kept.{Kept}
use Rattle.striped_memory.specs.Striped.{Striped, with_bytes, zeros}
use Rattle.striped_memory.specs.Stripes.{Dropped, Grew, KeptFront, Sizes, IsStriped}
use Rattle.striped_memory.proofs.Views.{Changed, updated}
use Rattle.striped_memory.proofs.Changes.{missing, fresh_found, dropped_striped, undone_seen, created_striped, created_seen}
use Rattle.striped_memory.proofs.Accesses.{seen}
use Rattle.striped_memory.proofs.memory.StripedMemory.create.Goals as goal

pub invariant_of-self : goal.invariant_of-self
invariant_of-self c =
    let s = c.self.inside in
    let q = c.args.region.0 in
    let grown = c.grow_rows.new.stores in
    let new = c.drop_rows.new.stores in
    let none = fresh_found s.layout s.stores.items s.sizes.entries q c.args.self.now c.self.view_is c.requires.fresh in
    let grown_items = with_items_is s.stores grown (c.grow_rows.auto.stores ∙ c.deref_mut.ensures.len) in
    let between = c.deref_mut-in-Err.ensures.value ∙ grown_items in
    let kept = subst (λ (stores : List Kept). KeptFront stores grown q) c.deref_mut.ensures.value c.in-Err.ensures.err in
    subst (λ (stores : List Kept). IsStriped s.layout stores s.sizes.entries)
    (sym (with_items_is (with_items s.stores grown) new (c.drop_rows.auto.stores ∙ c.deref_mut-in-Err.ensures.len)))
    (dropped_striped s.layout s.stores.items grown new s.sizes.entries s.sizes.entries q c.self.invariant
    (c.drop_rows.auto.stores ∙ ap length between ∙ c.grow_rows.auto.stores ∙ ap length c.deref_mut.ensures.value)
    kept.elsewhere (subst (λ (stores : List Kept). Dropped stores new q) between c.drop_rows.ensures)
    (missing s.sizes.entries q none))

pub returns-in-Err-clause-err : goal.returns-in-Err-clause-err
returns-in-Err-clause-err c =
    let s = c.self.inside in
    let q = c.args.region.0 in
    let grown = c.grow_rows.new.stores in
    let new = c.drop_rows.new.stores in
    let none = fresh_found s.layout s.stores.items s.sizes.entries q c.args.self.now c.self.view_is c.requires.fresh in
    let grown_items = with_items_is s.stores grown (c.grow_rows.auto.stores ∙ c.deref_mut.ensures.len) in
    let between = c.deref_mut-in-Err.ensures.value ∙ grown_items in
    let kept = subst (λ (stores : List Kept). KeptFront stores grown q) c.deref_mut.ensures.value c.in-Err.ensures.err in
    ap (λ (stores : List Kept). seen s.layout stores s.sizes.entries)
    (with_items_is (with_items s.stores grown) new (c.drop_rows.auto.stores ∙ c.deref_mut-in-Err.ensures.len))
    ∙ undone_seen s.layout s.stores.items grown new s.sizes.entries s.sizes.entries q
    kept.elsewhere (subst (λ (stores : List Kept). Dropped stores new q) between c.drop_rows.ensures) none
    (missing s.sizes.entries q none)
    ∙ c.self.view_is

pub invariant_of-self-in-Ok : goal.invariant_of-self-in-Ok
invariant_of-self-in-Ok c =
    let s = c.self.inside in
    let q = c.args.region.0 in
    let grown = c.grow_rows.new.stores in
    let none = fresh_found s.layout s.stores.items s.sizes.entries q c.args.self.now c.self.view_is c.requires.fresh in
    subst (λ (stores : List Kept). IsStriped s.layout stores c.insert.new.self.entries)
    (sym (with_items_is s.stores grown (c.grow_rows.auto.stores ∙ c.deref_mut.ensures.len)))
    (created_striped s.layout s.stores.items grown s.sizes.entries c.insert.new.self.entries q c.args.size c.self.invariant none
    (c.grow_rows.auto.stores ∙ ap length c.deref_mut.ensures.value)
    (subst (λ (stores : List Kept). Grew s.layout stores grown q c.args.size) c.deref_mut.ensures.value c.in_default.ensures.ok)
    (updated s.sizes.entries c.insert.new.self.entries c.args.region (Some c.args.size) c.in-Ok.ensures.updates.0)
    c.requires.small)

pub returns-in-Ok-clause-ok : goal.returns-in-Ok-clause-ok
returns-in-Ok-clause-ok c =
    let s = c.self.inside in
    let q = c.args.region.0 in
    let grown = c.grow_rows.new.stores in
    let none = fresh_found s.layout s.stores.items s.sizes.entries q c.args.self.now c.self.view_is c.requires.fresh in
    ap (λ (stores : List Kept). seen s.layout stores c.insert.new.self.entries)
    (with_items_is s.stores grown (c.grow_rows.auto.stores ∙ c.deref_mut.ensures.len))
    ∙ created_seen s.layout s.stores.items grown s.sizes.entries c.insert.new.self.entries q c.args.size c.self.invariant none
    (subst (λ (stores : List Kept). Grew s.layout stores grown q c.args.size) c.deref_mut.ensures.value c.in_default.ensures.ok)
    (updated s.sizes.entries c.insert.new.self.entries c.args.region (Some c.args.size) c.in-Ok.ensures.updates.0)
    ∙ ap (λ (m : Striped). with_bytes m q (zeros c.args.size)) c.self.view_is

pub invariant_of-self-in-Err-insert : goal.invariant_of-self-in-Err-insert
invariant_of-self-in-Err-insert c =
    let s = c.self.inside in
    let q = c.args.region.0 in
    let grown = c.grow_rows.new.stores in
    let new = c.drop_rows-in-Err-insert.new.stores in
    let none = fresh_found s.layout s.stores.items s.sizes.entries q c.args.self.now c.self.view_is c.requires.fresh in
    let grown_items = with_items_is s.stores grown (c.grow_rows.auto.stores ∙ c.deref_mut.ensures.len) in
    let between = c.deref_mut-in-Err-insert.ensures.value ∙ grown_items in
    let grew = subst (λ (stores : List Kept). Grew s.layout stores grown q c.args.size) c.deref_mut.ensures.value c.in_default.ensures.ok in
    subst (λ (stores : List Kept). IsStriped s.layout stores c.insert.new.self.entries)
    (sym (with_items_is (with_items s.stores grown) new (c.drop_rows-in-Err-insert.auto.stores ∙ c.deref_mut-in-Err-insert.ensures.len)))
    (dropped_striped s.layout s.stores.items grown new s.sizes.entries c.insert.new.self.entries q c.self.invariant
    (c.drop_rows-in-Err-insert.auto.stores ∙ ap length between ∙ c.grow_rows.auto.stores ∙ ap length c.deref_mut.ensures.value)
    grew.elsewhere (subst (λ (stores : List Kept). Dropped stores new q) between c.drop_rows-in-Err-insert.ensures)
    (subst (λ (sizes : Sizes). Changed s.sizes.entries sizes q None) (sym c.in-Err-insert.ensures.err) (missing s.sizes.entries q none)))

pub returns-in-Err-insert-clause-err : goal.returns-in-Err-insert-clause-err
returns-in-Err-insert-clause-err c =
    let s = c.self.inside in
    let q = c.args.region.0 in
    let grown = c.grow_rows.new.stores in
    let new = c.drop_rows-in-Err-insert.new.stores in
    let none = fresh_found s.layout s.stores.items s.sizes.entries q c.args.self.now c.self.view_is c.requires.fresh in
    let grown_items = with_items_is s.stores grown (c.grow_rows.auto.stores ∙ c.deref_mut.ensures.len) in
    let between = c.deref_mut-in-Err-insert.ensures.value ∙ grown_items in
    let grew = subst (λ (stores : List Kept). Grew s.layout stores grown q c.args.size) c.deref_mut.ensures.value c.in_default.ensures.ok in
    ap (λ (stores : List Kept). seen s.layout stores c.insert.new.self.entries)
    (with_items_is (with_items s.stores grown) new (c.drop_rows-in-Err-insert.auto.stores ∙ c.deref_mut-in-Err-insert.ensures.len))
    ∙ undone_seen s.layout s.stores.items grown new s.sizes.entries c.insert.new.self.entries q
    grew.elsewhere (subst (λ (stores : List Kept). Dropped stores new q) between c.drop_rows-in-Err-insert.ensures) none
    (subst (λ (sizes : Sizes). Changed s.sizes.entries sizes q None) (sym c.in-Err-insert.ensures.err) (missing s.sizes.entries q none))
    ∙ c.self.view_is
