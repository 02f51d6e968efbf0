use Rattle.std.proofs.Common.{List, length, subst, sym, refl, ap, ◌∙◌}
use Rattle.std.specs.Prelude.{None}
use Rattle.std.proofs.lemmas.List.{with_items_is}
use Rattle.stripe_store.specs.Kept.{Kept}
use Rattle.striped_memory.specs.Striped.{Striped, without}
use Rattle.striped_memory.specs.Stripes.{Dropped, IsStriped}
use Rattle.striped_memory.proofs.Views.{updated}
use Rattle.striped_memory.proofs.Changes.{dropped_striped, removed_seen}
use Rattle.striped_memory.proofs.Accesses.{seen}
use Rattle.striped_memory.proofs.memory.StripedMemory.remove.Goals as goal

pub invariant_of-self : goal.invariant_of-self
invariant_of-self c =
    let s = c.self.inside in
    let new = c.drop_rows.new.stores in
    subst (λ (stores : List Kept). IsStriped s.layout stores c.remove.new.self.entries)
    (sym (with_items_is s.stores new (c.drop_rows.auto.stores ∙ c.deref_mut.ensures.len)))
    (dropped_striped s.layout s.stores.items s.stores.items new s.sizes.entries c.remove.new.self.entries c.args.region.0 c.self.invariant
    (c.drop_rows.auto.stores ∙ ap length c.deref_mut.ensures.value) (λ stripe q apart. refl)
    (subst (λ (stores : List Kept). Dropped stores new c.args.region.0) c.deref_mut.ensures.value c.drop_rows.ensures)
    (updated s.sizes.entries c.remove.new.self.entries c.args.region None c.remove.ensures.updates.0))

pub returns : goal.returns
returns c =
    let s = c.self.inside in
    let new = c.drop_rows.new.stores in
    ap (λ (stores : List Kept). seen s.layout stores c.remove.new.self.entries) (with_items_is s.stores new (c.drop_rows.auto.stores ∙ c.deref_mut.ensures.len))
    ∙ removed_seen s.layout s.stores.items new s.sizes.entries c.remove.new.self.entries c.args.region.0
    (subst (λ (stores : List Kept). Dropped stores new c.args.region.0) c.deref_mut.ensures.value c.drop_rows.ensures)
    (updated s.sizes.entries c.remove.new.self.entries c.args.region None c.remove.ensures.updates.0)
    ∙ ap (λ (m : Striped). without m c.args.region.0) c.self.view_is
