use Rattle.std.proofs.Common.{ℕ, ◌≤◌, ◌^◌, ◌∙◌, ap, subst, sym, length}
use Rattle.std.specs.Prelude.{Option, IfSome}
use Rattle.std.specs.Option.{option_map}
use Rattle.std.specs.FinMap.{get}
use Rattle.striped_memory.specs.Striped.{Striped}
use Rattle.striped_memory.specs.Stripes.{bytes_in, found}
use Rattle.striped_memory.proofs.Sizes.{length_of_bytes}
use Rattle.striped_memory.proofs.Views.{get-regions_of}
use Rattle.striped_memory.proofs.Changes.{length_by, size_there, small_by}
use Rattle.striped_memory.proofs.memory.StripedMemory.size.Goals as goal

pub returns : goal.returns
returns c =
    let s = c.self.inside in
    let q = c.args.region.0 in
    let is = c.copied.ensures ∙ c.get.ensures.value in
    let value = is
    ∙ length_by (bytes_in s.layout s.stores.items q) (length_of_bytes s.layout s.stores.items q) (found s.sizes.entries q)
    ∙ ap (option_map length) (sym (get-regions_of s.layout s.stores.items s.sizes.entries q))
    ∙ ap (λ (m : Striped). option_map length (get m.regions q)) c.self.view_is in
    record {
      value = value;
      there = size_there c.copied.result (get c.args.self.now.regions q) value;
      small = subst (λ (size : Option ℕ). IfSome size (λ n. n ≤ 2 ^ 26)) (sym is) (small_by (found s.sizes.entries q) (c.self.invariant.small q));
    }
