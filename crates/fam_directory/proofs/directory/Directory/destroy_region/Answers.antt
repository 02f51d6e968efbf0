use Rattle.std.proofs.Common.{◌≡◌, ◌<◌, true, Some, None, is_some, length, map, refl, sym, ap, subst, ◌∙◌}
use Rattle.std.specs.List.Sorted.{IsStrictlyIncreasing}
use Rattle.fam_model.specs.declared.change.Change.TheVariants as change
use Rattle.fam_model.specs.Directory.{after}
use Rattle.fam_model.specs.Lawful.{is_lawful_change}
use Rattle.fam_model.specs.Lists.{place_of}
use Rattle.std.proofs.Common.{◌-◌, cond}
use Rattle.std.specs.Str.{bytes_eq}
use Rattle.fam_directory.specs.Names.{named}
use Rattle.fam_directory.specs.Index.{IsIndexed, number_of, rows_of}
use Rattle.fam_directory.proofs.Carried.{carried, items_taken}
use Rattle.fam_directory.proofs.Changed.{number_at}
use Rattle.fam_directory.proofs.Lookups.{numbers_rise}
use Rattle.fam_directory.proofs.Steps.{destroy_step, region_there, size_within}
use Rattle.fam_directory.proofs.directory.Directory.destroy_region.Goals as goal

pub place_there-place-requires-clause-rise : goal.place_there-place-requires-clause-rise
place_there-place-requires-clause-rise c = subst (λ l. IsStrictlyIncreasing (map number_of l)) (sym c.as_slice.ensures.value) (numbers_rise c.self.inside.regions.items c.self.invariant.indexed.lawful.region_numbers_rise)

pub place_there-place-requires-clause-there : goal.place_there-place-requires-clause-there
place_there-place-requires-clause-there c = subst (λ l. is_some (place_of number_of c.args.number.0 l) ≡ true) (sym c.as_slice.ensures.value) (region_there c.self.inside.regions.items c.self.inside.items.rows c.self.inside.next_region c.self.inside.items.next c.args.number (subst (λ l. is_lawful_change l.rows (change.DestroyRegion c.args.number) ≡ true) (sym c.self.view_is) c.requires))

pub overflow_sub-self : goal.overflow_sub-self
overflow_sub-self c = size_within c.self.inside.regions.items c.self.inside.items.rows c.self.inside.next_region c.self.inside.items.next c.place_there-place.result c.self.inside.total c.self.inside.names c.remove-region.result c.self.invariant.indexed (subst (λ l. c.place_there-place.result < length l) c.as_slice.ensures.value c.place_there-place.ensures.within) c.remove-region.ensures.value

pub invariant_of-self : goal.invariant_of-self
invariant_of-self c = record { indexed = carried c.remove-region.new.self.items c.remove_named.new.self.rows c.remove_named.new.self.rows c.self.inside.next_region c.self.inside.items.next c.remove_named.new.self.next (c.self.inside.total - c.remove-region.result.row.size) c.remove.new.self refl c.remove_named.ensures.next (subst (λ l. IsIndexed (rows_of l c.remove_named.new.self.rows c.self.inside.next_region c.self.inside.items.next) l c.remove.new.self (c.self.inside.total - c.remove-region.result.row.size)) (sym c.remove-region.ensures.items) (destroy_step c.self.inside.regions.items c.self.inside.items.rows c.remove_named.new.self.rows c.self.inside.next_region c.self.inside.items.next c.place_there-place.result c.self.inside.total c.self.inside.names c.remove.new.self c.args.number c.remove-region.result c.self.invariant.indexed (subst (λ l. is_lawful_change l.rows (change.DestroyRegion c.args.number) ≡ true) (sym c.self.view_is) c.requires) (subst (λ l. place_of number_of c.args.number.0 l ≡ Some c.place_there-place.result) c.as_slice.ensures.value c.place_there-place.ensures.place) (subst (λ l. c.place_there-place.result < length l) c.as_slice.ensures.value c.place_there-place.ensures.within) c.remove-region.ensures.value (λ q. c.remove.ensures q ∙ ap (λ name. cond (bytes_eq name q) None (named q c.self.inside.names)) c.as_slice-2.ensures) (items_taken c.self.inside.regions.items c.self.inside.items.rows c.remove_named.new.self.rows c.self.inside.next_region c.self.inside.items.next c.place_there-place.result c.self.inside.total c.self.inside.names c.args.number c.remove-region.result c.self.invariant.indexed (subst (λ l. c.place_there-place.result < length l) c.as_slice.ensures.value c.place_there-place.ensures.within) c.remove-region.ensures.value (ap number_of c.remove-region.ensures.value ∙ number_at c.self.inside.regions.items c.args.number.0 c.place_there-place.result c.remove-region.result (subst (λ l. place_of number_of c.args.number.0 l ≡ Some c.place_there-place.result) c.as_slice.ensures.value c.place_there-place.ensures.place) (subst (λ l. c.place_there-place.result < length l) c.as_slice.ensures.value c.place_there-place.ensures.within)) c.remove_named.ensures.rows)).0); awaited = tt }

pub returns : goal.returns
returns c = ap (λ m. rows_of c.remove-region.new.self.items c.remove_named.new.self.rows c.self.inside.next_region m) c.remove_named.ensures.next ∙ ap (λ l. rows_of l c.remove_named.new.self.rows c.self.inside.next_region c.self.inside.items.next) c.remove-region.ensures.items ∙ (destroy_step c.self.inside.regions.items c.self.inside.items.rows c.remove_named.new.self.rows c.self.inside.next_region c.self.inside.items.next c.place_there-place.result c.self.inside.total c.self.inside.names c.remove.new.self c.args.number c.remove-region.result c.self.invariant.indexed (subst (λ l. is_lawful_change l.rows (change.DestroyRegion c.args.number) ≡ true) (sym c.self.view_is) c.requires) (subst (λ l. place_of number_of c.args.number.0 l ≡ Some c.place_there-place.result) c.as_slice.ensures.value c.place_there-place.ensures.place) (subst (λ l. c.place_there-place.result < length l) c.as_slice.ensures.value c.place_there-place.ensures.within) c.remove-region.ensures.value (λ q. c.remove.ensures q ∙ ap (λ name. cond (bytes_eq name q) None (named q c.self.inside.names)) c.as_slice-2.ensures) (items_taken c.self.inside.regions.items c.self.inside.items.rows c.remove_named.new.self.rows c.self.inside.next_region c.self.inside.items.next c.place_there-place.result c.self.inside.total c.self.inside.names c.args.number c.remove-region.result c.self.invariant.indexed (subst (λ l. c.place_there-place.result < length l) c.as_slice.ensures.value c.place_there-place.ensures.within) c.remove-region.ensures.value (ap number_of c.remove-region.ensures.value ∙ number_at c.self.inside.regions.items c.args.number.0 c.place_there-place.result c.remove-region.result (subst (λ l. place_of number_of c.args.number.0 l ≡ Some c.place_there-place.result) c.as_slice.ensures.value c.place_there-place.ensures.place) (subst (λ l. c.place_there-place.result < length l) c.as_slice.ensures.value c.place_there-place.ensures.within)) c.remove_named.ensures.rows)).1 ∙ ap (λ l. after l.rows (change.DestroyRegion c.args.number)) c.self.view_is
