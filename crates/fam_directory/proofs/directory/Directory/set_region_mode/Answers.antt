use Rattle.std.proofs.Common.{◌≡◌, ◌<◌, true, Some, is_some, length, map, sym, ap, subst, ◌∙◌}
use Rattle.std.specs.List.Sorted.{IsStrictlyIncreasing}
use Rattle.fam_model.specs.declared.change.Change.TheVariants as change
use Rattle.fam_model.specs.Directory.{after}
use Rattle.fam_model.specs.Lawful.{is_lawful_change}
use Rattle.fam_model.specs.Lists.{place_of}
use Rattle.fam_directory.specs.Index.{number_of}
use Rattle.fam_directory.proofs.Lookups.{numbers_rise}
use Rattle.fam_directory.proofs.Steps.{mode_step, mode_there}
use Rattle.fam_directory.proofs.directory.Directory.set_region_mode.Goals as goal

pub place_there-place-requires-clause-rise : goal.place_there-place-requires-clause-rise
place_there-place-requires-clause-rise c = subst (λ l. IsStrictlyIncreasing (map number_of l)) (sym c.as_slice.ensures.value) (numbers_rise c.self.inside.regions.items c.self.invariant.indexed.lawful.region_numbers_rise)

pub place_there-place-requires-clause-there : goal.place_there-place-requires-clause-there
place_there-place-requires-clause-there c = subst (λ l. is_some (place_of number_of c.args.number.0 l) ≡ true) (sym c.as_slice.ensures.value) (mode_there c.self.inside.regions.items c.self.inside.items.rows c.self.inside.next_region c.self.inside.items.next c.args.mode c.args.number (subst (λ l. is_lawful_change l.rows (change.SetRegionMode c.args.number c.args.mode) ≡ true) (sym c.self.view_is) c.requires))

pub invariant_of-self : goal.invariant_of-self
invariant_of-self c = record { indexed = (mode_step c.self.inside.regions.items c.self.inside.items.rows c.self.inside.next_region c.self.inside.items.next c.place_there-place.result c.self.inside.total c.args.mode c.self.inside.names c.args.number c.index_mut.result.now c.self.invariant.indexed (subst (λ l. is_lawful_change l.rows (change.SetRegionMode c.args.number c.args.mode) ≡ true) (sym c.self.view_is) c.requires) (subst (λ l. place_of number_of c.args.number.0 l ≡ Some c.place_there-place.result) c.as_slice.ensures.value c.place_there-place.ensures.place) (subst (λ l. c.place_there-place.result < length l) c.as_slice.ensures.value c.place_there-place.ensures.within) c.index_mut.ensures.value).0; awaited = tt }

pub returns : goal.returns
returns c = (mode_step c.self.inside.regions.items c.self.inside.items.rows c.self.inside.next_region c.self.inside.items.next c.place_there-place.result c.self.inside.total c.args.mode c.self.inside.names c.args.number c.index_mut.result.now c.self.invariant.indexed (subst (λ l. is_lawful_change l.rows (change.SetRegionMode c.args.number c.args.mode) ≡ true) (sym c.self.view_is) c.requires) (subst (λ l. place_of number_of c.args.number.0 l ≡ Some c.place_there-place.result) c.as_slice.ensures.value c.place_there-place.ensures.place) (subst (λ l. c.place_there-place.result < length l) c.as_slice.ensures.value c.place_there-place.ensures.within) c.index_mut.ensures.value).1 ∙ ap (λ l. after l.rows (change.SetRegionMode c.args.number c.args.mode)) c.self.view_is
