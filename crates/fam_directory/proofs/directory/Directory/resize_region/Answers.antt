use Rattle.std.proofs.Common.{◌≡◌, ◌<◌, true, Some, is_some, length, map, sym, ap, subst, ◌∙◌, arith}
use Rattle.std.specs.List.Sorted.{IsStrictlyIncreasing}
use Rattle.fam_model.specs.declared.change.Change.TheVariants as change
use Rattle.fam_model.specs.Directory.{after}
use Rattle.fam_model.specs.Lawful.{is_lawful_change}
use Rattle.fam_model.specs.Lists.{place_of}
use Rattle.fam_directory.specs.Index.{number_of}
use Rattle.fam_directory.proofs.Lookups.{numbers_rise}
use Rattle.std.proofs.lemmas.List.{get_or_default}
use Rattle.fam_model.specs.declared.rows.RegionRow.{RegionRow}
use Rattle.region_alloc.specs.Gaps.{Holds}
use Rattle.fam_directory.specs.declared.region.Region.{Region}
use Rattle.fam_directory.proofs.Steps.{size_fits, size_step, size_there, size_within, total_within}
use Rattle.fam_directory.proofs.directory.Directory.resize_region.Goals as goal

pub place_there-place-requires-clause-rise : goal.place_there-place-requires-clause-rise
place_there-place-requires-clause-rise c = subst (λ l. IsStrictlyIncreasing (map number_of l)) (sym c.as_slice.ensures.value) (numbers_rise c.self.inside.regions.items c.self.invariant.indexed.lawful.region_numbers_rise)

pub place_there-place-requires-clause-there : goal.place_there-place-requires-clause-there
place_there-place-requires-clause-there c = subst (λ l. is_some (place_of number_of c.args.number.0 l) ≡ true) (sym c.as_slice.ensures.value) (size_there c.self.inside.regions.items c.self.inside.items.rows c.self.inside.next_region c.self.inside.items.next c.args.size c.args.number (subst (λ l. is_lawful_change l.rows (change.ResizeRegion c.args.number c.args.size) ≡ true) (sym c.self.view_is) c.requires))

pub resize-requires-clause-limit : goal.resize-requires-clause-limit
resize-requires-clause-limit c = (size_fits c.self.inside.regions.items c.self.inside.items.rows c.self.inside.next_region c.self.inside.items.next c.place_there-place.result c.self.inside.total c.args.size c.self.inside.names c.args.number c.index_mut.result.now c.self.invariant.indexed (subst (λ l. is_lawful_change l.rows (change.ResizeRegion c.args.number c.args.size) ≡ true) (sym c.self.view_is) c.requires) (subst (λ l. place_of number_of c.args.number.0 l ≡ Some c.place_there-place.result) c.as_slice.ensures.value c.place_there-place.ensures.place) (subst (λ l. c.place_there-place.result < length l) c.as_slice.ensures.value c.place_there-place.ensures.within) c.index_mut.ensures.value).0

pub resize-requires-clause-uncut : goal.resize-requires-clause-uncut
resize-requires-clause-uncut c =
    let fits = (size_fits c.self.inside.regions.items c.self.inside.items.rows c.self.inside.next_region c.self.inside.items.next c.place_there-place.result c.self.inside.total c.args.size c.self.inside.names c.args.number c.index_mut.result.now c.self.invariant.indexed (subst (λ l. is_lawful_change l.rows (change.ResizeRegion c.args.number c.args.size) ≡ true) (sym c.self.view_is) c.requires) (subst (λ l. place_of number_of c.args.number.0 l ≡ Some c.place_there-place.result) c.as_slice.ensures.value c.place_there-place.ensures.place) (subst (λ l. c.place_there-place.result < length l) c.as_slice.ensures.value c.place_there-place.ensures.within) c.index_mut.ensures.value) in
    (fits.1, fits.2, fits.3)

pub overflow_sub-self : goal.overflow_sub-self
overflow_sub-self c = size_within c.self.inside.regions.items c.self.inside.items.rows c.self.inside.next_region c.self.inside.items.next c.place_there-place.result c.self.inside.total c.self.inside.names c.index.result.now c.self.invariant.indexed (subst (λ l. c.place_there-place.result < length l) c.as_slice.ensures.value c.place_there-place.ensures.within) c.index.ensures

pub overflow_add-self : goal.overflow_add-self
overflow_add-self c = omega (arith, total_within _ _ _ _ c.self.invariant.indexed, (size_fits c.self.inside.regions.items c.self.inside.items.rows c.self.inside.next_region c.self.inside.items.next c.place_there-place.result c.self.inside.total c.args.size c.self.inside.names c.args.number c.index_mut.result.now c.self.invariant.indexed (subst (λ l. is_lawful_change l.rows (change.ResizeRegion c.args.number c.args.size) ≡ true) (sym c.self.view_is) c.requires) (subst (λ l. place_of number_of c.args.number.0 l ≡ Some c.place_there-place.result) c.as_slice.ensures.value c.place_there-place.ensures.place) (subst (λ l. c.place_there-place.result < length l) c.as_slice.ensures.value c.place_there-place.ensures.within) c.index_mut.ensures.value).0)

pub invariant_of-self : goal.invariant_of-self
invariant_of-self c = record { indexed = (size_step c.self.inside.regions.items c.self.inside.items.rows c.self.inside.next_region c.self.inside.items.next c.place_there-place.result c.self.inside.total c.args.size c.self.inside.names c.args.number c.index.result.now c.resize.new.self c.self.invariant.indexed (subst (λ l. is_lawful_change l.rows (change.ResizeRegion c.args.number c.args.size) ≡ true) (sym c.self.view_is) c.requires) (subst (λ l. place_of number_of c.args.number.0 l ≡ Some c.place_there-place.result) c.as_slice.ensures.value c.place_there-place.ensures.place) (subst (λ l. c.place_there-place.result < length l) c.as_slice.ensures.value c.place_there-place.ensures.within) c.index.ensures (c.resize.ensures.row ∙ ap (λ (r : Region). let s : RegionRow = record r.row { size = c.args.size } in s) (c.index_mut.ensures.value ∙ (get_or_default c.self.inside.regions.items c.place_there-place.result c.index_mut.result.now c.index.result.now (subst (λ l. c.place_there-place.result < length l) c.as_slice.ensures.value c.place_there-place.ensures.within)) ∙ sym c.index.ensures)) (c.resize.ensures.names ∙ ap (λ (r : Region). r.items) (c.index_mut.ensures.value ∙ (get_or_default c.self.inside.regions.items c.place_there-place.result c.index_mut.result.now c.index.result.now (subst (λ l. c.place_there-place.result < length l) c.as_slice.ensures.value c.place_there-place.ensures.within)) ∙ sym c.index.ensures)) c.resize.ensures.size (λ l held. c.resize.ensures.rooms l (subst (λ (r : Region). Holds r.room l) (sym (c.index_mut.ensures.value ∙ (get_or_default c.self.inside.regions.items c.place_there-place.result c.index_mut.result.now c.index.result.now (subst (λ l. c.place_there-place.result < length l) c.as_slice.ensures.value c.place_there-place.ensures.within)) ∙ sym c.index.ensures)) held))).0; awaited = tt }

pub returns : goal.returns
returns c = (size_step c.self.inside.regions.items c.self.inside.items.rows c.self.inside.next_region c.self.inside.items.next c.place_there-place.result c.self.inside.total c.args.size c.self.inside.names c.args.number c.index.result.now c.resize.new.self c.self.invariant.indexed (subst (λ l. is_lawful_change l.rows (change.ResizeRegion c.args.number c.args.size) ≡ true) (sym c.self.view_is) c.requires) (subst (λ l. place_of number_of c.args.number.0 l ≡ Some c.place_there-place.result) c.as_slice.ensures.value c.place_there-place.ensures.place) (subst (λ l. c.place_there-place.result < length l) c.as_slice.ensures.value c.place_there-place.ensures.within) c.index.ensures (c.resize.ensures.row ∙ ap (λ (r : Region). let s : RegionRow = record r.row { size = c.args.size } in s) (c.index_mut.ensures.value ∙ (get_or_default c.self.inside.regions.items c.place_there-place.result c.index_mut.result.now c.index.result.now (subst (λ l. c.place_there-place.result < length l) c.as_slice.ensures.value c.place_there-place.ensures.within)) ∙ sym c.index.ensures)) (c.resize.ensures.names ∙ ap (λ (r : Region). r.items) (c.index_mut.ensures.value ∙ (get_or_default c.self.inside.regions.items c.place_there-place.result c.index_mut.result.now c.index.result.now (subst (λ l. c.place_there-place.result < length l) c.as_slice.ensures.value c.place_there-place.ensures.within)) ∙ sym c.index.ensures)) c.resize.ensures.size (λ l held. c.resize.ensures.rooms l (subst (λ (r : Region). Holds r.room l) (sym (c.index_mut.ensures.value ∙ (get_or_default c.self.inside.regions.items c.place_there-place.result c.index_mut.result.now c.index.result.now (subst (λ l. c.place_there-place.result < length l) c.as_slice.ensures.value c.place_there-place.ensures.within)) ∙ sym c.index.ensures)) held))).1 ∙ ap (λ l. after l.rows (change.ResizeRegion c.args.number c.args.size)) c.self.view_is
