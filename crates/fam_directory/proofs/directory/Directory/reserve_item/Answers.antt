use Rattle.std.proofs.Common.{◌≡◌, ◌<◌, true, Some, is_some, length, map, set, sym, ap, subst, ◌∙◌}
use Rattle.std.specs.List.Sorted.{IsStrictlyIncreasing}
use Rattle.std.specs.Option.{option_map}
use Rattle.std.specs.Vec.{with_item}
use Rattle.fam_base.specs.declared.naming.RegionId.{RegionId}
use Rattle.fam_model.specs.Lists.{is_some_and, place_of}
use Rattle.fam_model.specs.Rows.{region_of}
use Rattle.fam_rows.proofs.Places.{rises}
use Rattle.fam_directory.specs.Index.{NewName, number_of, rows_of}
use Rattle.fam_directory.proofs.Lookups.{numbers_rise}
use Rattle.fam_directory.proofs.Adding.{holds_item, ready_step, ready_there}
use Rattle.fam_directory.proofs.Carried.{carried}
use Rattle.fam_directory.proofs.Changed.{has_place_there}
use Rattle.fam_directory.proofs.directory.Directory.reserve_item.Goals as goal

pub invariant_of-self : goal.invariant_of-self
invariant_of-self c = record { indexed = carried c.self.inside.regions.items c.self.inside.items.rows c.reserve.new.self.rows c.self.inside.next_region c.self.inside.items.next c.reserve.new.self.next c.self.inside.total c.self.inside.names c.reserve.ensures.rows c.reserve.ensures.next c.self.invariant.indexed; awaited = tt }

pub returns-in_err-reserve-clause-rows : goal.returns-in_err-reserve-clause-rows
returns-in_err-reserve-clause-rows c = (λ i. rows_of c.self.inside.regions.items (c.reserve.ensures.rows i) c.self.inside.next_region (c.reserve.ensures.next i)) ∙ ap (λ l. l.rows) c.self.view_is

pub place_there-place-requires-clause-rise : goal.place_there-place-requires-clause-rise
place_there-place-requires-clause-rise c = subst (λ l. IsStrictlyIncreasing (map number_of l)) (sym c.as_slice.ensures.value) (numbers_rise c.self.inside.regions.items c.self.invariant.indexed.lawful.region_numbers_rise)

pub place_there-place-requires-clause-there : goal.place_there-place-requires-clause-there
place_there-place-requires-clause-there c =
    subst (λ l. is_some (place_of number_of c.args.region.0 l) ≡ true) (sym c.as_slice.ensures.value)
    (has_place_there c.self.inside.regions.items c.self.inside.items.rows c.self.inside.next_region c.self.inside.items.next c.args.region.0 (λ row. true) (subst (λ l. is_some_and (region_of l.rows c.args.region.0) (λ row. true) ≡ true) (sym c.self.view_is) c.requires))

pub invariant_of-self-in_err-reserve-2 : goal.invariant_of-self-in_err-reserve-2
invariant_of-self-in_err-reserve-2 c = record { indexed = (carried (set c.self.inside.regions.items c.place_there-place.result c.reserve-2.new.self) c.self.inside.items.rows c.reserve.new.self.rows c.self.inside.next_region c.self.inside.items.next c.reserve.new.self.next c.self.inside.total c.self.inside.names c.reserve.ensures.rows c.reserve.ensures.next (ready_step c.self.inside.regions.items c.self.inside.items.rows c.self.inside.next_region c.self.inside.items.next c.args.region.0 c.place_there-place.result c.self.inside.total c.self.inside.names c.index_mut.result.now c.reserve-2.new.self c.self.invariant.indexed (subst (λ l. place_of number_of c.args.region.0 l ≡ Some c.place_there-place.result) c.as_slice.ensures.value c.place_there-place.ensures.place) (subst (λ l. c.place_there-place.result < length l) c.as_slice.ensures.value c.place_there-place.ensures.within) c.index_mut.ensures.value c.reserve-2.ensures.row c.reserve-2.ensures.names c.reserve-2.ensures.size c.reserve-2.ensures.rooms).0); awaited = tt }

pub returns-in_err-reserve-2-clause-rows : goal.returns-in_err-reserve-2-clause-rows
returns-in_err-reserve-2-clause-rows c = (λ i. rows_of (set c.self.inside.regions.items c.place_there-place.result c.reserve-2.new.self) (c.reserve.ensures.rows i) c.self.inside.next_region (c.reserve.ensures.next i)) ∙ (ready_step c.self.inside.regions.items c.self.inside.items.rows c.self.inside.next_region c.self.inside.items.next c.args.region.0 c.place_there-place.result c.self.inside.total c.self.inside.names c.index_mut.result.now c.reserve-2.new.self c.self.invariant.indexed (subst (λ l. place_of number_of c.args.region.0 l ≡ Some c.place_there-place.result) c.as_slice.ensures.value c.place_there-place.ensures.place) (subst (λ l. c.place_there-place.result < length l) c.as_slice.ensures.value c.place_there-place.ensures.within) c.index_mut.ensures.value c.reserve-2.ensures.row c.reserve-2.ensures.names c.reserve-2.ensures.size c.reserve-2.ensures.rooms).1 ∙ ap (λ l. l.rows) c.self.view_is

pub invariant_of-self-2 : goal.invariant_of-self-2
invariant_of-self-2 c = record {
  indexed = (carried (set c.self.inside.regions.items c.place_there-place.result c.reserve-2.new.self) c.self.inside.items.rows c.reserve.new.self.rows c.self.inside.next_region c.self.inside.items.next c.reserve.new.self.next c.self.inside.total c.self.inside.names c.reserve.ensures.rows c.reserve.ensures.next (ready_step c.self.inside.regions.items c.self.inside.items.rows c.self.inside.next_region c.self.inside.items.next c.args.region.0 c.place_there-place.result c.self.inside.total c.self.inside.names c.index_mut.result.now c.reserve-2.new.self c.self.invariant.indexed (subst (λ l. place_of number_of c.args.region.0 l ≡ Some c.place_there-place.result) c.as_slice.ensures.value c.place_there-place.ensures.place) (subst (λ l. c.place_there-place.result < length l) c.as_slice.ensures.value c.place_there-place.ensures.within) c.index_mut.ensures.value c.reserve-2.ensures.row c.reserve-2.ensures.names c.reserve-2.ensures.size c.reserve-2.ensures.rooms).0);
  awaited = (c.in_ok-coming.ensures.key ∙ sym c.in_ok-coming.ensures.name, holds_item (with_item c.self.inside.regions c.place_there-place.result c.reserve-2.new.self) c.reserve.new.self c.self.inside.names c.in_ok-coming.coming.region c.args.region c.in_ok-coming.ensures.region c.in_ok-reserve.ensures.ready (ready_there c.self.inside.regions.items c.args.region.0 c.place_there-place.result c.reserve-2.new.self (rises number_of c.self.inside.regions.items (numbers_rise c.self.inside.regions.items c.self.invariant.indexed.lawful.region_numbers_rise)) (subst (λ l. place_of number_of c.args.region.0 l ≡ Some c.place_there-place.result) c.as_slice.ensures.value c.place_there-place.ensures.place) (subst (λ l. c.place_there-place.result < length l) c.as_slice.ensures.value c.place_there-place.ensures.within) c.in_ok-reserve-2.ensures.named c.in_ok-reserve-2.ensures.placed));
}

pub returns-clause-rows : goal.returns-clause-rows
returns-clause-rows c = (λ i. rows_of (set c.self.inside.regions.items c.place_there-place.result c.reserve-2.new.self) (c.reserve.ensures.rows i) c.self.inside.next_region (c.reserve.ensures.next i)) ∙ (ready_step c.self.inside.regions.items c.self.inside.items.rows c.self.inside.next_region c.self.inside.items.next c.args.region.0 c.place_there-place.result c.self.inside.total c.self.inside.names c.index_mut.result.now c.reserve-2.new.self c.self.invariant.indexed (subst (λ l. place_of number_of c.args.region.0 l ≡ Some c.place_there-place.result) c.as_slice.ensures.value c.place_there-place.ensures.place) (subst (λ l. c.place_there-place.result < length l) c.as_slice.ensures.value c.place_there-place.ensures.within) c.index_mut.ensures.value c.reserve-2.ensures.row c.reserve-2.ensures.names c.reserve-2.ensures.size c.reserve-2.ensures.rooms).1 ∙ ap (λ l. l.rows) c.self.view_is

pub returns-clause-ready : goal.returns-clause-ready
returns-clause-ready c = ap Some (λ i. let w : NewName = record { region = option_map (λ (r : RegionId). r.0) (c.in_ok-coming.ensures.region i); name = c.in_ok-coming.ensures.name i } in w)
