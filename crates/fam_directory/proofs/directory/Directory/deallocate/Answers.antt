use Rattle.std.proofs.Common.{◌≡◌, ◌<◌, true, Some, None, cond, is_some, length, map, set, sym, ap, subst, ◌∙◌}
use Rattle.std.specs.List.Sorted.{IsStrictlyIncreasing}
use Rattle.std.specs.Str.{bytes_eq}
use Rattle.fam_model.specs.declared.change.Change.TheVariants as change
use Rattle.fam_model.specs.Directory.{after}
use Rattle.fam_model.specs.Lawful.{is_lawful_change}
use Rattle.fam_model.specs.Lists.{place_of}
use Rattle.fam_directory.specs.Index.{IsIndexed, number_of, rows_of}
use Rattle.fam_directory.specs.Names.{named}
use Rattle.fam_directory.proofs.Carried.{item_dropped, region_found, room_found}
use Rattle.fam_directory.proofs.Lookups.{numbers_rise}
use Rattle.fam_directory.proofs.directory.Directory.deallocate.Goals as goal

pub place_there-place-requires-clause-rise : goal.place_there-place-requires-clause-rise
place_there-place-requires-clause-rise c = subst (λ l. IsStrictlyIncreasing (map number_of l)) (sym c.as_slice.ensures.value) (numbers_rise c.self.inside.regions.items c.self.invariant.indexed.lawful.region_numbers_rise)

pub place_there-place-requires-clause-there : goal.place_there-place-requires-clause-there
place_there-place-requires-clause-there c = subst (λ l. is_some (place_of number_of c.in-Some.row.region.0 l) ≡ true) (sym c.as_slice.ensures.value) (region_found c.self.inside.regions.items c.self.inside.items.rows c.self.inside.next_region c.self.inside.items.next c.args.number.0 c.in-Some.row c.self.invariant.indexed.lawful c.in-Some.ensures.row)

pub remove-requires-2 : goal.remove-requires-2
remove-requires-2 c = room_found c.self.inside.regions.items c.self.inside.items.rows c.self.inside.next_region c.self.inside.items.next c.args.number.0 c.place_there-place.result c.self.inside.total c.self.inside.names c.in-Some.row c.index_mut.result.now c.self.invariant.indexed c.in-Some.ensures.row (subst (λ l. place_of number_of c.in-Some.row.region.0 l ≡ Some c.place_there-place.result) c.as_slice.ensures.value c.place_there-place.ensures.place) (subst (λ l. c.place_there-place.result < length l) c.as_slice.ensures.value c.place_there-place.ensures.within) c.index_mut.ensures.value

-- the rows and the indexes without the item
dropped : (c : goal.After-drop-row) → IsIndexed (rows_of (set c.self.inside.regions.items c.place_there-place.result c.remove-2.new.self) c.remove.new.self.rows c.self.inside.next_region c.remove.new.self.next) (set c.self.inside.regions.items c.place_there-place.result c.remove-2.new.self) c.self.inside.names c.self.inside.total
    × (rows_of (set c.self.inside.regions.items c.place_there-place.result c.remove-2.new.self) c.remove.new.self.rows c.self.inside.next_region c.remove.new.self.next ≡ after (rows_of c.self.inside.regions.items c.self.inside.items.rows c.self.inside.next_region c.self.inside.items.next) (change.Deallocate c.args.number))
dropped c = item_dropped c.self.inside.regions.items c.self.inside.items.rows c.remove.new.self.rows c.self.inside.next_region c.self.inside.items.next c.remove.new.self.next c.place_there-place.result c.self.inside.total c.self.inside.names c.args.number c.in-Some.row c.index_mut.result.now c.remove-2.new.self c.self.invariant.indexed (subst (λ l. is_lawful_change l.rows (change.Deallocate c.args.number) ≡ true) (sym c.self.view_is) c.requires) c.in-Some.ensures.row c.remove.ensures.rows c.remove.ensures.next (subst (λ l. place_of number_of c.in-Some.row.region.0 l ≡ Some c.place_there-place.result) c.as_slice.ensures.value c.place_there-place.ensures.place) (subst (λ l. c.place_there-place.result < length l) c.as_slice.ensures.value c.place_there-place.ensures.within) c.index_mut.ensures.value c.remove-2.ensures.row (λ q. c.remove-2.ensures.names q ∙ ap (λ name. cond (bytes_eq name q) None (named q c.index_mut.result.now.items)) c.as_slice-2.ensures) c.remove-2.ensures.size c.remove-2.ensures.rooms

pub invariant_of-self-2 : goal.invariant_of-self-2
invariant_of-self-2 c = record { indexed = (dropped c).0; awaited = tt }

pub returns : goal.returns
returns c = (dropped c).1 ∙ ap (λ l. after l.rows (change.Deallocate c.args.number)) c.self.view_is
