use Rattle.std.proofs.Common.{◌≡◌, ◌+◌, ◌<◌, true, Some, is_some, length, map, set, refl, sym, ap, subst, ◌∙◌}
use Rattle.std.specs.List.Sorted.{IsStrictlyIncreasing}
use Rattle.std.specs.Option.{option_map}
use Rattle.fam_model.specs.declared.change.Change.TheVariants as change
use Rattle.fam_model.specs.Directory.{after}
use Rattle.fam_model.specs.Lawful.{is_lawful_change}
use Rattle.fam_model.specs.Lists.{place_of}
use Rattle.fam_model.specs.Rows.{item_number}
use Rattle.fam_directory.specs.Index.{IsReserved, number_of, rows_of, waits_for}
use Rattle.fam_directory.specs.Names.{named}
use Rattle.fam_directory.proofs.Lookups.{numbers_rise}
use Rattle.fam_model.specs.Rows.{fits, item_named}
use Rattle.fam_directory.proofs.Adding.{allocate_step, is_held, new_item, new_number, new_place, not_item, room_for_item}
use Rattle.fam_directory.proofs.Carried.{carried}
use Rattle.fam_directory.proofs.Changed.{has_place_there, number_at}
use Rattle.fam_directory.proofs.directory.Directory.allocate.Goals as goal

pub returns-in_default : goal.returns-in_default
returns-in_default c = absurd (not_item c.args.change.now (λ i n base size uid gid mode name. c.in_default.not-Allocate i n base size uid gid mode name) c.requires.adds)

pub take_coming-coming-requires : goal.take_coming-coming-requires
take_coming-coming-requires c = is_held c.self.inside.coming (waits_for (Some c.in-Allocate.region.0) c.in-Allocate.name) (ap (λ l. l.coming) c.self.view_is ∙ subst (IsReserved c.args.self.now) c.in-Allocate.is c.requires.reserved)

pub place_there-place-requires-clause-rise : goal.place_there-place-requires-clause-rise
place_there-place-requires-clause-rise c = subst (λ l. IsStrictlyIncreasing (map number_of l)) (sym c.as_slice.ensures.value) (numbers_rise c.self.inside.regions.items c.self.invariant.indexed.lawful.region_numbers_rise)

pub place_there-place-requires-clause-there : goal.place_there-place-requires-clause-there
place_there-place-requires-clause-there c = subst (λ l. is_some (place_of number_of c.in-Allocate.region.0 l) ≡ true) (sym c.as_slice.ensures.value) (has_place_there c.self.inside.regions.items c.self.inside.items.rows c.self.inside.next_region c.self.inside.items.next c.in-Allocate.region.0 (λ row. fits (rows_of c.self.inside.regions.items c.self.inside.items.rows c.self.inside.next_region c.self.inside.items.next) row c.in-Allocate.size c.in-Allocate.base) (new_item (rows_of c.self.inside.regions.items c.self.inside.items.rows c.self.inside.next_region c.self.inside.items.next) c.in-Allocate.item c.in-Allocate.region c.in-Allocate.base c.in-Allocate.size c.in-Allocate.uid c.in-Allocate.gid c.in-Allocate.mode c.in-Allocate.name (subst (λ l. is_lawful_change l.rows (change.Allocate c.in-Allocate.item c.in-Allocate.region c.in-Allocate.base c.in-Allocate.size c.in-Allocate.uid c.in-Allocate.gid c.in-Allocate.mode c.in-Allocate.name) ≡ true) (sym c.self.view_is) (subst (λ x. is_lawful_change c.args.self.now.rows x ≡ true) c.in-Allocate.is c.requires.lawful))).2)

pub add-requires-clause-named : goal.add-requires-clause-named
add-requires-clause-named c = (subst (λ r. (r.items.is_ready ≡ true) × (r.room.is_ready ≡ true)) (sym c.index_mut.ensures.value) ((room_for_item c.self.inside.regions c.self.inside.items c.self.inside.names c.self.inside.coming c.take_coming-coming.result c.in-Allocate.region.0 c.in-Allocate.name c.self.invariant.awaited c.take_coming-coming.ensures (ap (λ l. l.coming) c.self.view_is ∙ subst (IsReserved c.args.self.now) c.in-Allocate.is c.requires.reserved)).3 c.place_there-place.result c.index_mut.result.now (subst (λ l. c.place_there-place.result < length l) c.as_slice.ensures.value c.place_there-place.ensures.within) (number_at c.self.inside.regions.items c.in-Allocate.region.0 c.place_there-place.result c.index_mut.result.now (subst (λ l. place_of number_of c.in-Allocate.region.0 l ≡ Some c.place_there-place.result) c.as_slice.ensures.value c.place_there-place.ensures.place) (subst (λ l. c.place_there-place.result < length l) c.as_slice.ensures.value c.place_there-place.ensures.within)))).0

pub add-requires-clause-placed : goal.add-requires-clause-placed
add-requires-clause-placed c = (subst (λ r. (r.items.is_ready ≡ true) × (r.room.is_ready ≡ true)) (sym c.index_mut.ensures.value) ((room_for_item c.self.inside.regions c.self.inside.items c.self.inside.names c.self.inside.coming c.take_coming-coming.result c.in-Allocate.region.0 c.in-Allocate.name c.self.invariant.awaited c.take_coming-coming.ensures (ap (λ l. l.coming) c.self.view_is ∙ subst (IsReserved c.args.self.now) c.in-Allocate.is c.requires.reserved)).3 c.place_there-place.result c.index_mut.result.now (subst (λ l. c.place_there-place.result < length l) c.as_slice.ensures.value c.place_there-place.ensures.within) (number_at c.self.inside.regions.items c.in-Allocate.region.0 c.place_there-place.result c.index_mut.result.now (subst (λ l. place_of number_of c.in-Allocate.region.0 l ≡ Some c.place_there-place.result) c.as_slice.ensures.value c.place_there-place.ensures.place) (subst (λ l. c.place_there-place.result < length l) c.as_slice.ensures.value c.place_there-place.ensures.within)))).1

pub add-requires-clause-absent : goal.add-requires-clause-absent
add-requires-clause-absent c =
    ap (λ name. named name c.index_mut.result.now.items) (room_for_item c.self.inside.regions c.self.inside.items c.self.inside.names c.self.inside.coming c.take_coming-coming.result c.in-Allocate.region.0 c.in-Allocate.name c.self.invariant.awaited c.take_coming-coming.ensures (ap (λ l. l.coming) c.self.view_is ∙ subst (IsReserved c.args.self.now) c.in-Allocate.is c.requires.reserved)).0 ∙ (new_place c.self.inside.regions.items c.self.inside.items.rows c.self.inside.next_region c.self.inside.items.next c.place_there-place.result c.in-Allocate.region c.in-Allocate.base c.in-Allocate.size c.index_mut.result.now c.self.invariant.indexed.indexes (new_item (rows_of c.self.inside.regions.items c.self.inside.items.rows c.self.inside.next_region c.self.inside.items.next) c.in-Allocate.item c.in-Allocate.region c.in-Allocate.base c.in-Allocate.size c.in-Allocate.uid c.in-Allocate.gid c.in-Allocate.mode c.in-Allocate.name (subst (λ l. is_lawful_change l.rows (change.Allocate c.in-Allocate.item c.in-Allocate.region c.in-Allocate.base c.in-Allocate.size c.in-Allocate.uid c.in-Allocate.gid c.in-Allocate.mode c.in-Allocate.name) ≡ true) (sym c.self.view_is) (subst (λ x. is_lawful_change c.args.self.now.rows x ≡ true) c.in-Allocate.is c.requires.lawful))).2 (subst (λ l. place_of number_of c.in-Allocate.region.0 l ≡ Some c.place_there-place.result) c.as_slice.ensures.value c.place_there-place.ensures.place) (subst (λ l. c.place_there-place.result < length l) c.as_slice.ensures.value c.place_there-place.ensures.within) c.index_mut.ensures.value).0.names c.in-Allocate.name
    ∙ ap (λ n. option_map item_number (item_named (rows_of c.self.inside.regions.items c.self.inside.items.rows c.self.inside.next_region c.self.inside.items.next) n c.in-Allocate.name)) (ap number_of c.index_mut.ensures.value ∙ number_at c.self.inside.regions.items c.in-Allocate.region.0 c.place_there-place.result c.index_mut.result.now (subst (λ l. place_of number_of c.in-Allocate.region.0 l ≡ Some c.place_there-place.result) c.as_slice.ensures.value c.place_there-place.ensures.place) (subst (λ l. c.place_there-place.result < length l) c.as_slice.ensures.value c.place_there-place.ensures.within)) ∙ ap (option_map item_number) (new_item (rows_of c.self.inside.regions.items c.self.inside.items.rows c.self.inside.next_region c.self.inside.items.next) c.in-Allocate.item c.in-Allocate.region c.in-Allocate.base c.in-Allocate.size c.in-Allocate.uid c.in-Allocate.gid c.in-Allocate.mode c.in-Allocate.name (subst (λ l. is_lawful_change l.rows (change.Allocate c.in-Allocate.item c.in-Allocate.region c.in-Allocate.base c.in-Allocate.size c.in-Allocate.uid c.in-Allocate.gid c.in-Allocate.mode c.in-Allocate.name) ≡ true) (sym c.self.view_is) (subst (λ x. is_lawful_change c.args.self.now.rows x ≡ true) c.in-Allocate.is c.requires.lawful))).1

pub add-requires-clause-fits : goal.add-requires-clause-fits
add-requires-clause-fits c = (new_place c.self.inside.regions.items c.self.inside.items.rows c.self.inside.next_region c.self.inside.items.next c.place_there-place.result c.in-Allocate.region c.in-Allocate.base c.in-Allocate.size c.index_mut.result.now c.self.invariant.indexed.indexes (new_item (rows_of c.self.inside.regions.items c.self.inside.items.rows c.self.inside.next_region c.self.inside.items.next) c.in-Allocate.item c.in-Allocate.region c.in-Allocate.base c.in-Allocate.size c.in-Allocate.uid c.in-Allocate.gid c.in-Allocate.mode c.in-Allocate.name (subst (λ l. is_lawful_change l.rows (change.Allocate c.in-Allocate.item c.in-Allocate.region c.in-Allocate.base c.in-Allocate.size c.in-Allocate.uid c.in-Allocate.gid c.in-Allocate.mode c.in-Allocate.name) ≡ true) (sym c.self.view_is) (subst (λ x. is_lawful_change c.args.self.now.rows x ≡ true) c.in-Allocate.is c.requires.lawful))).2 (subst (λ l. place_of number_of c.in-Allocate.region.0 l ≡ Some c.place_there-place.result) c.as_slice.ensures.value c.place_there-place.ensures.place) (subst (λ l. c.place_there-place.result < length l) c.as_slice.ensures.value c.place_there-place.ensures.within) c.index_mut.ensures.value).2

pub push-requires-clause-ready : goal.push-requires-clause-ready
push-requires-clause-ready c = (room_for_item c.self.inside.regions c.self.inside.items c.self.inside.names c.self.inside.coming c.take_coming-coming.result c.in-Allocate.region.0 c.in-Allocate.name c.self.invariant.awaited c.take_coming-coming.ensures (ap (λ l. l.coming) c.self.view_is ∙ subst (IsReserved c.args.self.now) c.in-Allocate.is c.requires.reserved)).2

pub push-requires-clause-next : goal.push-requires-clause-next
push-requires-clause-next c = new_number (rows_of c.self.inside.regions.items c.self.inside.items.rows c.self.inside.next_region c.self.inside.items.next) c.in-Allocate.item c.in-Allocate.region c.in-Allocate.base c.in-Allocate.size c.in-Allocate.uid c.in-Allocate.gid c.in-Allocate.mode c.in-Allocate.name (subst (λ l. is_lawful_change l.rows (change.Allocate c.in-Allocate.item c.in-Allocate.region c.in-Allocate.base c.in-Allocate.size c.in-Allocate.uid c.in-Allocate.gid c.in-Allocate.mode c.in-Allocate.name) ≡ true) (sym c.self.view_is) (subst (λ x. is_lawful_change c.args.self.now.rows x ≡ true) c.in-Allocate.is c.requires.lawful))

pub push-requires-clause-bound : goal.push-requires-clause-bound
push-requires-clause-bound c = (new_item (rows_of c.self.inside.regions.items c.self.inside.items.rows c.self.inside.next_region c.self.inside.items.next) c.in-Allocate.item c.in-Allocate.region c.in-Allocate.base c.in-Allocate.size c.in-Allocate.uid c.in-Allocate.gid c.in-Allocate.mode c.in-Allocate.name (subst (λ l. is_lawful_change l.rows (change.Allocate c.in-Allocate.item c.in-Allocate.region c.in-Allocate.base c.in-Allocate.size c.in-Allocate.uid c.in-Allocate.gid c.in-Allocate.mode c.in-Allocate.name) ≡ true) (sym c.self.view_is) (subst (λ x. is_lawful_change c.args.self.now.rows x ≡ true) c.in-Allocate.is c.requires.lawful))).0

pub invariant_of-self : goal.invariant_of-self
invariant_of-self c = record { indexed = carried (set c.self.inside.regions.items c.place_there-place.result c.add.new.self) c.push.new.self.rows c.push.new.self.rows c.self.inside.next_region (c.in-Allocate.item.0 + 1) c.push.new.self.next c.self.inside.total c.self.inside.names refl c.push.ensures.next (allocate_step c.self.inside.regions.items c.self.inside.items.rows c.push.new.self.rows c.self.inside.next_region c.self.inside.items.next c.place_there-place.result c.self.inside.total c.self.inside.names c.in-Allocate.item c.in-Allocate.region c.in-Allocate.base c.in-Allocate.size c.in-Allocate.uid c.in-Allocate.gid c.in-Allocate.mode c.in-Allocate.name c.take_coming-coming.result.key c.take_coming-coming.result.name c.index_mut.result.now c.add.new.self c.self.invariant.indexed (subst (λ l. is_lawful_change l.rows (change.Allocate c.in-Allocate.item c.in-Allocate.region c.in-Allocate.base c.in-Allocate.size c.in-Allocate.uid c.in-Allocate.gid c.in-Allocate.mode c.in-Allocate.name) ≡ true) (sym c.self.view_is) (subst (λ x. is_lawful_change c.args.self.now.rows x ≡ true) c.in-Allocate.is c.requires.lawful)) (subst (λ l. place_of number_of c.in-Allocate.region.0 l ≡ Some c.place_there-place.result) c.as_slice.ensures.value c.place_there-place.ensures.place) (subst (λ l. c.place_there-place.result < length l) c.as_slice.ensures.value c.place_there-place.ensures.within) c.index_mut.ensures.value (room_for_item c.self.inside.regions c.self.inside.items c.self.inside.names c.self.inside.coming c.take_coming-coming.result c.in-Allocate.region.0 c.in-Allocate.name c.self.invariant.awaited c.take_coming-coming.ensures (ap (λ l. l.coming) c.self.view_is ∙ subst (IsReserved c.args.self.now) c.in-Allocate.is c.requires.reserved)).0 (room_for_item c.self.inside.regions c.self.inside.items c.self.inside.names c.self.inside.coming c.take_coming-coming.result c.in-Allocate.region.0 c.in-Allocate.name c.self.invariant.awaited c.take_coming-coming.ensures (ap (λ l. l.coming) c.self.view_is ∙ subst (IsReserved c.args.self.now) c.in-Allocate.is c.requires.reserved)).1 c.push.ensures.rows c.add.ensures.row c.add.ensures.names c.add.ensures.size c.add.ensures.rooms).0; awaited = tt }

pub returns : goal.returns
returns c = record { rows = ap (λ m. rows_of (set c.self.inside.regions.items c.place_there-place.result c.add.new.self) c.push.new.self.rows c.self.inside.next_region m) c.push.ensures.next ∙ (allocate_step c.self.inside.regions.items c.self.inside.items.rows c.push.new.self.rows c.self.inside.next_region c.self.inside.items.next c.place_there-place.result c.self.inside.total c.self.inside.names c.in-Allocate.item c.in-Allocate.region c.in-Allocate.base c.in-Allocate.size c.in-Allocate.uid c.in-Allocate.gid c.in-Allocate.mode c.in-Allocate.name c.take_coming-coming.result.key c.take_coming-coming.result.name c.index_mut.result.now c.add.new.self c.self.invariant.indexed (subst (λ l. is_lawful_change l.rows (change.Allocate c.in-Allocate.item c.in-Allocate.region c.in-Allocate.base c.in-Allocate.size c.in-Allocate.uid c.in-Allocate.gid c.in-Allocate.mode c.in-Allocate.name) ≡ true) (sym c.self.view_is) (subst (λ x. is_lawful_change c.args.self.now.rows x ≡ true) c.in-Allocate.is c.requires.lawful)) (subst (λ l. place_of number_of c.in-Allocate.region.0 l ≡ Some c.place_there-place.result) c.as_slice.ensures.value c.place_there-place.ensures.place) (subst (λ l. c.place_there-place.result < length l) c.as_slice.ensures.value c.place_there-place.ensures.within) c.index_mut.ensures.value (room_for_item c.self.inside.regions c.self.inside.items c.self.inside.names c.self.inside.coming c.take_coming-coming.result c.in-Allocate.region.0 c.in-Allocate.name c.self.invariant.awaited c.take_coming-coming.ensures (ap (λ l. l.coming) c.self.view_is ∙ subst (IsReserved c.args.self.now) c.in-Allocate.is c.requires.reserved)).0 (room_for_item c.self.inside.regions c.self.inside.items c.self.inside.names c.self.inside.coming c.take_coming-coming.result c.in-Allocate.region.0 c.in-Allocate.name c.self.invariant.awaited c.take_coming-coming.ensures (ap (λ l. l.coming) c.self.view_is ∙ subst (IsReserved c.args.self.now) c.in-Allocate.is c.requires.reserved)).1 c.push.ensures.rows c.add.ensures.row c.add.ensures.names c.add.ensures.size c.add.ensures.rooms).1 ∙ (λ i. after (c.self.view_is i).rows (sym c.in-Allocate.is i)) }
