use Rattle.std.proofs.Common.{◌≡◌, ◌<◌, ◌++◌, [], ◌∷◌, true, Some, is_some, map, length, sym, ap, subst, ◌∙◌}
use Rattle.std.specs.List.Sorted.{IsStrictlyIncreasing}
use Rattle.std.specs.Option.{option_map}
use Rattle.fam_model.specs.declared.rows.ItemRow.{ItemRow}
use Rattle.fam_model.specs.Lists.{place_of}
use Rattle.fam_model.specs.Rows.{fits, item_named, item_number}
use Rattle.fam_rows.proofs.Places.{rises}
use Rattle.fam_directory.specs.Index.{number_of, rows_of}
use Rattle.fam_directory.specs.Names.{named}
use Rattle.fam_directory.proofs.Adding.{add_step, new_place}
use Rattle.fam_directory.proofs.Changed.{has_place_there, number_at}
use Rattle.fam_directory.proofs.building.add_item.Goals as goal

pub place_there-place-requires-clause-rise : goal.place_there-place-requires-clause-rise
place_there-place-requires-clause-rise c = subst (λ l. IsStrictlyIncreasing (map number_of l)) (sym c.as_slice-2.ensures.value) c.requires.rise

pub place_there-place-requires-clause-there : goal.place_there-place-requires-clause-there
place_there-place-requires-clause-there c = subst (λ l. is_some (place_of number_of c.args.item.now.region.0 l) ≡ true) (sym c.as_slice-2.ensures.value) (has_place_there c.args.regions.now.items c.args.items.now.rows 0 0 c.args.item.now.region.0 (λ row. fits (rows_of c.args.regions.now.items c.args.items.now.rows 0 0) row c.args.item.now.size c.args.item.now.base) c.requires.fits)

pub insert-requires-clause-absent : goal.insert-requires-clause-absent
insert-requires-clause-absent c =
    ap (λ name. named name c.index_mut.result.now.items) (c.in_ok-key.ensures ∙ c.as_slice.ensures) ∙ (new_place c.args.regions.now.items c.args.items.now.rows 0 0 c.place_there-place.result c.args.item.now.region c.args.item.now.base c.args.item.now.size c.index_mut.result.now c.requires.indexes c.requires.fits (subst (λ l. place_of number_of c.args.item.now.region.0 l ≡ Some c.place_there-place.result) c.as_slice-2.ensures.value c.place_there-place.ensures.place) (subst (λ l. c.place_there-place.result < length l) c.as_slice-2.ensures.value c.place_there-place.ensures.within) c.index_mut.ensures.value).0.names c.args.item.now.name
    ∙ ap (λ n. option_map item_number (item_named (rows_of c.args.regions.now.items c.args.items.now.rows 0 0) n c.args.item.now.name)) (ap number_of c.index_mut.ensures.value ∙ number_at c.args.regions.now.items c.args.item.now.region.0 c.place_there-place.result c.index_mut.result.now (subst (λ l. place_of number_of c.args.item.now.region.0 l ≡ Some c.place_there-place.result) c.as_slice-2.ensures.value c.place_there-place.ensures.place) (subst (λ l. c.place_there-place.result < length l) c.as_slice-2.ensures.value c.place_there-place.ensures.within)) ∙ ap (option_map item_number) c.requires.absent

pub insert-requires-clause-fits : goal.insert-requires-clause-fits
insert-requires-clause-fits c = (new_place c.args.regions.now.items c.args.items.now.rows 0 0 c.place_there-place.result c.args.item.now.region c.args.item.now.base c.args.item.now.size c.index_mut.result.now c.requires.indexes c.requires.fits (subst (λ l. place_of number_of c.args.item.now.region.0 l ≡ Some c.place_there-place.result) c.as_slice-2.ensures.value c.place_there-place.ensures.place) (subst (λ l. c.place_there-place.result < length l) c.as_slice-2.ensures.value c.place_there-place.ensures.within) c.index_mut.ensures.value).2

pub returns-clause-items : goal.returns-clause-items
returns-clause-items c = (c.in_ok-insert-2.ensures.rows ∙ ap (λ (r : ItemRow). c.args.items.now.rows ++ r ∷ []) c.in_ok-copy.ensures)

pub returns-clause-rows : goal.returns-clause-rows
returns-clause-rows c = (add_step c.args.regions.now.items c.args.items.now.rows c.insert-2.new.self.rows 0 0 0 c.place_there-place.result c.args.item.now c.in_ok-key.key c.index_mut.result.now c.insert.new.self (rises number_of c.args.regions.now.items c.requires.rise) c.requires.indexes c.requires.absent c.requires.fits (subst (λ l. place_of number_of c.args.item.now.region.0 l ≡ Some c.place_there-place.result) c.as_slice-2.ensures.value c.place_there-place.ensures.place) (subst (λ l. c.place_there-place.result < length l) c.as_slice-2.ensures.value c.place_there-place.ensures.within) c.index_mut.ensures.value (c.in_ok-insert-2.ensures.rows ∙ ap (λ (r : ItemRow). c.args.items.now.rows ++ r ∷ []) c.in_ok-copy.ensures) c.in_ok-insert.ensures.row (c.in_ok-key.ensures ∙ c.as_slice.ensures) c.in_ok-insert.ensures.names c.in_ok-insert.ensures.size c.in_ok-insert.ensures.rooms).1

pub returns-clause-indexes : goal.returns-clause-indexes
returns-clause-indexes c = (add_step c.args.regions.now.items c.args.items.now.rows c.insert-2.new.self.rows 0 0 0 c.place_there-place.result c.args.item.now c.in_ok-key.key c.index_mut.result.now c.insert.new.self (rises number_of c.args.regions.now.items c.requires.rise) c.requires.indexes c.requires.absent c.requires.fits (subst (λ l. place_of number_of c.args.item.now.region.0 l ≡ Some c.place_there-place.result) c.as_slice-2.ensures.value c.place_there-place.ensures.place) (subst (λ l. c.place_there-place.result < length l) c.as_slice-2.ensures.value c.place_there-place.ensures.within) c.index_mut.ensures.value (c.in_ok-insert-2.ensures.rows ∙ ap (λ (r : ItemRow). c.args.items.now.rows ++ r ∷ []) c.in_ok-copy.ensures) c.in_ok-insert.ensures.row (c.in_ok-key.ensures ∙ c.as_slice.ensures) c.in_ok-insert.ensures.names c.in_ok-insert.ensures.size c.in_ok-insert.ensures.rooms).0
