-- One change, as the steps of a call make it.
use Rattle.std.proofs.Common.{◌≡◌, ℕ, ◌+◌, ◌-◌, ◌<◌, ◌≤◌, Bool, true, false, cond, eqb, leb, List, length, get_or, set, map, Option, Some, None, is_some, refl, sym, ap, ◌∙◌, subst, arith}
use mathlib.Core.Bool.{not, ◌&&◌}
use Rattle.std.specs.List.{filter, find, remove, slice_get, sum_by}
use Rattle.std.specs.Option.{option_map}
use Rattle.std.specs.Str.{bytes_eq}
use Rattle.std.proofs.lemmas.Bool.{not-true, leb-true, and_parts}
use Rattle.std.proofs.lemmas.List.{get_or_default, get_or-map, length-map}
use Rattle.fam_base.specs.declared.naming.ItemId.{ItemId}
use Rattle.fam_base.specs.declared.naming.RegionId.{RegionId}
use Rattle.fam_model.specs.declared.change.Change.TheVariants as change
use Rattle.fam_model.specs.declared.rows.ItemRow.{ItemRow}
use Rattle.fam_model.specs.declared.rows.RegionRow.{RegionRow}
use Rattle.fam_model.specs.declared.rows.Rows.{Rows}
use Rattle.fam_model.specs.Directory.{after, cuts_item}
use Rattle.fam_model.specs.Lawful.{is_lawful_change, is_common}
use Rattle.fam_model.specs.Limits.{max_region_size, max_total_size}
use Rattle.fam_model.specs.Lists.{◌>>=◌, is_some_and, place_of}
use Rattle.fam_model.specs.Rows.{IsLawful, region_number, item_number, region_of, item_of, total_size}
use Rattle.fam_rows.proofs.Keeping.{keeps_law}
use Rattle.fam_rows.proofs.Places.{rises}
use Rattle.fam_rows.proofs.Standing.{three_parts, value_tested}
use Rattle.region_alloc.proofs.Bases.{cut_is_cut}
use Rattle.region_alloc.specs.declared.extent.Extent.{Extent}
use Rattle.region_alloc.specs.Gaps.{Holds, space_with}
use Rattle.region_alloc.specs.Space.{has_room, is_cut_at}
use Rattle.fam_directory.specs.declared.region.Region.{Region}
use Rattle.fam_directory.specs.Index.{IsIndexOf, IsIndexed, number_of, rows_of}
use Rattle.fam_directory.specs.Names.{NameMap, named}
use Rattle.fam_directory.proofs.Changed.{has_place_there, number_at, item_at, mode_rows, mode_changed, size_rows, size_changed, item_rows, item_changed}
use Rattle.fam_directory.proofs.Destroyed.{destroyed, destroyed_rows, outside}
use Rattle.fam_directory.proofs.Indexes.{RoomsStay, RoomFreed}
use Rattle.fam_directory.proofs.Lookups.{numbers_rise, at_place, region_of_is}
use Rattle.fam_directory.proofs.Moves.{map_set_same, removed_is, sum_removed}
use Rattle.fam_directory.proofs.Placed.{index_shrunk, indexes_shrunk, room_is_there}

-- which regions and items are there

pub item_place_there : (regions : List Region) (items : List ItemRow) (a b n : ℕ) (test : ItemRow → Bool) → is_some_and (item_of (rows_of regions items a b) n) test ≡ true → is_some (place_of item_number n items) ≡ true
item_place_there regions items a b n test there = by (place_of item_number n items) refl (value_tested (item_of (rows_of regions items a b) n) test there).1 where
  by : (o : Option ℕ) → place_of item_number n items ≡ o → {row : ItemRow} → item_of (rows_of regions items a b) n ≡ Some row → is_some (place_of item_number n items) ≡ true
  by None is e = absurd (cc (sym (ap (λ o. o >>= λ k. slice_get items k) is) ∙ e))
  by (Some k) is e = ap is_some is

pub region_there : (regions : List Region) (items : List ItemRow) (a b : ℕ) (n : RegionId) → is_lawful_change (rows_of regions items a b) (change.DestroyRegion n) ≡ true → is_some (place_of number_of n.0 regions) ≡ true
region_there regions items a b n ok =
    let parts = and_parts (not (is_common n.0)) (is_some_and (region_of (rows_of regions items a b) n.0) (λ row. true)) ok in
    has_place_there regions items a b n.0 (λ row. true) parts.1

pub mode_there : (regions : List Region) (items : List ItemRow) (a b mode : ℕ) (n : RegionId) → is_lawful_change (rows_of regions items a b) (change.SetRegionMode n mode) ≡ true → is_some (place_of number_of n.0 regions) ≡ true
mode_there regions items a b mode n ok =
    let parts = three_parts (not (is_common n.0)) (leb mode 511) (is_some_and (region_of (rows_of regions items a b) n.0) (λ row. true)) ok in
    has_place_there regions items a b n.0 (λ row. true) parts.2

abbrev fitting : Rows → ℕ → RegionRow → Bool
fitting rows size row = not (cuts_item rows row size) && leb (total_size rows - row.size + size) max_total_size

resize_parts : (rows : Rows) (size : ℕ) (n : RegionId) → is_lawful_change rows (change.ResizeRegion n size) ≡ true → (size ≤ max_region_size) × (is_some_and (region_of rows n.0) (fitting rows size) ≡ true)
resize_parts rows size n ok =
    let parts = three_parts (not (is_common n.0)) (leb size max_region_size) (is_some_and (region_of rows n.0) (fitting rows size)) ok in
    (leb-true _ _ parts.1, parts.2)

pub size_there : (regions : List Region) (items : List ItemRow) (a b size : ℕ) (n : RegionId) → is_lawful_change (rows_of regions items a b) (change.ResizeRegion n size) ≡ true → is_some (place_of number_of n.0 regions) ≡ true
size_there regions items a b size n ok = has_place_there regions items a b n.0 (fitting (rows_of regions items a b) size) (resize_parts (rows_of regions items a b) size n ok).1

pub item_there : (regions : List Region) (items : List ItemRow) (a b : ℕ) (n : ItemId) → is_lawful_change (rows_of regions items a b) (change.Deallocate n) ≡ true → is_some (place_of item_number n.0 items) ≡ true
item_there regions items a b n ok =
    let parts = and_parts (not (is_common n.0)) (is_some_and (item_of (rows_of regions items a b) n.0) (λ row. true)) ok in
    item_place_there regions items a b n.0 (λ row. true) parts.1

pub item_mode_there : (regions : List Region) (items : List ItemRow) (a b mode : ℕ) (n : ItemId) → is_lawful_change (rows_of regions items a b) (change.SetItemMode n mode) ≡ true → is_some (place_of item_number n.0 items) ≡ true
item_mode_there regions items a b mode n ok =
    let parts = three_parts (not (is_common n.0)) (leb mode 511) (is_some_and (item_of (rows_of regions items a b) n.0) (λ row. true)) ok in
    item_place_there regions items a b n.0 (λ row. true) parts.2

-- the element that was read, and the one that takes its place
pub read_at : {A : Type 0} (xs : List A) (k : ℕ) (x now : A) → k < length xs → x ≡ get_or xs k x → get_or xs k now ≡ x
read_at xs k x now lt is = get_or_default xs k now x lt ∙ sym is

-- the row of an entry
pub row_there : (regions : List Region) (items : List ItemRow) (a b n k : ℕ) (x : Region) → place_of number_of n regions ≡ Some k → k < length regions → x ≡ get_or regions k x → region_of (rows_of regions items a b) n ≡ Some x.row
row_there regions items a b n k x at lt is = region_of_is regions items a b n ∙ ap (option_map (λ (r : Region). r.row)) (at_place number_of n k regions x (sym at) lt is)

-- a size is not more than the sum of all
pub size_within : (regions : List Region) (items : List ItemRow) (a b k total : ℕ) (names : NameMap) (x : Region) → IsIndexed (rows_of regions items a b) regions names total → k < length regions → x ≡ get_or regions k x → x.row.size ≤ total
size_within regions items a b k total names x h lt is =
    let one = sum_removed (λ (r : RegionRow). r.size) k (map (λ (r : Region). r.row) regions) x.row (omega (arith, length-map regions (λ (r : Region). r.row))) (ap (λ (r : Region). r.row) is ∙ sym (get_or-map (λ (r : Region). r.row) regions k x x.row lt)) in
    let sum = h.sum in
    omega (arith, one, sum)

pub total_within : (rows : Rows) (regions : List Region) (names : NameMap) (total : ℕ) → IsIndexed rows regions names total → total ≤ max_total_size
total_within rows regions names total h = let sum = h.sum in let most = h.lawful.total in omega (arith, sum, most)

-- modes

pub mode_step : (regions : List Region) (items : List ItemRow) (a b k total mode : ℕ) (names : NameMap) (n : RegionId) (x : Region) → IsIndexed (rows_of regions items a b) regions names total → is_lawful_change (rows_of regions items a b) (change.SetRegionMode n mode) ≡ true → place_of number_of n.0 regions ≡ Some k → k < length regions → x ≡ get_or regions k x →
    IsIndexed (rows_of (set regions k (record x { row = record x.row { mode = mode } })) items a b) (set regions k (record x { row = record x.row { mode = mode } })) names total
    × (rows_of (set regions k (record x { row = record x.row { mode = mode } })) items a b ≡ after (rows_of regions items a b) (change.SetRegionMode n mode))
mode_step regions items a b k total mode names n x h ok at lt is =
    let now : Region = record x { row = record x.row { mode = mode } } in
    let old = read_at regions k x now lt is in
    let number = number_at regions n.0 k now at lt in
    let row : now.row ≡ record (get_or regions k now).row { mode = mode } = sym (ap (λ (r : Region). let s : RegionRow = record r.row { mode = mode } in s) old) in (
      mode_changed regions items a b k total mode names n now h ok lt number row (sym (ap (λ (r : Region). r.items) old)) (sym (ap (λ (r : Region). r.room) old)),
      mode_rows regions items a b k mode n now h.lawful lt number row,
    )

pub item_step : (regions : List Region) (items : List ItemRow) (a b k total mode : ℕ) (names : NameMap) (n : ItemId) (x : ItemRow) → IsIndexed (rows_of regions items a b) regions names total → is_lawful_change (rows_of regions items a b) (change.SetItemMode n mode) ≡ true → place_of item_number n.0 items ≡ Some k → k < length items → x ≡ get_or items k x →
    IsIndexed (rows_of regions (set items k (record x { mode = mode })) a b) regions names total
    × (rows_of regions (set items k (record x { mode = mode })) a b ≡ after (rows_of regions items a b) (change.SetItemMode n mode))
item_step regions items a b k total mode names n x h ok at lt is =
    let now : ItemRow = record x { mode = mode } in
    let old = read_at items k x now lt is in
    let number = item_at items n.0 k now at lt in
    let row : now ≡ record (get_or items k now) { mode = mode } = sym (ap (λ (r : ItemRow). let s : ItemRow = record r { mode = mode } in s) old) in
    (item_changed regions items a b k total mode names n now h ok lt number row, item_rows regions items a b k mode n now h.lawful lt number row)

-- sizes

pub size_step : (regions : List Region) (items : List ItemRow) (a b k total size : ℕ) (names : NameMap) (n : RegionId) (x now : Region) → IsIndexed (rows_of regions items a b) regions names total → is_lawful_change (rows_of regions items a b) (change.ResizeRegion n size) ≡ true → place_of number_of n.0 regions ≡ Some k → k < length regions → x ≡ get_or regions k x → now.row ≡ record x.row { size = size } → now.items ≡ x.items → now.room.size ≡ size → RoomsStay x.room now.room →
    IsIndexed (rows_of (set regions k now) items a b) (set regions k now) names (total - x.row.size + size)
    × (rows_of (set regions k now) items a b ≡ after (rows_of regions items a b) (change.ResizeRegion n size))
size_step regions items a b k total size names n x now h ok at lt is row found space rooms =
    let old = read_at regions k x now lt is in
    let number = number_at regions n.0 k now at lt in
    let row_is : now.row ≡ record (get_or regions k now).row { size = size } = row ∙ sym (ap (λ (r : Region). let s : RegionRow = record r.row { size = size } in s) old) in
    let within = size_within regions items a b k total names x h lt is in
    let same = ap (λ (r : Region). r.row.size) old in (
      size_changed regions items a b k total (total - x.row.size + size) size names n now h ok lt number row_is (found ∙ sym (ap (λ (r : Region). r.items) old)) space (λ l held. rooms l (subst (λ (r : Region). Holds r.room l) old held)) (omega (arith, within, same)),
      size_rows regions items a b k size n now h.lawful lt number row_is,
    )

pub size_fits : (regions : List Region) (items : List ItemRow) (a b k total size : ℕ) (names : NameMap) (n : RegionId) (x : Region) → IsIndexed (rows_of regions items a b) regions names total → is_lawful_change (rows_of regions items a b) (change.ResizeRegion n size) ≡ true → place_of number_of n.0 regions ≡ Some k → k < length regions → x ≡ get_or regions k x → (size ≤ max_region_size) × (rooms : List Extent) × Holds x.room rooms × (is_cut_at size rooms ≡ false)
size_fits regions items a b k total size names n x h ok at lt is =
    let rows = rows_of regions items a b in
    let parts = resize_parts rows size n ok in
    let there = value_tested (region_of rows n.0) (fitting rows size) parts.1 in
    let same : there.0 ≡ x.row = cc (sym there.1 ∙ row_there regions items a b n.0 k x at lt is) in
    let tests = and_parts (not (cuts_item rows there.0 size)) (leb (total_size rows - there.0.size + size) max_total_size) there.2 in
    let index = subst (IsIndexOf rows) (sym is) (h.indexes k x lt) in
    (parts.0, index.ranges.rooms, index.ranges.held, cut_is_cut rows x.row (space_with x.room index.ranges.rooms) size index.ranges.space ∙ ap (λ (r : RegionRow). cuts_item rows r size) (sym same) ∙ not-true (cuts_item rows there.0 size) tests.0)

-- a region goes

pub destroy_step : (regions : List Region) (items left : List ItemRow) (a b k total : ℕ) (names new_names : NameMap) (n : RegionId) (gone : Region) → IsIndexed (rows_of regions items a b) regions names total → is_lawful_change (rows_of regions items a b) (change.DestroyRegion n) ≡ true → place_of number_of n.0 regions ≡ Some k → k < length regions → gone ≡ get_or regions k gone → ((q : List ℕ) → named q new_names ≡ cond (bytes_eq gone.row.name q) None (named q names)) → left ≡ outside n items →
    IsIndexed (rows_of (remove regions k) left a b) (remove regions k) new_names (total - gone.row.size)
    × (rows_of (remove regions k) left a b ≡ after (rows_of regions items a b) (change.DestroyRegion n))
destroy_step regions items left a b k total names new_names n gone h ok at lt is dropped kept =
    let number = number_at regions n.0 k gone at lt in (
      subst (λ l. IsIndexed (rows_of (remove regions k) l a b) (remove regions k) new_names (total - gone.row.size)) (sym kept) (destroyed regions items a b k total (total - gone.row.size) names new_names n gone h ok lt is number dropped refl),
      ap (λ l. rows_of (remove regions k) l a b) kept ∙ destroyed_rows regions items a b k n gone h.lawful lt number,
    )

-- an item goes

pub row_region_there : (regions : List Region) (items : List ItemRow) (a b k : ℕ) (x : ItemRow) → IsLawful (rows_of regions items a b) → k < length items → x ≡ get_or items k x → is_some (place_of number_of x.region.0 regions) ≡ true
row_region_there regions items a b k x lawful lt is =
    let inside = subst (λ (y : ItemRow). (r : RegionRow) × (region_of (rows_of regions items a b) y.region.0 ≡ Some r)) (sym is) (let h = (lawful.items k x lt).inside in (h.0, h.1)) in
    has_place_there regions items a b x.region.0 (λ row. true) (ap (λ o. is_some_and o (λ row. true)) inside.1)

pub free_room : (regions : List Region) (items : List ItemRow) (a b j k total : ℕ) (names : NameMap) (x : ItemRow) (r : Region) → IsIndexed (rows_of regions items a b) regions names total → j < length items → x ≡ get_or items j x → place_of number_of x.region.0 regions ≡ Some k → k < length regions → r ≡ get_or regions k r → (rooms : List Extent) × Holds r.room rooms × (has_room x.base x.size rooms ≡ true)
free_room regions items a b j k total names x r h within read at lt is =
    let index = subst (IsIndexOf (rows_of regions items a b)) (sym is) (h.indexes k r lt) in
    (index.ranges.rooms, index.ranges.held, room_is_there (rows_of regions items a b) r j x index (ap number_of is ∙ number_at regions x.region.0 k r at lt) within read)

pub drop_step : (regions : List Region) (items left : List ItemRow) (a b j k total : ℕ) (names : NameMap) (n : ItemId) (x : ItemRow) (r now : Region) → IsIndexed (rows_of regions items a b) regions names total → is_lawful_change (rows_of regions items a b) (change.Deallocate n) ≡ true → place_of item_number n.0 items ≡ Some j → j < length items → x ≡ get_or items j x → left ≡ remove items j → place_of number_of x.region.0 regions ≡ Some k → k < length regions → r ≡ get_or regions k r → now.row ≡ r.row → ((q : List ℕ) → named q now.items ≡ cond (bytes_eq x.name q) None (named q r.items)) → now.room.size ≡ r.room.size → RoomFreed r.room now.room x.base x.size →
    IsIndexed (rows_of (set regions k now) left a b) (set regions k now) names total
    × (rows_of (set regions k now) left a b ≡ after (rows_of regions items a b) (change.Deallocate n))
drop_step regions items left a b j k total names n x r now h ok found within read cut at lt is row gone space rooms =
    let rows = rows_of regions items a b in
    let new = rows_of (set regions k now) left a b in
    let number : item_number x ≡ n.0 = ap item_number read ∙ item_at items n.0 j x found within in
    let shrunk : left ≡ filter (λ y. not (eqb (item_number y) (item_number x))) items = cut ∙ removed_is item_number (item_number x) j items x (rises item_number items h.lawful.item_numbers_rise) within (ap item_number (sym read)) in
    let old = read_at regions k r now lt is in
    let same : map (λ (s : Region). s.row) (set regions k now) ≡ map (λ (s : Region). s.row) regions = map_set_same (λ (s : Region). s.row) k regions now lt (row ∙ sym (ap (λ (s : Region). s.row) old)) in
    let index = subst (IsIndexOf rows) (sym is) (h.indexes k r lt) in
    let here : number_of r ≡ x.region.0 = ap number_of is ∙ number_at regions x.region.0 k r at lt in
    let equal : new ≡ after rows (change.Deallocate n) = (λ i. let t : Rows = record { regions = same i; items = (shrunk ∙ ap (λ m. filter (λ (y : ItemRow). not (eqb (item_number y) m)) items) number) i; next_region = a; next_item = b } in t) in (
      record {
        lawful = subst IsLawful (sym equal) (keeps_law rows (change.Deallocate n) h.lawful ok);
        by_name = λ q. h.by_name q ∙ ap (λ l. option_map region_number (find (λ (s : RegionRow). bytes_eq s.name q) l)) (sym same);
        sum = h.sum ∙ ap (sum_by (λ (s : RegionRow). s.size)) (sym same);
        indexes = indexes_shrunk rows new regions k j now x (rises number_of regions (numbers_rise regions h.lawful.region_numbers_rise)) h.lawful within read shrunk lt (number_at regions x.region.0 k now at lt) h.indexes
            (index_shrunk rows new r now j x h.lawful within read shrunk here row gone space rooms index);
      },
      equal,
    )
