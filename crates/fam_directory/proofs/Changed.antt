-- Each change of the rows, and of the indexes with them.
use Rattle.std.proofs.Common.{◌≡◌, ℕ, ◌+◌, ◌<◌, Bool, true, cond, eqb, leb, ltb, List, [], ◌∷◌, ◌++◌, length, get_or, set, map, Option, Some, None, is_none, is_some, refl, sym, ap, ◌∙◌, subst, arith}
use Rattle.std.specs.List.{find, list_all, slice_get, sum_by}
use Rattle.std.specs.Option.{option_map}
use Rattle.std.specs.Str.{bytes_eq}
use Rattle.std.proofs.lemmas.Bool.{eqb-true, and_parts}
use Rattle.std.proofs.lemmas.List.{map_push, get_or_default}
use Rattle.std.proofs.lemmas.List.Elements.{All-push}
use Rattle.std.proofs.lemmas.List.Sums.{sum_by-append}
use Rattle.fam_base.specs.declared.naming.ItemId.{ItemId}
use Rattle.fam_base.specs.declared.naming.RegionId.{RegionId}
use Rattle.fam_model.specs.declared.change.Change.TheVariants as change
use Rattle.fam_model.specs.declared.rows.ItemRow.{ItemRow}
use Rattle.fam_model.specs.declared.rows.RegionRow.{RegionRow}
use Rattle.fam_model.specs.declared.rows.Rows.{Rows}
use Rattle.fam_model.specs.Directory.{after}
use Rattle.fam_model.specs.Lawful.{is_lawful_change, is_good_row, is_next_number}
use Rattle.fam_model.specs.Limits.{max_total_size, max_regions}
use Rattle.fam_model.specs.Lists.{◌>>=◌, is_some_and, place_of}
use Rattle.fam_model.specs.Rows.{IsLawful, region_number, item_number, region_of, region_named, items_in, total_size}
use Rattle.fam_rows.proofs.Keeping.{keeps_law}
use Rattle.fam_rows.proofs.Places.{rises}
use Rattle.fam_rows.proofs.Searches.{lawful_region}
use Rattle.fam_rows.proofs.Standing.{five_parts, value_tested, nothing_there}
use Rattle.region_alloc.specs.Gaps.{Holds}
use Rattle.region_alloc.specs.Items.{room_of}
use Rattle.fam_directory.specs.declared.region.Region.{Region}
use Rattle.fam_directory.specs.Index.{IsIndexOf, IsIndexed, number_of, rows_of}
use Rattle.fam_directory.specs.Names.{NameMap, named}
use Rattle.fam_directory.proofs.Lookups.{items_of_none, at_place, has_number, region_of_is}
use Rattle.fam_directory.proofs.Indexes.{RoomsStay, index_kept, index_bare, bare, row_changed, replaced}
use Rattle.fam_directory.proofs.Moves.{changed_is, map_set_same, number_in, name_added}

-- the region of a number that is there has a place
pub has_place_there : (regions : List Region) (items : List ItemRow) (a b n : ℕ) (test : RegionRow → Bool) → is_some_and (region_of (rows_of regions items a b) n) test ≡ true → is_some (place_of number_of n regions) ≡ true
has_place_there regions items a b n test there =
    let found = value_tested (region_of (rows_of regions items a b) n) test there in
    by (place_of number_of n regions) refl (sym (region_of_is regions items a b n) ∙ found.1) where
      by : (o : Option ℕ) → place_of number_of n regions ≡ o → {row : RegionRow} → option_map (λ (r : Region). r.row) (place_of number_of n regions >>= λ k. slice_get regions k) ≡ Some row → is_some (place_of number_of n regions) ≡ true
      by None is e = absurd (cc (sym (ap (λ o. option_map (λ (r : Region). r.row) (o >>= λ k. slice_get regions k)) is) ∙ e))
      by (Some k) is e = ap is_some is

-- what stands at the place has the number
pub number_at : (regions : List Region) (n k : ℕ) (d : Region) → place_of number_of n regions ≡ Some k → k < length regions → number_of (get_or regions k d) ≡ n
number_at regions n k d is lt =
    let x = get_or regions k d in
    has_number number_of n regions x (at_place number_of n k regions x (sym is) lt (get_or_default regions k d x lt))

pub item_at : (items : List ItemRow) (n k : ℕ) (d : ItemRow) → place_of item_number n items ≡ Some k → k < length items → item_number (get_or items k d) ≡ n
item_at items n k d is lt =
    let x = get_or items k d in
    has_number item_number n items x (at_place item_number n k items x (sym is) lt (get_or_default items k d x lt))

-- numbers are passed over
pub skipped : (regions : List Region) (items : List ItemRow) (a b total next_region next_item : ℕ) (names : NameMap) → IsIndexed (rows_of regions items a b) regions names total → is_lawful_change (rows_of regions items a b) (change.Skip next_region next_item) ≡ true → IsIndexed (rows_of regions items next_region next_item) regions names total
skipped regions items a b total next_region next_item names h ok = record {
  lawful = keeps_law (rows_of regions items a b) (change.Skip next_region next_item) h.lawful ok;
  by_name = h.by_name;
  sum = h.sum;
  indexes = λ k d lt. index_kept (rows_of regions items a b) (rows_of regions items next_region next_item) (get_or regions k d) refl (h.indexes k d lt);
}

-- the rows with one region's row changed

pub mode_rows : (regions : List Region) (items : List ItemRow) (a b k mode : ℕ) (n : RegionId) (now : Region) → IsLawful (rows_of regions items a b) → k < length regions → number_of (get_or regions k now) ≡ n.0 → now.row ≡ record (get_or regions k now).row { mode = mode } → rows_of (set regions k now) items a b ≡ after (rows_of regions items a b) (change.SetRegionMode n mode)
mode_rows regions items a b k mode n now lawful lt is row =
    ap (λ (l : List RegionRow). let rows : Rows = record { regions = l; items = items; next_region = a; next_item = b } in rows) (row_changed regions items a b n.0 k now (λ x. record x { mode = mode }) lawful lt is row)

pub mode_changed : (regions : List Region) (items : List ItemRow) (a b k total mode : ℕ) (names : NameMap) (n : RegionId) (now : Region) → IsIndexed (rows_of regions items a b) regions names total → is_lawful_change (rows_of regions items a b) (change.SetRegionMode n mode) ≡ true → k < length regions → number_of (get_or regions k now) ≡ n.0 → now.row ≡ record (get_or regions k now).row { mode = mode } → now.items ≡ (get_or regions k now).items → now.room ≡ (get_or regions k now).room → IsIndexed (rows_of (set regions k now) items a b) (set regions k now) names total
mode_changed regions items a b k total mode names n now h ok lt is row found space =
    replaced regions items a b n.0 k total total names now h lt is (ap region_number row) (ap (λ (r : RegionRow). r.name) row) (λ name. ap (named name) found)
    (ap (λ s. s.size) space ∙ (h.indexes k now lt).ranges.space.same_size ∙ sym (ap (λ (r : RegionRow). r.size) row))
    (λ rooms. subst (λ s. Holds s rooms) (sym space))
    (let size = ap (λ (r : RegionRow). r.size) row in omega (arith, size))
    (subst IsLawful (sym (mode_rows regions items a b k mode n now h.lawful lt is row)) (keeps_law (rows_of regions items a b) (change.SetRegionMode n mode) h.lawful ok))

pub size_rows : (regions : List Region) (items : List ItemRow) (a b k size : ℕ) (n : RegionId) (now : Region) → IsLawful (rows_of regions items a b) → k < length regions → number_of (get_or regions k now) ≡ n.0 → now.row ≡ record (get_or regions k now).row { size = size } → rows_of (set regions k now) items a b ≡ after (rows_of regions items a b) (change.ResizeRegion n size)
size_rows regions items a b k size n now lawful lt is row =
    ap (λ (l : List RegionRow). let rows : Rows = record { regions = l; items = items; next_region = a; next_item = b } in rows) (row_changed regions items a b n.0 k now (λ x. record x { size = size }) lawful lt is row)

pub size_changed : (regions : List Region) (items : List ItemRow) (a b k total new_total size : ℕ) (names : NameMap) (n : RegionId) (now : Region) → IsIndexed (rows_of regions items a b) regions names total → is_lawful_change (rows_of regions items a b) (change.ResizeRegion n size) ≡ true → k < length regions → number_of (get_or regions k now) ≡ n.0 → now.row ≡ record (get_or regions k now).row { size = size } → now.items ≡ (get_or regions k now).items → now.room.size ≡ size → RoomsStay (get_or regions k now).room now.room → new_total + (get_or regions k now).row.size ≡ total + size → IsIndexed (rows_of (set regions k now) items a b) (set regions k now) names new_total
size_changed regions items a b k total new_total size names n now h ok lt is row found same_size rooms sum =
    let new_size = ap (λ (r : RegionRow). r.size) row in
    replaced regions items a b n.0 k total new_total names now h lt is (ap region_number row) (ap (λ (r : RegionRow). r.name) row) (λ name. ap (named name) found)
    (same_size ∙ sym new_size) rooms (omega (arith, sum, new_size))
    (subst IsLawful (sym (size_rows regions items a b k size n now h.lawful lt is row)) (keeps_law (rows_of regions items a b) (change.ResizeRegion n size) h.lawful ok))

-- an item has another mode

pub item_rows : (regions : List Region) (items : List ItemRow) (a b k mode : ℕ) (n : ItemId) (now : ItemRow) → IsLawful (rows_of regions items a b) → k < length items → item_number (get_or items k now) ≡ n.0 → now ≡ record (get_or items k now) { mode = mode } → rows_of regions (set items k now) a b ≡ after (rows_of regions items a b) (change.SetItemMode n mode)
item_rows regions items a b k mode n now lawful lt is row =
    ap (λ (l : List ItemRow). rows_of regions l a b) (ap (set items k) row ∙ sym (changed_is item_number n.0 k (λ x. record x { mode = mode }) items now (rises item_number items lawful.item_numbers_rise) lt is))

pub item_changed : (regions : List Region) (items : List ItemRow) (a b k total mode : ℕ) (names : NameMap) (n : ItemId) (now : ItemRow) → IsIndexed (rows_of regions items a b) regions names total → is_lawful_change (rows_of regions items a b) (change.SetItemMode n mode) ≡ true → k < length items → item_number (get_or items k now) ≡ n.0 → now ≡ record (get_or items k now) { mode = mode } → IsIndexed (rows_of regions (set items k now) a b) regions names total
item_changed regions items a b k total mode names n now h ok lt is row =
    let same : map bare items ≡ map bare (set items k now) = sym (map_set_same bare k items now lt (ap bare row)) in
    record {
      lawful = subst IsLawful (sym (item_rows regions items a b k mode n now h.lawful lt is row)) (keeps_law (rows_of regions items a b) (change.SetItemMode n mode) h.lawful ok);
      by_name = h.by_name;
      sum = h.sum;
      indexes = λ j d within. index_bare (rows_of regions items a b) (rows_of regions (set items k now) a b) (get_or regions j d) same (h.indexes j d within);
    }

-- a new region

pub new_rows : (regions : List Region) (items : List ItemRow) (a b : ℕ) (n : RegionId) (uid gid mode size : ℕ) (name : List ℕ) (now : Region) → now.row ≡ record { number = n; uid = uid; gid = gid; mode = mode; size = size; name = name } → rows_of (regions ++ now ∷ []) items (n.0 + 1) b ≡ after (rows_of regions items a b) (change.CreateRegion n uid gid mode size name)
new_rows regions items a b n uid gid mode size name now row =
    ap (λ (l : List RegionRow). let rows : Rows = record { regions = l; items = items; next_region = n.0 + 1; next_item = b } in rows)
    (map_push (λ (r : Region). r.row) regions now ∙ ap (λ (r : RegionRow). map (λ (r : Region). r.row) regions ++ r ∷ []) row)

-- no region has the next number
fresh_region : (rows : Rows) → IsLawful rows → region_of rows rows.next_region ≡ None
fresh_region rows lawful = by (region_of rows rows.next_region) refl where
  by : (o : Option RegionRow) → region_of rows rows.next_region ≡ o → region_of rows rows.next_region ≡ None
  by None is = is
  by (Some row) is =
      let h = lawful_region rows lawful rows.next_region row is in
      let below = h.number in
      let same = has_number region_number rows.next_region rows.regions row is in
      absurd (omega (arith, below, same))

pub created : (regions : List Region) (items : List ItemRow) (a b total : ℕ) (names new_names : NameMap) (n : RegionId) (uid gid mode size : ℕ) (name : List ℕ) (now : Region) → IsIndexed (rows_of regions items a b) regions names total → is_lawful_change (rows_of regions items a b) (change.CreateRegion n uid gid mode size name) ≡ true → now.row ≡ record { number = n; uid = uid; gid = gid; mode = mode; size = size; name = name } → ((q : List ℕ) → named q now.items ≡ None) → now.room.size ≡ now.row.size → Holds now.room [] → ((q : List ℕ) → named q new_names ≡ cond (bytes_eq name q) (Some n.0) (named q names)) → IsIndexed (rows_of (regions ++ now ∷ []) items (n.0 + 1) b) (regions ++ now ∷ []) new_names (total + size)
created regions items a b total names new_names n uid gid mode size name now h ok row nothing same_size rooms added =
    let rows = rows_of regions items a b in
    let new = rows_of (regions ++ now ∷ []) items (n.0 + 1) b in
    let made : RegionRow = record { number = n; uid = uid; gid = gid; mode = mode; size = size; name = name } in
    let parts = five_parts (is_next_number n.0 a) (is_good_row uid mode size name) (is_none (region_named rows name)) (ltb (length (map (λ (r : Region). r.row) regions)) max_regions) (leb (total_size rows + size) max_total_size) ok in
    let next : n.0 ≡ a = eqb-true _ _ (and_parts (eqb n.0 a) _ parts.0).0 in
    let unnamed : region_named rows name ≡ None = nothing_there (region_named rows name) parts.2 in
    let list : map (λ (r : Region). r.row) (regions ++ now ∷ []) ≡ map (λ (r : Region). r.row) regions ++ made ∷ [] = map_push (λ (r : Region). r.row) regions now ∙ ap (λ (r : RegionRow). map (λ (r : Region). r.row) regions ++ r ∷ []) row in
    let number : number_of now ≡ a = ap region_number row ∙ next in
    let empty : items_in rows (number_of now) ≡ [] = items_of_none rows h.lawful (number_of now) (ap (region_of rows) number ∙ fresh_region rows h.lawful) in
    record {
      lawful = subst IsLawful (sym (new_rows regions items a b n uid gid mode size name now row)) (keeps_law rows (change.CreateRegion n uid gid mode size name) h.lawful ok);
      by_name = λ q. added q ∙ ap (cond (bytes_eq name q) (Some n.0)) (h.by_name q)
          ∙ name_added (λ (r : RegionRow). r.name) region_number made (map (λ (r : Region). r.row) regions) q unnamed
          ∙ ap (number_in (λ (r : RegionRow). r.name) region_number q) (sym list);
      sum = (let total_is = h.sum in omega (arith, total_is, ap (sum_by (λ (r : RegionRow). r.size)) list, sum_by-append (λ (r : RegionRow). r.size) (map (λ (r : Region). r.row) regions) (made ∷ [])));
      indexes = All-push (IsIndexOf new) regions now
          (λ k d lt. index_kept rows new (get_or regions k d) refl (h.indexes k d lt))
          (record {
            names = λ q. nothing q ∙ sym (ap (λ l. option_map item_number (find (λ r. bytes_eq r.name q) l)) empty);
            ranges = record { rooms = []; held = rooms; space = record { same_size = same_size; same_rooms = λ test. sym (ap (list_all (λ item. test (room_of item))) empty) } };
          });
    }
