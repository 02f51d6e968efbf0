-- Indexes stay those of the rows where both change alike.
use Rattle.std.proofs.Common.{◌≡◌, ◌≢◌, ℕ, ◌+◌, ◌<◌, Bool, true, false, eqb, ltb, List, [], ◌∷◌, ◌++◌, length, get_or, set, map, Option, Some, None, inl, inr, refl, sym, ap, ◌∙◌, arith}
use mathlib.Core.Bool.{not, ◌&&◌}
use Rattle.std.specs.List.{filter, find, list_all, sum_by}
use Rattle.std.specs.Option.{option_map}
use Rattle.std.specs.Str.{bytes_eq}
use Rattle.std.proofs.lemmas.Bool.{cases_order, lt-ltb, le-ltb, false≢true, eq-eqb, ne_eqb, not-true, and_parts}
use Rattle.std.proofs.lemmas.List.{map-set, get_or-map, length-map, append-nil}
use Rattle.std.proofs.lemmas.List.Elements.{filter-append}
use Rattle.std.proofs.lemmas.List.Folds.{list_all-append}
use Rattle.std.proofs.lemmas.List.Sums.{sum_by-set}
use Rattle.fam_model.specs.declared.rows.ItemRow.{ItemRow}
use Rattle.fam_model.specs.declared.rows.RegionRow.{RegionRow}
use Rattle.fam_model.specs.declared.rows.Rows.{Rows}
use Rattle.fam_model.specs.Lists.{change_number}
use Rattle.fam_model.specs.Rows.{IsLawful, region_number, item_number, items_in}
use Rattle.fam_rows.proofs.Places.{rises}
use Rattle.region_alloc.specs.declared.extent.Extent.{Extent}
use Rattle.region_alloc.specs.Items.{room_of}
use Rattle.region_alloc.specs.Gaps.{FreeRanges, Holds, space_with}
use Rattle.region_alloc.specs.Space.{has_place, has_room, room_at, with_room, without_room}
use Rattle.fam_directory.specs.declared.region.Region.{Region}
use Rattle.fam_directory.specs.Index.{IsIndexOf, IsIndexed, number_of, rows_of}
use Rattle.fam_directory.specs.Names.{NameEntry, NameMap, named}
use Rattle.fam_directory.proofs.Lookups.{map_map, find_map, numbers_rise}
use Rattle.fam_directory.proofs.Moves.{map_filter, list_all_map, map_set_same, set_all, changed_is, number_in}

-- what becomes of the rooms that are held: they stay, or there is one more, or one less

abbrev pub RoomsStay : FreeRanges → FreeRanges → Type 0
RoomsStay old now = (rooms : List Extent) → Holds old rooms → Holds now rooms

abbrev pub RoomTaken : FreeRanges → FreeRanges → ℕ → ℕ → Type 0
RoomTaken old now base n = (rooms : List Extent) → Holds old rooms → has_place (space_with old rooms) n base ≡ true → Holds now (with_room base n rooms)

abbrev pub RoomFreed : FreeRanges → FreeRanges → ℕ → ℕ → Type 0
RoomFreed old now base n = (rooms : List Extent) → Holds old rooms → has_room base n rooms ≡ true → Holds now (without_room base rooms)

-- one region

-- its items stay, and so do its names, its size and its rooms
pub index_stays : (rows new : Rows) (old now : Region) → number_of now ≡ number_of old → ((name : List ℕ) → named name now.items ≡ named name old.items) → now.room.size ≡ now.row.size → RoomsStay old.room now.room → items_in rows (number_of old) ≡ items_in new (number_of old) → IsIndexOf rows old → IsIndexOf new now
index_stays rows new old now number names same_size rooms items h =
    let path : items_in rows (number_of old) ≡ items_in new (number_of now) = items ∙ ap (items_in new) (sym number) in
    record {
      names = λ name. names name ∙ h.names name ∙ ap (λ l. option_map item_number (find (λ row. bytes_eq row.name name) l)) path;
      ranges = record {
        rooms = h.ranges.rooms;
        held = rooms h.ranges.rooms h.ranges.held;
        space = record {
          same_size = same_size;
          same_rooms = λ test. h.ranges.space.same_rooms test ∙ ap (list_all (λ item. test (room_of item))) path;
        };
      };
    }

-- a region that is not touched, where its items stay
pub index_kept : (rows new : Rows) (region : Region) → items_in rows (number_of region) ≡ items_in new (number_of region) → IsIndexOf rows region → IsIndexOf new region
index_kept rows new region items h = index_stays rows new region region refl (λ name. refl) h.ranges.space.same_size (λ rooms held. held) items h

-- names and numbers alone

pub number_in_alike : {A : Type 0} (name : A → List ℕ) (number : A → ℕ) (q : List ℕ) (xs ys : List A) → map (λ x. let e : NameEntry = record { name = name x; number = number x } in e) xs ≡ map (λ x. let e : NameEntry = record { name = name x; number = number x } in e) ys → number_in name number q xs ≡ number_in name number q ys
number_in_alike {A} name number q xs ys same = by xs ∙ ap (λ l. option_map (λ (e : NameEntry). e.number) (find (λ (e : NameEntry). bytes_eq e.name q) l)) same ∙ sym (by ys) where
  inner : {A : Type 0} (name : A → List ℕ) (number : A → ℕ) (o : Option A) → option_map number o ≡ option_map (λ (e : NameEntry). e.number) (option_map (λ x. let e : NameEntry = record { name = name x; number = number x } in e) o)
  inner name number None = refl
  inner name number (Some x) = refl

  by : (l : List A) → number_in name number q l ≡ option_map (λ (e : NameEntry). e.number) (find (λ (e : NameEntry). bytes_eq e.name q) (map (λ x. let e : NameEntry = record { name = name x; number = number x } in e) l))
  by l = inner name number (find (λ x. bytes_eq (name x) q) l) ∙ sym (ap (option_map (λ (e : NameEntry). e.number)) (find_map (λ x. let e : NameEntry = record { name = name x; number = number x } in e) (λ e. bytes_eq e.name q) l))

-- one region's row is replaced

pub row_changed : (regions : List Region) (items : List ItemRow) (a b n k : ℕ) (now : Region) (f : RegionRow → RegionRow) → IsLawful (rows_of regions items a b) → k < length regions → number_of (get_or regions k now) ≡ n → now.row ≡ f (get_or regions k now).row → map (λ r. r.row) (set regions k now) ≡ change_number region_number n f (map (λ r. r.row) regions)
row_changed regions items a b n k now f lawful lt is row =
    let row_at : get_or (map (λ (r : Region). r.row) regions) k now.row ≡ (get_or regions k now).row = get_or-map (λ (r : Region). r.row) regions k now now.row lt in
    map-set (λ (r : Region). r.row) regions k now
    ∙ ap (set (map (λ (r : Region). r.row) regions) k) (row ∙ ap f (sym row_at))
    ∙ sym (changed_is region_number n k f (map (λ (r : Region). r.row) regions) now.row (rises region_number (map (λ (r : Region). r.row) regions) lawful.region_numbers_rise) (omega (arith, length-map regions (λ (r : Region). r.row))) (ap region_number row_at ∙ is))

pub replaced : (regions : List Region) (items : List ItemRow) (a b n k total new_total : ℕ) (names : NameMap) (now : Region) → IsIndexed (rows_of regions items a b) regions names total → k < length regions → number_of (get_or regions k now) ≡ n → number_of now ≡ number_of (get_or regions k now) → now.row.name ≡ (get_or regions k now).row.name → ((name : List ℕ) → named name now.items ≡ named name (get_or regions k now).items) → now.room.size ≡ now.row.size → RoomsStay (get_or regions k now).room now.room → new_total + (get_or regions k now).row.size ≡ total + now.row.size → IsLawful (rows_of (set regions k now) items a b) → IsIndexed (rows_of (set regions k now) items a b) (set regions k now) names new_total
replaced regions items a b n k total new_total names now h lt is number name found size rooms sum lawful =
    let old = get_or regions k now in
    let new = rows_of (set regions k now) items a b in
    let rise = rises number_of regions (numbers_rise regions h.lawful.region_numbers_rise) in
    let entry : RegionRow → NameEntry = λ r. record { name = r.name; number = region_number r } in
    let alike : map entry (map (λ (r : Region). r.row) regions) ≡ map entry (map (λ (r : Region). r.row) (set regions k now)) =
    map_map (λ (r : Region). r.row) entry regions
    ∙ sym (map_set_same (λ (r : Region). entry r.row) k regions now lt (λ i. record { name = name i; number = number i }))
    ∙ sym (map_map (λ (r : Region). r.row) entry (set regions k now)) in
    record {
      lawful = lawful;
      by_name = λ q. h.by_name q ∙ number_in_alike (λ (r : RegionRow). r.name) region_number q (map (λ (r : Region). r.row) regions) (map (λ (r : Region). r.row) (set regions k now)) alike;
      sum =
          (let sums = sum_by-set (λ (r : RegionRow). r.size) (map (λ (r : Region). r.row) regions) k now.row now.row (omega (arith, length-map regions (λ (r : Region). r.row))) in
          let before = ap (λ (r : RegionRow). r.size) (get_or-map (λ (r : Region). r.row) regions k now now.row lt) in
          let all = ap (sum_by (λ (r : RegionRow). r.size)) (map-set (λ (r : Region). r.row) regions k now) in
          let total_is = h.sum in
          omega (arith, sums, before, all, total_is, sum));
      indexes = set_all number_of (IsIndexOf (rows_of regions items a b)) (IsIndexOf new) n k regions now rise lt is h.indexes
          (λ r other hr. index_kept (rows_of regions items a b) new r refl hr)
          (index_stays (rows_of regions items a b) new old now number found size rooms refl (h.indexes k now lt));
    }

-- items but for their modes
abbrev pub bare : ItemRow → ItemRow
bare item = record item { mode = 0 }

pub index_bare : (rows new : Rows) (region : Region) → map bare rows.items ≡ map bare new.items → IsIndexOf rows region → IsIndexOf new region
index_bare rows new region same h =
    let n = number_of region in
    let inside : (l : List ItemRow) → map bare (filter (λ x. eqb x.region.0 n) l) ≡ filter (λ (x : ItemRow). eqb x.region.0 n) (map bare l) = λ l. map_filter bare (λ (x : ItemRow). eqb x.region.0 n) l in
    let alike : map bare (items_in rows n) ≡ map bare (items_in new n) = inside rows.items ∙ ap (filter (λ (x : ItemRow). eqb x.region.0 n)) same ∙ sym (inside new.items) in
    let entry : ItemRow → NameEntry = λ x. record { name = x.name; number = item_number x } in
    let entries : map entry (items_in rows n) ≡ map entry (items_in new n) = sym (map_map bare entry (items_in rows n)) ∙ ap (map entry) alike ∙ map_map bare entry (items_in new n) in
    record {
      names = λ name. h.names name ∙ number_in_alike (λ (x : ItemRow). x.name) item_number name (items_in rows n) (items_in new n) entries;
      ranges = record {
        rooms = h.ranges.rooms;
        held = h.ranges.held;
        space = record {
          same_size = h.ranges.space.same_size;
          same_rooms = λ test. h.ranges.space.same_rooms test
              ∙ sym (list_all_map bare (λ item. test (room_of item)) (items_in rows n)) ∙ ap (list_all (λ item. test (room_of item))) alike ∙ list_all_map bare (λ item. test (room_of item)) (items_in new n);
        };
      };
    }

-- an item of a region more

items_elsewhere : (items : List ItemRow) (item : ItemRow) (n : ℕ) → item.region.0 ≢ n → filter (λ x. eqb x.region.0 n) items ≡ filter (λ x. eqb x.region.0 n) (items ++ item ∷ [])
items_elsewhere items item n other =
    sym (filter-append (λ (x : ItemRow). eqb x.region.0 n) items (item ∷ []) ∙ rw (ne_eqb item.region.0 n other) (append-nil (filter (λ x. eqb x.region.0 n) items)))

pub items_here : (items : List ItemRow) (item : ItemRow) (n : ℕ) → item.region.0 ≡ n → filter (λ x. eqb x.region.0 n) items ++ item ∷ [] ≡ filter (λ x. eqb x.region.0 n) (items ++ item ∷ [])
items_here items item n same = sym (filter-append (λ (x : ItemRow). eqb x.region.0 n) items (item ∷ []) ∙ rw (eq-eqb item.region.0 n same) refl)

pub grown_elsewhere : (rows new : Rows) (region : Region) (item : ItemRow) → new.items ≡ rows.items ++ item ∷ [] → number_of region ≢ item.region.0 → IsIndexOf rows region → IsIndexOf new region
grown_elsewhere rows new region item grown other h =
    index_kept rows new region (items_elsewhere rows.items item (number_of region) (λ e. other (sym e)) ∙ ap (filter (λ (x : ItemRow). eqb x.region.0 (number_of region))) (sym grown)) h

-- all rooms but one, and that one
around : (test : Extent → Bool) (base : ℕ) (rooms : List Extent) → list_all (λ r. not (eqb r.base base)) rooms ≡ true → (list_all test (filter (λ r. ltb r.base base) rooms) && list_all test (filter (λ r. ltb base r.base) rooms)) ≡ list_all test rooms
around test base [] none = refl
around test base (x ∷ xs) none =
    let parts = and_parts (not (eqb x.base base)) (list_all (λ r. not (eqb r.base base)) xs) none in
    let rest = around test base xs parts.1 in
    let differ = not-true (eqb x.base base) parts.0 in
    elim (cases_order x.base base) [
      | inl same ↦ absurd (false≢true (sym differ ∙ eq-eqb x.base base same))
      | inr either ↦ elim either [
        | inl low ↦ rw (lt-ltb x.base base low, le-ltb base x.base (omega arith)) (assoc (test x) _ _ ∙ ap (λ t. test x && t) rest)
        | inr high ↦ rw (le-ltb x.base base (omega arith), lt-ltb base x.base high) (middle _ (test x) _ ∙ ap (λ t. test x && t) rest)
      ]
    ] where
      assoc : (a b c : Bool) → ((a && b) && c) ≡ (a && (b && c))
      assoc true b c = refl
      assoc false b c = refl

      middle : (a b c : Bool) → (a && (b && c)) ≡ (b && (a && c))
      middle true true c = refl
      middle true false c = refl
      middle false true c = refl
      middle false false c = refl

pub with_room_all : (test : Extent → Bool) (base n : ℕ) (rooms : List Extent) → list_all (λ r. not (eqb r.base base)) rooms ≡ true → list_all test (with_room base n rooms) ≡ (list_all test rooms && test (room_at base n))
with_room_all test base n rooms none =
    list_all-append test (filter (λ r. ltb r.base base) rooms) (room_at base n ∷ filter (λ r. ltb base r.base) rooms)
    ∙ turn (list_all test (filter (λ r. ltb r.base base) rooms)) (test (room_at base n)) (list_all test (filter (λ r. ltb base r.base) rooms))
    ∙ ap (λ t. t && test (room_at base n)) (around test base rooms none) where
      turn : (a b c : Bool) → (a && (b && c)) ≡ ((a && c) && b)
      turn true true true = refl
      turn true true false = refl
      turn true false true = refl
      turn true false false = refl
      turn false b c = refl
