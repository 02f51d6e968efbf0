-- A row that comes, for which memory is held.
use Rattle.std.proofs.Common.{◌≡◌, ℕ, ◌+◌, ◌%◌, ◌<◌, ◌≤◌, Bool, true, cond, eqb, leb, ltb, List, [], ◌∷◌, ◌++◌, length, get_or, set, map, Option, Some, None, Vec, is_none, is_some, refl, sym, ap, ◌∙◌, subst, arith}
use Rattle.std.specs.List.{All, AllPairs, find, list_all, sum_by}
use Rattle.std.specs.Option.{option_map}
use Rattle.std.specs.Str.{bytes_eq}
use Rattle.std.specs.Vec.{vec_len, vec_capacity}
use Rattle.std.proofs.lemmas.Bool.{eqb-true, false≢true, leb-true, ltb-true, and_parts}
use Rattle.fam_base.specs.Name.{is_good_name}
use Rattle.fam_base.specs.declared.naming.ItemId.{ItemId}
use Rattle.fam_base.specs.declared.naming.RegionId.{RegionId}
use Rattle.fam_model.specs.declared.change.Change.{Change}
use Rattle.fam_model.specs.declared.change.Change.TheVariants as change
use Rattle.fam_model.specs.declared.rows.ItemRow.{ItemRow}
use Rattle.fam_model.specs.declared.rows.RegionRow.{RegionRow}
use Rattle.fam_model.specs.declared.rows.Rows.{Rows}
use Rattle.fam_model.specs.Directory.{after}
use Rattle.fam_model.specs.Lawful.{is_lawful_change, is_good_row, is_next_number}
use Rattle.fam_model.specs.Limits.{max_region_size, max_total_size, max_regions, max_items, number_end, nobody}
use Rattle.fam_model.specs.Lists.{is_some_and, place_of}
use Rattle.fam_model.specs.Rows.{IsLawful, region_number, region_of, region_named, item_named, items_in, total_size, room, is_beside, fits}
use Rattle.fam_rows.proofs.Keeping.{keeps_law}
use Rattle.fam_rows.proofs.Places.{rises}
use Rattle.fam_rows.proofs.Standing.{three_parts, four_parts, five_parts, value_tested, nothing_there}
use Rattle.region_alloc.proofs.Bases.{place_is_base}
use Rattle.region_alloc.specs.declared.extent.Extent.{Extent}
use Rattle.region_alloc.specs.Gaps.{Holds, space_with}
use Rattle.region_alloc.specs.Space.{has_place}
use Rattle.fam_directory.specs.declared.region.Coming.{Coming}
use Rattle.fam_directory.specs.declared.region.Region.{Region}
use Rattle.fam_directory.specs.Index.{HasRoom, IsAwaited, IsIndexOf, IsIndexed, NewName, adds_item, adds_region, new_name, number_of, rows_of, waits_for}
use Rattle.fam_directory.specs.Names.{NameMap, named}
use Rattle.fam_directory.specs.Slots.{ItemList}
use Rattle.fam_directory.proofs.Changed.{number_at, new_rows, created}
use Rattle.fam_directory.proofs.Indexes.{RoomsStay, RoomTaken, replaced}
use Rattle.fam_directory.proofs.Lookups.{numbers_rise}
use Rattle.fam_directory.proofs.Moves.{map_set_same, set_all}
use Rattle.fam_directory.proofs.Placed.{index_grown, indexes_grown}
use Rattle.fam_directory.proofs.Steps.{read_at, row_there}

-- what is held

pub is_held : (o : Option Coming) (w : NewName) → option_map new_name o ≡ Some w → is_some o ≡ true
is_held None w e = absurd (cc e)
is_held (Some coming) w e = refl

pub held_name : (o : Option Coming) (coming : Coming) (w : NewName) → o ≡ Some coming → option_map new_name o ≡ Some w → new_name coming ≡ w
held_name o coming w is e = let both : Some (new_name coming) ≡ Some w = sym (ap (option_map new_name) is) ∙ e in cc both

for_region : {Z : Type 0} (regions : Vec Region Z) (items : ItemList) (names : NameMap) (number : Option RegionId) → option_map (λ (r : RegionId). r.0) number ≡ None → HasRoom regions items names number → (vec_len regions < vec_capacity regions) × (names.is_ready ≡ true)
for_region regions items names None e h = h
for_region regions items names (Some number) e h = absurd (cc e)

for_item : {Z : Type 0} (regions : Vec Region Z) (items : ItemList) (names : NameMap) (n : ℕ) (number : Option RegionId) → option_map (λ (r : RegionId). r.0) number ≡ Some n → HasRoom regions items names number → (items.is_ready ≡ true) × All (λ region. number_of region ≡ n → (region.items.is_ready ≡ true) × (region.room.is_ready ≡ true)) regions.items
for_item regions items names n None e h = absurd (cc e)
for_item regions items names n (Some number) e h =
    let same : number.0 ≡ n = cc e in
    (h.0, λ k d lt number_is. h.1 k d lt (number_is ∙ sym same))

pub room_for_region : {Z : Type 0} (regions : Vec Region Z) (items : ItemList) (names : NameMap) (o : Option Coming) (coming : Coming) (name : List ℕ) → IsAwaited regions items names o → o ≡ Some coming → option_map new_name o ≡ Some (waits_for None name) →
    (coming.key ≡ name) × (coming.name ≡ name) × (vec_len regions < vec_capacity regions) × (names.is_ready ≡ true)
room_for_region regions items names o coming name h is e =
    let held = held_name o coming (waits_for None name) is e in
    let awaited = subst (IsAwaited regions items names) is h in
    let name_is : coming.name ≡ name = ap (λ (w : NewName). w.name) held in
    let room = for_region regions items names coming.region (ap (λ (w : NewName). w.region) held) awaited.1 in
    (awaited.0 ∙ name_is, name_is, room.0, room.1)

pub room_for_item : {Z : Type 0} (regions : Vec Region Z) (items : ItemList) (names : NameMap) (o : Option Coming) (coming : Coming) (n : ℕ) (name : List ℕ) → IsAwaited regions items names o → o ≡ Some coming → option_map new_name o ≡ Some (waits_for (Some n) name) →
    (coming.key ≡ name) × (coming.name ≡ name) × (items.is_ready ≡ true) × All (λ region. number_of region ≡ n → (region.items.is_ready ≡ true) × (region.room.is_ready ≡ true)) regions.items
room_for_item regions items names o coming n name h is e =
    let held = held_name o coming (waits_for (Some n) name) is e in
    let awaited = subst (IsAwaited regions items names) is h in
    let name_is : coming.name ≡ name = ap (λ (w : NewName). w.name) held in
    let room = for_item regions items names n coming.region (ap (λ (w : NewName). w.region) held) awaited.1 in
    (awaited.0 ∙ name_is, name_is, room.0, room.1)

-- an edit that takes no memory succeeds
pub edited : {A : Type 0} (ok : Bool) (new a b : List A) → new ≡ cond ok a b → ok ≡ true → new ≡ a
edited ok new a b e sure = e ∙ ap (λ t. cond t a b) sure

-- a new region

pub new_region : (rows : Rows) (n : RegionId) (uid gid mode size : ℕ) (name : List ℕ) → is_lawful_change rows (change.CreateRegion n uid gid mode size name) ≡ true → (size ≤ max_region_size) × (n.0 < number_end) × (total_size rows + size ≤ max_total_size) × (region_named rows name ≡ None)
new_region rows n uid gid mode size name ok =
    let parts = five_parts (is_next_number n.0 rows.next_region) (is_good_row uid mode size name) (is_none (region_named rows name)) (ltb (length rows.regions) max_regions) (leb (total_size rows + size) max_total_size) ok in
    let numbers = and_parts (eqb n.0 rows.next_region) (ltb n.0 number_end) parts.0 in
    let good = four_parts (ltb uid nobody) (leb mode 511) (leb size max_region_size) (is_good_name name) parts.1 in
    (leb-true _ _ good.2, ltb-true _ _ numbers.1, leb-true _ _ parts.4, nothing_there (region_named rows name) parts.2)

pub create_step : (regions new : List Region) (items : List ItemRow) (a b total : ℕ) (names new_names : NameMap) (n : RegionId) (uid gid mode size : ℕ) (name key : List ℕ) (now : Region) → IsIndexed (rows_of regions items a b) regions names total → is_lawful_change (rows_of regions items a b) (change.CreateRegion n uid gid mode size name) ≡ true → now.row ≡ record { number = n; uid = uid; gid = gid; mode = mode; size = size; name = name } → ((q : List ℕ) → named q now.items ≡ None) → now.room.size ≡ now.row.size → Holds now.room [] → key ≡ name → ((q : List ℕ) → named q new_names ≡ cond (bytes_eq key q) (Some n.0) (named q names)) → new ≡ regions ++ now ∷ [] →
    IsIndexed (rows_of new items (n.0 + 1) b) new new_names (total + size)
    × (rows_of new items (n.0 + 1) b ≡ after (rows_of regions items a b) (change.CreateRegion n uid gid mode size name))
create_step regions new items a b total names new_names n uid gid mode size name key now h ok row nothing same_size rooms same added grown = (
  subst (λ l. IsIndexed (rows_of l items (n.0 + 1) b) l new_names (total + size)) (sym grown) (created regions items a b total names new_names n uid gid mode size name now h ok row nothing same_size rooms (λ q. added q ∙ ap (λ k. cond (bytes_eq k q) (Some n.0) (named q names)) same)),
  ap (λ l. rows_of l items (n.0 + 1) b) grown ∙ new_rows regions items a b n uid gid mode size name now row,
)

-- a new item

pub new_item : (rows : Rows) (i : ItemId) (n : RegionId) (base size uid gid mode : ℕ) (name : List ℕ) → is_lawful_change rows (change.Allocate i n base size uid gid mode name) ≡ true → (i.0 < number_end) × (item_named rows n.0 name ≡ None) × (is_some_and (region_of rows n.0) (λ row. fits rows row size base) ≡ true)
new_item rows i n base size uid gid mode name ok =
    let parts = five_parts (is_next_number i.0 rows.next_item) (is_good_row uid mode size name) (is_none (item_named rows n.0 name)) (ltb (length rows.items) max_items) (is_some_and (region_of rows n.0) (λ row. fits rows row size base)) ok in
    let numbers = and_parts (eqb i.0 rows.next_item) (ltb i.0 number_end) parts.0 in
    (ltb-true _ _ numbers.1, nothing_there (item_named rows n.0 name) parts.2, parts.4)

pub new_number : (rows : Rows) (i : ItemId) (n : RegionId) (base size uid gid mode : ℕ) (name : List ℕ) → is_lawful_change rows (change.Allocate i n base size uid gid mode name) ≡ true → rows.next_item ≤ i.0
new_number rows i n base size uid gid mode name ok =
    let parts = five_parts (is_next_number i.0 rows.next_item) (is_good_row uid mode size name) (is_none (item_named rows n.0 name)) (ltb (length rows.items) max_items) (is_some_and (region_of rows n.0) (λ row. fits rows row size base)) ok in
    let numbers = and_parts (eqb i.0 rows.next_item) (ltb i.0 number_end) parts.0 in
    let same = eqb-true i.0 rows.next_item numbers.0 in
    omega (arith, same)

pub new_place : (regions : List Region) (items : List ItemRow) (a b k : ℕ) (n : RegionId) (base size : ℕ) (x : Region) → All (IsIndexOf (rows_of regions items a b)) regions → is_some_and (region_of (rows_of regions items a b) n.0) (λ row. fits (rows_of regions items a b) row size base) ≡ true → place_of number_of n.0 regions ≡ Some k → k < length regions → x ≡ get_or regions k x →
    IsIndexOf (rows_of regions items a b) x × (fits (rows_of regions items a b) x.row size base ≡ true) × ((rooms : List Extent) × Holds x.room rooms × (has_place (space_with x.room rooms) size base ≡ true))
new_place regions items a b k n base size x all fitting at lt is =
    let rows = rows_of regions items a b in
    let there = value_tested (region_of rows n.0) (λ row. fits rows row size base) fitting in
    let same : there.0 ≡ x.row = cc (sym there.1 ∙ row_there regions items a b n.0 k x at lt is) in
    let index = subst (IsIndexOf rows) (sym is) (all k x lt) in
    let fitted : fits rows x.row size base ≡ true = ap (λ (r : RegionRow). fits rows r size base) (sym same) ∙ there.2 in
    (index, fitted, (index.ranges.rooms, index.ranges.held, place_is_base rows x.row (space_with x.room index.ranges.rooms) size base index.ranges.space ∙ fitted))

-- in the index of its region
pub add_step : (regions : List Region) (items left : List ItemRow) (a b next k : ℕ) (item : ItemRow) (key : List ℕ) (x now : Region) → AllPairs (λ s t. number_of s < number_of t) regions → All (IsIndexOf (rows_of regions items a b)) regions → item_named (rows_of regions items a b) item.region.0 item.name ≡ None → is_some_and (region_of (rows_of regions items a b) item.region.0) (λ row. fits (rows_of regions items a b) row item.size item.base) ≡ true → place_of number_of item.region.0 regions ≡ Some k → k < length regions → x ≡ get_or regions k x → left ≡ items ++ item ∷ [] → now.row ≡ x.row → key ≡ item.name → ((q : List ℕ) → named q now.items ≡ cond (bytes_eq key q) (Some item.number.0) (named q x.items)) → now.room.size ≡ x.room.size → RoomTaken x.room now.room item.base item.size →
    All (IsIndexOf (rows_of (set regions k now) left a next)) (set regions k now) × (map (λ (r : Region). r.row) (set regions k now) ≡ map (λ (r : Region). r.row) regions)
add_step regions items left a b next k item key x now rise all unnamed fitting at lt is grown row same added space rooms =
    let rows = rows_of regions items a b in
    let placed = new_place regions items a b k item.region item.base item.size x all fitting at lt is in
    let here : number_of x ≡ item.region.0 = ap number_of is ∙ number_at regions item.region.0 k x at lt in
    let parts = three_parts (eqb (item.base % 64) 0) (leb (item.base + room item.size) x.row.size) (list_all (is_beside item.size item.base) (items_in rows (region_number x.row))) placed.1 in
    let index = index_grown rows (rows_of (set regions k now) left a next) x now item grown here unnamed placed.1 parts.2 row (λ q. added q ∙ ap (λ n. cond (bytes_eq n q) (Some item.number.0) (named q x.items)) same) space rooms placed.0 in (
      indexes_grown rows (rows_of (set regions k now) left a next) regions k now item rise grown lt (number_at regions item.region.0 k now at lt) all index,
      map_set_same (λ (r : Region). r.row) k regions now lt (row ∙ sym (ap (λ (r : Region). r.row) (read_at regions k x now lt is))),
    )

pub allocate_step : (regions : List Region) (items left : List ItemRow) (a b k total : ℕ) (names : NameMap) (i : ItemId) (n : RegionId) (base size uid gid mode : ℕ) (name key label : List ℕ) (x now : Region) → IsIndexed (rows_of regions items a b) regions names total → is_lawful_change (rows_of regions items a b) (change.Allocate i n base size uid gid mode name) ≡ true → place_of number_of n.0 regions ≡ Some k → k < length regions → x ≡ get_or regions k x → key ≡ name → label ≡ name → left ≡ items ++ record { number = i; region = n; base = base; size = size; uid = uid; gid = gid; mode = mode; name = label } ∷ [] → now.row ≡ x.row → ((q : List ℕ) → named q now.items ≡ cond (bytes_eq key q) (Some i.0) (named q x.items)) → now.room.size ≡ x.room.size → RoomTaken x.room now.room base size →
    IsIndexed (rows_of (set regions k now) left a (i.0 + 1)) (set regions k now) names total
    × (rows_of (set regions k now) left a (i.0 + 1) ≡ after (rows_of regions items a b) (change.Allocate i n base size uid gid mode name))
allocate_step regions items left a b k total names i n base size uid gid mode name key label x now h ok at lt is same labelled grown row added space rooms =
    let rows = rows_of regions items a b in
    let item : ItemRow = record { number = i; region = n; base = base; size = size; uid = uid; gid = gid; mode = mode; name = name } in
    let facts = new_item rows i n base size uid gid mode name ok in
    let grown_by : left ≡ items ++ item ∷ [] = grown ∙ ap (λ l. let t : ItemRow = record { number = i; region = n; base = base; size = size; uid = uid; gid = gid; mode = mode; name = l } in items ++ t ∷ []) labelled in
    let step = add_step regions items left a b (i.0 + 1) k item key x now (rises number_of regions (numbers_rise regions h.lawful.region_numbers_rise)) h.indexes facts.1 facts.2 at lt is grown_by row same added space rooms in
    let equal : rows_of (set regions k now) left a (i.0 + 1) ≡ after rows (change.Allocate i n base size uid gid mode name) = (λ j. let t : Rows = record { regions = step.1 j; items = grown_by j; next_region = a; next_item = i.0 + 1 } in t) in (
      record {
        lawful = subst IsLawful (sym equal) (keeps_law rows (change.Allocate i n base size uid gid mode name) h.lawful ok);
        by_name = λ q. h.by_name q ∙ ap (λ l. option_map region_number (find (λ (s : RegionRow). bytes_eq s.name q) l)) (sym step.1);
        sum = h.sum ∙ ap (sum_by (λ (s : RegionRow). s.size)) (sym step.1);
        indexes = step.0;
      },
      equal,
    )

-- only a new region adds a region, and only a new item an item

pub not_region : (chosen : Change) → ((n : RegionId) (uid gid mode size : ℕ) (name : List ℕ) → chosen ≡ change.CreateRegion n uid gid mode size name → ⊥) → adds_region chosen ≡ true → ⊥
not_region (change.CreateRegion n uid gid mode size name) none e = none n uid gid mode size name refl
not_region chosen none e = false≢true e

pub not_item : (chosen : Change) → ((i : ItemId) (n : RegionId) (base size uid gid mode : ℕ) (name : List ℕ) → chosen ≡ change.Allocate i n base size uid gid mode name → ⊥) → adds_item chosen ≡ true → ⊥
not_item (change.Allocate i n base size uid gid mode name) none e = none i n base size uid gid mode name refl
not_item chosen none e = false≢true e

-- memory is taken

pub renamed_index : (rows : Rows) (regions : List Region) (names new : NameMap) (total : ℕ) → ((q : List ℕ) → named q new ≡ named q names) → IsIndexed rows regions names total → IsIndexed rows regions new total
renamed_index rows regions names new total same h = record { lawful = h.lawful; by_name = λ q. same q ∙ h.by_name q; sum = h.sum; indexes = h.indexes }

pub ready_step : (regions : List Region) (items : List ItemRow) (a b n k total : ℕ) (names : NameMap) (x now : Region) → IsIndexed (rows_of regions items a b) regions names total → place_of number_of n regions ≡ Some k → k < length regions → x ≡ get_or regions k x → now.row ≡ x.row → ((q : List ℕ) → named q now.items ≡ named q x.items) → now.room.size ≡ x.room.size → RoomsStay x.room now.room →
    IsIndexed (rows_of (set regions k now) items a b) (set regions k now) names total
    × (rows_of (set regions k now) items a b ≡ rows_of regions items a b)
ready_step regions items a b n k total names x now h at lt is row found space rooms =
    let old = read_at regions k x now lt is in
    let row_is : now.row ≡ (get_or regions k now).row = row ∙ sym (ap (λ (r : Region). r.row) old) in
    let equal : rows_of (set regions k now) items a b ≡ rows_of regions items a b = ap (λ (l : List RegionRow). let t : Rows = record { regions = l; items = items; next_region = a; next_item = b } in t) (map_set_same (λ (r : Region). r.row) k regions now lt row_is) in
    let size = ap (λ (r : RegionRow). r.size) row_is in (
      replaced regions items a b n k total total names now h lt (number_at regions n k now at lt) (ap region_number row_is) (ap (λ (r : RegionRow). r.name) row_is)
          (λ q. found q ∙ sym (ap (λ (r : Region). named q r.items) old))
          (space ∙ sym (ap (λ (r : Region). r.room.size) old) ∙ (h.indexes k now lt).ranges.space.same_size ∙ sym size)
          (λ l held. rooms l (subst (λ (r : Region). Holds r.room l) old held)) (omega (arith, size)) (subst IsLawful (sym equal) h.lawful),
      equal,
    )

pub ready_there : (regions : List Region) (n k : ℕ) (now : Region) → AllPairs (λ s t. number_of s < number_of t) regions → place_of number_of n regions ≡ Some k → k < length regions → now.items.is_ready ≡ true → now.room.is_ready ≡ true → All (λ region. number_of region ≡ n → (region.items.is_ready ≡ true) × (region.room.is_ready ≡ true)) (set regions k now)
ready_there regions n k now rise at lt named_ready placed_ready =
    set_all number_of (λ region. Unit {0}) (λ region. number_of region ≡ n → (region.items.is_ready ≡ true) × (region.room.is_ready ≡ true)) n k regions now rise lt (number_at regions n k now at lt) (λ j d within. tt) (λ r other h is. absurd (other is)) (λ is. (named_ready, placed_ready))

pub holds_region : {Z : Type 0} (regions : Vec Region Z) (items : ItemList) (names : NameMap) (number : Option RegionId) → number ≡ None → vec_len regions < vec_capacity regions → names.is_ready ≡ true → HasRoom regions items names number
holds_region regions items names number is few ready = subst (HasRoom regions items names) (sym is) (few, ready)

pub holds_item : {Z : Type 0} (regions : Vec Region Z) (items : ItemList) (names : NameMap) (number : Option RegionId) (n : RegionId) → number ≡ Some n → items.is_ready ≡ true → All (λ region. number_of region ≡ n.0 → (region.items.is_ready ≡ true) × (region.room.is_ready ≡ true)) regions.items → HasRoom regions items names number
holds_item regions items names number n is few ready = subst (HasRoom regions items names) (sym is) (few, ready)
