-- What a change of the items by their numbers means for rows and indexes.
use Rattle.std.proofs.Common.{◌≡◌, ◌≢◌, ℕ, ◌<◌, ◌≤◌, ◌⊎◌, Bool, true, false, cond, eqb, leb, List, [], ◌∷◌, length, get_or, set, map, Option, Some, None, is_some, inl, inr, refl, sym, ap, ◌∙◌, subst}
use mathlib.Core.Bool.{not, ◌||◌}
use Rattle.std.specs.List.{All, find, list_any, remove, slice_get}
use Rattle.std.specs.Option.{option_map}
use Rattle.std.specs.Str.{bytes_eq}
use Rattle.std.proofs.lemmas.Bool.{cases_Bool, eqb-true, eq-eqb, leb-true, false≢true}
use Rattle.std.proofs.lemmas.List.{get_or_default}
use Rattle.std.proofs.lemmas.List.Elements.{All-head, All-tail}
use Rattle.std.proofs.lemmas.Option.{slice_get_within, slice_get-get_or}
use Rattle.fam_base.specs.declared.naming.ItemId.{ItemId}
use Rattle.fam_base.specs.declared.naming.RegionId.{RegionId}
use Rattle.fam_model.specs.declared.change.Change.TheVariants as change
use Rattle.fam_model.specs.declared.rows.ItemRow.{ItemRow}
use Rattle.fam_model.specs.declared.rows.Rows.{Rows}
use Rattle.fam_model.specs.Directory.{after}
use Rattle.fam_model.specs.Lawful.{is_lawful_change, is_common}
use Rattle.fam_model.specs.Limits.{number_end}
use Rattle.fam_model.specs.Lists.{◌>>=◌, change_number, drop_number, find_number, is_some_and, place_of}
use Rattle.fam_model.specs.Rows.{IsLawful, item_number, item_of, item_named, items_in}
use Rattle.fam_rows.proofs.Places.{rises}
use Rattle.fam_rows.proofs.Standing.{three_parts, four_parts, value_tested}
use Rattle.region_alloc.specs.declared.extent.Extent.{Extent}
use Rattle.region_alloc.specs.Gaps.{Holds}
use Rattle.region_alloc.specs.Space.{has_room}
use Rattle.fam_directory.specs.declared.region.Region.{Region}
use Rattle.fam_directory.specs.Index.{IsIndexOf, IsIndexed, number_of, rows_of}
use Rattle.fam_directory.specs.Names.{NameEntry, NameMap, named}
use Rattle.fam_directory.specs.Slots.{with_mode, without_numbers}
use Rattle.fam_directory.proofs.Changed.{item_at}
use Rattle.fam_directory.proofs.Destroyed.{outside}
use Rattle.fam_directory.proofs.Indexes.{RoomFreed}
use Rattle.fam_directory.proofs.Moves.{changed_is, one_passes, removed_is}
use Rattle.fam_directory.proofs.Naming.{equal_names, same_name}
use Rattle.fam_directory.proofs.Placed.{all_others, others_here}
use Rattle.fam_directory.proofs.Slotted.{IsNamed, all_taken}
use Rattle.fam_directory.proofs.Steps.{drop_step, free_room, item_step, row_region_there}

-- the same items, and the same next number
pub carried : (regions : List Region) (items left : List ItemRow) (a b new_b total : ℕ) (names : NameMap) → left ≡ items → new_b ≡ b → IsIndexed (rows_of regions items a b) regions names total → IsIndexed (rows_of regions left a new_b) regions names total
carried regions items left a b new_b total names same next h =
    subst (λ l. IsIndexed (rows_of regions l a new_b) regions names total) (sym same) (subst (λ n. IsIndexed (rows_of regions items a n) regions names total) (sym next) h)

pub next_item_within : (rows : Rows) (next_region next_item : ℕ) → is_lawful_change rows (change.Skip next_region next_item) ≡ true → rows.next_item ≤ next_item
next_item_within rows next_region next_item ok = leb-true _ _ (four_parts (leb rows.next_region next_region) (leb next_region number_end) (leb rows.next_item next_item) (leb next_item number_end) ok).2

-- the place of a row that is found
pub found_place : (n : ℕ) (items : List ItemRow) (x : ItemRow) → Some x ≡ find_number item_number n items → (k : ℕ) × (place_of item_number n items ≡ Some k) × (k < length items) × (x ≡ get_or items k x)
found_place n items x e = by (place_of item_number n items) refl where
  by : (o : Option ℕ) → place_of item_number n items ≡ o → (k : ℕ) × (place_of item_number n items ≡ Some k) × (k < length items) × (x ≡ get_or items k x)
  by None is = absurd (cc (e ∙ ap (λ o. o >>= λ k. slice_get items k) is))
  by (Some k) is =
      let read : slice_get items k ≡ Some x = sym (e ∙ ap (λ o. o >>= λ j. slice_get items j) is) in
      let lt = slice_get_within items k x read in
      let same : x ≡ get_or items k x = cc (sym read ∙ slice_get-get_or items k x lt) in
      (k, is, lt, same)

-- another mode

pub mode_left : (regions : List Region) (items left : List ItemRow) (a b new_b total mode : ℕ) (names : NameMap) (n : ItemId) → IsIndexed (rows_of regions items a b) regions names total → is_lawful_change (rows_of regions items a b) (change.SetItemMode n mode) ≡ true → left ≡ change_number item_number n.0 (with_mode mode) items → new_b ≡ b → IsIndexed (rows_of regions left a new_b) regions names total
mode_left regions items left a b new_b total mode names n h ok is next =
    let parts = three_parts (not (is_common n.0)) _ (is_some_and (item_of (rows_of regions items a b) n.0) (λ row. true)) ok in
    let there = value_tested (item_of (rows_of regions items a b) n.0) (λ row. true) parts.2 in
    let x = there.0 in
    let place = found_place n.0 items x (sym there.1) in
    let k = place.0 in
    let changed : left ≡ set items k (with_mode mode x) =
    is ∙ changed_is item_number n.0 k (with_mode mode) items x (rises item_number items h.lawful.item_numbers_rise) place.2 (item_at items n.0 k x place.1 place.2) ∙ ap (λ y. set items k (with_mode mode y)) (sym place.3) in
    carried regions (set items k (with_mode mode x)) left a b new_b total names changed next
    (item_step regions items a b k total mode names n x h ok place.1 place.2 place.3).0

-- an item goes

pub region_found : (regions : List Region) (items : List ItemRow) (a b n : ℕ) (x : ItemRow) → IsLawful (rows_of regions items a b) → Some x ≡ find_number item_number n items → is_some (place_of number_of x.region.0 regions) ≡ true
region_found regions items a b n x lawful e =
    let place = found_place n items x e in
    row_region_there regions items a b place.0 x lawful place.2 place.3

pub room_found : (regions : List Region) (items : List ItemRow) (a b n k total : ℕ) (names : NameMap) (x : ItemRow) (r : Region) → IsIndexed (rows_of regions items a b) regions names total → Some x ≡ find_number item_number n items → place_of number_of x.region.0 regions ≡ Some k → k < length regions → r ≡ get_or regions k r → (rooms : List Extent) × Holds r.room rooms × (has_room x.base x.size rooms ≡ true)
room_found regions items a b n k total names x r h e at lt is =
    let place = found_place n items x e in
    free_room regions items a b place.0 k total names x r h place.2 place.3 at lt is

pub item_dropped : (regions : List Region) (items left : List ItemRow) (a b new_b k total : ℕ) (names : NameMap) (n : ItemId) (x : ItemRow) (r now : Region) → IsIndexed (rows_of regions items a b) regions names total → is_lawful_change (rows_of regions items a b) (change.Deallocate n) ≡ true → Some x ≡ find_number item_number n.0 items → left ≡ drop_number item_number n.0 items → new_b ≡ b → place_of number_of x.region.0 regions ≡ Some k → k < length regions → r ≡ get_or regions k r → now.row ≡ r.row → ((q : List ℕ) → named q now.items ≡ cond (bytes_eq x.name q) None (named q r.items)) → now.room.size ≡ r.room.size → RoomFreed r.room now.room x.base x.size →
    IsIndexed (rows_of (set regions k now) left a new_b) (set regions k now) names total
    × (rows_of (set regions k now) left a new_b ≡ after (rows_of regions items a b) (change.Deallocate n))
item_dropped regions items left a b new_b k total names n x r now h ok e dropped next at lt is row gone space rooms =
    let place = found_place n.0 items x e in
    let j = place.0 in
    let cut : left ≡ remove items j = dropped ∙ sym (removed_is item_number n.0 j items x (rises item_number items h.lawful.item_numbers_rise) place.2 (item_at items n.0 j x place.1 place.2)) in
    let step = drop_step regions items left a b j k total names n x r now h ok place.1 place.2 place.3 cut at lt is row gone space rooms in (
      carried (set regions k now) left left a b new_b total names refl next step.0,
      ap (λ m. rows_of (set regions k now) left a m) next ∙ step.1,
    )

-- the items of a region go

rest_holds : (a t : Bool) → a ≡ false → (a || t) ≡ true → t ≡ true
rest_holds true t e holds = absurd (false≢true (sym e))
rest_holds false t e holds = holds

only_one : (x : ItemRow) (xs : List ItemRow) → All (λ y. (y ≡ x) ⊎ ((item_number y ≢ item_number x) × ((y.name ≢ x.name) × (y.base ≢ x.base)))) xs → list_any (λ y. bytes_eq y.name x.name) xs ≡ true → find (λ y. bytes_eq y.name x.name) xs ≡ Some x
only_one x [] all e = absurd (false≢true e)
only_one x (y ∷ ys) all e = elim (cases_Bool (bytes_eq y.name x.name)) [
  | inl holds ↦ elim (All-head (λ z. (z ≡ x) ⊎ ((item_number z ≢ item_number x) × ((z.name ≢ x.name) × (z.base ≢ x.base)))) y ys all) [
    | inl same ↦ rw holds (ap Some same)
    | inr other ↦ absurd (other.1.0 (same_name y.name x.name holds))
  ]
  | inr fails ↦ rw fails (only_one x ys (All-tail (λ z. (z ≡ x) ⊎ ((item_number z ≢ item_number x) × ((z.name ≢ x.name) × (z.base ≢ x.base)))) y ys all) (rest_holds (bytes_eq y.name x.name) (list_any (λ z. bytes_eq z.name x.name) ys) fails e))
]

-- an item is found by its name
pub self_named : (rows : Rows) → IsLawful rows → (k : ℕ) (x : ItemRow) → k < length rows.items → x ≡ get_or rows.items k x → item_named rows x.region.0 x.name ≡ Some x
self_named rows lawful k x lt is =
    only_one x (items_in rows x.region.0) (others_here rows x (all_others rows lawful k x lt is))
    (one_passes (λ (y : ItemRow). bytes_eq y.name x.name) (λ (y : ItemRow). eqb y.region.0 x.region.0) k rows.items x lt (eq-eqb _ _ (ap (λ (y : ItemRow). y.region.0) (sym is))) (equal_names _ _ (ap (λ (y : ItemRow). y.name) (sym is))))

-- a number that a name has is among the numbers
or_later : (a t : Bool) → t ≡ true → (a || t) ≡ true
or_later true t e = refl
or_later false t e = e

listed : (name : List ℕ) (m : ℕ) (entries : List NameEntry) → option_map (λ (e : NameEntry). e.number) (find (λ (e : NameEntry). bytes_eq name e.name) entries) ≡ Some m → list_any (λ n. eqb m n) (map (λ (e : NameEntry). e.number) entries) ≡ true
listed name m [] e = absurd (cc e)
listed name m (x ∷ xs) e = elim (cases_Bool (bytes_eq name x.name)) [
  | inl holds ↦
      let is : x.number ≡ m = cc (rw holds at e) in
      rw (eq-eqb m x.number (sym is)) refl
  | inr fails ↦ or_later (eqb m x.number) (list_any (λ n. eqb m n) (map (λ (e : NameEntry). e.number) xs)) (listed name m xs (rw fails at e))
]

all_named : (rows : Rows) (region : Region) → IsLawful rows → IsIndexOf rows region → All (IsNamed (number_of region) (map (λ (e : NameEntry). e.number) region.items.entries)) rows.items
all_named rows region lawful index k d lt here =
    let x = get_or rows.items k d in
    let inside : x.region.0 ≡ number_of region = eqb-true _ _ here in
    let found : named x.name region.items ≡ Some (item_number x) =
    index.names x.name ∙ ap (λ m. option_map item_number (item_named rows m x.name)) (sym inside) ∙ ap (option_map item_number) (self_named rows lawful k x lt (get_or_default rows.items k d x lt)) in
    listed x.name (item_number x) region.items.entries found

pub items_taken : (regions : List Region) (items left : List ItemRow) (a b k total : ℕ) (names : NameMap) (n : RegionId) (gone : Region) → IsIndexed (rows_of regions items a b) regions names total → k < length regions → gone ≡ get_or regions k gone → number_of gone ≡ n.0 → left ≡ without_numbers n.0 (map (λ (e : NameEntry). e.number) gone.items.entries) items → left ≡ outside n items
items_taken regions items left a b k total names n gone h lt is number taken =
    let rows = rows_of regions items a b in
    let index = subst (IsIndexOf rows) (sym is) (h.indexes k gone lt) in
    taken ∙ all_taken n.0 (map (λ (e : NameEntry). e.number) gone.items.entries) items (subst (λ m. All (IsNamed m (map (λ (e : NameEntry). e.number) gone.items.entries)) items) number (all_named rows gone h.lawful index))
