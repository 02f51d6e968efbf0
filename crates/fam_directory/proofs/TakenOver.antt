-- Rows taken over one by one.
use Rattle.std.proofs.Common.{◌≡◌, ◌≢◌, ℕ, ◌+◌, ◌%◌, ◌<◌, ◌≤◌, true, cond, eqb, leb, List, [], ◌∷◌, ◌++◌, length, get_or, take, map, Some, None, inl, inr, refl, sym, ap, ◌∙◌, subst, arith}
use mathlib.Core.Bool.{◌&&◌}
use Rattle.std.specs.List.{All, AllPairs, filter, find, list_all}
use Rattle.std.specs.List.Sorted.{IsStrictlyIncreasing}
use Rattle.std.specs.Option.{option_map}
use Rattle.std.specs.Str.{bytes_eq}
use Rattle.std.proofs.lemmas.Bool.{cases_Bool, eqb-true, eq-eqb, le-leb, and_from, or_left, or_right, false_from_ne_true}
use Rattle.std.proofs.lemmas.List.{get_or-take, length-take-le, take_more, take_all, get_or_default}
use Rattle.std.proofs.lemmas.List.Elements.{All-head, All-tail}
use Rattle.fam_base.specs.declared.naming.RegionId.{RegionId}
use Rattle.fam_model.specs.declared.rows.ItemRow.{ItemRow}
use Rattle.fam_model.specs.declared.rows.RegionRow.{RegionRow}
use Rattle.fam_model.specs.declared.rows.Rows.{Rows}
use Rattle.fam_model.specs.Lists.{find_number, is_some_and}
use Rattle.fam_model.specs.Rows.{IsLawful, AreApart, item_number, region_number, region_of, item_named, items_in, room, room_end, is_beside, fits}
use Rattle.fam_rows.proofs.Places.{rises}
use Rattle.fam_rows.proofs.Standing.{tested}
use Rattle.region_alloc.specs.Gaps.{Holds}
use Rattle.fam_directory.specs.declared.region.Region.{Region}
use Rattle.fam_directory.specs.Index.{IsIndexOf, number_of, rows_of, named_in, without_items}
use Rattle.fam_directory.specs.Names.{NameMap, named}
use Rattle.fam_directory.proofs.Indexes.{index_kept}
use Rattle.fam_directory.proofs.Lookups.{numbers_rise, has_number}
use Rattle.fam_directory.proofs.Moves.{name_added}
use Rattle.fam_directory.proofs.Naming.{same_name}

-- what holds of all pairs, holds of all before an element, and it
pub all_before : {A : Type 0} (R : A → A → Type 0) (xs : List A) (k : ℕ) (x : A) → AllPairs R xs → k < length xs → x ≡ get_or xs k x → All (λ y. R y x) (take k xs)
all_before R xs k x all lt is j d within =
    let below : j < k = omega (arith, length-take-le k xs (omega arith)) in
    let y_is : get_or (take k xs) j d ≡ get_or xs j x = get_or-take k xs j d below ∙ get_or_default xs j d x (omega arith) in
    subst (λ y. R y x) (sym y_is) (subst (R (get_or xs j x)) (sym is) (all j k x below lt))

-- names

unnamed : {A : Type 0} (name : A → List ℕ) (q : List ℕ) (xs : List A) → All (λ y. name y ≢ q) xs → find (λ y. bytes_eq (name y) q) xs ≡ None
unnamed name q [] all = refl
unnamed name q (y ∷ ys) all =
    rw (false_from_ne_true (bytes_eq (name y) q) (λ e. All-head (λ z. name z ≢ q) y ys all (same_name (name y) q e))) (unnamed name q ys (All-tail (λ z. name z ≢ q) y ys all))

pub name_free : (rows : List RegionRow) (k : ℕ) (x : RegionRow) (names : NameMap) → AllPairs (λ a b. a.name ≢ b.name) rows → k < length rows → x ≡ get_or rows k x → ((q : List ℕ) → named q names ≡ named_in q (take k rows)) → named x.name names ≡ None
name_free rows k x names all lt is so_far =
    so_far x.name ∙ ap (option_map region_number) (unnamed (λ (r : RegionRow). r.name) x.name (take k rows) (all_before (λ a b. a.name ≢ b.name) rows k x all lt is))

pub name_more : (rows : List RegionRow) (k : ℕ) (x : RegionRow) (names new : NameMap) → AllPairs (λ a b. a.name ≢ b.name) rows → k < length rows → x ≡ get_or rows k x → ((q : List ℕ) → named q names ≡ named_in q (take k rows)) → ((q : List ℕ) → named q new ≡ cond (bytes_eq x.name q) (Some x.number.0) (named q names)) → (q : List ℕ) → named q new ≡ named_in q (take (k + 1) rows)
name_more rows k x names new all lt is so_far added q =
    added q ∙ ap (cond (bytes_eq x.name q) (Some x.number.0)) (so_far q)
    ∙ name_added (λ (r : RegionRow). r.name) region_number x (take k rows) q (unnamed (λ (r : RegionRow). r.name) x.name (take k rows) (all_before (λ a b. a.name ≢ b.name) rows k x all lt is))
    ∙ ap (named_in q) (ap (λ (r : RegionRow). take k rows ++ r ∷ []) is ∙ sym (take_more rows k x lt))

pub all_named : (rows : List RegionRow) (k : ℕ) (names : NameMap) → length rows ≤ k → ((q : List ℕ) → named q names ≡ named_in q (take k rows)) → (q : List ℕ) → named q names ≡ named_in q rows
all_named rows k names le so_far q = so_far q ∙ ap (named_in q) (take_all k rows le)

-- a region with no items
pub empty_index : (rows : Rows) (region : Region) → ((q : List ℕ) → named q region.items ≡ None) → region.room.size ≡ region.row.size → Holds region.room [] → IsIndexOf (without_items rows) region
empty_index rows region names size rooms = record {
  names = names;
  ranges = record { rooms = []; held = rooms; space = record { same_size = size; same_rooms = λ test. refl } };
}

-- items

same_region : (a b : RegionId) → a.0 ≡ b.0 → a ≡ b
same_region a b e = ap (λ (n : ℕ). let r : RegionId = record { 0 = n } in r) e

absent_here : (x : ItemRow) (xs : List ItemRow) → All (λ y. AreApart y x) xs → find (λ (y : ItemRow). bytes_eq y.name x.name) (filter (λ (y : ItemRow). eqb y.region.0 x.region.0) xs) ≡ None
absent_here x [] all = refl
absent_here x (y ∷ ys) all =
    let rest = absent_here x ys (All-tail (λ z. AreApart z x) y ys all) in
    elim (cases_Bool (eqb y.region.0 x.region.0)) [
      | inl here ↦
          let apart = All-head (λ z. AreApart z x) y ys all (same_region y.region x.region (eqb-true _ _ here)) in
          rw (here, false_from_ne_true (bytes_eq y.name x.name) (λ e. apart.0 (same_name y.name x.name e))) rest
      | inr elsewhere ↦ rw elsewhere rest
    ]

beside_here : (x : ItemRow) (xs : List ItemRow) → All (λ y. AreApart y x) xs → list_all (is_beside x.size x.base) (filter (λ (y : ItemRow). eqb y.region.0 x.region.0) xs) ≡ true
beside_here x [] all = refl
beside_here x (y ∷ ys) all =
    let rest = beside_here x ys (All-tail (λ z. AreApart z x) y ys all) in
    elim (cases_Bool (eqb y.region.0 x.region.0)) [
      | inl here ↦
          let apart = All-head (λ z. AreApart z x) y ys all (same_region y.region x.region (eqb-true _ _ here)) in
          let beside : is_beside x.size x.base y ≡ true = elim apart.1 [
            | inl before ↦ or_right (leb (x.base + room x.size) y.base) (leb (room_end y) x.base) (le-leb _ _ before)
            | inr behind ↦ or_left (leb (x.base + room x.size) y.base) (leb (room_end y) x.base) (le-leb _ _ behind)
          ] in
          rw here (and_from (is_beside x.size x.base y) _ beside rest)
      | inr elsewhere ↦ rw elsewhere rest
    ]

-- the item of a place, where those before it are taken over

pub rising_so_far : (rows : Rows) (regions : List Region) → IsLawful rows → map (λ (r : Region). r.row) regions ≡ rows.regions → IsStrictlyIncreasing (map number_of regions)
rising_so_far rows regions lawful same = numbers_rise regions (subst (λ l. IsStrictlyIncreasing (map region_number l)) (sym same) lawful.region_numbers_rise)

pub absent_so_far : (rows : Rows) (regions : List Region) (items : List ItemRow) (k : ℕ) (x : ItemRow) → IsLawful rows → k < length rows.items → x ≡ get_or rows.items k x → items ≡ take k rows.items → item_named (rows_of regions items 0 0) x.region.0 x.name ≡ None
absent_so_far rows regions items k x lawful lt is taken =
    ap (λ l. find (λ (y : ItemRow). bytes_eq y.name x.name) (filter (λ (y : ItemRow). eqb y.region.0 x.region.0) l)) taken
    ∙ absent_here x (take k rows.items) (all_before AreApart rows.items k x lawful.items_are_apart lt is)

pub fits_so_far : (rows : Rows) (regions : List Region) (items : List ItemRow) (k : ℕ) (x : ItemRow) → IsLawful rows → map (λ (r : Region). r.row) regions ≡ rows.regions → k < length rows.items → x ≡ get_or rows.items k x → items ≡ take k rows.items → is_some_and (region_of (rows_of regions items 0 0) x.region.0) (λ row. fits (rows_of regions items 0 0) row x.size x.base) ≡ true
fits_so_far rows regions items k x lawful same lt is taken =
    let at_k = lawful.items k x lt in
    let aligned : x.base % 64 ≡ 0 = ap (λ (y : ItemRow). y.base % 64) is ∙ at_k.base in
    let inside = at_k.inside in
    let there : region_of rows x.region.0 ≡ Some inside.0 = ap (λ (y : ItemRow). region_of rows y.region.0) is ∙ inside.1 in
    let ends : room_end x ≤ inside.0.size = subst (λ (y : ItemRow). room_end y ≤ inside.0.size) (sym is) inside.2 in
    let found : region_of (rows_of regions items 0 0) x.region.0 ≡ Some inside.0 = ap (find_number region_number x.region.0) same ∙ there in
    let number : region_number inside.0 ≡ x.region.0 = has_number region_number x.region.0 rows.regions inside.0 there in
    let beside : list_all (is_beside x.size x.base) (items_in (rows_of regions items 0 0) (region_number inside.0)) ≡ true =
    (λ i. list_all (is_beside x.size x.base) (filter (λ (y : ItemRow). eqb y.region.0 (number i)) (taken i))) ∙ beside_here x (take k rows.items) (all_before AreApart rows.items k x lawful.items_are_apart lt is) in
    tested (region_of (rows_of regions items 0 0) x.region.0) (λ row. fits (rows_of regions items 0 0) row x.size x.base) inside.0 found
    (and_from (eqb (x.base % 64) 0 && leb (x.base + room x.size) inside.0.size) _ (and_from (eqb (x.base % 64) 0) _ (eq-eqb _ _ aligned) (le-leb _ _ ends)) beside)

pub item_more : (rows : Rows) (items : List ItemRow) (k : ℕ) (x : ItemRow) → k < length rows.items → x ≡ get_or rows.items k x → items ≡ take k rows.items → items ++ x ∷ [] ≡ take (k + 1) rows.items
item_more rows items k x lt is taken = (λ i. taken i ++ is i ∷ []) ∙ sym (take_more rows.items k x lt)

-- indexes of the same items
pub indexes_same : (rows new : Rows) (regions : List Region) → rows.items ≡ new.items → All (IsIndexOf rows) regions → All (IsIndexOf new) regions
indexes_same rows new regions same all k d lt =
    let r = get_or regions k d in
    index_kept rows new r (ap (filter (λ (x : ItemRow). eqb x.region.0 (number_of r))) same) (all k d lt)

-- the next number after an item

pub next_passed : (rows : Rows) → IsLawful rows → (k : ℕ) (x d : ItemRow) → k < length rows.items → x ≡ get_or rows.items k x → k + 1 < length rows.items → item_number x + 1 ≤ item_number (get_or rows.items (k + 1) d)
next_passed rows lawful k x d lt is within =
    let less = rises item_number rows.items lawful.item_numbers_rise k (k + 1) d (omega arith) within in
    let same = ap item_number (is ∙ get_or_default rows.items k x d lt) in
    omega (arith, less, same)

pub next_within : (rows : Rows) → IsLawful rows → (k : ℕ) (x : ItemRow) → k < length rows.items → x ≡ get_or rows.items k x → item_number x + 1 ≤ rows.next_item
next_within rows lawful k x lt is =
    let less = (lawful.items k x lt).number in
    let same = ap item_number is in
    omega (arith, less, same)
