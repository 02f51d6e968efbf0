-- A new item, and an item that goes, in the rows and in the index of its region.
use Rattle.std.proofs.Common.{◌≡◌, ◌≢◌, ℕ, ◌+◌, ◌<◌, ◌≤◌, ◌⊎◌, Bool, true, false, cond, eqb, leb, List, [], ◌∷◌, ◌++◌, length, get_or, set, Some, None, inl, inr, refl, sym, ap, ◌∙◌, subst, arith}
use mathlib.Core.Bool.{not, ◌&&◌, ◌||◌}
use Rattle.std.specs.List.{All, AllPairs, filter, find, list_all}
use Rattle.std.specs.Option.{option_map}
use Rattle.std.specs.Str.{bytes_eq}
use Rattle.std.proofs.lemmas.Bool.{cases_eq, cases_lt, eqb-true, eq-eqb, ne_eqb, not_from_false, leb-true, or_cases, and_from}
use Rattle.std.proofs.lemmas.List.{get_or_default}
use Rattle.std.proofs.lemmas.List.Elements.{All-filter, filter_passes}
use Rattle.std.proofs.lemmas.List.Folds.{list_all-append}
use Rattle.fam_base.specs.declared.naming.RegionId.{RegionId}
use Rattle.fam_model.specs.declared.rows.ItemRow.{ItemRow}
use Rattle.fam_model.specs.declared.rows.RegionRow.{RegionRow}
use Rattle.fam_model.specs.declared.rows.Rows.{Rows}
use Rattle.fam_model.specs.Rows.{IsLawful, region_number, item_number, item_named, items_in, room, room_end, is_beside, fits}
use Rattle.fam_rows.proofs.Places.{rises}
use Rattle.region_alloc.specs.declared.extent.Extent.{Extent}
use Rattle.region_alloc.specs.Items.{room_of}
use Rattle.region_alloc.specs.Gaps.{space_with}
use Rattle.region_alloc.specs.Space.{has_room, with_room, without_room}
use Rattle.region_alloc.proofs.Bases.{place_is_base}
use Rattle.fam_directory.specs.declared.region.Region.{Region}
use Rattle.fam_directory.specs.Index.{IsIndexOf, number_of}
use Rattle.fam_directory.specs.Names.{named}
use Rattle.fam_directory.proofs.Indexes.{RoomTaken, RoomFreed, index_kept, grown_elsewhere, items_here, with_room_all}
use Rattle.fam_directory.proofs.Moves.{filter_swap, filter_kept, filter_alike, list_all_filter, list_all_weaker, some_passes, one_passes, set_all, name_added, name_removed, others_differ}

-- a new item in the index of its region

-- no room begins where the new one does
free_base : (rows : Rows) (region : Region) (n base : ℕ) (h : IsIndexOf rows region) → list_all (is_beside n base) (items_in rows (number_of region)) ≡ true → list_all (λ r. not (eqb r.base base)) h.ranges.rooms ≡ true
free_base rows region n base h beside =
    h.ranges.space.same_rooms (λ r. not (eqb r.base base))
    ∙ list_all_weaker (is_beside n base) (λ item. not (eqb item.base base)) (items_in rows (number_of region)) (λ item is. not_from_false (eqb item.base base) (ne_eqb item.base base (λ same.
    elim (or_cases (leb (base + room n) item.base) (leb (room_end item) base) is) [
      | inl before ↦ absurd (let le = leb-true _ _ before in omega (arith, le, same))
      | inr behind ↦ absurd (let le = leb-true _ _ behind in omega (arith, le, same))
    ]))) beside

pub index_grown : (rows new : Rows) (old now : Region) (item : ItemRow) → new.items ≡ rows.items ++ item ∷ [] → number_of old ≡ item.region.0 → item_named rows item.region.0 item.name ≡ None → fits rows old.row item.size item.base ≡ true → list_all (is_beside item.size item.base) (items_in rows (number_of old)) ≡ true → now.row ≡ old.row → ((q : List ℕ) → named q now.items ≡ cond (bytes_eq item.name q) (Some item.number.0) (named q old.items)) → now.room.size ≡ old.room.size → RoomTaken old.room now.room item.base item.size → IsIndexOf rows old → IsIndexOf new now
index_grown rows new old now item grown here unnamed fitting beside row added size rooms h =
    let n = number_of old in
    let n_is : number_of now ≡ number_of old = ap region_number row in
    let list : items_in rows n ++ item ∷ [] ≡ items_in new (number_of now) =
    items_here rows.items item n (sym here) ∙ ap (filter (λ (x : ItemRow). eqb x.region.0 n)) (sym grown) ∙ ap (items_in new) (sym n_is) in
    let absent : find (λ (x : ItemRow). bytes_eq x.name item.name) (items_in rows n) ≡ None = ap (λ m. item_named rows m item.name) here ∙ unnamed in
    record {
      names = λ q. added q ∙ ap (cond (bytes_eq item.name q) (Some item.number.0)) (h.names q)
          ∙ name_added (λ (x : ItemRow). x.name) item_number item (items_in rows n) q absent
          ∙ ap (λ l. option_map item_number (find (λ x. bytes_eq x.name q) l)) list;
      ranges = record {
        rooms = with_room item.base item.size h.ranges.rooms;
        held = rooms h.ranges.rooms h.ranges.held (place_is_base rows old.row (space_with old.room h.ranges.rooms) item.size item.base h.ranges.space ∙ fitting);
        space = record {
          same_size = size ∙ h.ranges.space.same_size ∙ sym (ap (λ (r : RegionRow). r.size) row);
          same_rooms = λ test. with_room_all test item.base item.size h.ranges.rooms (free_base rows old item.size item.base h beside)
              ∙ ap (λ t. t && test (room_of item)) (h.ranges.space.same_rooms test)
              ∙ and_last (list_all (λ (x : ItemRow). test (room_of x)) (items_in rows n)) (test (room_of item))
              ∙ sym (list_all-append (λ (x : ItemRow). test (room_of x)) (items_in rows n) (item ∷ []))
              ∙ ap (list_all (λ (x : ItemRow). test (room_of x))) list;
        };
      };
    } where
      and_last : (a b : Bool) → (a && b) ≡ (a && (b && true))
      and_last true true = refl
      and_last true false = refl
      and_last false b = refl

-- all regions once one of them has a new item
pub indexes_grown : (rows new : Rows) (regions : List Region) (k : ℕ) (now : Region) (item : ItemRow) → AllPairs (λ a b. number_of a < number_of b) regions → new.items ≡ rows.items ++ item ∷ [] → k < length regions → number_of (get_or regions k now) ≡ item.region.0 → All (IsIndexOf rows) regions → IsIndexOf new now → All (IsIndexOf new) (set regions k now)
indexes_grown rows new regions k now item rise grown lt is all here =
    set_all number_of (IsIndexOf rows) (IsIndexOf new) item.region.0 k regions now rise lt is all (λ r other h. grown_elsewhere rows new r item grown other h) here

-- an item that goes

-- the item at a place, and all others
abbrev pub IsOther : ItemRow → ItemRow → Type 0
IsOther x y = (y ≡ x) ⊎ ((item_number y ≢ item_number x) × (y.region ≡ x.region → (y.name ≢ x.name) × (y.base ≢ x.base)))

-- rooms that are apart begin apart
begin_apart : (x y : ItemRow) → (room_end x ≤ y.base) ⊎ (room_end y ≤ x.base) → y.base ≢ x.base
begin_apart x y apart same = elim apart [ inl le ↦ absurd (omega arith) | inr le ↦ absurd (omega arith) ]

pub all_others : (rows : Rows) → IsLawful rows → (k : ℕ) (x : ItemRow) → k < length rows.items → x ≡ get_or rows.items k x → All (IsOther x) rows.items
all_others rows lawful k x lt is j d within = elim (cases_eq j k) [
  | inl same ↦ inl (ap (λ i. get_or rows.items i d) same ∙ get_or_default rows.items k d x lt ∙ sym is)
  | inr other ↦
      let y = get_or rows.items j d in
      let rise = rises item_number rows.items lawful.item_numbers_rise in
      let y_is : get_or rows.items j x ≡ y = get_or_default rows.items j x d within in
      let differs : item_number y ≢ item_number x = subst (λ (z : ItemRow). item_number z ≢ item_number x) y_is (others_differ item_number (item_number x) k j rows.items x rise lt (ap item_number (sym is)) other within) in
      inr (
        differs,
        λ region. elim (cases_lt j k) [
          | inl below ↦
              let apart = lawful.items_are_apart j k x below lt (ap (λ (z : ItemRow). z.region) y_is ∙ region ∙ ap (λ (z : ItemRow). z.region) is) in (
                subst (λ (z : ItemRow). z.name ≢ x.name) y_is (λ e. apart.0 (e ∙ ap (λ (z : ItemRow). z.name) is)),
                begin_apart x y (swap_sides y x (subst (λ (z : ItemRow). (room_end z ≤ x.base) ⊎ (room_end x ≤ z.base)) y_is (subst (λ (z : ItemRow). (room_end (get_or rows.items j x) ≤ z.base) ⊎ (room_end z ≤ (get_or rows.items j x).base)) (sym is) apart.1))),
              )
          | inr above ↦
              let apart = lawful.items_are_apart k j x (omega arith) within (ap (λ (z : ItemRow). z.region) (sym is) ∙ sym region ∙ ap (λ (z : ItemRow). z.region) (sym y_is)) in (
                subst (λ (z : ItemRow). z.name ≢ x.name) y_is (λ e. apart.0 (ap (λ (z : ItemRow). z.name) (sym is) ∙ sym e)),
                begin_apart x y (subst (λ (z : ItemRow). (room_end x ≤ z.base) ⊎ (room_end z ≤ x.base)) y_is (subst (λ (z : ItemRow). (room_end z ≤ (get_or rows.items j x).base) ⊎ (room_end (get_or rows.items j x) ≤ z.base)) (sym is) apart.1)),
              )
        ],
      )
] where
  swap_sides : (a b : ItemRow) → (room_end a ≤ b.base) ⊎ (room_end b ≤ a.base) → (room_end b ≤ a.base) ⊎ (room_end a ≤ b.base)
  swap_sides a b (inl h) = inr h
  swap_sides a b (inr h) = inl h

-- the others of its region
pub others_here : (rows : Rows) (x : ItemRow) → All (IsOther x) rows.items → All (λ y. (y ≡ x) ⊎ ((item_number y ≢ item_number x) × ((y.name ≢ x.name) × (y.base ≢ x.base)))) (items_in rows x.region.0)
others_here rows x all k d lt =
    let test : ItemRow → Bool = λ y. eqb y.region.0 x.region.0 in
    let inside : (get_or (items_in rows x.region.0) k d).region.0 ≡ x.region.0 = eqb-true _ _ (filter_passes test rows.items k d lt) in
    elim (All-filter test (IsOther x) rows.items all k d lt) [
      | inl it ↦ inl it
      | inr other ↦ inr (other.0, other.1 (ap (λ (n : ℕ). let r : RegionId = record { 0 = n } in r) inside))
    ]

-- the room at its base is there
pub room_is_there : (rows : Rows) (region : Region) (k : ℕ) (x : ItemRow) (h : IsIndexOf rows region) → number_of region ≡ x.region.0 → k < length rows.items → x ≡ get_or rows.items k x → has_room x.base x.size h.ranges.rooms ≡ true
room_is_there rows region k x h here lt is =
    some_passes (λ (r : Extent). eqb r.base x.base && eqb r.length (room x.size)) h.ranges.rooms
    ∙ ap not (h.ranges.space.same_rooms (λ r. not (eqb r.base x.base && eqb r.length (room x.size))))
    ∙ sym (some_passes (λ (y : ItemRow). eqb y.base x.base && eqb (room y.size) (room x.size)) (items_in rows (number_of region)))
    ∙ one_passes (λ (y : ItemRow). eqb y.base x.base && eqb (room y.size) (room x.size)) (λ (y : ItemRow). eqb y.region.0 (number_of region)) k rows.items x lt (eq-eqb _ _ (ap (λ (y : ItemRow). y.region.0) (sym is) ∙ sym here))
    (and_from (eqb (get_or rows.items k x).base x.base) _ (eq-eqb _ _ (ap (λ (y : ItemRow). y.base) (sym is))) (eq-eqb _ _ (ap (λ (y : ItemRow). room y.size) (sym is))))

pub index_shrunk : (rows new : Rows) (old now : Region) (k : ℕ) (x : ItemRow) → IsLawful rows → k < length rows.items → x ≡ get_or rows.items k x → new.items ≡ filter (λ y. not (eqb (item_number y) (item_number x))) rows.items → number_of old ≡ x.region.0 → now.row ≡ old.row → ((q : List ℕ) → named q now.items ≡ cond (bytes_eq x.name q) None (named q old.items)) → now.room.size ≡ old.room.size → RoomFreed old.room now.room x.base x.size → IsIndexOf rows old → IsIndexOf new now
index_shrunk rows new old now k x lawful lt is shrunk here row gone size rooms h =
    let n = x.region.0 in
    let xs = items_in rows n in
    let keeps : ItemRow → Bool = λ y. not (eqb (item_number y) (item_number x)) in
    let away : ItemRow → Bool = λ y. not (eqb y.base x.base) in
    let others = others_here rows x (all_others rows lawful k x lt is) in
    let here_now : number_of now ≡ n = ap region_number row ∙ here in
    let list : filter keeps xs ≡ items_in new (number_of now) =
    filter_swap keeps (λ (y : ItemRow). eqb y.region.0 n) rows.items
    ∙ ap (filter (λ (y : ItemRow). eqb y.region.0 n)) (sym shrunk) ∙ ap (items_in new) (sym here_now) in
    let alike : filter away xs ≡ filter keeps xs = filter_alike away keeps xs (λ j d within. elim (others j d within) [
      | inl it ↦ ap not (eq-eqb _ _ (ap (λ (y : ItemRow). y.base) it) ∙ sym (eq-eqb _ _ (ap item_number it)))
      | inr other ↦ ap not (ne_eqb _ _ other.1.1 ∙ sym (ne_eqb _ _ other.0))
    ]) in
    let at_n : IsIndexOf rows old = h in
    record {
      names = λ q. gone q ∙ ap (cond (bytes_eq x.name q) None) (h.names q ∙ ap (λ m. option_map item_number (item_named rows m q)) here)
          ∙ name_removed (λ (y : ItemRow). y.name) item_number (item_number x) x xs q refl (λ j d within. elim (others j d within) [ inl it ↦ inl it | inr other ↦ inr (other.0, other.1.0) ])
          ∙ ap (λ l. option_map item_number (find (λ y. bytes_eq y.name q) l)) list;
      ranges = record {
        rooms = without_room x.base h.ranges.rooms;
        held = rooms h.ranges.rooms h.ranges.held (room_is_there rows old k x h here lt is);
        space = record {
          same_size = size ∙ h.ranges.space.same_size ∙ sym (ap (λ (r : RegionRow). r.size) row);
          same_rooms = λ test.
              list_all_filter test (λ (r : Extent). not (eqb r.base x.base)) h.ranges.rooms
              ∙ h.ranges.space.same_rooms (λ r. not (not (eqb r.base x.base)) || test r)
              ∙ ap (λ m. list_all (λ (y : ItemRow). not (not (eqb y.base x.base)) || test (room_of y)) (items_in rows m)) here
              ∙ sym (list_all_filter (λ (y : ItemRow). test (room_of y)) away xs)
              ∙ ap (list_all (λ (y : ItemRow). test (room_of y))) (alike ∙ list);
        };
      };
    }

-- the items of another region stay
shrunk_elsewhere : (rows new : Rows) (region : Region) (k : ℕ) (x : ItemRow) → IsLawful rows → k < length rows.items → x ≡ get_or rows.items k x → new.items ≡ filter (λ y. not (eqb (item_number y) (item_number x))) rows.items → number_of region ≢ x.region.0 → IsIndexOf rows region → IsIndexOf new region
shrunk_elsewhere rows new region k x lawful lt is shrunk other h =
    let n = number_of region in
    let all = all_others rows lawful k x lt is in
    index_kept rows new region
    (sym (ap (filter (λ (y : ItemRow). eqb y.region.0 n)) shrunk
    ∙ filter_kept (λ (y : ItemRow). eqb y.region.0 n) (λ y. not (eqb (item_number y) (item_number x))) rows.items (λ j d within sought. elim (all j d within) [
      | inl it ↦ absurd (other (sym (eqb-true _ _ sought) ∙ ap (λ (y : ItemRow). y.region.0) it))
      | inr differs ↦ not_from_false _ (ne_eqb _ _ differs.0)
    ]))) h

pub indexes_shrunk : (rows new : Rows) (regions : List Region) (at k : ℕ) (now : Region) (x : ItemRow) → AllPairs (λ a b. number_of a < number_of b) regions → IsLawful rows → k < length rows.items → x ≡ get_or rows.items k x → new.items ≡ filter (λ y. not (eqb (item_number y) (item_number x))) rows.items → at < length regions → number_of (get_or regions at now) ≡ x.region.0 → All (IsIndexOf rows) regions → IsIndexOf new now → All (IsIndexOf new) (set regions at now)
indexes_shrunk rows new regions at k now x rise lawful lt is shrunk within here all index =
    set_all number_of (IsIndexOf rows) (IsIndexOf new) x.region.0 at regions now rise within here all (λ r other h. shrunk_elsewhere rows new r k x lawful lt is shrunk other h) index
