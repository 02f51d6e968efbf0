-- What is found by number and by name.
use Rattle.std.proofs.Common.{◌≡◌, ℕ, suc, ◌<◌, Bool, true, eqb, List, [], ◌∷◌, length, get_or, map, Option, Some, None, inl, inr, refl, sym, ap, ◌∙◌, subst, arith}
use Rattle.std.specs.List.{All, AllPairs, filter, find, slice_get}
use Rattle.std.specs.List.Sorted.{IsStrictlyIncreasing}
use Rattle.std.specs.Option.{option_map}
use Rattle.std.specs.Str.{bytes_eq}
use Rattle.std.proofs.lemmas.Bool.{cases_Bool, eqb-true, eq-eqb, ne_eqb}
use Rattle.std.proofs.lemmas.List.Elements.{All-filter, All-head, All-tail}
use Rattle.std.proofs.lemmas.Option.{slice_get_read}
use Rattle.fam_model.specs.declared.rows.ItemRow.{ItemRow}
use Rattle.fam_model.specs.declared.rows.RegionRow.{RegionRow}
use Rattle.fam_model.specs.declared.rows.Rows.{Rows}
use Rattle.fam_model.specs.Lists.{◌>>=◌, find_number, place_of}
use Rattle.fam_model.specs.Rows.{IsLawful, region_number, item_number, region_of, item_of, region_named, item_named, items_in}
use Rattle.fam_rows.proofs.Places.{rises}
use Rattle.fam_rows.proofs.Searches.{find_number_is, passes_found, All_found}
use Rattle.fam_directory.specs.declared.region.Region.{Region}
use Rattle.fam_directory.specs.Index.{IsIndexOf, IsIndexed, IsEntry, number_of, rows_of}
use Rattle.fam_directory.specs.Names.{NameMap}

pub map_map : {A B C : Type 0} (f : A → B) (g : B → C) (xs : List A) → map g (map f xs) ≡ map (λ x. g (f x)) xs
map_map f g [] = refl
map_map f g (x ∷ xs) = ap (λ l. g (f x) ∷ l) (map_map f g xs)

-- the numbers of regions with their indexes rise
pub numbers_rise : (regions : List Region) → IsStrictlyIncreasing (map region_number (map (λ region. region.row) regions)) → IsStrictlyIncreasing (map number_of regions)
numbers_rise regions h = subst IsStrictlyIncreasing (map_map (λ (region : Region). region.row) region_number regions) h

pub find_map : {A B : Type 0} (f : A → B) (p : B → Bool) (xs : List A) → find p (map f xs) ≡ option_map f (find (λ x. p (f x)) xs)
find_map f p [] = refl
find_map f p (x ∷ xs) = elim (cases_Bool (p (f x))) [
  | inl holds ↦ rw holds refl
  | inr fails ↦ rw fails (find_map f p xs)
]

-- the region of a number, by the entries
pub region_of_is : (regions : List Region) (items : List ItemRow) (next_region next_item n : ℕ) → region_of (rows_of regions items next_region next_item) n ≡ option_map (λ region. region.row) (find_number number_of n regions)
region_of_is regions items next_region next_item n =
    find_number_is region_number n (map (λ (region : Region). region.row) regions)
    ∙ find_map (λ (region : Region). region.row) (λ row. eqb (region_number row) n) regions
    ∙ ap (option_map (λ (region : Region). region.row)) (sym (find_number_is number_of n regions))

-- an element of a number, at its place
pub at_place : {A : Type 0} (number : A → ℕ) (n k : ℕ) (xs : List A) (x : A) → Some k ≡ place_of number n xs → k < length xs → x ≡ get_or xs k x → find_number number n xs ≡ Some x
at_place number n k xs x is within read = ap (λ o. o >>= λ j. slice_get xs j) (sym is) ∙ slice_get_read xs (length xs) k x refl within read

pub no_place : {A : Type 0} (number : A → ℕ) (n : ℕ) (xs : List A) → None ≡ place_of number n xs → find_number number n xs ≡ None
no_place number n xs is = ap (λ o. o >>= λ j. slice_get xs j) (sym is)

-- what is found has the number
pub has_number : {A : Type 0} (number : A → ℕ) (n : ℕ) (xs : List A) (x : A) → find_number number n xs ≡ Some x → number x ≡ n
has_number number n xs x e = eqb-true (number x) n (passes_found (λ y. eqb (number y) n) xs x (sym (find_number_is number n xs) ∙ e))

-- the number of the region that is there
pub row_number : (rows : Rows) (n : ℕ) (row : RegionRow) → region_of rows n ≡ Some row → region_number row ≡ n
row_number rows n row e = has_number region_number n rows.regions row e

-- a region that is not there has no items
no_items : (rows : Rows) → IsLawful rows → (n : ℕ) → region_of rows n ≡ None → (items : List ItemRow) → All (λ item. (region : RegionRow) × (region_of rows item.region.0 ≡ Some region)) items → filter (λ item. eqb item.region.0 n) items ≡ []
no_items rows lawful n none [] all = refl
no_items rows lawful n none (x ∷ xs) all =
    let there = All-head (λ (item : ItemRow). (region : RegionRow) × (region_of rows item.region.0 ≡ Some region)) x xs all in
    rw (ne_eqb x.region.0 n (λ same. absurd (cc (sym none ∙ ap (region_of rows) (sym same) ∙ there.1)))) (no_items rows lawful n none xs (All-tail (λ (item : ItemRow). (region : RegionRow) × (region_of rows item.region.0 ≡ Some region)) x xs all))

pub items_of_none : (rows : Rows) → IsLawful rows → (n : ℕ) → region_of rows n ≡ None → items_in rows n ≡ []
items_of_none rows lawful n none = no_items rows lawful n none rows.items (λ k d lt. let inside = (lawful.items k d lt).inside in (inside.0, inside.1))

-- the entry that is found
pub entry_found : (regions : List Region) (items : List ItemRow) (next_region next_item n k total : ℕ) (names : NameMap) (region : Region) → IsIndexed (rows_of regions items next_region next_item) regions names total → Some k ≡ place_of number_of n regions → k < length regions → region ≡ get_or regions k region → IsEntry (rows_of regions items next_region next_item) n (Some region)
entry_found regions items next_region next_item n k total names region h is within read = (
  region_of_is regions items next_region next_item n ∙ ap (option_map (λ (r : Region). r.row)) (at_place number_of n k regions region is within read),
  subst (IsIndexOf (rows_of regions items next_region next_item)) (sym read) (h.indexes k region within),
)

pub entry_missing : (regions : List Region) (items : List ItemRow) (next_region next_item n : ℕ) → IsLawful (rows_of regions items next_region next_item) → None ≡ place_of number_of n regions → IsEntry (rows_of regions items next_region next_item) n None
entry_missing regions items next_region next_item n lawful is =
    let none = region_of_is regions items next_region next_item n ∙ ap (option_map (λ (r : Region). r.row)) (no_place number_of n regions is) in
    (none, items_of_none (rows_of regions items next_region next_item) lawful n none)

-- where numbers rise, what is found by another test is found by its number

head_below : {A : Type 0} (number : A → ℕ) (x : A) (xs : List A) → AllPairs (λ a b. number a < number b) (x ∷ xs) → All (λ y. number x < number y) xs
head_below number x xs h k d lt = h 0 (suc k) d (omega arith) (omega arith)

tail_rises : {A : Type 0} (number : A → ℕ) (x : A) (xs : List A) → AllPairs (λ a b. number a < number b) (x ∷ xs) → AllPairs (λ a b. number a < number b) xs
tail_rises number x xs h i j d lt within = h (suc i) (suc j) d (omega arith) (omega arith)

pub found_by_number : {A : Type 0} (number : A → ℕ) (p q : A → Bool) (xs : List A) (x : A) → AllPairs (λ a b. number a < number b) xs → find p (filter q xs) ≡ Some x → find (λ y. eqb (number y) (number x)) xs ≡ Some x
found_by_number number p q [] x h e = absurd (cc e)
found_by_number {A} number p q (y ∷ ys) x h e =
    let later : find p (filter q ys) ≡ Some x → find (λ z. eqb (number z) (number x)) (y ∷ ys) ≡ Some x = λ (found : find p (filter q ys) ≡ Some x).
    (let below : number y < number x = All_found (λ z. number y < number z) p (filter q ys) x (All-filter q (λ z. number y < number z) ys (head_below number y ys h)) found in
    rw (ne_eqb (number y) (number x) (λ same. absurd (omega arith))) (found_by_number number p q ys x (tail_rises number y ys h) found)) in
    elim (cases_Bool (q y)) [
      | inl kept ↦ elim (cases_Bool (p y)) [
        | inl holds ↦
            let first : find p (filter q (y ∷ ys)) ≡ Some y = rw (kept, holds) refl in
            let same : y ≡ x = cc (sym first ∙ e) in
            rw (eq-eqb (number y) (number x) (ap number same)) (ap Some same)
        | inr fails ↦ later (rw (kept, fails) at e)
      ]
      | inr dropped ↦ later (rw dropped at e)
    ]

all_kept : {A : Type 0} (xs : List A) → filter (λ x. true) xs ≡ xs
all_kept [] = refl
all_kept (x ∷ xs) = ap (λ l. x ∷ l) (all_kept xs)

pub region_by_number : (rows : Rows) → IsLawful rows → (name : List ℕ) (row : RegionRow) → region_named rows name ≡ Some row → region_of rows (region_number row) ≡ Some row
region_by_number rows lawful name row e =
    find_number_is region_number (region_number row) rows.regions
    ∙ found_by_number region_number (λ r. bytes_eq r.name name) (λ r. true) rows.regions row (rises region_number rows.regions lawful.region_numbers_rise) (ap (find (λ (r : RegionRow). bytes_eq r.name name)) (all_kept rows.regions) ∙ e)

pub item_by_number : (rows : Rows) → IsLawful rows → (region : ℕ) (name : List ℕ) (row : ItemRow) → item_named rows region name ≡ Some row → item_of rows (item_number row) ≡ Some row
item_by_number rows lawful region name row e =
    find_number_is item_number (item_number row) rows.items
    ∙ found_by_number item_number (λ r. bytes_eq r.name name) (λ r. eqb r.region.0 region) rows.items row (rises item_number rows.items lawful.item_numbers_rise) e

-- a row by the number that its name has

pub region_from_name : (rows : Rows) → IsLawful rows → (name : List ℕ) (n : ℕ) (found : Option RegionRow) → Some n ≡ option_map region_number (region_named rows name) → found ≡ region_of rows n → found ≡ region_named rows name
region_from_name rows lawful name n found e is = by (region_named rows name) refl e where
  by : (o : Option RegionRow) → region_named rows name ≡ o → Some n ≡ option_map region_number o → found ≡ region_named rows name
  by None was e = absurd (cc e)
  by (Some row) was e =
      let same : n ≡ region_number row = cc e in
      is ∙ ap (region_of rows) same ∙ region_by_number rows lawful name row was ∙ sym was

pub item_from_name : (rows : Rows) → IsLawful rows → (region : ℕ) (name : List ℕ) (n : ℕ) (found : Option ItemRow) → Some n ≡ option_map item_number (item_named rows region name) → found ≡ item_of rows n → found ≡ item_named rows region name
item_from_name rows lawful region name n found e is = by (item_named rows region name) refl e where
  by : (o : Option ItemRow) → item_named rows region name ≡ o → Some n ≡ option_map item_number o → found ≡ item_named rows region name
  by None was e = absurd (cc e)
  by (Some row) was e =
      let same : n ≡ item_number row = cc e in
      is ∙ ap (item_of rows) same ∙ item_by_number rows lawful region name row was ∙ sym was

-- no number, no row
pub no_row : {A : Type 0} (number : A → ℕ) (o : Option A) → None ≡ option_map number o → None ≡ o
no_row number None e = refl
no_row number (Some x) e = absurd (cc e)
