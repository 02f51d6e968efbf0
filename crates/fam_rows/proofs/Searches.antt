-- What `find` finds, and the bounds of rows that are found.
use Rattle.std.proofs.Common.{◌≡◌, ℕ, ◌%◌, ◌<◌, ◌≤◌, Bool, true, false, eqb, List, [], ◌∷◌, length, get_or, Option, Some, None, is_none, is_some, inl, inr, refl, sym, ap, ◌∙◌, subst, arith}
use mathlib.Core.Bool.{not}
use Rattle.std.specs.List.{All, find, list_any, position_or_len}
use Rattle.std.proofs.lemmas.Bool.{false≢true, cases_Bool, cases_lt, lt-ltb, le-ltb}
use Rattle.std.proofs.lemmas.List.Elements.{All-head, All-tail, All-filter}
use Rattle.std.proofs.lemmas.List.Folds.{find_at}
use Rattle.std.proofs.lemmas.Option.{slice_get_past}
use Rattle.fam_model.specs.declared.rows.RegionRow.{RegionRow}
use Rattle.fam_model.specs.declared.rows.ItemRow.{ItemRow}
use Rattle.fam_model.specs.declared.rows.Rows.{Rows}
use Rattle.fam_model.specs.Limits.{max_region_size}
use Rattle.fam_model.specs.Lists.{find_number}
use Rattle.fam_model.specs.Rows.{IsLawful, IsLawfulRegion, region_number, room_end, items_in}

-- what is found passes the test
pub passes_found : {X : Type 0} (p : X → Bool) (xs : List X) (x : X) → find p xs ≡ Some x → p x ≡ true
passes_found p [] x e = cc
passes_found p (y ∷ xs) x e = elim (cases_Bool (p y)) [
  | inl holds ↦ let here : y ≡ x = (let step : find p (y ∷ xs) ≡ Some y = rw holds refl in cc (sym step ∙ e)) in subst (λ (z : _). p z ≡ true) here holds
  | inr fails ↦ passes_found p xs x ((rw fails at e))
]

-- what holds of all elements, holds of the one that is found
pub All_found : {X : Type 0} (P : X → Type 0) (p : X → Bool) (xs : List X) (x : X) → All P xs → find p xs ≡ Some x → P x
All_found P p [] x all e = absurd (cc e)
All_found P p (y ∷ xs) x all e = elim (cases_Bool (p y)) [
  | inl holds ↦ let here : y ≡ x = (let step : find p (y ∷ xs) ≡ Some y = rw holds refl in cc (sym step ∙ e)) in subst P here (All-head P y xs all)
  | inr fails ↦ All_found P p xs x (All-tail P y xs all) (rw fails at e)
]

-- no element passes where none is found
pub find_none : {X : Type 0} (p : X → Bool) (xs : List X) → is_none (find p xs) ≡ not (list_any p xs)
find_none p [] = refl
find_none p (x ∷ xs) = elim (cases_Bool (p x)) [
  | inl holds ↦ rw holds refl
  | inr fails ↦ rw fails (find_none p xs)
]

-- the element of a number is the first that has it
pub find_number_is : {X : Type 0} (number : X → ℕ) (n : ℕ) (xs : List X) → find_number number n xs ≡ find (λ x. eqb (number x) n) xs
find_number_is {X} number n xs =
    let p : X → Bool = λ x. eqb (number x) n in
    elim (cases_lt (position_or_len p xs) (length xs)) [
      | inl inside ↦ rw (lt-ltb (position_or_len p xs) (length xs) inside) (sym (find_at p xs))
      | inr past ↦ rw (le-ltb (position_or_len p xs) (length xs) past) (sym (find_at p xs ∙ slice_get_past xs (position_or_len p xs) past))
    ]

-- a region that is there is lawful
pub lawful_region : (rows : Rows) → IsLawful rows → (n : ℕ) (row : RegionRow) → find_number region_number n rows.regions ≡ Some row → IsLawfulRegion rows row
lawful_region rows lawful n row e = All_found (IsLawfulRegion rows) (λ x. eqb (region_number x) n) rows.regions row lawful.regions (sym (find_number_is region_number n rows.regions) ∙ e)

-- each item's room ends within the size that a region may have
pub room_ends : (rows : Rows) → IsLawful rows → (k : ℕ) (d : ItemRow) → k < length rows.items → room_end (get_or rows.items k d) ≤ max_region_size
room_ends rows lawful k d in_range =
    let inside = (lawful.items k d in_range).inside in
    let size = (lawful_region rows lawful _ inside.0 inside.1).size in
    omega (arith, inside.2, size)

-- the items of a region begin at multiples of 64
pub aligned_items : (rows : Rows) → IsLawful rows → (region : ℕ) → All (λ x. x.base % 64 ≡ 0) (items_in rows region)
aligned_items rows lawful region = All-filter (λ item. eqb item.region.0 region) (λ x. x.base % 64 ≡ 0) rows.items (λ k d in_range. (lawful.items k d in_range).base)

-- an answer that says that nothing was found
pub none_found : {X : Type 0} (p : X → Bool) (xs : List X) (o : Option X) (r : Bool) → not r ≡ is_some o → o ≡ find p xs → r ≡ not (list_any p xs)
none_found p xs None true is e = ap is_none e ∙ find_none p xs
none_found p xs None false is e = absurd (false≢true (sym is))
none_found p xs (Some x) true is e = absurd (false≢true is)
none_found p xs (Some x) false is e = ap is_none e ∙ find_none p xs
