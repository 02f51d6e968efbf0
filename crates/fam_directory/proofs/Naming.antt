-- What a map from names to numbers finds after a change.
use Rattle.std.proofs.Common.{◌≡◌, ℕ, true, false, cond, List, [], ◌∷◌, Option, Vec, Result, Ok, Err, inl, inr, refl, sym, ap, ◌∙◌}
use Rattle.std.specs.List.{find}
use Rattle.std.specs.Map.{lookup, KeepsOthers}
use Rattle.std.specs.Option.{option_map}
use Rattle.std.specs.Result.{IsOk, OnOk}
use Rattle.std.specs.Str.{bytes_eq}
use Rattle.std.proofs.lemmas.Bool.{cases_Bool, false≢true, false_from_ne_true}
use Rattle.std.proofs.lemmas.Slice.Eq.{bytes_eq-Decides}
use Rattle.fam_directory.specs.Names.{NameEntry, entries_of}

-- what holds of a result that is there
pub on_ok : {T E : Type 0} (r : Result T E) (P : Type 0) → IsOk r → OnOk r P → P
on_ok (Ok x) P there h = h
on_ok (Err e) P there h = absurd (cc there)

-- the entries of a map, read as names
pub lookup_is : {Z : Type 0} (name : List ℕ) (es : List (Vec ℕ Z × ℕ)) → lookup (λ k. bytes_eq name k.items) es ≡ option_map (λ e. e.number) (find (λ (e : NameEntry). bytes_eq name e.name) (entries_of es))
lookup_is name [] = refl
lookup_is name (e ∷ es) = elim (cases_Bool (bytes_eq name e.0.items)) [
  | inl holds ↦ rw holds refl
  | inr fails ↦ rw fails (lookup_is name es)
]

-- names that the test finds equal are equal
pub same_name : (a b : List ℕ) → bytes_eq a b ≡ true → a ≡ b
same_name a b e = (bytes_eq-Decides a b).0 e

pub equal_names : (a b : List ℕ) → a ≡ b → bytes_eq a b ≡ true
equal_names a b e = (bytes_eq-Decides a b).1 e

apart : (name other k : List ℕ) → bytes_eq name other ≡ false → bytes_eq name k ≡ true → bytes_eq other k ≡ false
apart name other k differ is = false_from_ne_true (bytes_eq other k) (λ same. false≢true (sym differ ∙ equal_names name other (same_name name k is ∙ sym (same_name other k same))))

-- a change at one name leaves what is found at all others
pub changed : {Z : Type 0} (name : List ℕ) (old new : List (Vec ℕ Z × ℕ)) (w : Option ℕ) → lookup (λ k. bytes_eq name k.items) new ≡ w → KeepsOthers (λ a b. bytes_eq a.items b.items) (λ k. bytes_eq name k.items) old new → (other : List ℕ) → lookup (λ k. bytes_eq other k.items) new ≡ cond (bytes_eq name other) w (lookup (λ k. bytes_eq other k.items) old)
unfolding KeepsOthers
changed {Z} name old new w here others other = elim (cases_Bool (bytes_eq name other)) [
  | inl same ↦
      let is : other ≡ name = sym (same_name name other same) in
      ap (λ n. lookup (λ (k : Vec ℕ Z). bytes_eq n k.items) new) is ∙ here ∙ sym (ap (λ t. cond t w (lookup (λ (k : Vec ℕ Z). bytes_eq other k.items) old)) same)
  | inr differ ↦
      others (λ k. bytes_eq other k.items) (λ x y is. ap (λ n. bytes_eq n y.items) (same_name other x.items is)) (λ k is. apart name other k.items differ is)
      ∙ sym (ap (λ t. cond t w (lookup (λ (k : Vec ℕ Z). bytes_eq other k.items) old)) differ)
]

-- the same of names
pub renamed : {Z : Type 0} (name : List ℕ) (old new : List (Vec ℕ Z × ℕ)) (w : Option ℕ) → lookup (λ k. bytes_eq name k.items) new ≡ w → KeepsOthers (λ a b. bytes_eq a.items b.items) (λ k. bytes_eq name k.items) old new → (other : List ℕ) → option_map (λ e. e.number) (find (λ (e : NameEntry). bytes_eq other e.name) (entries_of new)) ≡ cond (bytes_eq name other) w (option_map (λ e. e.number) (find (λ (e : NameEntry). bytes_eq other e.name) (entries_of old)))
renamed name old new w here others other =
    sym (lookup_is other new) ∙ changed name old new w here others other ∙ ap (cond (bytes_eq name other) w) (lookup_is other old)
