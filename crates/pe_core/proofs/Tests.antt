-- Tests that are true.
use Rattle.std.proofs.Common.{◌≡◌, Bool, true, false, ◌&&◌, List, [], ◌∷◌, ◌++◌, Option, Some, refl, ◌∙◌}
use Rattle.std.specs.List.{list_all}
use Rattle.std.proofs.lemmas.List.Folds.{list_all-append}

pub and_both : (b c : Bool) → b ≡ true → c ≡ true → (b && c) ≡ true
and_both true true p q = refl
and_both true false p q = cc
and_both false c p q = cc

pub and_left : (b c : Bool) → (b && c) ≡ true → b ≡ true
and_left true c p = refl
and_left false c p = cc

pub and_right : (b c : Bool) → (b && c) ≡ true → c ≡ true
and_right true c p = p
and_right false c p = cc

module _ {X : Type 0} (p : X → Bool) where
  pub all_both : (xs ys : List X) → list_all p xs ≡ true → list_all p ys ≡ true → list_all p (xs ++ ys) ≡ true
  all_both xs ys a b = list_all-append p xs ys ∙ and_both (list_all p xs) (list_all p ys) a b

  pub all_one : (x : X) → p x ≡ true → list_all p (x ∷ []) ≡ true
  all_one x a = and_both (p x) true a refl

abbrev some : {A : Type 0} → A → Option A
some x = Some x

pub some_is : {A : Type 0} (x y : A) → some x ≡ some y → x ≡ y
some_is x y e = cc
