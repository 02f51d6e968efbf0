-- Tests that are true, and steps that gave a value.
use Rattle.std.proofs.Common.{◌≡◌, Bool, true, false, ◌&&◌, List, [], ◌∷◌, ◌++◌, ℕ, Option, Some, None, refl, sym, ◌∙◌}
use Rattle.std.specs.List.{list_all}
use Rattle.std.specs.Str.{bytes_eq}
use Rattle.std.proofs.lemmas.List.Folds.{list_all-append}
use Rattle.std.proofs.lemmas.Slice.Eq.{bytes_eq-Decides}
use Rattle.fam_model.specs.Lists.{◌>>=◌, when}

pub and_both : (b c : Bool) → b ≡ true → c ≡ true → (b && c) ≡ true
and_both true true p q = refl
and_both true false p q = cc
and_both false c p q = cc

pub and_left : (b c : Bool) → (b && c) ≡ true → b ≡ true
and_left true c p = refl
and_left false c p = cc

pub and_right : (b c : Bool) → (b && c) ≡ true → c ≡ true
and_right true c p = p
and_right false c p = cc

module _ {X : Type 0} (p : X → Bool) where
  pub all_both : (xs ys : List X) → list_all p xs ≡ true → list_all p ys ≡ true → list_all p (xs ++ ys) ≡ true
  all_both xs ys a b = list_all-append p xs ys ∙ and_both (list_all p xs) (list_all p ys) a b

  pub all_left : (xs ys : List X) → list_all p (xs ++ ys) ≡ true → list_all p xs ≡ true
  all_left xs ys a = and_left (list_all p xs) (list_all p ys) (sym (list_all-append p xs ys) ∙ a)

  pub all_right : (xs ys : List X) → list_all p (xs ++ ys) ≡ true → list_all p ys ≡ true
  all_right xs ys a = and_right (list_all p xs) (list_all p ys) (sym (list_all-append p xs ys) ∙ a)

  pub all_one : (x : X) → p x ≡ true → list_all p (x ∷ []) ≡ true
  all_one x a = and_both (p x) true a refl

pub all_same : {X : Type 0} (p q : X → Bool) → ((x : X) → p x ≡ true → q x ≡ true) → (xs : List X) → list_all p xs ≡ true → list_all q xs ≡ true
all_same p q h [] a = refl
all_same p q h (x ∷ xs) a =
    and_both (q x) (list_all q xs) (h x (and_left (p x) (list_all p xs) a)) (all_same p q h xs (and_right (p x) (list_all p xs) a))

abbrev some : {A : Type 0} → A → Option A
some x = Some x

abbrev none : {A : Type 0} → Option A
none = None

pub some_is : {A : Type 0} (x y : A) → some x ≡ some y → x ≡ y
some_is x y e = cc

-- a step that gave a value
pub bind_some : {A B : Type 0} (o : Option A) (f : A → Option B) (y : B) → (o >>= f) ≡ some y → (x : A) × (o ≡ some x) × (f x ≡ some y)
bind_some (Some x) f y e = (x, refl, e)
bind_some None f y e = absurd cc

-- a test that let a value through
pub when_some : {A : Type 0} (b : Bool) (x y : A) → when b x ≡ some y → (b ≡ true) × (x ≡ y)
when_some true x y e = (refl, cc)
when_some false x y e = absurd cc

pub when_true : {A : Type 0} (b : Bool) (x : A) → b ≡ true → when b x ≡ some x
when_true true x e = refl
when_true false x e = absurd cc

-- texts

pub same_bytes : (xs ys : List ℕ) → bytes_eq xs ys ≡ true → xs ≡ ys
same_bytes xs ys e = (bytes_eq-Decides xs ys).0 e

pub bytes_same : (xs ys : List ℕ) → xs ≡ ys → bytes_eq xs ys ≡ true
bytes_same xs ys e = (bytes_eq-Decides xs ys).1 e
