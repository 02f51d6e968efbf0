-- The first element that passes a test.
use Rattle.std.proofs.Common.{◌≡◌, ℕ, ◌+◌, ◌<◌, Bool, true, false, cond, List, [], ◌∷◌, ◌++◌, refl, sym, ap, ◌∙◌, arith, subst, suc, zero, get_or}
use Rattle.std.specs.Prelude.{◌||◌, not, nat_lt, Option, Some, None, is_some, slice_get, position, length}
use Rattle.std.specs.List.{list_any, position_or_len, flat_map}
use Rattle.std.proofs.lemmas.Bool.Decides.{nat_tests}
use Rattle.std.proofs.lemmas.List.Quantifiers.{position-Some}
use Rattle.std.proofs.lemmas.Option.{slice_get_within, slice_get-get_or, get_or_from_slice_get}

-- lists and places

pub get_zero : {A : Type 0} (x : A) (xs : List A) → slice_get (x ∷ xs) 0 ≡ Some x
get_zero x xs = slice_get-get_or (x ∷ xs) 0 x (omega arith)

pub get_next : {A : Type 0} (x : A) (xs : List A) (k : ℕ) (y : A) → slice_get xs k ≡ Some y → slice_get (x ∷ xs) (suc k) ≡ Some y
get_next x xs k y there =
    let low : k < length xs = slice_get_within xs k y there in
    slice_get-get_or (x ∷ xs) (suc k) y (omega arith) ∙ ap Some (get_or_from_slice_get xs k y y there)

pub get_behind : {A : Type 0} (x : A) (xs : List A) (k : ℕ) (y : A) → slice_get (x ∷ xs) (suc k) ≡ Some y → slice_get xs k ≡ Some y
get_behind x xs k y there =
    let within : suc k < length (x ∷ xs) = slice_get_within (x ∷ xs) (suc k) y there in
    let low : k < length xs = omega arith in
    slice_get-get_or xs k y low ∙ ap Some (get_or_from_slice_get (x ∷ xs) (suc k) y y there)

same_some : {A : Type 0} (x y : A) → Some x ≡ Some y → x ≡ y
same_some x y e = cc

pub get_none : {A : Type 0} (k : ℕ) (x : A) → slice_get [] k ≡ Some x → k < k
get_none k x there = let low : k < 0 = slice_get_within [] k x there in omega arith

-- the first one

-- the least place at which the test holds, and the element there
pub record IsFirst {A : Type 0} (test : A → Bool) (xs : List A) : Type 0 where
  pub place : ℕ
  pub element : A
  pub there : slice_get xs place ≡ Some element
  pub passes : test element ≡ true
  pub least : (i : ℕ) (y : A) → i < place → slice_get xs i ≡ Some y → test y ≡ false

first_here : {A : Type 0} (test : A → Bool) (x : A) (xs : List A) → test x ≡ true → IsFirst test (x ∷ xs)
first_here test x xs e =
    record { place = 0; element = x; there = get_zero x xs; passes = e; least = λ i y low at. let no : ⊥ = omega arith in absurd no }

least_behind : {A : Type 0} (test : A → Bool) (x : A) (xs : List A) (f : IsFirst test xs) → test x ≡ false →
    (i : ℕ) (y : A) → i < suc f.place → slice_get (x ∷ xs) i ≡ Some y → test y ≡ false
least_behind test x xs f e zero y low at = let same : x ≡ y = same_some x y (sym (get_zero x xs) ∙ at) in subst (λ z. test z ≡ false) same e
least_behind test x xs f e (suc i) y low at = f.least i y (omega arith) (get_behind x xs i y at)

first_behind : {A : Type 0} (test : A → Bool) (x : A) (xs : List A) → IsFirst test xs → test x ≡ false → IsFirst test (x ∷ xs)
first_behind test x xs f e =
    record {
      place = suc f.place;
      element = f.element;
      there = get_next x xs f.place f.element f.there;
      passes = f.passes;
      least = least_behind test x xs f e;
    }

pub first_of : {A : Type 0} (test : A → Bool) (xs : List A) → list_any test xs ≡ true → IsFirst test xs
first_of test [] h = cc
first_of test (x ∷ xs) h = by_test (test x) test x xs refl h (λ e. first_of test xs e)
  where
    by_test : {A : Type 0} (b : Bool) (test : A → Bool) (x : A) (xs : List A) → test x ≡ b → list_any test (x ∷ xs) ≡ true →
        (list_any test xs ≡ true → IsFirst test xs) → IsFirst test (x ∷ xs)
    by_test true test x xs e h rest = first_here test x xs e
    by_test false test x xs e h rest =
        let behind : list_any test (x ∷ xs) ≡ list_any test xs = rw e refl in first_behind test x xs (rest (sym behind ∙ h)) e

any_at : {A : Type 0} (test : A → Bool) (xs : List A) (k : ℕ) (x : A) → slice_get xs k ≡ Some x → test x ≡ true → list_any test xs ≡ true
any_at test [] k x there e = let low : k < 0 = slice_get_within [] k x there in let no : ⊥ = omega arith in absurd no
any_at test (y ∷ xs) zero x there e =
    let same : y ≡ x = same_some y x (sym (get_zero y xs) ∙ there) in
    let passes : test y ≡ true = ap test same ∙ e in
    rw passes refl
any_at test (y ∷ xs) (suc k) x there e = or_true (test y) (list_any test xs) (any_at test xs k x (get_behind y xs k x there) e)
  where
    or_true : (a b : Bool) → b ≡ true → (a || b) ≡ true
    or_true true b e = refl
    or_true false b e = e

lt_more : (k n : ℕ) → nat_lt (1 + k) (suc n) ≡ nat_lt k n
lt_more k n = grind (arith, nat_tests)

zero_lt : (n : ℕ) → nat_lt 0 (suc n) ≡ true
zero_lt n = grind (arith, nat_tests)

found_next : (b : Bool) (k : ℕ) → is_some (cond b (Some k) None) ≡ is_some (cond b (Some (1 + k)) None)
found_next true k = refl
found_next false k = refl

found_first : {A : Type 0} (b : Bool) (p : A → Bool) (xs : List A) → list_any p xs ≡ is_some (position p xs) →
    (b || list_any p xs) ≡ is_some (cond (nat_lt (cond (not b) (1 + position_or_len p xs) 0) (suc (length xs))) (Some (cond (not b) (1 + position_or_len p xs) 0)) None)
found_first true p xs e = rw zero_lt refl
found_first false p xs e = rw lt_more (e ∙ found_next (nat_lt (position_or_len p xs) (length xs)) (position_or_len p xs))

-- an element passes the test where a place is found
found_any : {A : Type 0} (p : A → Bool) (xs : List A) → list_any p xs ≡ is_some (position p xs)
found_any p [] = refl
found_any p (x ∷ xs) = found_first (p x) p xs (found_any p xs)

position_by : {A : Type 0} (test : A → Bool) (xs : List A) (k : ℕ) (x : A) (o : Option ℕ) → position test xs ≡ o → list_any test xs ≡ true →
    ((i : ℕ) (y : A) → slice_get xs i ≡ Some y → test y ≡ true → i ≡ k) → position test xs ≡ Some k
position_by test xs k x None e some only = let no : true ≡ false = sym some ∙ found_any test xs ∙ ap is_some e in cc
position_by test xs k x (Some i) e some only =
    let found = position-Some test xs i x e in
    let there : slice_get xs i ≡ Some (get_or xs i x) = slice_get-get_or xs i x found.0 in
    e ∙ ap Some (only i (get_or xs i x) there found.1)

-- where one element alone passes the test, it is found at its place
pub position_is : {A : Type 0} (test : A → Bool) (xs : List A) (k : ℕ) (x : A) → slice_get xs k ≡ Some x → test x ≡ true →
    ((i : ℕ) (y : A) → slice_get xs i ≡ Some y → test y ≡ true → i ≡ k) → position test xs ≡ Some k
position_is test xs k x there passes only = position_by test xs k x (position test xs) refl (any_at test xs k x there passes) only

pub any_at_place : {A : Type 0} (test : A → Bool) (xs : List A) (k : ℕ) (x : A) → slice_get xs k ≡ Some x → test x ≡ true → list_any test xs ≡ true
any_at_place test xs k x there e = any_at test xs k x there e

-- a list of lists that is empty

appended_none : {A : Type 0} (xs ys : List A) → xs ++ ys ≡ [] → (xs ≡ []) × (ys ≡ [])
appended_none [] ys h = (refl, h)
appended_none (x ∷ xs) ys h = cc

pub flat_none : {A B : Type 0} (f : A → List B) (xs : List A) (k : ℕ) (x : A) → flat_map f xs ≡ [] → slice_get xs k ≡ Some x → f x ≡ []
flat_none f [] k x h there = let low : k < 0 = slice_get_within [] k x there in let no : ⊥ = omega arith in absurd no
flat_none f (y ∷ xs) zero x h there =
    let same : y ≡ x = same_some y x (sym (get_zero y xs) ∙ there) in ap f (sym same) ∙ (appended_none (f y) (flat_map f xs) h).0
flat_none f (y ∷ xs) (suc k) x h there = flat_none f xs k x (appended_none (f y) (flat_map f xs) h).1 (get_behind y xs k x there)
