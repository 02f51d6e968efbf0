-- Options, tests and places of lists.
use Rattle.std.proofs.Common.{◌≡◌, ℕ, ◌<◌, Bool, true, false, not, cond, List, length, refl, ap, sym, subst, ◌∙◌, arith, get_or}
use Rattle.std.specs.Prelude.{Option, Some, None, is_some, slice_get, slice_set, All, position, nat_lt}
use Rattle.std.specs.List.{position_or_len}
use Rattle.std.specs.Option.{option_map_or}
use Rattle.std.proofs.lemmas.Bool.{false≢true}
use Rattle.std.proofs.lemmas.Bool.Decides.{nat_tests}
use Rattle.std.proofs.lemmas.List.Elements.{All-set}
use Rattle.std.proofs.lemmas.Option.{get_or_from_slice_get, slice_get_within}
use Rattle.fam_model.specs.Lists.{◌>>=◌, when, is_some_and, change_place, change_number, place_of}

-- a value that is there, and passes a test
pub record Known {A : Type 0} (o : Option A) (test : A → Bool) : Type 0 where
  pub value : A
  pub is : o ≡ Some value
  pub holds : test value ≡ true

pub known : {A : Type 0} (o : Option A) (test : A → Bool) → is_some_and o test ≡ true → Known o test
known None test h = absurd (false≢true h)
known (Some x) test h = record { value = x; is = refl; holds = h }

-- a value that is there
pub there_is : {A : Type 0} (o : Option A) → is_some o ≡ true → Known o (λ _. true)
there_is None h = absurd (false≢true h)
there_is (Some x) h = record { value = x; is = refl; holds = refl }

pub none_is : {A : Type 0} (o : Option A) → is_some o ≡ false → o ≡ None
none_is None h = refl
none_is (Some x) h = absurd (false≢true (sym h))

-- what passes a test is there
pub some_that : {A : Type 0} (o : Option A) (test : A → Bool) → is_some_and o test ≡ true → is_some o ≡ true
some_that None test h = h
some_that (Some x) test h = refl

pub when_some : {A : Type 0} (b : Bool) (x : A) → is_some (when b x) ≡ true → when b x ≡ Some x
when_some true x h = refl
when_some false x h = absurd (false≢true h)

-- a test of what comes of a value
pub through : {A B : Type 0} (o : Option A) (make : A → B) (test : B → Bool) → is_some_and (o >>= λ x. Some (make x)) test ≡ is_some_and o (λ x. test (make x))
through None make test = refl
through (Some x) make test = refl

pub all_get : {A : Type 0} (P : A → Type 0) (xs : List A) (k : ℕ) (x : A) → All P xs → slice_get xs k ≡ Some x → P x
all_get P xs k x h g = subst P (get_or_from_slice_get xs k x x g) (h k x (slice_get_within xs k x g))

all_placed : {A : Type 0} (P : A → Type 0) (k : ℕ) (change : A → A) (xs : List A) (o : Option A) → All P xs → ((x : A) → P (change x)) → All P (option_map_or (λ x. slice_set xs k (change x)) o xs)
all_placed P k change xs None h new = h
all_placed P k change xs (Some x) h new = All-set P xs k (change x) (new x) h

all_numbered : {A : Type 0} (P : A → Type 0) (change : A → A) (xs : List A) (o : Option ℕ) → All P xs → ((x : A) → P (change x)) → All P (option_map_or (λ k. change_place k change xs) o xs)
all_numbered P change xs None h new = h
all_numbered P change xs (Some k) h new = all_placed P k change xs (slice_get xs k) h new

-- all elements, once the one of a number is another
pub all_changed : {A : Type 0} (P : A → Type 0) (number : A → ℕ) (n : ℕ) (change : A → A) (xs : List A) → All P xs → ((x : A) → P (change x)) → All P (change_number number n change xs)
all_changed P number n change xs h new = all_numbered P change xs (place_of number n xs) h new

some_within : (b : Bool) (k i n : ℕ) → nat_lt k n ≡ b → cond b (Some k) None ≡ Some i → i < n
some_within true k i n h e = let same : k ≡ i = cc in let below : k < n = grind (arith, nat_tests) in rw (sym same) below
some_within false k i n h e = absurd (let impossible : ⊥ = cc in impossible)

-- a position is a place of the list
pub position_within : {A : Type 0} (p : A → Bool) (xs : List A) (i : ℕ) → position p xs ≡ Some i → i < length xs
position_within p xs i e = some_within (nat_lt (position_or_len p xs) (length xs)) (position_or_len p xs) i (length xs) refl e
