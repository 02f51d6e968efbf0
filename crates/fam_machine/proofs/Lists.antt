-- Words of the definitions on lists and options.
use Rattle.std.proofs.Common.{◌≡◌, ℕ, ◌<◌, suc, List, [], ◌∷◌, length, get_or, set, map, Option, Some, None, Bool, true, false, sym, ap, subst, ◌∙◌, arith, refl}
use Rattle.std.specs.Prelude.{◌==◌, ◌&&◌, ◌+◌, nat_lt, cond, slice_get, slice_set, All, filter, find}
use Rattle.std.specs.Option.{option_map_or}
use Rattle.std.specs.List.{position_or_len}
use Rattle.std.specs.List.Sorted.{IsStrictlyIncreasing}
use Rattle.std.proofs.lemmas.Bool.{false≢true}
use Rattle.std.proofs.lemmas.Bool.Decides.{nat_tests}
use Rattle.std.proofs.lemmas.List.{map-set, set-get_or}
use Rattle.std.proofs.lemmas.List.Elements.{All-set, All-tail, All-head}
use Rattle.std.proofs.lemmas.List.Folds.{find_at}
use Rattle.std.proofs.lemmas.Option.{none-some, same_Some, slice_get_within, slice_get_past, get_or_from_slice_get}
use Rattle.fam_model.specs.Lists.{◌>>=◌, when, change_place, change_number, place_of, find_number}
use Rattle.fam_machine.proofs.Places.{below}

-- options

-- a value that comes of another one
pub bind_some : {A B : Type 0} (o : Option A) (f : A → Option B) (y : B) → (o >>= f) ≡ Some y → (x : A) × (o ≡ Some x) × (f x ≡ Some y)
bind_some None f y e = absurd (none-some y e)
bind_some (Some x) f y e = (x, refl, e)

-- a value that is there where a test holds
pub when_some : {A : Type 0} (test : Bool) (x y : A) → when test x ≡ Some y → (test ≡ true) × (x ≡ y)
when_some true x y e = (refl, same_Some x y e)
when_some false x y e = absurd (none-some y e)

-- both tests hold
pub both_true : (a b : Bool) → (a && b) ≡ true → (a ≡ true) × (b ≡ true)
both_true true true e = (refl, refl)
both_true true false e = absurd (false≢true e)
both_true false b e = absurd (false≢true e)

-- elements

-- what holds of each element holds of the one at a place
pub All-at : {A : Type 0} (P : A → Type 0) (xs : List A) (i : ℕ) (x : A) → All P xs → slice_get xs i ≡ Some x → P x
All-at P xs i x all e = subst P (get_or_from_slice_get xs i x x e) (all i x (slice_get_within xs i x e))

-- and of the one of a number
pub All-found : {A : Type 0} (P : A → Type 0) (number : A → ℕ) (n : ℕ) (xs : List A) (x : A) → All P xs → find_number number n xs ≡ Some x → P x
All-found P number n xs x all e =
    let there = bind_some (place_of number n xs) (λ k. slice_get xs k) x e in All-at P xs there.0 x all there.2

changed_at : {A : Type 0} (P : A → Type 0) (k : ℕ) (f : A → A) (xs : List A) → ((x : A) → slice_get xs k ≡ Some x → P x → P (f x)) → All P xs → (o : Option A) → slice_get xs k ≡ o → All P (option_map_or (λ x. slice_set xs k (f x)) o xs)
changed_at P k f xs step all None e = all
changed_at P k f xs step all (Some x) e = All-set P xs k (f x) (step x e (All-at P xs k x all e)) all

-- a change of one element keeps what it keeps of that one
pub All-change_place : {A : Type 0} (P : A → Type 0) (k : ℕ) (f : A → A) (xs : List A) → ((x : A) → slice_get xs k ≡ Some x → P x → P (f x)) → All P xs → All P (change_place k f xs)
All-change_place P k f xs step all = changed_at P k f xs step all (slice_get xs k) refl

changed_number : {A : Type 0} (P : A → Type 0) (f : A → A) (xs : List A) → ((x : A) → P x → P (f x)) → All P xs → (o : Option ℕ) → All P (option_map_or (λ k. change_place k f xs) o xs)
changed_number P f xs step all None = all
changed_number P f xs step all (Some k) = All-change_place P k f xs (λ x e. step x) all

pub All-change_number : {A : Type 0} (P : A → Type 0) (number : A → ℕ) (n : ℕ) (f : A → A) (xs : List A) → ((x : A) → P x → P (f x)) → All P xs → All P (change_number number n f xs)
All-change_number P number n f xs step all = changed_number P f xs step all (place_of number n xs)

same_at : {A B : Type 0} (h : A → B) (k : ℕ) (f : A → A) (xs : List A) → ((x : A) → h (f x) ≡ h x) → (o : Option A) → slice_get xs k ≡ o → map h (option_map_or (λ x. slice_set xs k (f x)) o xs) ≡ map h xs
same_at h k f xs step None e = refl
same_at h k f xs step (Some x) e =
    let back : set xs k x ≡ xs = ap (λ y. set xs k y) (sym (get_or_from_slice_get xs k x x e)) ∙ set-get_or xs k x in
    map-set h xs k (f x) ∙ ap (λ y. set (map h xs) k y) (step x) ∙ sym (map-set h xs k x) ∙ ap (λ ys. map h ys) back

-- what a change leaves of each element, it leaves of the list
pub map-change_place : {A B : Type 0} (h : A → B) (k : ℕ) (f : A → A) (xs : List A) → ((x : A) → h (f x) ≡ h x) → map h (change_place k f xs) ≡ map h xs
map-change_place h k f xs step = same_at h k f xs step (slice_get xs k) refl

same_number : {A B : Type 0} (h : A → B) (f : A → A) (xs : List A) → ((x : A) → h (f x) ≡ h x) → (o : Option ℕ) → map h (option_map_or (λ k. change_place k f xs) o xs) ≡ map h xs
same_number h f xs step None = refl
same_number h f xs step (Some k) = map-change_place h k f xs step

pub map-change_number : {A B : Type 0} (h : A → B) (number : A → ℕ) (n : ℕ) (f : A → A) (xs : List A) → ((x : A) → h (f x) ≡ h x) → map h (change_number number n f xs) ≡ map h xs
map-change_number h number n f xs step = same_number h f xs step (place_of number n xs)

-- looking up by a number

found_or_past : {A : Type 0} (xs : List A) (at : ℕ) (inside : Bool) → nat_lt at (length xs) ≡ inside → (cond inside (Some at) None >>= λ k. slice_get xs k) ≡ slice_get xs at
found_or_past xs at true e = refl
found_or_past xs at false e = sym (slice_get_past xs at (grind (arith, nat_tests)))

-- the element of a number is the first one that has it
pub find_number-find : {A : Type 0} (number : A → ℕ) (n : ℕ) (xs : List A) → find_number number n xs ≡ find (λ x. number x == n) xs
find_number-find number n xs =
    found_or_past xs (position_or_len (λ x. number x == n) xs) (nat_lt (position_or_len (λ x. number x == n) xs) (length xs)) refl
    ∙ sym (find_at (λ x. number x == n) xs)

passed : {A : Type 0} (p : A → Bool) (x y : A) (rest : Option A) (b : Bool) → p x ≡ b → cond b (Some x) rest ≡ Some y → (rest ≡ Some y → p y ≡ true) → p y ≡ true
passed p x y rest true t e later = subst (λ z. p z ≡ true) (same_Some x y e) t
passed p x y rest false t e later = later e

-- what is found passes the test
pub found_passes : {A : Type 0} (p : A → Bool) (xs : List A) (y : A) → find p xs ≡ Some y → p y ≡ true
found_passes p [] y e = absurd (none-some y e)
found_passes p (x ∷ xs) y e = passed p x y (find p xs) (p x) refl e (found_passes p xs y)

held : {A : Type 0} (P : A → Type 0) (x y : A) (rest : Option A) (b : Bool) → P x → cond b (Some x) rest ≡ Some y → (rest ≡ Some y → P y) → P y
held P x y rest true here e later = subst P (same_Some x y e) here
held P x y rest false here e later = later e

-- and is one of the elements
pub found_holds : {A : Type 0} (P : A → Type 0) (p : A → Bool) (xs : List A) (y : A) → find p xs ≡ Some y → All P xs → P y
found_holds P p [] y e all = absurd (none-some y e)
found_holds P p (x ∷ xs) y e all =
    held P x y (find p xs) (p x) (All-head P x xs all) e (λ f. found_holds P p xs y f (All-tail P x xs all))

-- numbers that rise do so behind the first one, and are above it
pub rise_behind : {A : Type 0} (number : A → ℕ) (x : A) (xs : List A) → IsStrictlyIncreasing (map number (x ∷ xs)) → IsStrictlyIncreasing (map number xs)
rise_behind number x xs rise k lt =
    let next : suc k + 1 < length (map number (x ∷ xs)) = omega arith in
    let less : get_or (map number xs) k 0 < get_or (number x ∷ map number xs) (suc k + 1) 0 = rise (suc k) next in
    subst (λ j. get_or (map number xs) k 0 < get_or (number x ∷ map number xs) j 0) {x = suc k + 1} {y = suc (k + 1)} (omega arith) less

pub above_first : {A : Type 0} (number : A → ℕ) (x : A) (xs : List A) → IsStrictlyIncreasing (map number (x ∷ xs)) → All (λ y. number x < number y) xs
above_first number x xs rise k d lt = below number (x ∷ xs) rise 0 (suc k) d (omega arith) (omega arith)

kept_or_not : {A : Type 0} (number : A → ℕ) (n : ℕ) (x y : A) (kept all : Option A) (keep is_x : Bool) → (number x == n) ≡ is_x → (kept ≡ Some y → all ≡ Some y) → (all ≡ Some y → number y ≡ n) → (all ≡ Some y → number x < number y) → (keep ≡ true → cond is_x (Some x) kept ≡ Some y) → (keep ≡ false → kept ≡ Some y) → cond is_x (Some x) all ≡ Some y
kept_or_not number n x y kept all true true t later same above first second = first refl
kept_or_not number n x y kept all true false t later same above first second = later (first refl)
kept_or_not number n x y kept all false true t later same above first second =
    let there = later (second refl) in
    let is_n = same there in let is_above = above there in let here : number x ≡ n = grind (arith, nat_tests) in absurd (omega arith)
kept_or_not number n x y kept all false false t later same above first second = later (second refl)

first_kept : {A : Type 0} (number : A → ℕ) (n : ℕ) (x y : A) (xs : List A) (keep : Bool) → find (λ x. number x == n) (cond keep (x ∷ xs) xs) ≡ Some y → keep ≡ true → cond (number x == n) (Some x) (find (λ x. number x == n) xs) ≡ Some y
first_kept number n x y xs true e t = e
first_kept number n x y xs false e t = absurd (false≢true t)

not_kept : {A : Type 0} (number : A → ℕ) (n : ℕ) (x y : A) (xs : List A) (keep : Bool) → find (λ x. number x == n) (cond keep (x ∷ xs) xs) ≡ Some y → keep ≡ false → find (λ x. number x == n) xs ≡ Some y
not_kept number n x y xs true e t = absurd (false≢true (sym t))
not_kept number n x y xs false e t = e

-- what is found among some elements of different numbers is found among all
pub found-filter : {A : Type 0} (number : A → ℕ) (keep : A → Bool) (n : ℕ) (xs : List A) (y : A) → IsStrictlyIncreasing (map number xs) → find (λ x. number x == n) (filter keep xs) ≡ Some y → find (λ x. number x == n) xs ≡ Some y
found-filter number keep n [] y rise e = absurd (none-some y e)
found-filter number keep n (x ∷ xs) y rise e =
    kept_or_not number n x y (find (λ x. number x == n) (filter keep xs)) (find (λ x. number x == n) xs) (keep x) (number x == n) refl
    (found-filter number keep n xs y (rise_behind number x xs rise))
    (λ there. let pass : (number y == n) ≡ true = found_passes (λ x. number x == n) xs y there in grind (arith, nat_tests))
    (λ there. found_holds (λ y. number x < number y) (λ x. number x == n) xs y there (above_first number x xs rise))
    (first_kept number n x y (filter keep xs) (keep x) e)
    (not_kept number n x y (filter keep xs) (keep x) e)
