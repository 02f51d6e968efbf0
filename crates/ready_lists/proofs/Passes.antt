-- Tests of all or some elements of a list.
use Rattle.std.proofs.Common.{◌≡◌, Bool, true, false, List, [], ◌∷◌, refl, ap, ◌∙◌}
use Rattle.std.specs.Prelude.{◌&&◌, ◌||◌, filter, map}
use Rattle.std.specs.List.{list_all, list_any, flat_map}
use Rattle.std.proofs.lemmas.Bool.{false≢true}
use Rattle.std.proofs.lemmas.List.Folds.{list_all-append, list_any-append}

-- both tests hold
pub both_true : (a b : Bool) → (a && b) ≡ true → (a ≡ true) × (b ≡ true)
both_true true true h = (refl, refl)
both_true true false h = absurd (false≢true h)
both_true false b h = absurd (false≢true h)

-- all elements

-- what two tests imply
pub list_all-both : {A : Type 0} (p q r : A → Bool) (xs : List A) → ((x : A) → p x ≡ true → q x ≡ true → r x ≡ true) → list_all p xs ≡ true → list_all q xs ≡ true → list_all r xs ≡ true
list_all-both p q r [] step h k = refl
list_all-both p q r (x ∷ xs) step h k =
    let b = both_true (p x) (list_all p xs) h in
    let d = both_true (q x) (list_all q xs) k in
    let first : r x ≡ true = step x b.0 d.0 in
    let rest : list_all r xs ≡ true = list_all-both p q r xs step b.1 d.1 in
    rw (first, rest) refl

-- what one test implies
pub list_all-weaken : {A : Type 0} (p q : A → Bool) (xs : List A) → ((x : A) → p x ≡ true → q x ≡ true) → list_all p xs ≡ true → list_all q xs ≡ true
list_all-weaken p q xs step h = list_all-both p p q xs (λ x a b. step x a) h h

-- what holds everywhere
pub list_all-always : {A : Type 0} (p : A → Bool) (xs : List A) → ((x : A) → p x ≡ true) → list_all p xs ≡ true
list_all-always p [] step = refl
list_all-always p (x ∷ xs) step =
    let first : p x ≡ true = step x in
    let rest : list_all p xs ≡ true = list_all-always p xs step in
    rw (first, rest) refl

filter_all : {A : Type 0} (p q : A → Bool) (x : A) (xs : List A) (kept : Bool) → p x ≡ kept → list_all q (x ∷ xs) ≡ true → list_all q (filter p xs) ≡ true → list_all q (filter p (x ∷ xs)) ≡ true
filter_all p q x xs true e h rest =
    let b = both_true (q x) (list_all q xs) h in
    let first : q x ≡ true = b.0 in
    rw (e, first, rest) refl
filter_all p q x xs false e h rest = rw e rest

-- a filter leaves what passes another test
pub list_all-filter : {A : Type 0} (p q : A → Bool) (xs : List A) → list_all q xs ≡ true → list_all q (filter p xs) ≡ true
list_all-filter p q [] h = refl
list_all-filter p q (x ∷ xs) h =
    filter_all p q x xs (p x) refl h (list_all-filter p q xs (both_true (q x) (list_all q xs) h).1)

filter_passes : {A : Type 0} (p : A → Bool) (x : A) (xs : List A) (kept : Bool) → p x ≡ kept → list_all p (filter p xs) ≡ true → list_all p (filter p (x ∷ xs)) ≡ true
filter_passes p x xs true e rest = rw (e, rest) (rw e refl)
filter_passes p x xs false e rest = rw e rest

-- and what passes its own
pub list_all-filtered : {A : Type 0} (p : A → Bool) (xs : List A) → list_all p (filter p xs) ≡ true
list_all-filtered p [] = refl
list_all-filtered p (x ∷ xs) = filter_passes p x xs (p x) refl (list_all-filtered p xs)

-- of many lists
pub list_all-flat_map : {X A : Type 0} (p : A → Bool) (f : X → List A) (xs : List X) → ((x : X) → list_all p (f x) ≡ true) → list_all p (flat_map f xs) ≡ true
list_all-flat_map p f [] step = refl
list_all-flat_map p f (x ∷ xs) step =
    let first : list_all p (f x) ≡ true = step x in
    let rest : list_all p (flat_map f xs) ≡ true = list_all-flat_map p f xs step in
    list_all-append p (f x) (flat_map f xs) ∙ rw (first, rest) refl

-- some elements

-- where another test rules it out
pub list_any-none : {A : Type 0} (p q : A → Bool) (xs : List A) → ((x : A) → p x ≡ true → q x ≡ false) → list_all p xs ≡ true → list_any q xs ≡ false
list_any-none p q [] step h = refl
list_any-none p q (x ∷ xs) step h =
    let b = both_true (p x) (list_all p xs) h in
    let first : q x ≡ false = step x b.0 in
    let rest : list_any q xs ≡ false = list_any-none p q xs step b.1 in
    rw (first, rest) refl

-- of many lists
pub list_any-flat_map : {X A : Type 0} (p : A → Bool) (f : X → List A) (xs : List X) → list_any p (flat_map f xs) ≡ list_any (λ x. list_any p (f x)) xs
list_any-flat_map p f [] = refl
list_any-flat_map p f (x ∷ xs) =
    list_any-append p (f x) (flat_map f xs) ∙ ap (λ b. list_any p (f x) || b) (list_any-flat_map p f xs)

map_filter : {X A : Type 0} (p : A → Bool) (f : X → A) (q : X → Bool) (x : X) (xs : List X) (kept : Bool) → q x ≡ kept → list_any p (map f (filter q xs)) ≡ list_any (λ y. q y && p (f y)) xs → list_any p (map f (filter q (x ∷ xs))) ≡ list_any (λ y. q y && p (f y)) (x ∷ xs)
map_filter p f q x xs true e rest = rw e (ap (λ b. p (f x) || b) rest)
map_filter p f q x xs false e rest = rw e rest

-- of a list that is made of some
pub list_any-map-filter : {X A : Type 0} (p : A → Bool) (f : X → A) (q : X → Bool) (xs : List X) → list_any p (map f (filter q xs)) ≡ list_any (λ x. q x && p (f x)) xs
list_any-map-filter p f q [] = refl
list_any-map-filter p f q (x ∷ xs) = map_filter p f q x xs (q x) refl (list_any-map-filter p f q xs)
