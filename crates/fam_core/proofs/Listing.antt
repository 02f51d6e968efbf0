-- Lists of actors that grow.
use Rattle.std.proofs.Common.{◌≡◌, ℕ, ◌+◌, Bool, true, false, List, [], ◌∷◌, ◌++◌, map, length, refl, sym, ap, ◌∙◌, arith, suc, zero, append_assoc, append-nil, ◌<◌, ◌≤◌}
use Rattle.std.specs.Prelude.{filter, if◌then◌else◌, not, ◌==◌}
use Rattle.std.specs.List.{range_with_len}
use Rattle.std.proofs.lemmas.List.{map-append}
use Rattle.fam_model.specs.Lists.{numbers_below}
use Rattle.fam_schedule.specs.Schedule.{Actor, is_some_of}
use Rattle.fam_core.specs.declared.actors.Actor.{Actor as Listed}
use Rattle.fam_core.specs.Playing.{actor_of}

range_more : (a n : ℕ) → range_with_len a (suc n) ≡ range_with_len a n ++ (a + n) ∷ []
range_more a zero = let same : a ≡ a + 0 = omega arith in ap (λ k. k ∷ []) same
range_more a (suc n) = let same : (a + 1) + n ≡ a + suc n = omega arith in ap (λ xs. a ∷ xs) (range_more (a + 1) n ∙ ap (λ k. range_with_len (a + 1) n ++ k ∷ []) same)

filtered_cons : (test : ℕ → Bool) (b : Bool) (x : ℕ) (all xs ys : List ℕ) → test x ≡ b → filter test all ≡ filter test xs ++ filter test ys →
    (if test x then x ∷ filter test all else filter test all) ≡ (if test x then x ∷ filter test xs else filter test xs) ++ filter test ys
filtered_cons test true x all xs ys e rest = rw e (ap (λ zs. x ∷ zs) rest)
filtered_cons test false x all xs ys e rest = rw e rest

filtered_append : (test : ℕ → Bool) (xs ys : List ℕ) → filter test (xs ++ ys) ≡ filter test xs ++ filter test ys
filtered_append test [] ys = refl
filtered_append test (x ∷ xs) ys = filtered_cons test (test x) x (xs ++ ys) xs ys refl (filtered_append test xs ys)

below_more : (n : ℕ) → numbers_below (n + 1) ≡ numbers_below n ++ n ∷ []
below_more n = let next : n + 1 ≡ suc n = omega arith in let number : 0 + n ≡ n = omega arith in
    ap (range_with_len 0) next ∙ range_more 0 n ∙ ap (λ k. numbers_below n ++ k ∷ []) number

pub filter_passed : (test : ℕ → Bool) (n : ℕ) → test n ≡ true → filter test (numbers_below (n + 1)) ≡ filter test (numbers_below n) ++ n ∷ []
filter_passed test n e = ap (filter test) (below_more n) ∙ filtered_append test (numbers_below n) (n ∷ []) ∙ ap (λ ys. filter test (numbers_below n) ++ ys) (rw e refl)

pub filter_skipped : (test : ℕ → Bool) (n : ℕ) → test n ≡ false → filter test (numbers_below (n + 1)) ≡ filter test (numbers_below n)
filter_skipped test n e = ap (filter test) (below_more n) ∙ filtered_append test (numbers_below n) (n ∷ []) ∙ ap (λ ys. filter test (numbers_below n) ++ ys) (rw e refl) ∙ append-nil (filter test (numbers_below n))

-- one more is listed
pub listed_more : (g : ℕ → Actor) (test : ℕ → Bool) (n : ℕ) (base : List Actor) (xs : List Listed) (new : Listed) → actor_of new ≡ g n → test n ≡ true →
    map actor_of xs ≡ base ++ map g (filter test (numbers_below n)) → map actor_of (xs ++ new ∷ []) ≡ base ++ map g (filter test (numbers_below (n + 1)))
listed_more g test n base xs new is passes same =
    let so_far = filter test (numbers_below n) in
    map-append actor_of xs (new ∷ [])
    ∙ ap (λ ys. ys ++ actor_of new ∷ []) same
    ∙ append_assoc base (map g so_far) (actor_of new ∷ [])
    ∙ ap (λ y. base ++ (map g so_far ++ y ∷ [])) is
    ∙ ap (λ ys. base ++ ys) (sym (ap (map g) (filter_passed test n passes) ∙ map-append g so_far (n ∷ [])))

pub listed_same : (g : ℕ → Actor) (test : ℕ → Bool) (n : ℕ) (base : List Actor) (xs : List Listed) → test n ≡ false →
    map actor_of xs ≡ base ++ map g (filter test (numbers_below n)) → map actor_of xs ≡ base ++ map g (filter test (numbers_below (n + 1)))
listed_same g test n base xs fails same = same ∙ ap (λ ys. base ++ map g ys) (sym (filter_skipped test n fails))

-- a list that has a name

pub some_there : {A : Type 0} (xs : List A) (count : ℕ) → count ≡ length xs → 0 < count → is_some_of xs ≡ true
some_there [] count e h = let no : ⊥ = omega (arith, e, h) in absurd no
some_there (x ∷ xs) count e h = not_zero (length (x ∷ xs)) (omega (arith, e, h))
  where
    not_zero : (n : ℕ) → 0 < n → not (n == 0) ≡ true
    not_zero n h = grind arith

pub none_there : {A : Type 0} (xs : List A) (count : ℕ) → count ≡ length xs → count ≤ 0 → is_some_of xs ≡ false
none_there xs count e h = zero_is (length xs) (omega (arith, e, h))
  where
    zero_is : (n : ℕ) → n ≤ 0 → not (n == 0) ≡ false
    zero_is n h = grind arith
