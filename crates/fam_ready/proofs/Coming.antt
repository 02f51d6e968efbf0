-- Which pieces of a context may come, as a fact on the operations that stand in it.
use Rattle.std.proofs.Common.{◌≡◌, ℕ, zero, suc, ◌<◌, Bool, true, false, List, [], ◌∷◌, refl, sym, ap, ◌∙◌, arith, subst}
use Rattle.std.specs.Prelude.{◌==◌, ◌&&◌, ◌||◌, not, nat_le, Option, Some, None, slice_get}
use Rattle.std.specs.List.{list_all, list_any}
use Rattle.std.proofs.lemmas.Option.{slice_get_within}
use Rattle.fam_model.specs.declared.piece.Operation.{Operation}
use Rattle.fam_model.specs.declared.state.Context.{Context}
use Rattle.fam_model.specs.Lists.{is_some_and}
use Rattle.fam_model.specs.Operations.{is_left, has_left, is_past_fences, has_its_bytes, may_come}
use Rattle.fam_ready.specs.Telling.{comes_after, lies_on}
use Rattle.fam_schedule.proofs.Finding.{get_zero, get_next, get_behind, first_of, any_at_place}

-- tests

pub both : (a b : Bool) → a ≡ true → b ≡ true → (a && b) ≡ true
both a b e f = rw (e, f) refl

pub first_true : (a b : Bool) → (a && b) ≡ true → a ≡ true
first_true true b e = refl
first_true false b e = cc

pub second_true : (a b : Bool) → (a && b) ≡ true → b ≡ true
second_true true b e = e
second_true false b e = cc

-- a test that holds just where another does has its value
pub same_tests : (a b : Bool) → (a ≡ true → b ≡ true) → (b ≡ true → a ≡ true) → a ≡ b
same_tests true b e f = sym (e refl)
same_tests false true e f = f refl
same_tests false false e f = refl

-- numbers that are equal pass the test
pub named : (n m : ℕ) → n ≡ m → (n == m) ≡ true
named n m e = grind arith

pub same_some : {A : Type 0} (x y : A) → Some x ≡ Some y → x ≡ y
same_some x y e = cc

-- what passes at each place

pub all_at : {A : Type 0} (test : A → Bool) (xs : List A) (k : ℕ) (x : A) → list_all test xs ≡ true → slice_get xs k ≡ Some x → test x ≡ true
all_at test [] k x h there = let low : k < 0 = slice_get_within [] k x there in let no : ⊥ = omega arith in absurd no
all_at test (y ∷ xs) zero x h there =
    let same : y ≡ x = same_some y x (sym (get_zero y xs) ∙ there) in ap test (sym same) ∙ first_true (test y) (list_all test xs) h
all_at test (y ∷ xs) (suc k) x h there = all_at test xs k x (second_true (test y) (list_all test xs) h) (get_behind y xs k x there)

pub all_from : {A : Type 0} (test : A → Bool) (xs : List A) → ((k : ℕ) (x : A) → slice_get xs k ≡ Some x → test x ≡ true) → list_all test xs ≡ true
all_from test [] h = refl
all_from test (y ∷ xs) h =
    both (test y) (list_all test xs) (h 0 y (get_zero y xs)) (all_from test xs (λ k x there. h (suc k) x (get_next y xs k x there)))

-- a piece that may come

-- the parts of a piece that may come
pub record MayCome (context : Context) (operation : Operation) (i : ℕ) : Type 0 where
  pub left : is_some_and (slice_get operation.pieces i) is_left ≡ true
  pub past : (k : ℕ) (earlier : Operation) → slice_get context.operations k ≡ Some earlier → comes_after operation.epoch earlier ≡ true
  pub bytes : has_its_bytes operation i ≡ true

pub parts_of : (context : Context) (operation : Operation) (i : ℕ) → may_come context operation i ≡ true → MayCome context operation i
unfolding may_come
parts_of context operation i h =
    let left = is_some_and (slice_get operation.pieces i) is_left in
    let rest = is_past_fences context operation && has_its_bytes operation i in
    let is_past : is_past_fences context operation ≡ true = parts left (is_past_fences context operation) (has_its_bytes operation i) h in
    record {
      left = first_part left (is_past_fences context operation) (has_its_bytes operation i) h;
      past = λ k earlier there. all_at (comes_after operation.epoch) context.operations k earlier is_past there;
      bytes = last_part left (is_past_fences context operation) (has_its_bytes operation i) h;
    }
  where
    parts : (a b c : Bool) → (a && b && c) ≡ true → b ≡ true
    parts true true c e = refl
    parts true false c e = cc
    parts false b c e = cc

    first_part : (a b c : Bool) → (a && b && c) ≡ true → a ≡ true
    first_part true b c e = refl
    first_part false b c e = cc

    last_part : (a b c : Bool) → (a && b && c) ≡ true → c ≡ true
    last_part true true c e = e
    last_part true false c e = cc
    last_part false b c e = cc

pub from_parts : (context : Context) (operation : Operation) (i : ℕ) → MayCome context operation i → may_come context operation i ≡ true
unfolding may_come
from_parts context operation i m =
    let past : is_past_fences context operation ≡ true = all_from (comes_after operation.epoch) context.operations m.past in
    whole (is_some_and (slice_get operation.pieces i) is_left) (is_past_fences context operation) (has_its_bytes operation i) m.left past m.bytes
  where
    whole : (a b c : Bool) → a ≡ true → b ≡ true → c ≡ true → (a && b && c) ≡ true
    whole a b c e f g = rw (e, f, g) refl

-- an operation with a piece that may come has one left
pub some_left : (operation : Operation) (i : ℕ) → is_some_and (slice_get operation.pieces i) is_left ≡ true → has_left operation ≡ true
some_left operation i h = at_piece (slice_get operation.pieces i) refl h
  where
    at_piece : (o : Option _) → slice_get operation.pieces i ≡ o → is_some_and o is_left ≡ true → has_left operation ≡ true
    at_piece None e h = cc
    at_piece (Some p) e h = any_at_place is_left operation.pieces i p e h

-- in a context

-- piece i of the call u stands in the context, may come, and lies on the stripe
pub record ComesIn (context : Context) (stripe u i : ℕ) : Type 0 where
  pub place : ℕ
  pub operation : Operation
  pub there : slice_get context.operations place ≡ Some operation
  pub call : operation.call ≡ u
  pub comes : MayCome context operation i
  pub lies : lies_on stripe operation i ≡ true
