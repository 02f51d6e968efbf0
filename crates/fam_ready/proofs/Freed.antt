-- Which pieces of a context may come as before once one of them was answered or lost.
use Rattle.std.proofs.Common.{◌≡◌, ℕ, zero, suc, ◌+◌, ◌-◌, ◌<◌, ◌≤◌, Bool, true, false, List, [], ◌∷◌, refl, sym, ap, ◌∙◌, arith, subst, inl, inr, length}
use Rattle.std.specs.Prelude.{◌==◌, ◌%◌, ◌&&◌, ◌||◌, ◌≢◌, ◌⊎◌, not, nat_le, Option, Some, None, slice_get, slice_set}
use Rattle.std.proofs.lemmas.Bool.{eqb-true, cases_lt}
use Rattle.std.proofs.lemmas.Bool.Decides.{nat_tests}
use Rattle.std.proofs.lemmas.Option.{slice_get_within}
use Rattle.fam_model.specs.declared.piece.MarkedPiece.{MarkedPiece}
use Rattle.fam_model.specs.declared.piece.Operation.{Operation}
use Rattle.fam_model.specs.declared.state.Context.{Context}
use Rattle.fam_model.specs.Lists.{is_some_and}
use Rattle.fam_model.specs.Operations.{is_left, is_served, has_left, is_copy, is_copy_write, has_its_bytes}
use Rattle.fam_model.specs.PieceStep.{is_read, is_copy_read}
use Rattle.fam_schedule.proofs.Keeps.{AreChanges, becomes, both_changed, with_both, get_both, from_both, becomes_place}
use Rattle.fam_schedule.proofs.Places.{get_set_same, get_set_other}
use Rattle.fam_ready.specs.Telling.{comes_after, lies_on, Covers}
use Rattle.fam_ready.proofs.Coming.{same_some, MayCome, ComesIn, some_left, second_true}
use Rattle.fam_ready.proofs.Kept.{SameIn, not_later}
use Rattle.fam_ready.proofs.Tidy.{answered_at, answered_left}
use Rattle.fam_ready.proofs.Turns.{IsAnswered}

-- the pieces of the operation

-- a piece that is not changed
same_piece : (o : Operation) (reads : Bool) (j : ℕ) (first second : MarkedPiece → MarkedPiece) (i : ℕ) → (i == j) ≡ false → (reads && (i == j + 1)) ≡ false →
    slice_get (both_changed reads j first second o.pieces) i ≡ slice_get o.pieces i
same_piece o reads j first second i e f = by_old (slice_get o.pieces i) refl
  where
    stays : (p : MarkedPiece) → becomes reads j first second i p ≡ p
    stays p = rw (f, e) refl

    by_new : (q : Option MarkedPiece) → slice_get o.pieces i ≡ None → slice_get (both_changed reads j first second o.pieces) i ≡ q → slice_get (both_changed reads j first second o.pieces) i ≡ None
    by_new None none at = at
    by_new (Some y) none at =
        let from = from_both reads j first second o.pieces i y at in
        let no : None ≡ Some from.0 = sym none ∙ from.1 in cc

    by_old : (q : Option MarkedPiece) → slice_get o.pieces i ≡ q → slice_get (both_changed reads j first second o.pieces) i ≡ slice_get o.pieces i
    by_old None at = by_new (slice_get (both_changed reads j first second o.pieces) i) at refl ∙ sym at
    by_old (Some p) at = get_both reads j first second o.pieces i p at ∙ ap Some (stays p) ∙ sym at

-- numbers

not_same : (n m : ℕ) → n ≢ m → (n == m) ≡ false
not_same n m h = grind arith

and_false : (a b : Bool) → b ≡ false → (a && b) ≡ false
and_false true b e = e
and_false false b e = refl

-- a piece two after a read is no write
no_write : (copy : Bool) (i j : ℕ) → (j % 2 == 1) ≡ false → i - 1 ≡ j + 1 → (copy && i % 2 == 1) ≡ false
no_write copy i j even near = and_false copy (i % 2 == 1) (by_odd (i % 2 == 1) refl)
  where
    by_odd : (b : Bool) → (i % 2 == 1) ≡ b → (i % 2 == 1) ≡ false
    by_odd false e = e
    by_odd true e =
        let odd : i % 2 ≡ 1 = eqb-true (i % 2) 1 e in
        let is : j % 2 ≡ 1 = omega arith in
        let yes : (j % 2 == 1) ≡ true = rw is refl in
        let no : true ≡ false = sym yes ∙ even in cc

not_true : (b : Bool) → not b ≡ true → b ≡ false
not_true false e = refl
not_true true e = cc

-- a copy reads at even places
abbrev pub ReadsInTurn : Bool → ℕ → Type 0
ReadsInTurn reads j = reads ≡ true → (j % 2 == 1) ≡ false

not_before : (i j : ℕ) → i ≢ j → i ≢ j + 1 → i - 1 ≢ j
not_before i j a b = λ same. by_zero same (cases_lt 0 i)
  where
    by_zero : i - 1 ≡ j → (0 < i) ⊎ (i ≤ 0) → ⊥
    by_zero same (inl some) = b (omega arith)
    by_zero same (inr none) = a (omega arith)

-- another piece has its bytes as before
same_bytes : (o : Operation) (reads : Bool) (j : ℕ) (first second : MarkedPiece → MarkedPiece) (i : ℕ) → ReadsInTurn reads j → i ≢ j → i ≢ j + 1 →
    has_its_bytes (with_both o reads j first second) i ≡ has_its_bytes o i
same_bytes o reads j first second i turn apart next = by_read reads ((i - 1) == (j + 1)) refl refl
  where
    not_j : ((i - 1) == j) ≡ false
    not_j = not_same (i - 1) j (not_before i j apart next)

    kept : (reads && ((i - 1) == (j + 1))) ≡ false → has_its_bytes (with_both o reads j first second) i ≡ has_its_bytes o i
    kept f =
        ap (λ q. not (is_copy_write o i) || is_some_and q (λ read. is_served read.mark)) (same_piece o reads j first second (i - 1) not_j f)

    by_read : (b c : Bool) → reads ≡ b → ((i - 1) == (j + 1)) ≡ c → has_its_bytes (with_both o reads j first second) i ≡ has_its_bytes o i
    by_read true true f g =
        let near : i - 1 ≡ j + 1 = eqb-true (i - 1) (j + 1) g in
        let none : is_copy_write o i ≡ false = no_write (is_copy o.kind) i j (turn f) near in
        rw none refl
    by_read true false f g = kept (and_false reads ((i - 1) == (j + 1)) g)
    by_read false c f g = kept (ap (λ b. b && ((i - 1) == (j + 1))) f)

-- operations

pub after_left : (epoch : ℕ) (o : Operation) → has_left o ≡ true → comes_after epoch o ≡ true → epoch ≤ o.epoch
after_left epoch o left h = le_of epoch o.epoch (has_left o) left h
  where
    le_of : (n m : ℕ) (b : Bool) → b ≡ true → (nat_le n m || not b) ≡ true → n ≤ m
    le_of n m b e f = grind (arith, nat_tests)

-- piece i of the call u is not the one at j of the call v, nor the one after it, and its operation does not lie between
-- these places
pub record IsElsewhere (v j : ℕ) (y : Context) (from to u i : ℕ) : Type 0 where
  pub piece : u ≡ v → (i ≢ j) × (i ≢ j + 1)
  pub operation : (k : ℕ) (o : Operation) → slice_get y.operations k ≡ Some o → o.call ≡ u → from ≤ k → k < to → ⊥

-- a context in which a piece was answered or lost
pub record AnsweredIn (v j : ℕ) (x y : Context) (from to : ℕ) : Type 0 where
  pub answer : IsAnswered v j x y
  pub turn : ReadsInTurn answer.reads j
  pub covers : Covers answer.operation.epoch y from to

other_at : (v j : ℕ) (x y : Context) (a : IsAnswered v j x y) (k : ℕ) (o : Operation) → k ≢ a.place → slice_get x.operations k ≡ Some o → slice_get y.operations k ≡ Some o
other_at v j x y a k o apart there =
    ap (λ os. slice_get os k) a.operations
    ∙ get_set_other x.operations a.place k o (with_both a.operation a.reads j a.first a.second) there apart

pub place_at : (v j : ℕ) (x y : Context) (a : IsAnswered v j x y) → slice_get y.operations a.place ≡ Some (with_both a.operation a.reads j a.first a.second)
place_at v j x y a =
    ap (λ os. slice_get os a.place) a.operations
    ∙ get_set_same x.operations a.place a.operation (with_both a.operation a.reads j a.first a.second) a.there

-- the operation that was there
same_at : (x : Context) (k i : ℕ) (o p : Operation) → k ≡ i → slice_get x.operations k ≡ Some o → slice_get x.operations i ≡ Some p → o ≡ p
same_at x k i o p same a b = same_some o p (sym a ∙ ap (slice_get x.operations) same ∙ b)

to_other : (v j : ℕ) (x y : Context) (a : IsAnswered v j x y) (stripe u i : ℕ) (c : ComesIn x stripe u i) → c.place ≢ a.place → ComesIn y stripe u i
to_other v j x y a stripe u i c apart =
    record {
      place = c.place;
      operation = c.operation;
      there = other_at v j x y a c.place c.operation apart c.there;
      call = c.call;
      comes = record { left = c.comes.left; past = λ k earlier there. past_by k earlier (answered_at v j x y a k earlier there); bytes = c.comes.bytes };
      lies = c.lies;
    }
  where
    past_by : (k : ℕ) (earlier : Operation) → ((k ≡ a.place) × (earlier ≡ with_both a.operation a.reads j a.first a.second)) ⊎ (slice_get x.operations k ≡ Some earlier) →
        comes_after c.operation.epoch earlier ≡ true
    past_by k earlier (inr old) = c.comes.past k earlier old
    past_by k earlier (inl (place, is)) =
        let low : c.operation.epoch ≤ a.operation.epoch =
        after_left c.operation.epoch a.operation (answered_left v j x y a) (c.comes.past a.place a.operation a.there) in
        let same : earlier.epoch ≡ a.operation.epoch = ap (λ (q : Operation). q.epoch) is in
        not_later c.operation.epoch earlier (omega arith)

-- the changed operation

left_same : (o : Operation) (reads : Bool) (j : ℕ) (first second : MarkedPiece → MarkedPiece) (i : ℕ) → i ≢ j → i ≢ j + 1 →
    slice_get (with_both o reads j first second).pieces i ≡ slice_get o.pieces i
left_same o reads j first second i apart next =
    same_piece o reads j first second i (not_same i j apart) (and_false reads (i == j + 1) (not_same i (j + 1) next))

to_same : (v j : ℕ) (x y : Context) (a : IsAnswered v j x y) (stripe u i : ℕ) → ReadsInTurn a.reads j → i ≢ j → i ≢ j + 1 → a.operation.call ≡ u → MayCome x a.operation i →
    lies_on stripe a.operation i ≡ true → ComesIn y stripe u i
to_same v j x y a stripe u i turn apart next call m lies =
    let piece = left_same a.operation a.reads j a.first a.second i apart next in
    record {
      place = a.place;
      operation = with_both a.operation a.reads j a.first a.second;
      there = place_at v j x y a;
      call = call;
      comes = record {
        left = ap (λ q. is_some_and q is_left) piece ∙ m.left;
        past = λ k earlier there. past_by k earlier (answered_at v j x y a k earlier there);
        bytes = same_bytes a.operation a.reads j a.first a.second i turn apart next ∙ m.bytes;
      };
      lies = ap (λ q. is_some_and q (λ marked. marked.piece.place.stripe == stripe)) piece ∙ lies;
    }
  where
    past_by : (k : ℕ) (earlier : Operation) → ((k ≡ a.place) × (earlier ≡ with_both a.operation a.reads j a.first a.second)) ⊎ (slice_get x.operations k ≡ Some earlier) →
        comes_after a.operation.epoch earlier ≡ true
    past_by k earlier (inr old) = m.past k earlier old
    past_by k earlier (inl (place, is)) =
        let same : earlier.epoch ≡ a.operation.epoch = ap (λ (q : Operation). q.epoch) is in
        not_later a.operation.epoch earlier (omega arith)

-- a piece elsewhere that might come may come
pub comes_to : (v j : ℕ) (x y : Context) (from to stripe u i : ℕ) → AnsweredIn v j x y from to → IsElsewhere v j y from to u i → ComesIn x stripe u i → ComesIn y stripe u i
comes_to v j x y from to stripe u i ans away c = by_place (c.place == ans.answer.place) refl
  where
    by_place : (b : Bool) → (c.place == ans.answer.place) ≡ b → ComesIn y stripe u i
    by_place false e = to_other v j x y ans.answer stripe u i c (grind arith)
    by_place true e =
        let a = ans.answer in
        let is : c.operation ≡ a.operation = same_at x c.place a.place c.operation a.operation (eqb-true c.place a.place e) c.there a.there in
        let call : a.operation.call ≡ u = ap (λ (q : Operation). q.call) (sym is) ∙ c.call in
        let off = away.piece (sym call ∙ a.call) in
        to_same v j x y a stripe u i ans.turn off.0 off.1 call (subst (λ o. MayCome x o i) is c.comes) (ap (λ (o : Operation). lies_on stripe o i) (sym is) ∙ c.lies)

from_same : (v j : ℕ) (x y : Context) (a : IsAnswered v j x y) (stripe u i : ℕ) → ReadsInTurn a.reads j → i ≢ j → i ≢ j + 1 → a.operation.call ≡ u →
    MayCome y (with_both a.operation a.reads j a.first a.second) i →
    lies_on stripe (with_both a.operation a.reads j a.first a.second) i ≡ true → ComesIn x stripe u i
from_same v j x y a stripe u i turn apart next call m lies =
    let piece = left_same a.operation a.reads j a.first a.second i apart next in
    record {
      place = a.place;
      operation = a.operation;
      there = a.there;
      call = call;
      comes = record {
        left = ap (λ q. is_some_and q is_left) (sym piece) ∙ m.left;
        past = λ k earlier there. past_by k earlier there (k == a.place) refl;
        bytes = sym (same_bytes a.operation a.reads j a.first a.second i turn apart next) ∙ m.bytes;
      };
      lies = ap (λ q. is_some_and q (λ marked. marked.piece.place.stripe == stripe)) (sym piece) ∙ lies;
    }
  where
    past_by : (k : ℕ) (earlier : Operation) → slice_get x.operations k ≡ Some earlier → (b : Bool) → (k == a.place) ≡ b → comes_after a.operation.epoch earlier ≡ true
    past_by k earlier there false e = m.past k earlier (other_at v j x y a k earlier (grind arith) there)
    past_by k earlier there true e =
        let is : earlier ≡ a.operation = same_at x k a.place earlier a.operation (eqb-true k a.place e) there a.there in
        let same : earlier.epoch ≡ a.operation.epoch = ap (λ (q : Operation). q.epoch) is in
        not_later a.operation.epoch earlier (omega arith)

from_other : (v j : ℕ) (x y : Context) (from to stripe u i : ℕ) (ans : AnsweredIn v j x y from to) → IsElsewhere v j y from to u i → (c : ComesIn y stripe u i) →
    slice_get x.operations c.place ≡ Some c.operation → ComesIn x stripe u i
from_other v j x y from to stripe u i ans away c old =
    record {
      place = c.place;
      operation = c.operation;
      there = old;
      call = c.call;
      comes = record { left = c.comes.left; past = λ k earlier there. past_by k earlier there (k == ans.answer.place) refl; bytes = c.comes.bytes };
      lies = c.lies;
    }
  where
    not_later_than : (ans.answer.operation.epoch < c.operation.epoch) ⊎ (c.operation.epoch ≤ ans.answer.operation.epoch) → c.operation.epoch ≤ ans.answer.operation.epoch
    not_later_than (inr low) = low
    not_later_than (inl high) =
        let span = ans.covers.between c.place c.operation c.there high (some_left c.operation i c.comes.left) c.comes.past in
        absurd (away.operation c.place c.operation c.there c.call span.0 span.1)

    past_by : (k : ℕ) (earlier : Operation) → slice_get x.operations k ≡ Some earlier → (b : Bool) → (k == ans.answer.place) ≡ b → comes_after c.operation.epoch earlier ≡ true
    past_by k earlier there false e = c.comes.past k earlier (other_at v j x y ans.answer k earlier (grind arith) there)
    past_by k earlier there true e =
        let is : earlier ≡ ans.answer.operation = same_at x k ans.answer.place earlier ans.answer.operation (eqb-true k ans.answer.place e) there ans.answer.there in
        let same : earlier.epoch ≡ ans.answer.operation.epoch = ap (λ (q : Operation). q.epoch) is in
        let low : c.operation.epoch ≤ ans.answer.operation.epoch = not_later_than (cases_lt ans.answer.operation.epoch c.operation.epoch) in
        not_later c.operation.epoch earlier (omega arith)

-- a piece elsewhere that may come might come
pub comes_back : (v j : ℕ) (x y : Context) (from to stripe u i : ℕ) → AnsweredIn v j x y from to → IsElsewhere v j y from to u i → ComesIn y stripe u i → ComesIn x stripe u i
comes_back v j x y from to stripe u i ans away c = by_place (answered_at v j x y ans.answer c.place c.operation c.there)
  where
    by_place : ((c.place ≡ ans.answer.place) × (c.operation ≡ with_both ans.answer.operation ans.answer.reads j ans.answer.first ans.answer.second))
        ⊎ (slice_get x.operations c.place ≡ Some c.operation) → ComesIn x stripe u i
    by_place (inr old) = from_other v j x y from to stripe u i ans away c old
    by_place (inl (place, is)) =
        let a = ans.answer in
        let call : a.operation.call ≡ u = ap (λ (q : Operation). q.call) (sym is) ∙ c.call in
        let off = away.piece (sym call ∙ a.call) in
        from_same v j x y a stripe u i ans.turn off.0 off.1 call (subst (λ o. MayCome y o i) is c.comes) (ap (λ (o : Operation). lies_on stripe o i) (sym is) ∙ c.lies)

pub answered_same : (v j : ℕ) (x y : Context) (from to stripe u i : ℕ) → AnsweredIn v j x y from to → IsElsewhere v j y from to u i → SameIn x y stripe u i
answered_same v j x y from to stripe u i ans away =
    record { to = comes_to v j x y from to stripe u i ans away; from = comes_back v j x y from to stripe u i ans away }

-- stripes

-- a piece of the call u lies on the stripe
pub record LiesIn (y : Context) (stripe u i : ℕ) : Type 0 where
  pub place : ℕ
  pub operation : Operation
  pub there : slice_get y.operations place ≡ Some operation
  pub call : operation.call ≡ u
  pub lies : lies_on stripe operation i ≡ true

-- pieces stay on their stripes
pub stays_on : (v j : ℕ) (x y : Context) (stripe u i : ℕ) → IsAnswered v j x y → ComesIn x stripe u i → LiesIn y stripe u i
stays_on v j x y stripe u i a c = by_place (c.place == a.place) refl
  where
    changed_lies : (q : Option MarkedPiece) → slice_get a.operation.pieces i ≡ q → is_some_and q (λ marked. marked.piece.place.stripe == stripe) ≡ true →
        lies_on stripe (with_both a.operation a.reads j a.first a.second) i ≡ true
    changed_lies None at h = cc
    changed_lies (Some p) at h =
        ap (λ q. is_some_and q (λ marked. marked.piece.place.stripe == stripe)) (get_both a.reads j a.first a.second a.operation.pieces i p at)
        ∙ ap (λ place. place.stripe == stripe) (becomes_place a.first a.second (i == j) (a.reads && (i == j + 1)) p a.changes)
        ∙ h

    by_place : (b : Bool) → (c.place == a.place) ≡ b → LiesIn y stripe u i
    by_place false e =
        record { place = c.place; operation = c.operation; there = other_at v j x y a c.place c.operation (grind arith) c.there; call = c.call; lies = c.lies }
    by_place true e =
        let is : c.operation ≡ a.operation = same_at x c.place a.place c.operation a.operation (eqb-true c.place a.place e) c.there a.there in
        record {
          place = a.place;
          operation = with_both a.operation a.reads j a.first a.second;
          there = place_at v j x y a;
          call = ap (λ (q : Operation). q.call) (sym is) ∙ c.call;
          lies = changed_lies (slice_get a.operation.pieces i) refl (ap (λ (o : Operation). lies_on stripe o i) (sym is) ∙ c.lies);
        }
