-- The operations that stand before no fence any more.
use Rattle.std.proofs.Common.{◌≡◌, ℕ, ◌<◌, ◌≤◌, Bool, true, false, List, refl, sym, ap, ◌∙◌, arith, subst, length, inl, inr, get_or, le_refl}
use Rattle.std.specs.Prelude.{◌⊎◌, ◌≢◌, Some, slice_get}
use Rattle.std.specs.List.{list_any, position_or_len}
use Rattle.std.proofs.lemmas.Bool.{cases_lt}
use Rattle.std.proofs.lemmas.List.Sums.{position_or_len_is}
use Rattle.std.proofs.lemmas.Option.{slice_get_within, slice_get-get_or, get_or_from_slice_get}
use Rattle.fam_context.specs.declared.tracked.Tracked.{Tracked}
use Rattle.fam_context.specs.Order.{IsOrdered}
use Rattle.fam_model.specs.declared.piece.Operation.{Operation}
use Rattle.fam_model.specs.Operations.{has_left}
use Rattle.fam_schedule.proofs.Finding.{IsFirst, first_of, any_at_place}
use Rattle.fam_ready.specs.Telling.{Covers, EndsEpoch, comes_after}
use Rattle.fam_ready.proofs.Coming.{same_some}
use Rattle.fam_ready.proofs.Freed.{after_left}
use Rattle.fam_ready.proofs.Order.{later_epoch}

-- the place of the first operation with a piece left
abbrev pub front_of : List Operation → ℕ
front_of operations = position_or_len has_left operations

front_place : (operations : List Operation) (f : IsFirst has_left operations) → front_of operations ≡ f.place
front_place operations f =
    let within : f.place < length operations = slice_get_within operations f.place f.element f.there in
    position_or_len_is has_left operations f.place f.element (omega arith)
    (λ k low.
    let inside : k < length operations = omega arith in
    f.least k (get_or operations k f.element) low (slice_get-get_or operations k f.element inside))
    (λ low. ap has_left (get_or_from_slice_get operations f.place f.element f.element f.there) ∙ f.passes)

-- the first operation with a piece left is of the epoch of each that no fence holds back
pub record IsFrontOf (operations : List Operation) (k : ℕ) (o : Operation) : Type 0 where
  pub front : Operation
  pub there : slice_get operations (front_of operations) ≡ Some front
  pub before : front_of operations ≤ k
  pub epoch : front.epoch ≡ o.epoch

pub front_at : (t : Tracked) (k : ℕ) (o : Operation) → IsOrdered t → slice_get t.context.operations k ≡ Some o → has_left o ≡ true →
    ((i : ℕ) (earlier : Operation) → slice_get t.context.operations i ≡ Some earlier → comes_after o.epoch earlier ≡ true) → IsFrontOf t.context.operations k o
front_at t k o ordered there left past =
    let os = t.context.operations in
    let f = first_of has_left os (any_at_place has_left os k o there left) in
    let place : front_of os ≡ f.place = front_place os f in
    let before : f.place ≤ k = not_behind f (cases_lt k f.place) in
    let up : f.element.epoch ≤ o.epoch = later_epoch t f.place k f.element o ordered f.there there before in
    let down : o.epoch ≤ f.element.epoch = after_left o.epoch f.element f.passes (past f.place f.element f.there) in
    record {
      front = f.element;
      there = ap (slice_get os) place ∙ f.there;
      before = omega arith;
      epoch = omega arith;
    }
  where
    not_behind : (f : IsFirst has_left t.context.operations) → (k < f.place) ⊎ (f.place ≤ k) → f.place ≤ k
    not_behind f (inr h) = h
    not_behind f (inl less) = let no_left : has_left o ≡ false = f.least k o less there in let bad : true ≡ false = sym left ∙ no_left in cc

-- where the front is of a later epoch
pub covers_front : (t : Tracked) (epoch from to : ℕ) (xs : List Operation) → IsOrdered t → xs ≡ t.context.operations → from ≡ front_of t.context.operations → EndsEpoch xs from to →
    Covers epoch t.context from to
covers_front t epoch from to xs ordered same first ends =
    record {
      between = λ k o there later left past.
          let f = front_at t k o ordered there left past in
          let low : from ≤ k = (let b : front_of t.context.operations ≤ k = f.before in omega arith) in
          (low, not_past k o there f (cases_lt k to));
    }
  where
    os_ends : EndsEpoch t.context.operations from to
    os_ends = subst (λ os. EndsEpoch os from to) same ends

    not_past : (k : ℕ) (o : Operation) → slice_get t.context.operations k ≡ Some o → IsFrontOf t.context.operations k o → (k < to) ⊎ (to ≤ k) → k < to
    not_past k o there f (inl less) = less
    not_past k o there f (inr high) =
        let within : k < length t.context.operations = slice_get_within t.context.operations k o there in
        let inside : to < length t.context.operations = omega arith in
        let e = get_or t.context.operations to o in
        let e_there : slice_get t.context.operations to ≡ Some e = slice_get-get_or t.context.operations to o inside in
        let f_there : slice_get t.context.operations from ≡ Some f.front = ap (slice_get t.context.operations) first ∙ f.there in
        let behind : from ≤ to = os_ends.behind in
        let up : f.front.epoch ≤ e.epoch = later_epoch t from to f.front e ordered f_there e_there behind in
        let down : e.epoch ≤ o.epoch = later_epoch t to k e o ordered e_there there high in
        let same_epoch : f.front.epoch ≡ o.epoch = f.epoch in
        let is : f.front.epoch ≡ e.epoch = omega arith in
        absurd (os_ends.another f.front e f_there e_there is)

-- where it is not, nothing is freed
pub covers_none : (t : Tracked) (epoch : ℕ) → IsOrdered t → ((f : Operation) → slice_get t.context.operations (front_of t.context.operations) ≡ Some f → f.epoch ≤ epoch) →
    Covers epoch t.context 0 0
covers_none t epoch ordered low =
    record {
      between = λ k o there later left past.
          let f = front_at t k o ordered there left past in
          let most : f.front.epoch ≤ epoch = low f.front f.there in
          let same : f.front.epoch ≡ o.epoch = f.epoch in
          let bad : ⊥ = omega arith in absurd bad;
    }

-- the front was read, and is of no later epoch
pub low_front : (xs os : List Operation) (epoch place : ℕ) (x f : Operation) → xs ≡ os → place ≡ front_of os → (get_or xs place x).epoch ≤ epoch →
    slice_get os (front_of os) ≡ Some f → f.epoch ≤ epoch
low_front xs os epoch place x f same first low there =
    let read : (get_or xs place x).epoch ≡ (get_or os (front_of os) x).epoch =
    ap (λ (zs : List Operation). (get_or zs place x).epoch) same ∙ ap (λ k. (get_or os k x).epoch) first in
    let is : (get_or os (front_of os) x).epoch ≡ f.epoch = ap (λ (o : Operation). o.epoch) (get_or_from_slice_get os (front_of os) f x there) in
    omega arith

-- there is no front
pub no_front : (xs os : List Operation) (epoch place : ℕ) (f : Operation) → xs ≡ os → place ≡ front_of os → length xs ≤ place → slice_get os (front_of os) ≡ Some f → f.epoch ≤ epoch
no_front xs os epoch place f same first past there =
    let within : front_of os < length os = slice_get_within os (front_of os) f there in
    let long : length xs ≡ length os = ap length same in
    let bad : ⊥ = omega arith in absurd bad
