-- The turns of actions in an order.
use Rattle.std.proofs.Common.{◌≡◌, ℕ, zero, suc, ◌+◌, ◌≤◌, Bool, true, List, [], ◌∷◌, ◌++◌, length, drop, Option, Some, None, sym, ap, ◌∙◌, arith}
use Rattle.std.specs.Prelude.{nat_lt, slice_get}
use Rattle.std.specs.List.{list_all}
use Rattle.std.proofs.lemmas.Bool.{ltb-true}
use Rattle.std.proofs.lemmas.List.{drop_all, drop_more}
use Rattle.std.proofs.lemmas.Option.{slice_get_within, get_or_from_slice_get}
use Rattle.pe_core.specs.declared.action.Action.{Action}
use Rattle.pe_core.specs.Actions.{turn_of, turn_at, in_order, are_there}
use Rattle.pe_core.proofs.Tests.{and_left, and_right}

past : (order : List ℕ) (k : ℕ) → slice_get order k ≡ None → length order ≤ k
past [] k e = omega arith
past (x ∷ order) zero e = absurd cc
past (x ∷ order) (suc k) e = omega (arith, past order k e)

-- nothing is done behind the end
pub current_none : (actions : List Action) (order : List ℕ) (at : ℕ) → slice_get order at ≡ None → in_order actions (drop at order) ≡ []
current_none actions order at e = ap (in_order actions) (drop_all at order (past order at e))

drop_get : (order : List ℕ) (at i : ℕ) → slice_get order at ≡ Some i → drop at order ≡ i ∷ drop (at + 1) order
drop_get order at i e =
    drop_more order at 0 (slice_get_within order at i e)
    ∙ ap (λ (x : ℕ). x ∷ drop (at + 1) order) (get_or_from_slice_get order at i 0 e)

-- an action that is there
pub current_some : (actions : List Action) (order : List ℕ) (at i : ℕ) (a : Action) → slice_get order at ≡ Some i → slice_get actions i ≡ Some a →
    in_order actions (drop at order) ≡ turn_of a ∷ in_order actions (drop (at + 1) order)
current_some actions order at i a e f =
    ap (in_order actions) (drop_get order at i e)
    ∙ ap (λ (o : Option Action). turn_at o ++ in_order actions (drop (at + 1) order)) f

all_at : (p : ℕ → Bool) (order : List ℕ) (at i : ℕ) → list_all p order ≡ true → slice_get order at ≡ Some i → p i ≡ true
all_at p [] at i all e = absurd cc
all_at p (x ∷ order) zero i all e = (let same : x ≡ i = cc in ap p (sym same) ∙ and_left (p x) (list_all p order) all)
all_at p (x ∷ order) (suc at) i all e = all_at p order at i (and_right (p x) (list_all p order) all) e

none_past : (actions : List Action) (i : ℕ) → slice_get actions i ≡ None → length actions ≤ i
none_past [] i e = omega arith
none_past (x ∷ actions) zero e = absurd cc
none_past (x ∷ actions) (suc i) e = omega (arith, none_past actions i e)

-- each action of the order is there
pub current_there : (actions : List Action) (order : List ℕ) (at i : ℕ) → are_there actions order ≡ true → slice_get order at ≡ Some i → slice_get actions i ≡ None → ⊥
current_there actions order at i there e f =
    let low = ltb-true i (length actions) (all_at (λ i. nat_lt i (length actions)) order at i there e) in
    let high = none_past actions i f in
    omega (arith, low, high)

-- behind the end
pub behind_end : (actions : List Action) (order : List ℕ) (at : ℕ) → length order ≤ at → in_order actions (drop at order) ≡ []
behind_end actions order at e = ap (in_order actions) (drop_all at order e)

copied : (o : Option Action) (actions : List Action) (i : ℕ) → o ≡ slice_get actions i → slice_get actions i ≡ o
copied o actions i e = sym e
