-- How actions and their order grow.
use Rattle.std.proofs.Common.{◌≡◌, ℕ, zero, suc, ◌<◌, true, List, [], ◌∷◌, ◌++◌, length, drop, Option, Some, refl, sym, ap, subst, ◌∙◌, arith, append_assoc, length-append}
use Rattle.std.specs.Prelude.{nat_lt, slice_get}
use Rattle.std.specs.List.{repeat}
use Rattle.std.proofs.lemmas.Bool.{ltb-true, lt-ltb}
use Rattle.std.proofs.lemmas.List.{append-nil, drop_at}
use Rattle.std.proofs.lemmas.Grind.{flat_map-append}
use Rattle.fam_model.specs.declared.script.Statement.{Statement, Repeat}
use Rattle.fam_model.specs.Text.{Turn}
use Rattle.pe_core.specs.declared.action.Action.{Action}
use Rattle.pe_core.specs.Actions.{turn_of, turn_at, in_order, are_there, make_calls, Grows}
use Rattle.fam_model.specs.declared.script.Program.{Program}
use Rattle.pe_core.specs.Left.{Left, makes_calls, turns_of, StandsFor}
use Rattle.pe_core.proofs.Replies.{stands_at_start}
use Rattle.pe_core.proofs.Bodies.{turns_of-Repeat, turns_of-append}
use Rattle.pe_core.proofs.Tests.{and_left, and_right, and_both, all_both, all_one}

get_before : (actions more : List Action) (i : ℕ) → i < length actions → slice_get (actions ++ more) i ≡ slice_get actions i
get_before [] more i low = absurd (omega arith)
get_before (x ∷ actions) more zero low = refl
get_before (x ∷ actions) more (suc i) low = get_before actions more i (omega arith)

get_next : (actions : List Action) (a : Action) → slice_get (actions ++ a ∷ []) (length actions) ≡ Some a
get_next [] a = refl
get_next (x ∷ actions) a = get_next actions a

-- more actions change nothing
same_order : (actions more : List Action) (order : List ℕ) → are_there actions order ≡ true → in_order (actions ++ more) order ≡ in_order actions order
same_order actions more [] there = refl
same_order actions more (i ∷ order) there =
    let low = ltb-true i (length actions) (and_left (nat_lt i (length actions)) (are_there actions order) there) in
    let others = same_order actions more order (and_right (nat_lt i (length actions)) (are_there actions order) there) in
    let first = get_before actions more i low in
    λ k. turn_at (first k) ++ others k

still_there : (actions more : List Action) (order : List ℕ) → are_there actions order ≡ true → are_there (actions ++ more) order ≡ true
still_there actions more [] there = refl
still_there actions more (i ∷ order) there =
    let low = ltb-true i (length actions) (and_left (nat_lt i (length actions)) (are_there actions order) there) in
    and_both (nat_lt i (length (actions ++ more))) (are_there (actions ++ more) order)
    (lt-ltb i (length (actions ++ more)) (omega (arith, low, length-append actions more)))
    (still_there actions more order (and_right (nat_lt i (length actions)) (are_there actions order) there))

in_order-append : (actions : List Action) (xs ys : List ℕ) → in_order actions (xs ++ ys) ≡ in_order actions xs ++ in_order actions ys
in_order-append actions xs ys = flat_map-append (λ i. turn_at (slice_get actions i)) xs ys

-- nothing was done
pub grows_by_nothing : (actions : List Action) (order : List ℕ) (statements : List Statement) → make_calls actions ≡ true → turns_of statements ≡ [] → Grows actions order statements actions order
grows_by_nothing actions order statements calls none = record {
  more = [];
  grown = sym (append-nil actions);
  places = [];
  placed = sym (append-nil order);
  there = refl;
  calls = calls;
  turns = sym none;
}

-- one action more
pub grows_by_one : (actions : List Action) (order : List ℕ) (a : Action) (statement : Statement) → make_calls actions ≡ true → makes_calls (turn_of a) ≡ true → turns_of (statement ∷ []) ≡ turn_of a ∷ [] →
    Grows actions order (statement ∷ []) (actions ++ a ∷ []) (order ++ length actions ∷ [])
grows_by_one actions order a statement calls call turns = record {
  more = a ∷ [];
  grown = refl;
  places = length actions ∷ [];
  placed = refl;
  there = all_one (λ i. nat_lt i (length (actions ++ a ∷ []))) (length actions) (lt-ltb _ _ (omega (arith, length-append actions (a ∷ []))));
  calls = all_both (λ b. makes_calls (turn_of b)) actions (a ∷ []) calls (all_one (λ b. makes_calls (turn_of b)) a call);
  turns = ap (λ (o : Option Action). turn_at o ++ []) (get_next actions a) ∙ sym turns;
}

-- some statements, and then others
pub grows_on : (actions middle now : List Action) (order order_middle order_now : List ℕ) (xs ys : List Statement) →
    Grows actions order xs middle order_middle → Grows middle order_middle ys now order_now → Grows actions order (xs ++ ys) now order_now
grows_on actions middle now order order_middle order_now xs ys a b = record {
  more = a.more ++ b.more;
  grown = b.grown ∙ ap (λ (l : List Action). l ++ b.more) a.grown ∙ append_assoc actions a.more b.more;
  places = a.places ++ b.places;
  placed = b.placed ∙ ap (λ (l : List ℕ). l ++ b.places) a.placed ∙ append_assoc order a.places b.places;
  there = all_both (λ i. nat_lt i (length now)) a.places b.places
      (subst (λ (l : List Action). are_there l a.places ≡ true) (sym b.grown) (still_there middle b.more a.places a.there)) b.there;
  calls = b.calls;
  turns =
      in_order-append now a.places b.places
      ∙ ap (λ (l : List Action). in_order l a.places ++ in_order now b.places) b.grown
      ∙ ap (λ (ts : List Turn). ts ++ in_order now b.places) (same_order middle b.more a.places a.there ∙ a.turns)
      ∙ ap (λ (ts : List Turn). turns_of xs ++ ts) b.turns
      ∙ sym (turns_of-append xs ys);
}

in_order-repeat : (actions : List Action) (times : ℕ) (places : List ℕ) → in_order actions (repeat times places) ≡ repeat times (in_order actions places)
in_order-repeat actions zero places = refl
in_order-repeat actions (suc times) places =
    in_order-append actions places (repeat times places) ∙ ap (λ (ts : List Turn). in_order actions places ++ ts) (in_order-repeat actions times places)

there-repeat : (actions : List Action) (times : ℕ) (places : List ℕ) → are_there actions places ≡ true → are_there actions (repeat times places) ≡ true
there-repeat actions zero places there = refl
there-repeat actions (suc times) places there =
    all_both (λ i. nat_lt i (length actions)) places (repeat times places) there (there-repeat actions times places there)

-- a body again and again
pub grows_again : (actions now : List Action) (order order_now again : List ℕ) (times more : ℕ) (body : List Statement) → Grows actions order body now order_now →
    times ≡ suc more → again ≡ order_now ++ repeat more (drop (length order) order_now) → Grows actions order (Repeat times body ∷ []) now again
grows_again actions now order order_now again times more body a count is =
    let places : drop (length order) order_now ≡ a.places = ap (drop (length order)) a.placed ∙ drop_at order a.places (length order) refl in
    record {
      more = a.more;
      grown = a.grown;
      places = repeat (suc more) a.places;
      placed = is ∙ ap (λ (ps : List ℕ). order_now ++ repeat more ps) places ∙ ap (λ (l : List ℕ). l ++ repeat more a.places) a.placed
          ∙ append_assoc order a.places (repeat more a.places);
      there = there-repeat now (suc more) a.places a.there;
      calls = a.calls;
      turns =
          in_order-repeat now (suc more) a.places ∙ ap (λ (ts : List Turn). repeat (suc more) ts) a.turns
          ∙ ap (λ (n : ℕ). repeat n (turns_of body)) (sym count) ∙ sym (turns_of-Repeat times body);
    }

-- a program before its first call
pub started : (program : Program) (actions : List Action) (order : List ℕ) (left : Left) → Grows [] [] program.statements actions order →
    left ≡ Some (in_order actions (drop 0 order)) → StandsFor program [] left
started program actions order left grows e =
    let turns : in_order actions order ≡ turns_of program.statements = ap (in_order actions) grows.placed ∙ grows.turns in
    subst (StandsFor program []) (sym e) (stands_at_start program (in_order actions order) turns)
