-- The schedule's list for a stripe is sorted, and has the pieces that may come there.
use Rattle.std.proofs.Common.{◌≡◌, ℕ, ◌+◌, ◌-◌, ◌<◌, Bool, true, false, List, [], Option, Some, None, refl, sym, ap, ◌∙◌, arith}
use Rattle.std.specs.Prelude.{◌==◌, ◌&&◌, nat_lt, nat_le, filter, map, length, slice_get}
use Rattle.std.specs.List.{list_all, list_any, enumerate_from}
use Rattle.std.specs.Option.{option_map_or}
use Rattle.std.proofs.lemmas.Bool.{false≢true, eqb-true}
use Rattle.std.proofs.lemmas.Bool.Decides.{nat_tests}
use Rattle.std.proofs.lemmas.List.Folds.{list_all-map}
use Rattle.std.proofs.lemmas.Option.{slice_get_within}
use Rattle.fam_model.specs.declared.piece.MarkedPiece.{MarkedPiece}
use Rattle.fam_model.specs.declared.state.ProgramState.{ProgramState}
use Rattle.fam_model.specs.declared.state.State.{State}
use Rattle.fam_model.specs.Lists.{is_some_and, numbers_below}
use Rattle.fam_model.specs.Operations.{may_come}
use Rattle.fam_model.specs.Programs.{Placed, placed}
use Rattle.fam_schedule.specs.Schedule.{PieceName, is_ready, ready_on, ready_of_call, ready_of_program}
use Rattle.ready_lists.specs.Lists.{is_before, same_name, has_name, IsSorted, may_come_on}
use Rattle.ready_lists.proofs.Rising.{less_entry, rising_numbers, rising_entries, sorted_marks, sorted_flat_map, all_before}
use Rattle.ready_lists.proofs.Searches.{and_false, any_in_range, any_in_entries}
use Rattle.ready_lists.proofs.Sorted.{sorted_same}
use Rattle.ready_lists.proofs.Passes.{both_true, list_all-weaken, list_all-always, list_all-flat_map, list_any-flat_map, list_any-map-filter}

-- in order

abbrev named : ℕ → ℕ → ℕ → PieceName
named pe call j = record { pe = pe; call = call; piece = j }

by_piece : (pe call a b : ℕ) → nat_lt a b ≡ true → is_before (named pe call a) (named pe call b) ≡ true
unfolding is_before
by_piece pe call a b h = grind (arith, nat_tests)

by_call : (pe : ℕ) (a b : PieceName) → (a.pe == pe) ≡ true → (b.pe == pe) ≡ true → nat_lt a.call b.call ≡ true → is_before a b ≡ true
unfolding is_before
by_call pe a b h k l = grind (arith, nat_tests)

by_program : (a b : PieceName) → nat_lt a.pe b.pe ≡ true → is_before a b ≡ true
unfolding is_before
by_program a b h = grind (arith, nat_tests)

-- a name of this call
abbrev of_call : ℕ → ℕ → PieceName → Bool
of_call pe call a = a.pe == pe && a.call == call

named_call : (pe call j : ℕ) → of_call pe call (named pe call j) ≡ true
named_call pe call j = grind (arith, nat_tests)

call_names : (stripe pe call : ℕ) (o : Option Placed) → list_all (of_call pe call) (option_map_or (λ at. map (named pe call) (filter (is_ready stripe at) (numbers_below (length at.operation.pieces)))) o []) ≡ true
call_names stripe pe call None = refl
call_names stripe pe call (Some at) =
    let some = filter (is_ready stripe at) (numbers_below (length at.operation.pieces)) in
    list_all-map (of_call pe call) (named pe call) some ∙ list_all-always (λ j. of_call pe call (named pe call j)) some (named_call pe call)

call_sorted : (stripe pe call : ℕ) (o : Option Placed) → IsSorted (option_map_or (λ at. map (named pe call) (filter (is_ready stripe at) (numbers_below (length at.operation.pieces)))) o [])
call_sorted stripe pe call None = tt
call_sorted stripe pe call (Some at) =
    sorted_marks (named pe call) (by_piece pe call) (is_ready stripe at) (numbers_below (length at.operation.pieces)) (rising_numbers 0 (length at.operation.pieces))

of_calls : (pe x y : ℕ) (a b : PieceName) → nat_lt x y ≡ true → of_call pe x a ≡ true → of_call pe y b ≡ true → is_before a b ≡ true
unfolding is_before
of_calls pe x y a b h k l = grind (arith, nat_tests)

calls_in_order : (stripe pe : ℕ) (p : ProgramState) (x y : ℕ) → nat_lt x y ≡ true → all_before (ready_of_call stripe pe p x) (ready_of_call stripe pe p y) ≡ true
calls_in_order stripe pe p x y h =
    list_all-weaken (of_call pe x) (λ a. list_all (is_before a) (ready_of_call stripe pe p y)) (ready_of_call stripe pe p x)
    (λ a k. list_all-weaken (of_call pe y) (is_before a) (ready_of_call stripe pe p y) (λ b l. of_calls pe x y a b h k l) (call_names stripe pe y (placed p y)))
    (call_names stripe pe x (placed p x))

program_sorted : (stripe pe : ℕ) (p : ProgramState) → IsSorted (ready_of_program stripe pe p)
program_sorted stripe pe p =
    sorted_flat_map nat_lt (ready_of_call stripe pe p) (λ x. call_sorted stripe pe x (placed p x)) (calls_in_order stripe pe p) (numbers_below p.next_call) (rising_numbers 0 p.next_call)

program_names : (stripe pe : ℕ) (p : ProgramState) → list_all (λ a. a.pe == pe) (ready_of_program stripe pe p) ≡ true
program_names stripe pe p =
    list_all-flat_map (λ a. a.pe == pe) (ready_of_call stripe pe p) (numbers_below p.next_call)
    (λ x. list_all-weaken (of_call pe x) (λ a. a.pe == pe) (ready_of_call stripe pe p x) (λ a k. (grind (arith, nat_tests))) (call_names stripe pe x (placed p x)))

of_programs : (x y : ℕ) (a b : PieceName) → nat_lt x y ≡ true → (a.pe == x) ≡ true → (b.pe == y) ≡ true → is_before a b ≡ true
unfolding is_before
of_programs x y a b h k l = grind (arith, nat_tests)

abbrev of_entry : ℕ → ℕ × ProgramState → List PieceName
of_entry stripe entry = ready_of_program stripe entry.0 entry.1

programs_in_order : (stripe : ℕ) (x y : ℕ × ProgramState) → less_entry x y ≡ true → all_before (of_entry stripe x) (of_entry stripe y) ≡ true
programs_in_order stripe x y h =
    list_all-weaken (λ a. a.pe == x.0) (λ a. list_all (is_before a) (of_entry stripe y)) (of_entry stripe x)
    (λ a k. list_all-weaken (λ b. b.pe == y.0) (is_before a) (of_entry stripe y) (λ b l. of_programs x.0 y.0 a b h k l) (program_names stripe y.0 y.1))
    (program_names stripe x.0 x.1)

pub ready_on_sorted : (state : State) (stripe : ℕ) → IsSorted (ready_on state stripe)
ready_on_sorted state stripe =
    sorted_flat_map less_entry (of_entry stripe) (λ entry. program_sorted stripe entry.0 entry.1) (programs_in_order stripe) (enumerate_from 0 state.programs) (rising_entries 0 state.programs)

-- which names

other_piece : (pe call k : ℕ) (name : PieceName) (b : Bool) → (name.piece == k) ≡ false → (b && same_name name (named pe call k)) ≡ false
unfolding same_name
other_piece pe call k name true h = grind (arith, nat_tests)
other_piece pe call k name false h = refl

this_piece : (pe call : ℕ) (name : PieceName) → same_name name (named pe call name.piece) ≡ (name.pe == pe && name.call == call)
unfolding same_name
this_piece pe call name = grind (arith, nat_tests)

among : (t n : ℕ) (r same : Bool) → (r ≡ true → nat_lt t n ≡ true) → ((nat_le 0 t && nat_lt t (0 + n)) && (r && same)) ≡ (same && r)
among t n true true within = let h : nat_lt t n ≡ true = within refl in grind (arith, nat_tests)
among t n true false within = and_false (nat_le 0 t && nat_lt t (0 + n))
among t n false true within = and_false (nat_le 0 t && nat_lt t (0 + n))
among t n false false within = and_false (nat_le 0 t && nat_lt t (0 + n))

marks_have : (pe call : ℕ) (q : ℕ → Bool) (n : ℕ) → ((j : ℕ) → q j ≡ true → nat_lt j n ≡ true) → (name : PieceName) → has_name name (map (named pe call) (filter q (numbers_below n))) ≡ ((name.pe == pe && name.call == call) && q name.piece)
marks_have pe call q n within name =
    let g : ℕ → Bool = λ j. q j && same_name name (named pe call j) in
    list_any-map-filter (same_name name) (named pe call) q (numbers_below n)
    ∙ any_in_range g name.piece (λ k e. other_piece pe call k name (q k) e) (λ k e. ap g (sym (eqb-true name.piece k e))) 0 n
    ∙ among name.piece n (q name.piece) (same_name name (named pe call name.piece)) (within name.piece)
    ∙ ap (λ b. b && q name.piece) (this_piece pe call name)

inside : {A : Type 0} (xs : List A) (j : ℕ) (test : A → Bool) (o : Option A) → slice_get xs j ≡ o → is_some_and o test ≡ true → nat_lt j (length xs) ≡ true
inside xs j test None e h = absurd (false≢true h)
inside xs j test (Some x) e h = let within : j < length xs = slice_get_within xs j x e in grind (arith, nat_tests)

ready_inside : (stripe : ℕ) (at : Placed) (j : ℕ) → is_ready stripe at j ≡ true → nat_lt j (length at.operation.pieces) ≡ true
ready_inside stripe at j h =
    let test : MarkedPiece → Bool = λ marked. marked.piece.place.stripe == stripe in
    let b = both_true (may_come at.context at.operation j) (is_some_and (slice_get at.operation.pieces j) test) h in
    inside at.operation.pieces j test (slice_get at.operation.pieces j) refl b.1

-- the piece of this number may come
abbrev ready_at : ℕ → ℕ → Option Placed → Bool
ready_at stripe j o = is_some_and o (λ at. is_ready stripe at j)

call_has : (stripe pe call : ℕ) (o : Option Placed) (name : PieceName) → has_name name (option_map_or (λ at. map (named pe call) (filter (is_ready stripe at) (numbers_below (length at.operation.pieces)))) o []) ≡ ((name.pe == pe && name.call == call) && ready_at stripe name.piece o)
call_has stripe pe call None name = sym (and_false (name.pe == pe && name.call == call))
call_has stripe pe call (Some at) name =
    marks_have pe call (is_ready stripe at) (length at.operation.pieces) (ready_inside stripe at) name

other_call : (here this ready : Bool) → this ≡ false → ((here && this) && ready) ≡ false
other_call true this ready h = rw h refl
other_call false this ready h = refl

this_call : (t n : ℕ) (here ready : Bool) → ((nat_le 0 t && nat_lt t (0 + n)) && ((here && t == t) && ready)) ≡ (here && (nat_lt t n && ready))
this_call t n true true = grind (arith, nat_tests)
this_call t n true false = grind (arith, nat_tests)
this_call t n false ready = and_false (nat_le 0 t && nat_lt t (0 + n))

-- a call of the program that is placed, with the piece
abbrev call_ready : ℕ → PieceName → ProgramState → Bool
call_ready stripe name p = nat_lt name.call p.next_call && ready_at stripe name.piece (placed p name.call)

program_has : (stripe pe : ℕ) (p : ProgramState) (name : PieceName) → has_name name (ready_of_program stripe pe p) ≡ (name.pe == pe && call_ready stripe name p)
program_has stripe pe p name =
    let f : ℕ → List PieceName = ready_of_call stripe pe p in
    let g : ℕ → Bool = λ k. has_name name (f k) in
    let at : (k : ℕ) → g k ≡ ((name.pe == pe && name.call == k) && ready_at stripe name.piece (placed p k)) = λ k. call_has stripe pe k (placed p k) name in
    list_any-flat_map (same_name name) f (numbers_below p.next_call)
    ∙ any_in_range g name.call (λ k e. at k ∙ other_call (name.pe == pe) (name.call == k) (ready_at stripe name.piece (placed p k)) e) (λ k e. ap g (sym (eqb-true name.call k e))) 0 p.next_call
    ∙ ap (λ b. (nat_le 0 name.call && nat_lt name.call (0 + p.next_call)) && b) (at name.call)
    ∙ this_call name.call p.next_call (name.pe == pe) (ready_at stripe name.piece (placed p name.call))

from_first : (t : ℕ) → nat_le 0 t ≡ true
from_first t = grind (arith, nat_tests)

none_off : (t : ℕ) → t - 0 ≡ t
none_off t = omega arith

pub has_name-ready_on : (state : State) (stripe : ℕ) (name : PieceName) → has_name name (ready_on state stripe) ≡ may_come_on state stripe name
has_name-ready_on state stripe name =
    let entries : List (ℕ × ProgramState) = enumerate_from 0 state.programs in
    let h : ProgramState → Bool = call_ready stripe name in
    let each : (entry : ℕ × ProgramState) → has_name name (of_entry stripe entry) ≡ (name.pe == entry.0 && h entry.1) = λ entry. program_has stripe entry.0 entry.1 name in
    list_any-flat_map (same_name name) (of_entry stripe) entries
    ∙ (λ i. list_any (λ entry. each entry i) entries)
    ∙ any_in_entries h name.pe 0 state.programs
    ∙ (λ i. from_first name.pe i && is_some_and (slice_get state.programs (none_off name.pe i)) h)

-- a sorted list of just the pieces that may come on the stripe is the schedule's list
pub is_ready_on : (state : State) (stripe : ℕ) (names : List PieceName) → IsSorted names →
    ((name : PieceName) → has_name name names ≡ may_come_on state stripe name) → names ≡ ready_on state stripe
is_ready_on state stripe names sorted same =
    sorted_same names (ready_on state stripe) sorted (ready_on_sorted state stripe) (λ name. same name ∙ sym (has_name-ready_on state stripe name))
