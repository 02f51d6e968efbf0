-- Where nobody may act, no piece is left.
use Rattle.std.proofs.Common.{◌≡◌, ℕ, ◌+◌, ◌-◌, ◌<◌, Bool, true, false, List, [], ◌∷◌, refl, sym, ap, ◌∙◌, arith, suc, zero, get_or}
use Rattle.std.specs.Prelude.{◌%◌, ◌==◌, ◌&&◌, ◌||◌, not, nat_le, Some, slice_get, length, map, filter}
use Rattle.std.specs.List.{list_all, list_any, enumerate_from}
use Rattle.std.proofs.lemmas.Bool.{eqb-true}
use Rattle.std.proofs.lemmas.List.FromFn.{get_or-range_with_len, length-range_with_len}
use Rattle.std.proofs.lemmas.Option.{slice_get_within, slice_get-get_or}
use Rattle.fam_model.specs.declared.piece.Operation.{Operation}
use Rattle.fam_model.specs.declared.script.Script.{Script}
use Rattle.fam_model.specs.declared.state.Context.{Context}
use Rattle.fam_model.specs.declared.state.ProgramState.{ProgramState}
use Rattle.fam_model.specs.EndStep.{has_pending}
use Rattle.fam_model.specs.Lists.{is_some_and, numbers_below, place_of}
use Rattle.fam_model.specs.Operations.{is_left, has_left, is_pending, is_served, is_copy_write, is_copy, is_past_fences, has_its_bytes, may_come}
use Rattle.fam_model.specs.Pieces.{stripe_count}
use Rattle.fam_model.specs.Programs.{Placed, placed, program_of, call_number, operation_of, has_operation, context_of}
use Rattle.fam_schedule.specs.Laws.{IsStill}
use Rattle.fam_schedule.specs.Made.{IsMade, StandsAt, AreMade}
use Rattle.fam_schedule.specs.Schedule.{Run, is_ready, ready_of_program, ready_of_call}
use Rattle.fam_schedule.proofs.Acting.{all_at, filtered_none, mapped_none, below_at}
use Rattle.fam_schedule.proofs.Whole.{pair, enumerated}
use Rattle.fam_schedule.proofs.Finding.{get_zero, get_next, IsFirst, first_of, position_is, any_at_place, flat_none}

-- the operation of lowest epoch

-- an operation with a piece left, and no operation of a lower epoch has one
pub record IsLowest (operations : List Operation) : Type 0 where
  pub place : ℕ
  pub operation : Operation
  pub there : slice_get operations place ≡ Some operation
  pub left : has_left operation ≡ true
  pub lowest : list_all (λ earlier. nat_le operation.epoch earlier.epoch || not (has_left earlier)) operations ≡ true

both_true : (a b : Bool) → a ≡ true → b ≡ true → (a && b) ≡ true
both_true a b e f = rw (e, f) refl

or_left : (a b : Bool) → a ≡ true → (a || b) ≡ true
or_left a b e = rw e refl

or_right : (a b : Bool) → b ≡ true → (a || b) ≡ true
or_right true b e = refl
or_right false b e = e

le_same : (n : ℕ) → nat_le n n ≡ true
le_same n = grind arith

le_more : (a b c : ℕ) → nat_le a b ≡ true → nat_le b c ≡ true → nat_le a c ≡ true
le_more a b c e f = grind arith

le_other : (a b : ℕ) → nat_le a b ≡ false → nat_le b a ≡ true
le_other a b e = grind arith

first_true : (a b : Bool) → (a && b) ≡ true → a ≡ true
first_true true b e = refl
first_true false b e = cc

second_true : (a b : Bool) → (a && b) ≡ true → b ≡ true
second_true true b e = e
second_true false b e = cc

weaker_one : (low high epoch : ℕ) (left : Bool) → nat_le low high ≡ true → (nat_le high epoch || left) ≡ true → (nat_le low epoch || left) ≡ true
weaker_one low high epoch true e f = or_right (nat_le low epoch) true refl
weaker_one low high epoch false e f = or_left (nat_le low epoch) false (le_more low high epoch e (plain (nat_le high epoch) f))
  where
    plain : (b : Bool) → (b || false) ≡ true → b ≡ true
    plain true h = refl
    plain false h = cc

-- what is not lower than one epoch is not lower than a lower one
weaker : (low high : ℕ) (operations : List Operation) → nat_le low high ≡ true →
    list_all (λ earlier. nat_le high earlier.epoch || not (has_left earlier)) operations ≡ true →
    list_all (λ earlier. nat_le low earlier.epoch || not (has_left earlier)) operations ≡ true
weaker low high [] e h = refl
weaker low high (o ∷ operations) e h =
    let here : (nat_le high o.epoch || not (has_left o)) ≡ true = first_true (nat_le high o.epoch || not (has_left o)) _ h in
    let rest = second_true (nat_le high o.epoch || not (has_left o)) (list_all (λ earlier. nat_le high earlier.epoch || not (has_left earlier)) operations) h in
    both_true (nat_le low o.epoch || not (has_left o)) (list_all (λ earlier. nat_le low earlier.epoch || not (has_left earlier)) operations)
    (weaker_one low high o.epoch (not (has_left o)) e here) (weaker low high operations e rest)

none_left : (low : ℕ) (operations : List Operation) → list_any has_left operations ≡ false →
    list_all (λ earlier. nat_le low earlier.epoch || not (has_left earlier)) operations ≡ true
none_left low [] h = refl
none_left low (o ∷ operations) h =
    let parts = neither (has_left o) (list_any has_left operations) h in
    both_true (nat_le low o.epoch || not (has_left o)) (list_all (λ earlier. nat_le low earlier.epoch || not (has_left earlier)) operations)
    (or_right (nat_le low o.epoch) (not (has_left o)) (ap not parts.0)) (none_left low operations parts.1)
  where
    neither : (a b : Bool) → (a || b) ≡ false → (a ≡ false) × (b ≡ false)
    neither false b e = (refl, e)
    neither true b e = cc

lowest_here : (o : Operation) (operations : List Operation) → has_left o ≡ true →
    list_all (λ earlier. nat_le o.epoch earlier.epoch || not (has_left earlier)) operations ≡ true → IsLowest (o ∷ operations)
lowest_here o operations left rest =
    record {
      place = 0;
      operation = o;
      there = get_zero o operations;
      left = left;
      lowest = both_true (nat_le o.epoch o.epoch || not (has_left o)) (list_all (λ earlier. nat_le o.epoch earlier.epoch || not (has_left earlier)) operations)
          (or_left (nat_le o.epoch o.epoch) (not (has_left o)) (le_same o.epoch)) rest;
    }

lowest_behind : (o : Operation) (operations : List Operation) → (l : IsLowest operations) → (nat_le l.operation.epoch o.epoch || not (has_left o)) ≡ true → IsLowest (o ∷ operations)
lowest_behind o operations l here =
    record {
      place = suc l.place;
      operation = l.operation;
      there = get_next o operations l.place l.operation l.there;
      left = l.left;
      lowest = both_true (nat_le l.operation.epoch o.epoch || not (has_left o))
          (list_all (λ earlier. nat_le l.operation.epoch earlier.epoch || not (has_left earlier)) operations) here l.lowest;
    }

lowest_with : (below : Bool) (o : Operation) (operations : List Operation) → (l : IsLowest operations) → has_left o ≡ true → nat_le o.epoch l.operation.epoch ≡ below → IsLowest (o ∷ operations)
lowest_with true o operations l left e = lowest_here o operations left (weaker o.epoch l.operation.epoch operations e l.lowest)
lowest_with false o operations l left e =
    lowest_behind o operations l (or_left (nat_le l.operation.epoch o.epoch) (not (has_left o)) (le_other o.epoch l.operation.epoch e))

lowest_by : (here behind : Bool) (o : Operation) (operations : List Operation) → has_left o ≡ here → list_any has_left operations ≡ behind → list_any has_left (o ∷ operations) ≡ true →
    (list_any has_left operations ≡ true → IsLowest operations) → IsLowest (o ∷ operations)
lowest_by true true o operations e f h rest = let l = rest f in lowest_with (nat_le o.epoch l.operation.epoch) o operations l e refl
lowest_by true false o operations e f h rest = lowest_here o operations e (none_left o.epoch operations f)
lowest_by false true o operations e f h rest = let l = rest f in lowest_behind o operations l (or_right (nat_le l.operation.epoch o.epoch) (not (has_left o)) (ap not e))
lowest_by false false o operations e f h rest = let no : list_any has_left (o ∷ operations) ≡ false = rw (e, f) refl in let bad : true ≡ false = sym h ∙ no in cc

lowest_of : (operations : List Operation) → list_any has_left operations ≡ true → IsLowest operations
lowest_of [] h = cc
lowest_of (o ∷ operations) h = lowest_by (has_left o) (list_any has_left operations) o operations refl refl h (λ e. lowest_of operations e)

-- its first piece left

odd_some : (j : ℕ) → (j % 2 == 1) ≡ true → j - 1 < j
odd_some zero e = cc
odd_some (suc j) e = omega arith

first_bytes : (stripes n : ℕ) (operation : Operation) (write : Bool) → IsMade stripes n operation → (f : IsFirst is_left operation.pieces) →
    is_copy_write operation f.place ≡ write → has_its_bytes operation f.place ≡ true
first_bytes stripes n operation false made f e = or_left (not (is_copy_write operation f.place)) _ (ap not e)
first_bytes stripes n operation true made f e =
    let reads = made.waits f.place f.element f.there f.passes e in
    let before : f.place - 1 < f.place = odd_some f.place (second_true (is_copy operation.kind) (f.place % 2 == 1) e) in
    let not_left : is_left reads.0 ≡ false = f.least (f.place - 1) reads.0 before reads.1 in
    let served : is_served reads.0.mark ≡ true = served_of (is_left reads.0) (is_served reads.0.mark) not_left reads.2 in
    or_right (not (is_copy_write operation f.place)) (is_some_and (slice_get operation.pieces (f.place - 1)) (λ read. is_served read.mark)) (rw reads.1 served)
  where
    served_of : (a b : Bool) → a ≡ false → (a || b) ≡ true → b ≡ true
    served_of false b e h = h
    served_of true b e h = cc

comes : (stripes n : ℕ) (context : Context) (l : IsLowest context.operations) → IsMade stripes n l.operation → (f : IsFirst is_left l.operation.pieces) →
    may_come context l.operation f.place ≡ true
unfolding may_come
comes stripes n context l made f =
    let left : is_some_and (slice_get l.operation.pieces f.place) is_left ≡ true = rw f.there f.passes in
    let bytes = first_bytes stripes n l.operation (is_copy_write l.operation f.place) made f refl in
    both_true (is_some_and (slice_get l.operation.pieces f.place) is_left && is_past_fences context l.operation) (has_its_bytes l.operation f.place)
    (both_true (is_some_and (slice_get l.operation.pieces f.place) is_left) (is_past_fences context l.operation) left l.lowest) bytes

-- the operation is found by its call

named : (n m : ℕ) → n ≡ m → (n == m) ≡ true
named n m e = grind arith

-- the operation of a call in a context that stands at c
found_in : (stripes c : ℕ) (p : ProgramState) (context : Context) (k : ℕ) (operation : Operation) → AreMade stripes p → slice_get p.contexts c ≡ Some context →
    slice_get context.operations k ≡ Some operation → operation_of context operation.call ≡ Some operation
found_in stripes c p context k operation made there at =
    let place : place_of call_number operation.call context.operations ≡ Some k =
    position_is (λ o. call_number o == operation.call) context.operations k operation at (named operation.call operation.call refl)
    (λ i o o_at same.
    (made.apart c i c k o operation (record { context = context; there = there; at = o_at }) (record { context = context; there = there; at = at })
    (eqb-true o.call operation.call same)).1) in
    rw place at

has_at : (context : Context) (call : ℕ) → has_operation context call ≡ true → (k : ℕ) × (o : Operation) × (slice_get context.operations k ≡ Some o) × (o.call ≡ call)
has_at context call h =
    let f = first_of (λ operation. call_number operation == call) context.operations h in
    (f.place, f.element, f.there, eqb-true f.element.call call f.passes)

-- an operation that stands somewhere is found there
pub placed_there : (stripes : ℕ) (p : ProgramState) (c k : ℕ) (operation : Operation) → AreMade stripes p → (s : StandsAt p c k operation) →
    placed p operation.call ≡ Some (record { number = c; context = s.context; operation = operation })
placed_there stripes p c k operation made s =
    let has : has_operation s.context operation.call ≡ true =
    any_at_place (λ o. call_number o == operation.call) s.context.operations k operation s.at (named operation.call operation.call refl) in
    let here : context_of p operation.call ≡ Some c =
    position_is (λ context. has_operation context operation.call) p.contexts c s.context s.there has
    (λ i context there found.
    let o = has_at context operation.call found in
    (made.apart i o.0 c k o.1 operation (record { context = context; there = there; at = o.2 }) s o.3).0) in
    rw (here, s.there, found_in stripes c p s.context k operation made s.there s.at) refl

-- such an operation has a piece that may come

pub number_at : (n k : ℕ) → k < n → slice_get (numbers_below n) k ≡ Some k
number_at n k low =
    let longer : length (numbers_below n) ≡ n = length-range_with_len 0 n in
    let same : get_or (numbers_below n) k 0 ≡ 0 + k = get_or-range_with_len 0 n k 0 low in
    let number : get_or (numbers_below n) k 0 ≡ k = omega arith in
    slice_get-get_or (numbers_below n) k 0 (omega arith) ∙ ap Some number

no_piece : (stripe pe call : ℕ) (p : ProgramState) (at : Placed) (j : ℕ) → placed p call ≡ Some at → ready_of_call stripe pe p call ≡ [] → j < length at.operation.pieces →
    is_ready stripe at j ≡ false
no_piece stripe pe call p at j e none low =
    let numbers = numbers_below (length at.operation.pieces) in
    let shown : ready_of_call stripe pe p call ≡ map (λ i. record { pe = pe; call = call; piece = i }) (filter (is_ready stripe at) numbers) = rw e refl in
    let empty : filter (is_ready stripe at) numbers ≡ [] = mapped_none (λ i. record { pe = pe; call = call; piece = i }) (filter (is_ready stripe at) numbers) (sym shown ∙ none) in
    below_at (λ i. is_ready stripe at i ≡ false) (length at.operation.pieces) j (filtered_none (is_ready stripe at) numbers empty) low

still_piece : (script : Script) (run : Run) (pe : ℕ) (p : ProgramState) (stripe call : ℕ) (at : Placed) (j : ℕ) → IsStill script run → program_of run.now pe ≡ Some p →
    stripe < stripe_count run.now.service → call < p.next_call → placed p call ≡ Some at → j < length at.operation.pieces → is_ready stripe at j ≡ false
still_piece script run pe p stripe call at j still there on low e within =
    let none = still.stripes stripe on in
    let number : 0 + pe ≡ pe = omega arith in
    let entry : slice_get (enumerate_from 0 run.now.programs) pe ≡ Some (pair pe p) = enumerated 0 run.now.programs pe p there ∙ ap (λ k. Some (pair k p)) number in
    let of_program : ready_of_program stripe pe p ≡ [] =
    flat_none (λ entry. ready_of_program stripe entry.0 entry.1) (enumerate_from 0 run.now.programs) pe (pair pe p) none entry in
    let of_call : ready_of_call stripe pe p call ≡ [] = flat_none (ready_of_call stripe pe p) (numbers_below p.next_call) call call of_program (number_at p.next_call call low) in
    no_piece stripe pe call p at j e of_call within

-- a piece that is left somewhere
operation_ready : (script : Script) (run : Run) (pe : ℕ) (p : ProgramState) (c : ℕ) (context : Context) (l : IsLowest context.operations) → IsStill script run →
    program_of run.now pe ≡ Some p → AreMade (stripe_count run.now.service) p → slice_get p.contexts c ≡ Some context → true ≡ false
operation_ready script run pe p c context l still there made context_there =
    let s : StandsAt p c l.place l.operation = record { context = context; there = context_there; at = l.there } in
    let is_made = made.each c l.place l.operation s in
    let f = first_of is_left l.operation.pieces l.left in
    let stripe = f.element.piece.place.stripe in
    let on : stripe < stripe_count run.now.service =
    all_at (λ marked. marked.piece.place.stripe < stripe_count run.now.service) l.operation.pieces f.place f.element is_made.placed f.there in
    let within : f.place < length l.operation.pieces = slice_get_within l.operation.pieces f.place f.element f.there in
    let at : Placed = record { number = c; context = context; operation = l.operation } in
    let found : placed p l.operation.call ≡ Some at = placed_there (stripe_count run.now.service) p c l.place l.operation made s in
    let not_ready : is_ready stripe at f.place ≡ false = still_piece script run pe p stripe l.operation.call at f.place still there on is_made.call found within in
    let lies : is_some_and (slice_get l.operation.pieces f.place) (λ marked. marked.piece.place.stripe == stripe) ≡ true = rw f.there (named stripe stripe refl) in
    let ready : is_ready stripe at f.place ≡ true =
    both_true (may_come context l.operation f.place) (is_some_and (slice_get l.operation.pieces f.place) (λ marked. marked.piece.place.stripe == stripe))
    (comes (stripe_count run.now.service) p.next_call context l is_made f) lies in
    sym ready ∙ not_ready

pending_by : (pending : Bool) (script : Script) (run : Run) (pe : ℕ) (p : ProgramState) → IsStill script run → program_of run.now pe ≡ Some p →
    AreMade (stripe_count run.now.service) p → has_pending p ≡ pending → has_pending p ≡ false
pending_by false script run pe p still there made e = e
pending_by true script run pe p still there made e =
    let c = first_of is_pending p.contexts e in
    let no : true ≡ false = operation_ready script run pe p c.place c.element (lowest_of c.element.operations c.passes) still there made c.there in
    cc

-- where nobody may act, a program with well-made operations has no piece left
pub nothing_pending : (script : Script) (run : Run) (pe : ℕ) (p : ProgramState) → IsStill script run → program_of run.now pe ≡ Some p →
    AreMade (stripe_count run.now.service) p → has_pending p ≡ false
nothing_pending script run pe p still there made = pending_by (has_pending p) script run pe p still there made refl
