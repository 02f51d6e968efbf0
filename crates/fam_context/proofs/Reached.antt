-- The first operation that has a piece left.
use Rattle.std.proofs.Common.{◌≡◌, ℕ, zero, suc, ◌+◌, ◌<◌, ◌≤◌, ◌^◌, Bool, true, false, not, cond, ◌&&◌, ◌||◌, ◌==◌, nat_le, nat_lt, List, [], ◌∷◌, ◌++◌, map, length, get_or, refl, ap, sym, ◌∙◌, arith}
use Rattle.std.specs.Prelude.{slice_get, slice_set, Some, None, is_some, sum_by, count_by}
use Rattle.std.specs.List.{zip, AllZip, AllPairs, list_all, list_any, position_or_len}
use Rattle.std.specs.Option.{option_map_or}
use Rattle.std.proofs.lemmas.Bool.Decides.{nat_tests}
use Rattle.std.proofs.lemmas.List.{length-set, length-map, length-append, get_or-map}
use Rattle.std.proofs.lemmas.Grind.{common_steps}
use Rattle.std.proofs.lemmas.Option.{slice_get_within, slice_get-get_or, get_or_from_slice_get}
use Rattle.std.proofs.lemmas.List.Sums.{sum_by-cons, position_or_len_is, fails_before_first, get_or-le-sum_by}
use Rattle.std.proofs.Common.{get_or-set_other}
use Rattle.fam_model.specs.declared.piece.Mark.{Mark}
use Rattle.fam_model.specs.declared.piece.MarkedPiece.{MarkedPiece}
use Rattle.fam_model.specs.declared.piece.Operation.{Operation}
use Rattle.fam_model.specs.Operations.{is_left, is_left_mark, has_left, as_reported, reported, is_past_fences}
use Rattle.fam_model.specs.declared.state.Context.{Context}
use Rattle.fam_context.specs.declared.tracked.Pending.{Pending}
use Rattle.fam_context.specs.declared.side.Side.{Side}
use Rattle.fam_context.specs.Counting.{share_of, one_if, marks_of, counts_of}
use Rattle.fam_context.specs.Effects.{left_count}
use Rattle.fam_context.specs.Order.{frame_of, IsBefore, AreInOrder}
use Rattle.fam_context.specs.Sides.{IsSideOf, is_busy, AreIdleBut, IsKept, IsIndexed}
use Rattle.fam_context.proofs.Counts.{count_within, length_stages}
use Rattle.fam_context.proofs.Places.{found_any}

-- counts and what is left

busy_cons : (b f rest : Bool) (held out : ℕ) → rest ≡ not (held + out == 0) →
    (b || rest) ≡ not ((one_if (b && not f) + held) + (one_if (b && f) + out) == 0)
busy_cons true true rest held out e = grind (arith, nat_tests)
busy_cons true false rest held out e = grind (arith, nat_tests)
busy_cons false f rest held out e =
    let same : held + out ≡ (0 + held) + (0 + out) = omega arith in e ∙ ap (λ n. not (n == 0)) same

busy_lists : (reported : Bool) (pieces : List MarkedPiece) (flags : List Bool) → length flags ≡ length pieces →
    list_any is_left pieces
    ≡ not (sum_by (λ e. (share_of reported e).held) (zip (marks_of pieces) flags) + sum_by (λ e. (share_of reported e).out) (zip (marks_of pieces) flags) == 0)
busy_lists reported [] [] e = refl
busy_lists reported [] (f ∷ flags) e = absurd (let no : ⊥ = omega (arith, e) in no)
busy_lists reported (p ∷ pieces) [] e = absurd (let no : ⊥ = omega (arith, e) in no)
busy_lists reported (p ∷ pieces) (f ∷ flags) e =
    let rest : List (Mark × Bool) = zip (marks_of pieces) flags in
    let others = busy_lists reported pieces flags (let same : length flags ≡ length pieces = omega (arith, e) in same) in
    busy_cons (is_left_mark p.mark) f (list_any is_left pieces) (sum_by (λ (e : Mark × Bool). (share_of reported e).held) rest)
    (sum_by (λ (e : Mark × Bool). (share_of reported e).out) rest) others
    ∙ (λ i. not (sym (sum_by-cons (λ (e : Mark × Bool). (share_of reported e).held) (p.mark, f) rest) i
    + sym (sum_by-cons (λ (e : Mark × Bool). (share_of reported e).out) (p.mark, f) rest) i == 0))

-- an operation has a piece left where its counts say so
pub busy_is : (operation : Operation) (side : Side) → IsSideOf operation side → is_busy side ≡ has_left operation
busy_is operation side kept =
    (λ i. not ((kept.counted i).held + (kept.counted i).out == 0)) ∙ sym (busy_lists operation.reported operation.pieces side.flags kept.sized)

-- the first of them
pub reached_left : (operations : List Operation) (sides : List Side) → AllZip IsSideOf operations sides →
    position_or_len is_busy sides ≡ position_or_len has_left operations
reached_left [] [] all = refl
reached_left [] (s ∷ sides) all = absurd all
reached_left (o ∷ operations) [] all = absurd all
reached_left (o ∷ operations) (s ∷ sides) all = λ i. cond (not (busy_is o s all.0 i)) (1 + reached_left operations sides all.1 i) 0

-- fences

pub epochs_rise : (operations : List Operation) → AllPairs IsBefore (map frame_of operations) → AllPairs (λ a b. a.epoch ≤ b.epoch) operations
epochs_rise operations pairs i j d lt in_range =
    let inside : j < length (map frame_of operations) = (let same = length-map operations frame_of in omega (arith, same, in_range)) in
    let before : IsBefore (get_or (map frame_of operations) i (frame_of d)) (get_or (map frame_of operations) j (frame_of d)) = pairs i j (frame_of d) lt inside in
    let first = get_or-map frame_of operations i d (frame_of d) (omega arith) in
    let second = get_or-map frame_of operations j d (frame_of d) in_range in
    let all : (get_or (map frame_of operations) i (frame_of d)).epoch ≤ (get_or (map frame_of operations) j (frame_of d)).epoch = before.epochs in
    let a : (get_or (map frame_of operations) i (frame_of d)).epoch ≡ (get_or operations i d).epoch = ap (λ f. f.epoch) first in
    let b : (get_or (map frame_of operations) j (frame_of d)).epoch ≡ (get_or operations j d).epoch = ap (λ f. f.epoch) second in
    omega (arith, all, a, b)

no_fence : (n : ℕ) (operations : List Operation) → ((k : ℕ) (d : Operation) → k < length operations → n ≤ (get_or operations k d).epoch) →
    list_all (λ earlier. nat_le n earlier.epoch || not (has_left earlier)) operations ≡ true
no_fence n [] all = refl
no_fence n (o ∷ operations) all =
    let here : nat_le n o.epoch ≡ true = (let h : n ≤ o.epoch = all 0 o (omega arith) in grind (arith, nat_tests)) in
    rw here (no_fence n operations (λ k d h. all (suc k) d (omega (arith, h))))

or_true : (b : Bool) → (b || true) ≡ true
or_true true = refl
or_true false = refl

tail_rise : (o : Operation) (operations : List Operation) → AllPairs (λ a b. a.epoch ≤ b.epoch) (o ∷ operations) → AllPairs (λ a b. a.epoch ≤ b.epoch) operations
tail_rise o operations rise i j d lt in_range = rise (suc i) (suc j) d (omega (arith, lt)) (omega (arith, in_range))

one_more : (n : ℕ) → 1 + n ≡ suc n
one_more n = omega arith

fence_cases : (b passes : Bool) (n : ℕ) (o : Operation) (operations : List Operation) → has_left o ≡ b → nat_le n o.epoch ≡ passes →
    AllPairs (λ a b. a.epoch ≤ b.epoch) (o ∷ operations) →
    option_map_or (λ e. nat_le n e.epoch) (slice_get operations (position_or_len has_left operations)) true
    ≡ list_all (λ earlier. nat_le n earlier.epoch || not (has_left earlier)) operations →
    option_map_or (λ e. nat_le n e.epoch) (slice_get (o ∷ operations) (position_or_len has_left (o ∷ operations))) true
    ≡ list_all (λ earlier. nat_le n earlier.epoch || not (has_left earlier)) (o ∷ operations)
fence_cases true true n o operations e h rise others =
    let low : n ≤ o.epoch = grind (arith, nat_tests) in
    let later : (k : ℕ) (d : Operation) → k < length operations → n ≤ (get_or operations k d).epoch =
    (λ k d inside. (let up : o.epoch ≤ (get_or operations k d).epoch = rise 0 (suc k) d (omega arith) (omega (arith, inside)) in omega (arith, low, up)))
    in
    rw (e, h) (sym (no_fence n operations later))
fence_cases true false n o operations e h rise others = rw (e, h) refl
fence_cases false passes n o operations e h rise others = rw (e, or_true (nat_le n o.epoch), one_more (position_or_len has_left operations)) others

-- fences are passed where the first operation with a piece left has no lower epoch
pub past_first : (n : ℕ) (operations : List Operation) → AllPairs (λ a b. a.epoch ≤ b.epoch) operations →
    option_map_or (λ e. nat_le n e.epoch) (slice_get operations (position_or_len has_left operations)) true
    ≡ list_all (λ earlier. nat_le n earlier.epoch || not (has_left earlier)) operations
past_first n [] rise = refl
past_first n (o ∷ operations) rise =
    fence_cases (has_left o) (nat_le n o.epoch) n o operations refl refl rise (past_first n operations (tail_rise o operations rise))

some_if : (b : Bool) (k : ℕ) → is_some (cond b (Some k) None) ≡ b
some_if true k = refl
some_if false k = refl

-- some piece is left where there is such an operation
pub pending_first : (operations : List Operation) → nat_lt (position_or_len has_left operations) (length operations) ≡ list_any has_left operations
pending_first operations =
    sym (some_if (nat_lt (position_or_len has_left operations) (length operations)) (position_or_len has_left operations)) ∙ sym (found_any has_left operations)

-- the place of the first one

-- an element is the same whatever stands for those that are not there
pub get_or_either : {A : Type 0} (xs : List A) (k : ℕ) (c d : A) → k < length xs → get_or xs k c ≡ get_or xs k d
get_or_either xs k c d h =
    let p : slice_get xs k ≡ Some (get_or xs k c) = slice_get-get_or xs k c h in
    let q : slice_get xs k ≡ Some (get_or xs k d) = slice_get-get_or xs k d h in
    cc

-- where the loop ends is the first busy one
pub advanced : (sides : List Side) (place : ℕ) → place ≤ length sides → ((k : ℕ) (d : Side) → k < place → is_busy (get_or sides k d) ≡ false) →
    (place < length sides → (d : Side) → is_busy (get_or sides place d) ≡ true) → place ≡ position_or_len is_busy sides
advanced [] place within idle busy = omega arith
advanced (s ∷ sides) place within idle busy =
    sym (position_or_len_is is_busy (s ∷ sides) place s within (λ k h. idle k s h) (λ h. busy h s))

pub before_first : (context : Context) (sides : List Side) (pending : Pending) (pieces first : ℕ) → IsIndexed context sides pending pieces first →
    (first ≡ position_or_len is_busy sides) × ((k : ℕ) (d : Side) → k < first → is_busy (get_or sides k d) ≡ false)
before_first context sides pending pieces first indexed =
    let same : first ≡ position_or_len is_busy sides = indexed.reached ∙ sym (reached_left context.operations sides indexed.kept.each) in
    (same, λ k d h. fails_before_first is_busy sides k d (omega (arith, same, h)))

-- none before the first one is busy but maybe one that is set
pub idle_set : (context : Context) (sides : List Side) (pending : Pending) (pieces first k : ℕ) (side new : Side) → IsIndexed context sides pending pieces first →
    slice_get sides k ≡ Some side → AreIdleBut (slice_set sides k new) first k
idle_set context sides pending pieces first k side new indexed there =
    let before = before_first context sides pending pieces first indexed in
    let inside : k < length sides = slice_get_within sides k side there in
    record {
      within = let same = length-set sides k new in omega (arith, same, inside);
      idle = λ i d h ne. let other : get_or (slice_set sides k new) i d ≡ get_or sides i d = grind (arith, get_or-set_other {A = Side}) in
          ap is_busy other ∙ before.1 i d h;
    }

within_first : (b : Bool) (k n : ℕ) → k ≤ n → cond (not b) (1 + k) 0 ≤ suc n
within_first true k n h = omega arith
within_first false k n h = omega (arith, h)

position_within : {A : Type 0} (p : A → Bool) (xs : List A) → position_or_len p xs ≤ length xs
position_within p [] = omega arith
position_within p (x ∷ xs) = within_first (p x) (position_or_len p xs) (length xs) (position_within p xs)

-- none before the first one is busy with one more at the end
pub idle_more : (context : Context) (sides later : List Side) (pending : Pending) (pieces first : ℕ) (side : Side) → IsIndexed context sides pending pieces first →
    later ≡ sides ++ side ∷ [] → AreIdleBut later first first
idle_more context sides later pending pieces first side indexed e =
    let before = before_first context sides pending pieces first indexed in
    let most : position_or_len is_busy sides ≤ length sides = position_within is_busy sides in
    let size : length later ≡ length sides + 1 = ap (length {A = Side}) e ∙ length-append sides (side ∷ []) in
    record {
      within = let same = before.0 in omega (arith, same, most, size);
      idle = λ i d h ne.
          let inside : i < length sides = (let same = before.0 in omega (arith, same, most, h)) in
          let front : get_or (sides ++ side ∷ []) i d ≡ get_or sides i d = grind (arith, common_steps) in
          ap (λ ss. is_busy (get_or ss i d)) e ∙ (ap is_busy front ∙ before.1 i d h);
    }

-- all is indexed where the place is that of the first busy one
pub indexed_from : (context : Context) (sides : List Side) (pending : Pending) (pieces first : ℕ) → IsKept context sides pending pieces →
    first ≡ position_or_len is_busy sides → IsIndexed context sides pending pieces first
indexed_from context sides pending pieces first kept e =
    record { kept = kept; reached = e ∙ reached_left context.operations sides kept.each }

-- the first one stays where an operation has as much left as before
first_set : (operations : List Operation) (k : ℕ) (operation next : Operation) → slice_get operations k ≡ Some operation → has_left next ≡ has_left operation →
    position_or_len has_left (slice_set operations k next) ≡ position_or_len has_left operations
first_set [] k operation next e h = refl
first_set (o ∷ operations) zero operation next e h =
    let same : o ≡ operation = cc in λ i. cond (not ((h ∙ ap has_left (sym same)) i)) (1 + position_or_len has_left operations) 0
first_set (o ∷ operations) (suc k) operation next e h =
    λ i. cond (not (has_left o)) (1 + first_set operations k operation next e h i) 0

pub indexed_same : (context : Context) (sides later : List Side) (pending after : Pending) (pieces first k : ℕ) (operation next : Operation) →
    IsIndexed context sides pending pieces first → slice_get context.operations k ≡ Some operation → next ≡ as_reported operation →
    IsKept (record context { operations = slice_set context.operations k next }) later after pieces →
    IsIndexed (record context { operations = slice_set context.operations k next }) later after pieces first
indexed_same context sides later pending after pieces first k operation next indexed there e kept =
    record { kept = kept; reached = indexed.reached ∙ sym (first_set context.operations k operation next there (ap has_left e)) }

first_told : (operations : List Operation) → position_or_len has_left (map as_reported operations) ≡ position_or_len has_left operations
first_told [] = refl
first_told (o ∷ operations) = λ i. cond (not (has_left o)) (1 + first_told operations i) 0

pub indexed_told : (context next : Context) (sides later : List Side) (pending after : Pending) (pieces first : ℕ) → IsIndexed context sides pending pieces first →
    next ≡ reported context → IsKept next later after pieces → IsIndexed next later after pieces first
indexed_told context next sides later pending after pieces first indexed e kept =
    record { kept = kept; reached = indexed.reached ∙ (sym (first_told context.operations) ∙ ap (λ c. position_or_len has_left c.operations) (sym e)) }

-- what `is_past_fences` answers

pub past_some : (context : Context) (first : ℕ) (operation earliest : Operation) → AreInOrder context.epoch (map frame_of context.operations) →
    first ≡ position_or_len has_left context.operations → slice_get context.operations first ≡ Some earliest →
    nat_le operation.epoch earliest.epoch ≡ is_past_fences context operation
past_some context first operation earliest order e there =
    let found : slice_get context.operations (position_or_len has_left context.operations) ≡ Some earliest = ap (slice_get context.operations) (sym e) ∙ there in
    ap (λ o. option_map_or (λ x. nat_le operation.epoch x.epoch) o true) (sym found)
    ∙ past_first operation.epoch context.operations (epochs_rise context.operations order.pairs)

pub past_none : (context : Context) (first : ℕ) (operation : Operation) → AreInOrder context.epoch (map frame_of context.operations) →
    first ≡ position_or_len has_left context.operations → slice_get context.operations first ≡ None → true ≡ is_past_fences context operation
past_none context first operation order e there =
    let found : slice_get context.operations (position_or_len has_left context.operations) ≡ None = ap (slice_get context.operations) (sym e) ∙ there in
    ap (λ o. option_map_or (λ x. nat_le operation.epoch x.epoch) o true) (sym found)
    ∙ past_first operation.epoch context.operations (epochs_rise context.operations order.pairs)

-- the pieces left are those held and those out

left_cons : (b f : Bool) (rest held out : ℕ) → rest ≡ held + out →
    one_if b + rest ≡ (one_if (b && not f) + held) + (one_if (b && f) + out)
left_cons true true rest held out e = omega (arith, e)
left_cons true false rest held out e = omega (arith, e)
left_cons false f rest held out e = omega (arith, e)

left_lists : (reported : Bool) (pieces : List MarkedPiece) (flags : List Bool) → length flags ≡ length pieces →
    count_by is_left pieces
    ≡ sum_by (λ e. (share_of reported e).held) (zip (marks_of pieces) flags) + sum_by (λ e. (share_of reported e).out) (zip (marks_of pieces) flags)
left_lists reported [] [] e = refl
left_lists reported [] (f ∷ flags) e = absurd (let no : ⊥ = omega (arith, e) in no)
left_lists reported (p ∷ pieces) [] e = absurd (let no : ⊥ = omega (arith, e) in no)
left_lists reported (p ∷ pieces) (f ∷ flags) e =
    let rest : List (Mark × Bool) = zip (marks_of pieces) flags in
    let others = left_lists reported pieces flags (let same : length flags ≡ length pieces = omega (arith, e) in same) in
    sum_by-cons (λ q. one_if (is_left q)) p pieces
    ∙ (left_cons (is_left_mark p.mark) f (count_by is_left pieces) (sum_by (λ (e : Mark × Bool). (share_of reported e).held) rest)
    (sum_by (λ (e : Mark × Bool). (share_of reported e).out) rest) others
    ∙ (λ i. sym (sum_by-cons (λ (e : Mark × Bool). (share_of reported e).held) (p.mark, f) rest) i
    + sym (sum_by-cons (λ (e : Mark × Bool). (share_of reported e).out) (p.mark, f) rest) i))

pub counts_left : (operation : Operation) (side : Side) → IsSideOf operation side → side.counts.held + side.counts.out ≡ left_count operation
counts_left operation side kept =
    (λ i. (kept.counted i).held + (kept.counted i).out) ∙ sym (left_lists operation.reported operation.pieces side.flags kept.sized)

-- there are fewer than 2 ^ 33
pub few_counts : (operation : Operation) (side : Side) → IsSideOf operation side → side.counts.held + side.counts.out < 2 ^ 33
few_counts operation side kept =
    let within = count_within operation side.flags in
    let most = length_stages operation side.flags in
    let held : side.counts.held ≡ (counts_of (operation, side.flags)).held = ap (λ c. c.held) kept.counted in
    let out : side.counts.out ≡ (counts_of (operation, side.flags)).out = ap (λ c. c.out) kept.counted in
    omega (arith, within.0, within.1.0, most, kept.few, held, out)

-- a piece that may be posted is held
pub one_held : (stages : List (Mark × Bool)) (reported : Bool) (j : ℕ) (m : Mark) (f : Bool) → slice_get stages j ≡ Some (m, f) → is_left_mark m ≡ true → f ≡ false →
    1 ≤ sum_by (λ e. (share_of reported e).held) stages
one_held stages reported j m f there left out =
    let inside : j < length stages = slice_get_within stages j (m, f) there in
    let same : get_or stages j (m, f) ≡ (m, f) = get_or_from_slice_get stages j (m, f) (m, f) there in
    let one : (share_of reported (m, f)).held ≡ 1 = rw (left, out) refl in
    let least = get_or-le-sum_by (λ (e : Mark × Bool). (share_of reported e).held) stages j (m, f) inside in
    let value : (share_of reported (get_or stages j (m, f))).held ≡ 1 = ap (λ e. (share_of reported e).held) same ∙ one in
    omega (arith, least, value)
