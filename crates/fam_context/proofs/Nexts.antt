-- The first piece that may be posted to a stripe.
use Rattle.std.proofs.Common.{◌≡◌, ℕ, zero, suc, ◌+◌, ◌<◌, ◌≤◌, Bool, true, false, not, ◌&&◌, inl, inr, List, [], ◌∷◌, length, get_or, refl, ap, sym, ◌∙◌, arith}
use Rattle.std.specs.Prelude.{slice_get, Option, Some, None}
use Rattle.std.specs.List.{AllPairs, AllZip, position_or_len}
use Rattle.std.specs.Option.{option_map, option_map_or}
use Rattle.std.proofs.Common.{◌==◌, nat_le, map}
use Rattle.std.proofs.lemmas.Bool.Decides.{nat_tests}
use Rattle.std.proofs.lemmas.Bool.{false≢true, cases_lt}
use Rattle.std.proofs.lemmas.Option.{get_or_from_slice_get, slice_get_within, slice_get-map}
use Rattle.fam_model.specs.declared.piece.MarkedPiece.{MarkedPiece}
use Rattle.fam_model.specs.declared.piece.Operation.{Operation}
use Rattle.fam_model.specs.declared.state.Context.{Context}
use Rattle.fam_model.specs.Lists.{place_of, is_some_and}
use Rattle.fam_model.specs.Operations.{may_come, is_left, has_left, is_past_fences, has_its_bytes}
use Rattle.fam_model.specs.Programs.{call_number}
use Rattle.fam_context.specs.declared.tracked.Pending.{Pending}
use Rattle.fam_context.specs.declared.side.Side.{Side}
use Rattle.fam_context.specs.Counting.{marks_of, stages_of, counts_of}
use Rattle.fam_context.specs.Effects.{may_post, left_of, left_count}
use Rattle.fam_context.specs.Next.{lies_at, lies_on, flag_in, posts_on, NoneOn, IsNextOn}
use Rattle.fam_context.specs.Order.{tracked, frame_of, IsBefore}
use Rattle.fam_context.specs.Sides.{IsSideOf, IsIndexed, is_busy, flags_of}
use Rattle.fam_context.proofs.Kept.{all_zip_length, all_zip_at}
use Rattle.fam_context.proofs.Counts.{zip_get}
use Rattle.fam_context.proofs.Reached.{before_first, one_held, past_first, epochs_rise, counts_left}
use Rattle.fam_context.proofs.Places.{place_number, found_at}
use Rattle.fam_context.proofs.Searches.{place_at}

-- no piece of the operations before this place may be posted to the stripe
pub record NoneBefore (context : Context) (sides : List Side) (stripe at : ℕ) : Type 0 where
  pub none : (k j : ℕ) (operation : Operation) (side : Side) → k < at → slice_get context.operations k ≡ Some operation →
      slice_get sides k ≡ Some side → posts_on context operation side.flags stripe j ≡ false

pub none_first : (context : Context) (sides : List Side) (stripe : ℕ) → NoneBefore context sides stripe 0
none_first context sides stripe = record { none = λ k j operation side h e g. absurd (let no : ⊥ = omega arith in no) }

pub none_more : (context : Context) (sides : List Side) (stripe at : ℕ) (operation : Operation) (side : Side) → NoneBefore context sides stripe at →
    slice_get context.operations at ≡ Some operation → slice_get sides at ≡ Some side →
    ((j : ℕ) → posts_on context operation side.flags stripe j ≡ false) → NoneBefore context sides stripe (at + 1)
none_more context sides stripe at operation side before there beside none =
    record {
      none = λ k j o s h e g. elim (cases_lt k at) [
        | inl less ↦ before.none k j o s less e g
        | inr more ↦
            let same : k ≡ at = omega arith in
            let p : o ≡ operation = (let q : slice_get context.operations k ≡ Some operation = ap (slice_get context.operations) same ∙ there in cc) in
            let r : s ≡ side = (let q : slice_get sides k ≡ Some side = ap (slice_get sides) same ∙ beside in cc) in
            (λ i. posts_on context (p i) (r i).flags stripe j) ∙ none j
      ];
    }

-- what a piece that may be posted is, by the place of its operation
post_at : (context : Context) (sides : List Side) (stripe call j k : ℕ) (operation : Operation) (side : Side) →
    place_of call_number call context.operations ≡ Some k → slice_get context.operations k ≡ Some operation → slice_get sides k ≡ Some side →
    may_post (tracked context (flags_of sides)) call j ≡ (may_come context operation j && not (flag_in side.flags j))
post_at context sides stripe call j k operation side place there beside =
    let found : slice_get (flags_of sides) k ≡ Some side.flags = slice_get-map (λ s. s.flags) sides k ∙ ap (option_map (λ s. s.flags)) beside in
    rw (place, there, found) refl

lies_here : (context : Context) (stripe call j k : ℕ) (operation : Operation) →
    place_of call_number call context.operations ≡ Some k → slice_get context.operations k ≡ Some operation →
    lies_on context stripe call j ≡ lies_at operation stripe j
lies_here context stripe call j k operation place there = rw (place, there) refl

both : (a b c : Bool) → (a && not b) ≡ true → c ≡ true → (c && (not b && a)) ≡ true
both true true c h e = absurd (false≢true h)
both true false c h e = rw e refl
both false b c h e = absurd (false≢true h)

parts : (a b c : Bool) → (c && (not b && a)) ≡ true → ((a && not b) ≡ true) × (c ≡ true)
parts true false true h = (refl, refl)
parts true true true h = absurd (false≢true h)
parts false true true h = absurd (false≢true h)
parts false false true h = absurd (false≢true h)
parts a b false h = absurd (false≢true h)

no_place : (context : Context) (sides : List Side) (call j : ℕ) → place_of call_number call context.operations ≡ None →
    may_post (tracked context (flags_of sides)) call j ≡ false
no_place context sides call j e = rw e refl

-- the operation and the side of a piece that may be posted
pub record IsFound (context : Context) (sides : List Side) (call : ℕ) : Type 0 where
  pub k : ℕ
  pub operation : Operation
  pub side : Side
  pub place : place_of call_number call context.operations ≡ Some k
  pub there : slice_get context.operations k ≡ Some operation
  pub beside : slice_get sides k ≡ Some side

none_past : {A : Type 0} (xs : List A) (k : ℕ) → slice_get xs k ≡ None → length xs ≤ k
none_past [] k e = omega arith
none_past (x ∷ xs) zero e = absurd (let no : ⊥ = cc in no)
none_past (x ∷ xs) (suc k) e = let past = none_past xs k e in omega (arith, past)

found_with : (context : Context) (sides : List Side) (call k : ℕ) (o : Option Operation) (s : Option Side) → AllZip IsSideOf context.operations sides →
    place_of call_number call context.operations ≡ Some k → slice_get context.operations k ≡ o → slice_get sides k ≡ s → IsFound context sides call
found_with context sides call k None s all place e h = absurd (found_at call_number call context.operations k place e)
found_with context sides call k (Some operation) None all place e h =
    let inside : k < length context.operations = slice_get_within context.operations k operation e in
    let past : length sides ≤ k = none_past sides k h in
    let same : length context.operations ≡ length sides = all_zip_length IsSideOf context.operations sides all in
    absurd (let no : ⊥ = omega (arith, inside, past, same) in no)
found_with context sides call k (Some operation) (Some side) all place e h =
    record { k = k; operation = operation; side = side; place = place; there = e; beside = h }

found_from : (context : Context) (sides : List Side) (call j : ℕ) (place : Option ℕ) → AllZip IsSideOf context.operations sides →
    place_of call_number call context.operations ≡ place → may_post (tracked context (flags_of sides)) call j ≡ true → IsFound context sides call
found_from context sides call j None all e may = absurd (false≢true (sym (no_place context sides call j e) ∙ may))
found_from context sides call j (Some k) all e may = found_with context sides call k (slice_get context.operations k) (slice_get sides k) all e refl refl

lies_false : (b m l : Bool) → (l && b) ≡ false → b ≡ true → l ≡ false
lies_false b m true h e = absurd (false≢true (sym h ∙ e))
lies_false b m false h e = refl

swapped : (a b : Bool) → (a && not b) ≡ true → (not b && a) ≡ true
swapped true true h = absurd (false≢true h)
swapped true false h = refl
swapped false b h = absurd (false≢true h)

-- nothing may be posted to the stripe
pub none_on : (context : Context) (sides : List Side) (stripe at : ℕ) → AllZip IsSideOf context.operations sides → NoneBefore context sides stripe at →
    length sides ≤ at → NoneOn (tracked context (flags_of sides)) stripe
none_on context sides stripe at all before past call j may =
    let found : IsFound context sides call = found_from context sides call j (place_of call_number call context.operations) all refl may in
    let inside : found.k < at = (let h : found.k < length sides = slice_get_within sides found.k found.side found.beside in omega (arith, h, past)) in
    let post = sym (post_at context sides stripe call j found.k found.operation found.side found.place found.there found.beside) ∙ may in
    lies_here context stripe call j found.k found.operation found.place found.there
    ∙ lies_false (not (flag_in found.side.flags j) && may_come context found.operation j) true (lies_at found.operation stripe j)
    (before.none found.k j found.operation found.side inside found.there found.beside) (swapped _ _ post)

-- what was found is the first
pub next_is : (context : Context) (sides : List Side) (stripe at j : ℕ) (operation : Operation) (side : Side) → AllZip IsSideOf context.operations sides →
    AllPairs (λ a b. a.call < b.call) context.operations → NoneBefore context sides stripe at → slice_get context.operations at ≡ Some operation →
    slice_get sides at ≡ Some side → posts_on context operation side.flags stripe j ≡ true →
    ((i : ℕ) → i < j → posts_on context operation side.flags stripe i ≡ false) → IsNextOn (tracked context (flags_of sides)) stripe (operation.call, j)
next_is context sides stripe at j operation side all rise before there beside posts least =
    let inside : at < length context.operations = slice_get_within context.operations at operation there in
    let found : get_or context.operations at operation ≡ operation = get_or_from_slice_get context.operations at operation operation there in
    let place : place_of call_number operation.call context.operations ≡ Some at =
    place_at call_number context.operations rise operation.call at operation inside (ap (λ o. o.call) found)
    in
    let split = parts (may_come context operation j) (flag_in side.flags j) (lies_at operation stripe j) posts in
    record {
      may = post_at context sides stripe operation.call j at operation side place there beside ∙ split.0;
      lies = lies_here context stripe operation.call j at operation place there ∙ split.1;
      first = λ call i may lies.
          let other : IsFound context sides call = found_from context sides call i (place_of call_number call context.operations) all refl may in
          let post = sym (post_at context sides stripe call i other.k other.operation other.side other.place other.there other.beside) ∙ may in
          let lies_there = sym (lies_here context stripe call i other.k other.operation other.place other.there) ∙ lies in
          let does : posts_on context other.operation other.side.flags stripe i ≡ true = both _ _ _ post lies_there in
          let number : other.operation.call ≡ call = place_number call_number call context.operations other.k other.operation other.place other.there in
          elim (cases_lt other.k at) [
            | inl less ↦ absurd (false≢true (sym (before.none other.k i other.operation other.side less other.there other.beside) ∙ does))
            | inr more ↦ elim (cases_lt at other.k) [
              | inl above ↦
                  let within : other.k < length context.operations = slice_get_within context.operations other.k other.operation other.there in
                  let up = rise at other.k operation above within in
                  let that : get_or context.operations other.k operation ≡ other.operation =
                  get_or_from_slice_get context.operations other.k other.operation operation other.there
                  in
                  inl (let a : (get_or context.operations at operation).call ≡ operation.call = ap (λ o. o.call) found in
                  let b : (get_or context.operations other.k operation).call ≡ other.operation.call = ap (λ o. o.call) that in
                  omega (arith, up, a, b, number))
              | inr below ↦
                  let same : other.k ≡ at = omega arith in
                  let p : other.operation ≡ operation = (let q : slice_get context.operations other.k ≡ Some operation = ap (slice_get context.operations) same ∙ there in
                  let r = other.there in cc) in
                  let s : other.side ≡ side = (let q : slice_get sides other.k ≡ Some side = ap (slice_get sides) same ∙ beside in let r = other.beside in cc) in
                  let here : posts_on context operation side.flags stripe i ≡ true = sym (λ n. posts_on context (p n) (s n).flags stripe i) ∙ does in
                  inr (
                    ap (λ o. o.call) (sym p) ∙ number,
                    elim (cases_lt i j) [
                      | inl smaller ↦ absurd (false≢true (sym (least i smaller) ∙ here))
                      | inr larger ↦ larger
                    ],
                  )
            ]
          ];
    }

-- what may not be posted

all_parts : (a b c : Bool) → (a && b && c) ≡ true → (a ≡ true) × (b ≡ true)
all_parts true true c h = (refl, refl)
all_parts true false c h = absurd (false≢true h)
all_parts false b c h = absurd (false≢true h)

-- a piece that may come is left, and no fence holds it back
come_parts : (context : Context) (operation : Operation) (j : ℕ) → may_come context operation j ≡ true →
    (is_some_and (slice_get operation.pieces j) is_left ≡ true) × (is_past_fences context operation ≡ true)
unfolding may_come
come_parts context operation j h =
    all_parts (is_some_and (slice_get operation.pieces j) is_left) (is_past_fences context operation) (has_its_bytes operation j) h

posts_parts : (l f m : Bool) → (l && (not f && m)) ≡ true → (f ≡ false) × (m ≡ true)
posts_parts true false true h = (refl, refl)
posts_parts true false false h = absurd (false≢true h)
posts_parts true true m h = absurd (false≢true h)
posts_parts false f m h = absurd (false≢true h)

not_both : (b : Bool) → (b ≡ true → ⊥) → b ≡ false
not_both true h = absurd (h refl)
not_both false h = refl

held_at : (operation : Operation) (side : Side) (j : ℕ) (p : Option MarkedPiece) (f : Option Bool) → IsSideOf operation side → side.counts.held ≡ 0 →
    slice_get operation.pieces j ≡ p → slice_get side.flags j ≡ f → is_some_and p is_left ≡ true → is_some_and f (λ flag. flag) ≡ false → ⊥
held_at operation side j None f kept none e h left out = false≢true left
held_at operation side j (Some p) None kept none e h left out =
    let inside : j < length operation.pieces = slice_get_within operation.pieces j p e in
    let past : length side.flags ≤ j = none_past side.flags j h in
    let size = kept.sized in
    omega (arith, inside, past, size)
held_at operation side j (Some p) (Some f) kept none e h left out =
    let marks : slice_get (marks_of operation.pieces) j ≡ Some p.mark = slice_get-map (λ q. q.mark) operation.pieces j ∙ ap (option_map (λ q. q.mark)) e in
    let there = zip_get (marks_of operation.pieces) side.flags j p.mark f marks h in
    let least = one_held (stages_of operation side.flags) operation.reported j p.mark f there left out in
    let held : side.counts.held ≡ (counts_of (operation, side.flags)).held = ap (λ c. c.held) kept.counted in
    omega (arith, least, held, none)

-- no piece of an operation with none held may be posted
pub held_none : (context : Context) (operation : Operation) (side : Side) (stripe j : ℕ) → IsSideOf operation side → side.counts.held ≡ 0 →
    posts_on context operation side.flags stripe j ≡ false
held_none context operation side stripe j kept none =
    not_both (posts_on context operation side.flags stripe j) (λ h.
    let split = posts_parts (lies_at operation stripe j) (flag_in side.flags j) (may_come context operation j) h in
    held_at operation side j (slice_get operation.pieces j) (slice_get side.flags j) kept none refl refl (come_parts context operation j split.1).0 split.0)

none_busy : (held out : ℕ) → not (held + out == 0) ≡ false → held ≡ 0
none_busy held out h = grind (arith, nat_tests)

-- nothing of the operations before the first one with a piece left may be posted
pub none_left : (context : Context) (sides : List Side) (pending : Pending) (pieces first stripe : ℕ) → IsIndexed context sides pending pieces first →
    NoneBefore context sides stripe first
none_left context sides pending pieces first stripe indexed =
    record {
      none = λ k j operation side h there beside.
          let keeps : IsSideOf operation side = all_zip_at IsSideOf context.operations sides k operation side indexed.kept.each there beside in
          let idle : is_busy (get_or sides k side) ≡ false = (before_first context sides pending pieces first indexed).1 k side h in
          let same : get_or sides k side ≡ side = get_or_from_slice_get sides k side side beside in
          let none : side.counts.held ≡ 0 = none_busy side.counts.held side.counts.out (ap is_busy (sym same) ∙ idle) in
          held_none context operation side stripe j keeps none;
    }

fence_at : (earliest : Option Operation) (n m : ℕ) → n ≤ m → option_map_or (λ e. nat_le n e.epoch) earliest true ≡ false →
    option_map_or (λ e. nat_le m e.epoch) earliest true ≡ false
fence_at None n m h e = absurd (false≢true (sym e))
fence_at (Some o) n m h e = grind (arith, nat_tests)

past_is : (context : Context) (operation : Operation) → AllPairs IsBefore (map frame_of context.operations) →
    is_past_fences context operation
    ≡ option_map_or (λ e. nat_le operation.epoch e.epoch) (slice_get context.operations (position_or_len has_left context.operations)) true
past_is context operation pairs = sym (past_first operation.epoch context.operations (epochs_rise context.operations pairs))

later_epoch : (operations : List Operation) (i k : ℕ) (d a b : Operation) → AllPairs (λ a b. a.epoch ≤ b.epoch) operations → i ≤ k → k < length operations →
    get_or operations i d ≡ a → get_or operations k d ≡ b → a.epoch ≤ b.epoch
later_epoch operations i k d a b rise le inside p q =
    let e : (get_or operations i d).epoch ≡ a.epoch = ap (λ o. o.epoch) p in
    let f : (get_or operations k d).epoch ≡ b.epoch = ap (λ o. o.epoch) q in
    elim (cases_lt i k) [
      | inl less ↦ (let up = rise i k d less inside in omega (arith, up, e, f))
      | inr more ↦ (let same : i ≡ k = omega arith in let g : (get_or operations i d).epoch ≡ (get_or operations k d).epoch = ap (λ n. (get_or operations n d).epoch) same in omega (arith, e, f, g))
    ]

-- where a fence holds an operation back, it holds back all that follow
pub none_past_fence : (context : Context) (sides : List Side) (stripe at : ℕ) (operation : Operation) → AllPairs IsBefore (map frame_of context.operations) →
    NoneBefore context sides stripe at → slice_get context.operations at ≡ Some operation → is_past_fences context operation ≡ false →
    NoneBefore context sides stripe (length sides)
none_past_fence context sides stripe at operation pairs before there held =
    record {
      none = λ k j o s h e g. elim (cases_lt k at) [
        | inl less ↦ before.none k j o s less e g
        | inr more ↦
            let inside : k < length context.operations = slice_get_within context.operations k o e in
            let here : get_or context.operations at operation ≡ operation = get_or_from_slice_get context.operations at operation operation there in
            let that : get_or context.operations k operation ≡ o = get_or_from_slice_get context.operations k o operation e in
            let up : operation.epoch ≤ o.epoch = later_epoch context.operations at k operation operation o (epochs_rise context.operations pairs) more inside here that in
            let stays : is_past_fences context o ≡ false =
            past_is context o pairs
            ∙ fence_at (slice_get context.operations (position_or_len has_left context.operations)) operation.epoch o.epoch up
            (sym (past_is context operation pairs) ∙ held)
            in
            not_both (posts_on context o s.flags stripe j) (λ may.
            let split = posts_parts (lies_at o stripe j) (flag_in s.flags j) (may_come context o j) may in
            false≢true (sym stays ∙ (come_parts context o j split.1).1))
      ];
    }

-- how many pieces are left, by the counts
pub left_is : (context : Context) (call k : ℕ) (operation : Operation) (side : Side) → place_of call_number call context.operations ≡ Some k →
    slice_get context.operations k ≡ Some operation → operation.reported ≡ false → IsSideOf operation side →
    Some (side.counts.held + side.counts.out) ≡ left_of context call
left_is context call k operation side place there untold kept =
    let found : left_of context call ≡ Some (left_count operation) = rw (place, there, untold) refl in
    ap Some (counts_left operation side kept) ∙ sym found
