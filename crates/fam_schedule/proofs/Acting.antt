-- Where somebody may act, an event comes next.
use Rattle.std.proofs.Common.{◌≡◌, ℕ, ◌+◌, ◌<◌, ◌≤◌, Bool, true, false, List, [], ◌∷◌, ◌++◌, refl, sym, ap, ◌∙◌, arith, subst, suc, inl, inr, get_or}
use Rattle.std.specs.Prelude.{◌%◌, ◌==◌, ◌&&◌, nat_le, Option, Some, None, is_some, All, slice_get, map, filter, length, ◌⊎◌, if◌then◌else◌}
use Rattle.std.specs.List.{flat_map, enumerate_from}
use Rattle.std.specs.Option.{option_map_or}
use Rattle.std.proofs.lemmas.Bool.{cases_lt}
use Rattle.std.proofs.lemmas.Nat.{mod_below}
use Rattle.std.proofs.lemmas.List.FromFn.{length-enumerate_from, get_or-enumerate_from, get_or-range_with_len, length-range_with_len}
use Rattle.std.proofs.lemmas.List.Elements.{All-nil, All-cons, All-get_or, All-append, All-map}
use Rattle.std.proofs.lemmas.Option.{slice_get_within, slice_get-get_or, get_or_from_slice_get}
use Rattle.rand_pcg.specs.Lcg.{Lcg}
use Rattle.rand_pcg.specs.Pcg.{pcg32}
use Rattle.fam_model.specs.declared.event.Event.{Event}
use Rattle.fam_model.specs.declared.script.Script.{Script}
use Rattle.fam_model.specs.declared.state.ProgramState.{ProgramState}
use Rattle.fam_model.specs.declared.state.State.{State}
use Rattle.fam_model.specs.Lists.{◌>>=◌, is_some_and, numbers_below}
use Rattle.fam_model.specs.Operations.{may_come}
use Rattle.fam_model.specs.Pieces.{stripe_count}
use Rattle.fam_model.specs.Programs.{Placed, placed, program_of}
use Rattle.fam_schedule.specs.Schedule.{Run, Step, Actor, Program, Stripe, PieceName, actors, acts, drawn, next_step, taken, with_words, piece_event, program_event, loss, is_orphan, is_some_of, is_ready, ready_on, ready_of_program, ready_of_call}
use Rattle.fam_schedule.specs.Laws.{IsStill}

-- lists

pub all_at : {A : Type 0} (P : A → Type 0) (xs : List A) (k : ℕ) (x : A) → All P xs → slice_get xs k ≡ Some x → P x
all_at P xs k x all there =
    subst P (get_or_from_slice_get xs k x x there) (All-get_or P xs k x (slice_get_within xs k x there) all)

pub all_filtered : {A : Type 0} (test : A → Bool) (P : A → Type 0) (xs : List A) → ((x : A) → test x ≡ true → P x) → All P (filter test xs)
all_filtered test P [] h = All-nil P
all_filtered test P (x ∷ xs) h = all_filtered_by (test x) test P x xs refl h (all_filtered test P xs h)
  where
    all_filtered_by : {A : Type 0} (b : Bool) (test : A → Bool) (P : A → Type 0) (x : A) (xs : List A) → test x ≡ b → ((x : A) → test x ≡ true → P x) →
        All P (filter test xs) → All P (filter test (x ∷ xs))
    all_filtered_by true test P x xs e h rest = rw e (All-cons P x (filter test xs) (h x e) rest)
    all_filtered_by false test P x xs e h rest = rw e rest

pub all_flat : {A B : Type 0} (f : A → List B) (P : B → Type 0) (xs : List A) → ((k : ℕ) (x : A) → slice_get xs k ≡ Some x → All P (f x)) → All P (flat_map f xs)
all_flat f P [] h = All-nil P
all_flat f P (x ∷ xs) h =
    All-append P (f x) (flat_map f xs) (h 0 x (slice_get-get_or (x ∷ xs) 0 x (omega arith)))
    (all_flat f P xs (λ k y there. h (suc k) y (behind x xs k y there)))
  where
    behind : {A : Type 0} (x : A) (xs : List A) (k : ℕ) (y : A) → slice_get xs k ≡ Some y → slice_get (x ∷ xs) (suc k) ≡ Some y
    behind x xs k y there =
        let low : k < length xs = slice_get_within xs k y there in
        slice_get-get_or (x ∷ xs) (suc k) y (omega arith) ∙ ap Some (get_or_from_slice_get xs k y y there)

-- draws

drawn_by : (low : Bool) (n : ℕ) (words : Lcg) → nat_le n 1 ≡ low → 0 < n → (drawn n words).0 < n
drawn_by true n words e some = rw e some
drawn_by false n words e some = rw e (mod_below (pcg32 words).0 n some)

pub drawn_below : (n : ℕ) (words : Lcg) → 0 < n → (drawn n words).0 < n
drawn_below n words some = drawn_by (nat_le n 1) n words refl some

pick : {A : Type 0} (xs : List A) (words : Lcg) → 0 < length xs → (x : A) × (slice_get xs (drawn (length xs) words).0 ≡ Some x)
pick [] words some = let low : 0 < 0 = some in let no : ⊥ = omega arith in absurd no
pick (x ∷ xs) words some =
    let low = drawn_below (length (x ∷ xs)) words some in
    (_, slice_get-get_or (x ∷ xs) (drawn (length (x ∷ xs)) words).0 x low)

-- pieces

-- the piece that is named has an event
abbrev pub IsNamed : State → PieceName → Type 0
IsNamed state name = is_some (piece_event state name) ≡ true

some_words : (words : Lcg) (o : Option Event) → is_some o ≡ true → is_some (with_words words o) ≡ true
some_words words None h = cc
some_words words (Some e) h = refl

abbrev the_step : Event → Lcg → Step
the_step event words = (event, words)

taken_by : (orphan odd : Bool) (state : State) (name : PieceName) (words later : Lcg) → IsNamed state name →
    is_some (if orphan
    then (if odd then Some (the_step (loss name) later) else with_words later (piece_event state name))
    else with_words words (piece_event state name)) ≡ true
taken_by true true state name words later h = refl
taken_by true false state name words later h = some_words later (piece_event state name) h
taken_by false odd state name words later h = some_words words (piece_event state name) h

taken_some : (state : State) (name : PieceName) (words : Lcg) → IsNamed state name → is_some (taken state name words) ≡ true
taken_some state name words h = taken_by (is_orphan state name) ((pcg32 words).0 % 2 == 1) state name words (pcg32 words).1 h

some_bind : {A B : Type 0} (o : Option A) (x : A) (f : A → Option B) → o ≡ Some x → is_some (f x) ≡ true → is_some (o >>= f) ≡ true
some_bind o x f e h = rw e h

is_some_get : {A : Type 0} (o : Option A) (test : A → Bool) → is_some_and o test ≡ true → (x : A) × (o ≡ Some x)
is_some_get None test h = cc
is_some_get (Some x) test h = (x, refl)

second_true : (a b : Bool) → (a && b) ≡ true → b ≡ true
second_true true b e = e
second_true false b e = cc

named_in_call : (state : State) (stripe pe : ℕ) (p : ProgramState) (call : ℕ) (o : Option Placed) → program_of state pe ≡ Some p → placed p call ≡ o →
    All (IsNamed state) (option_map_or (λ at.
    map (λ j. record { pe = pe; call = call; piece = j })
    (filter (is_ready stripe at) (numbers_below (length at.operation.pieces)))) o [])
named_in_call state stripe pe p call None there e = All-nil (IsNamed state)
named_in_call state stripe pe p call (Some at) there e =
    All-map (IsNamed state) (λ j. record { pe = pe; call = call; piece = j }) (filter (is_ready stripe at) (numbers_below (length at.operation.pieces)))
    (all_filtered (is_ready stripe at) (λ j. IsNamed state (record { pe = pe; call = call; piece = j })) (numbers_below (length at.operation.pieces))
    (λ j h.
    let on : is_some_and (slice_get at.operation.pieces j) (λ marked. marked.piece.place.stripe == stripe) ≡ true = second_true (may_come at.context at.operation j) _ h in
    let left = is_some_get (slice_get at.operation.pieces j) (λ marked. marked.piece.place.stripe == stripe) on in
    rw (there, e, left.1) refl))

pair : {A : Type 0} → ℕ → A → ℕ × A
pair n x = (n, x)

-- an element with its place stands at that place
pub enumerated_at : {A : Type 0} (xs : List A) (k : ℕ) (entry : ℕ × A) → slice_get (enumerate_from 0 xs) k ≡ Some entry → slice_get xs entry.0 ≡ Some entry.1
unfolding pair
enumerated_at xs k entry there =
    let longer : length (enumerate_from 0 xs) ≡ length xs = length-enumerate_from 0 xs in
    let within : k < length (enumerate_from 0 xs) = slice_get_within (enumerate_from 0 xs) k entry there in
    let low : k < length xs = omega arith in
    let same : entry ≡ pair (0 + k) (get_or xs k entry.1) =
    sym (get_or_from_slice_get (enumerate_from 0 xs) k entry entry there) ∙ get_or-enumerate_from 0 xs k entry low in
    let number : entry.0 ≡ 0 + k = ap (λ e. e.0) same in
    let place : entry.0 ≡ k = omega arith in
    let value : entry.1 ≡ get_or xs k entry.1 = ap (λ e. e.1) same in
    ap (slice_get xs) place ∙ slice_get-get_or xs k entry.1 low ∙ ap Some (sym value)

named_of_program : (state : State) (stripe pe : ℕ) (p : ProgramState) → program_of state pe ≡ Some p → All (IsNamed state) (ready_of_program stripe pe p)
named_of_program state stripe pe p there =
    all_flat (ready_of_call stripe pe p) (IsNamed state) (numbers_below p.next_call)
    (λ k call at. named_in_call state stripe pe p call (placed p call) there refl)

named_on : (state : State) (stripe : ℕ) → All (IsNamed state) (ready_on state stripe)
named_on state stripe =
    all_flat (λ entry. ready_of_program stripe entry.0 entry.1) (IsNamed state) (enumerate_from 0 state.programs)
    (λ k entry there. named_of_program state stripe entry.0 entry.1 (enumerated_at state.programs k entry there))

-- actors

not_empty : {A : Type 0} (xs : List A) → is_some_of xs ≡ true → 0 < length xs
not_empty [] h = cc
not_empty (x ∷ xs) h = omega arith

abbrev CanAct : Script → Run → Actor → Type 0
CanAct script run actor = (words : Lcg) → is_some (acts script run actor words) ≡ true

stripe_acts : (script : Script) (run : Run) (stripe : ℕ) → is_some_of (ready_on run.now stripe) ≡ true → CanAct script run (Stripe stripe)
stripe_acts script run stripe some words =
    let ready = ready_on run.now stripe in
    let name = pick ready words (not_empty ready some) in
    let named : IsNamed run.now name.0 = all_at (IsNamed run.now) ready (drawn (length ready) words).0 name.0 (named_on run.now stripe) name.1 in
    some_bind (slice_get ready (drawn (length ready) words).0) name.0 (λ n. taken run.now n (drawn (length ready) words).1) name.1
    (taken_some run.now name.0 (drawn (length ready) words).1 named)

all_act : (script : Script) (run : Run) → All (CanAct script run) (actors script run)
all_act script run =
    let programs = numbers_below (length run.now.programs) in
    let stripes = numbers_below (stripe_count run.now.service) in
    let may_go : ℕ → Bool = λ pe. is_some (program_event script run pe) in
    let has_ready : ℕ → Bool = λ stripe. is_some_of (ready_on run.now stripe) in
    All-append (CanAct script run) (map Program (filter may_go programs)) (map Stripe (filter has_ready stripes))
    (All-map (CanAct script run) Program (filter may_go programs)
    (all_filtered may_go (λ pe. CanAct script run (Program pe)) programs (λ pe h words. some_words words (program_event script run pe) h)))
    (All-map (CanAct script run) Stripe (filter has_ready stripes)
    (all_filtered has_ready (λ stripe. CanAct script run (Stripe stripe)) stripes (λ stripe h. stripe_acts script run stripe h)))

-- where there is an actor, an event comes next
next_some : (script : Script) (run : Run) → 0 < length (actors script run) → is_some (next_step script run) ≡ true
next_some script run some =
    let all = actors script run in
    let actor = pick all run.words some in
    let can : CanAct script run actor.0 = all_at (CanAct script run) all (drawn (length all) run.words).0 actor.0 (all_act script run) actor.1 in
    some_bind (slice_get all (drawn (length all) run.words).0) actor.0 (λ a. acts script run a (drawn (length all) run.words).1) actor.1
    (can (drawn (length all) run.words).1)

none_length : {A : Type 0} (xs : List A) → length xs ≤ 0 → xs ≡ []
none_length [] h = refl
none_length (x ∷ xs) h = let no : ⊥ = omega arith in absurd no

no_actors_by : (script : Script) (run : Run) → ((0 < length (actors script run)) ⊎ (length (actors script run) ≤ 0)) → next_step script run ≡ None → actors script run ≡ []
no_actors_by script run (inl some) stops = let yes = next_some script run some in let no : false ≡ true = ap is_some (sym stops) ∙ yes in cc
no_actors_by script run (inr none) stops = none_length (actors script run) none

-- where no event comes next, nobody may act
pub no_actors : (script : Script) (run : Run) → next_step script run ≡ None → actors script run ≡ []
no_actors script run stops = no_actors_by script run (cases_lt 0 (length (actors script run))) stops

-- nothing passes the test

appended_none : {A : Type 0} (xs ys : List A) → xs ++ ys ≡ [] → (xs ≡ []) × (ys ≡ [])
appended_none [] ys h = (refl, h)
appended_none (x ∷ xs) ys h = cc

pub mapped_none : {A B : Type 0} (f : A → B) (xs : List A) → map f xs ≡ [] → xs ≡ []
mapped_none f [] h = refl
mapped_none f (x ∷ xs) h = cc

pub filtered_none : {A : Type 0} (test : A → Bool) (xs : List A) → filter test xs ≡ [] → All (λ x. test x ≡ false) xs
filtered_none test [] h = All-nil (λ x. test x ≡ false)
filtered_none test (x ∷ xs) h = by_test (test x) test x xs refl h (λ e. filtered_none test xs e)
  where
    by_test : {A : Type 0} (b : Bool) (test : A → Bool) (x : A) (xs : List A) → test x ≡ b → filter test (x ∷ xs) ≡ [] →
        (filter test xs ≡ [] → All (λ y. test y ≡ false) xs) → All (λ y. test y ≡ false) (x ∷ xs)
    by_test true test x xs e h rest = let one : filter test (x ∷ xs) ≡ x ∷ filter test xs = rw e refl in let no : x ∷ filter test xs ≡ [] = sym one ∙ h in cc
    by_test false test x xs e h rest =
        let one : filter test (x ∷ xs) ≡ filter test xs = rw e refl in All-cons (λ y. test y ≡ false) x xs e (rest (sym one ∙ h))

pub below_at : (P : ℕ → Type 0) (n k : ℕ) → All P (numbers_below n) → k < n → P k
below_at P n k all low =
    let longer : length (numbers_below n) ≡ n = length-range_with_len 0 n in
    let same : get_or (numbers_below n) k 0 ≡ 0 + k = get_or-range_with_len 0 n k 0 low in
    let number : get_or (numbers_below n) k 0 ≡ k = omega arith in
    subst P number (All-get_or P (numbers_below n) k 0 (omega arith) all)

not_some : {A : Type 0} (o : Option A) → is_some o ≡ false → o ≡ None
not_some None h = refl
not_some (Some x) h = cc

is_empty : {A : Type 0} (xs : List A) → is_some_of xs ≡ false → xs ≡ []
is_empty [] h = refl
is_empty (x ∷ xs) h = let some : 0 < length (x ∷ xs) = omega arith in let no : is_some_of (x ∷ xs) ≡ true = grind arith in cc

pub stops_still : (script : Script) (run : Run) → next_step script run ≡ None → IsStill script run
stops_still script run stops =
    let programs = numbers_below (length run.now.programs) in
    let stripes = numbers_below (stripe_count run.now.service) in
    let may_go : ℕ → Bool = λ pe. is_some (program_event script run pe) in
    let has_ready : ℕ → Bool = λ stripe. is_some_of (ready_on run.now stripe) in
    let both = appended_none (map Program (filter may_go programs)) (map Stripe (filter has_ready stripes)) (no_actors script run stops) in
    let none_go = filtered_none may_go programs (mapped_none Program (filter may_go programs) both.0) in
    let none_ready = filtered_none has_ready stripes (mapped_none Stripe (filter has_ready stripes) both.1) in
    record {
      programs = λ pe low. not_some (program_event script run pe) (below_at (λ k. may_go k ≡ false) (length run.now.programs) pe none_go low);
      stripes = λ stripe low. is_empty (ready_on run.now stripe) (below_at (λ k. has_ready k ≡ false) (stripe_count run.now.service) stripe none_ready low);
    }
