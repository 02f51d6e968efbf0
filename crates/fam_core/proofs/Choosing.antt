-- The event that comes next, by the actor that was drawn.
use Rattle.std.proofs.Common.{◌≡◌, ℕ, ◌+◌, ◌<◌, ◌≤◌, Bool, true, false, List, ◌∷◌, length, map, refl, sym, ap, ◌∙◌, arith, suc, zero, eqb-true}
use Rattle.std.specs.Prelude.{All, Option, Some, None, filter, slice_get, if◌then◌else◌, ◌==◌, ◌%◌}
use Rattle.std.specs.List.{range_with_len}
use Rattle.std.specs.Option.{option_map}
use Rattle.std.proofs.lemmas.List.{length-map}
use Rattle.std.proofs.lemmas.List.Elements.{All-nil, All-cons, All-map, All-append, All-weaker}
use Rattle.std.proofs.lemmas.Option.{slice_get-map, slice_get_past}
use Rattle.rand_pcg.specs.Lcg.{Lcg}
use Rattle.rand_pcg.specs.Pcg.{pcg32}
use Rattle.fam_model.specs.declared.event.Event.{Event}
use Rattle.fam_model.specs.declared.script.Script.{Script}
use Rattle.fam_model.specs.declared.state.State.{State}
use Rattle.fam_model.specs.Lists.{◌>>=◌, numbers_below}
use Rattle.fam_schedule.specs.Schedule.{Run, Actor, Program, Stripe, PieceName, actors, acts, drawn, is_orphan, is_some_of, loss, next_step, piece_event, taken, with_words}
use Rattle.fam_schedule.proofs.Acting.{all_at}
use Rattle.ready_lists.specs.Lists.{busy_stripes, names_at}
use Rattle.fam_core.specs.declared.actors.Actor.{Actor as Listed}
use Rattle.fam_core.specs.declared.actors.Actor.TheVariants as listed
use Rattle.fam_core.specs.declared.playing.Player.{Player}
use Rattle.fam_steps.specs.Steps.{event_for}
use Rattle.fam_steps.specs.declared.step.Step.{Step as Asked}
use Rattle.fam_core.specs.declared.chosen.Chosen.{Chosen}
use Rattle.fam_core.specs.declared.chosen.Chosen.TheVariants as chosen
use Rattle.fam_core.specs.Playing.{Chooses, OnStripe, Stands, acting, actor_of, chosen_event, drawn_of, may_go, run_of}
use Rattle.fam_core.proofs.Going.{acting_same, may_go_same, names_of, ready_count}

-- who is listed

filtered_from : (test : ℕ → Bool) (k n m : ℕ) → k + n ≤ m → All (λ i. (test i ≡ true) × (i < m)) (filter test (range_with_len k n))
filtered_from test k zero m h = All-nil (λ i. (test i ≡ true) × (i < m))
filtered_from test k (suc n) m h = by_test (test k) refl (filtered_from test (k + 1) n m (omega arith))
  where
    by_test : (b : Bool) → test k ≡ b → All (λ i. (test i ≡ true) × (i < m)) (filter test (range_with_len (k + 1) n)) →
        All (λ i. (test i ≡ true) × (i < m)) (if test k then k ∷ filter test (range_with_len (k + 1) n) else filter test (range_with_len (k + 1) n))
    by_test true e rest = rw e (All-cons (λ i. (test i ≡ true) × (i < m)) k (filter test (range_with_len (k + 1) n)) (e, omega arith) rest)
    by_test false e rest = rw e rest

filtered_below : (test : ℕ → Bool) (n : ℕ) → All (λ i. (test i ≡ true) × (i < n)) (filter test (numbers_below n))
filtered_below test n = filtered_from test 0 n n (omega arith)

-- a listed program may go; a listed stripe is there
abbrev pub IsListed : Player → Actor → Type 0
IsListed player (Program pe) = (may_go player pe ≡ true) × (pe < length player.turns)
IsListed player (Stripe stripe) = stripe < length player.ready

all_listed : (player : Player) → All (IsListed player) (acting player)
all_listed player =
    All-append (IsListed player) (map Program (filter (may_go player) (numbers_below (length player.turns)))) (map Stripe (busy_stripes player.ready))
    (All-map (IsListed player) Program (filter (may_go player) (numbers_below (length player.turns))) (filtered_below (may_go player) (length player.turns)))
    (All-map (IsListed player) Stripe (busy_stripes player.ready) (second_of (busy_stripes player.ready) (filtered_below (λ stripe. is_some_of (names_at player.ready stripe)) (length player.ready))))
  where
    second_of : (xs : List ℕ) → All (λ i. (is_some_of (names_at player.ready i) ≡ true) × (i < length player.ready)) xs → All (λ i. i < length player.ready) xs
    second_of xs all = All-weaker (λ i. (is_some_of (names_at player.ready i) ≡ true) × (i < length player.ready)) (λ i. i < length player.ready) (λ i both. both.1) xs all

-- the actor that stands there
there_as : (player : Player) (all : List Listed) (k : ℕ) (actor : Listed) → map actor_of all ≡ acting player → slice_get all k ≡ Some actor → slice_get (acting player) k ≡ Some (actor_of actor)
there_as player all k actor same at = ap (λ xs. slice_get xs k) (sym same) ∙ slice_get-map actor_of all k ∙ ap (option_map actor_of) at

pub is_listed : (player : Player) (all : List Listed) (k : ℕ) (actor : Listed) → map actor_of all ≡ acting player → slice_get all k ≡ Some actor → IsListed player (actor_of actor)
is_listed player all k actor same at = all_at (IsListed player) (acting player) k (actor_of actor) (all_listed player) (there_as player all k actor same at)

-- the step of the actor that was drawn

bind_to : {A B : Type 0} (o : Option A) (x : A) (f : A → Option B) → o ≡ Some x → (o >>= f) ≡ f x
bind_to o x f e = rw e refl

bind_none : {A B : Type 0} (o : Option A) (f : A → Option B) → o ≡ None → (o >>= f) ≡ None
bind_none o f e = rw e refl

-- the next step, where these are the actors
next_of_actors : (script : Script) (run : Run) (all : List Actor) → actors script run ≡ all →
    next_step script run ≡ (slice_get all (drawn (length all) run.words).0 >>= λ actor. acts script run actor (drawn (length all) run.words).1)
next_of_actors script run all e = ap (λ xs. slice_get xs (drawn (length xs) run.words).0 >>= λ actor. acts script run actor (drawn (length xs) run.words).1) e

next_listed : (script : Script) (history : List Event) (player : Player) (words : Lcg) (all : List Listed) → Stands script history player → map actor_of all ≡ acting player →
    next_step script (run_of player history words)
    ≡ (slice_get (acting player) (drawn (length all) words).0 >>= λ actor. acts script (run_of player history words) actor (drawn (length all) words).1)
next_listed script history player words all s same =
    let run = run_of player history words in
    let count : length (acting player) ≡ length all = ap length (sym same) ∙ length-map all actor_of in
    next_of_actors script run (acting player) (sym (acting_same script history player words s))
    ∙ ap (λ n. slice_get (acting player) (drawn n words).0 >>= λ actor. acts script run actor (drawn n words).1) count

pub chosen_program : (player : Player) (words later : Lcg) (all : List Listed) (k pe : ℕ) → map actor_of all ≡ acting player →
    drawn (length all) words ≡ (k, later) → slice_get all k ≡ Some (listed.Program pe) → Chooses player words later (Some (chosen.Turn pe))
chosen_program player words later all k pe same choice at script history s =
    let run = run_of player history words in
    let is = is_listed player all k (listed.Program pe) same at in
    let count = s.count in
    let low = is.1 in
    next_listed script history player words all s same
    ∙ ap (λ c. slice_get (acting player) c.0 >>= λ actor. acts script run actor c.1) choice
    ∙ bind_to (slice_get (acting player) k) (Program pe) (λ actor. acts script run actor later) (there_as player all k (listed.Program pe) same at)
    ∙ ap (with_words later) (sym (may_go_same script history player words pe s (omega (arith, count, low))))

-- the step of a stripe as what was chosen
abbrev pub moved : Option Asked → Option Chosen
moved asked = option_map chosen.Move asked

moved_event : (player : Player) (asked : Option Asked) → (moved asked >>= chosen_event player) ≡ (asked >>= event_for player.service.state)
moved_event player None = refl
moved_event player (Some asked) = refl

pub chosen_stripe : (player : Player) (words mid later : Lcg) (all : List Listed) (k stripe : ℕ) (asked : Option Asked) → map actor_of all ≡ acting player →
    drawn (length all) words ≡ (k, mid) → slice_get all k ≡ Some (listed.Stripe stripe) → OnStripe player stripe mid later asked → Chooses player words later (moved asked)
chosen_stripe player words mid later all k stripe asked same choice at on script history s =
    let run = run_of player history words in
    let low : stripe < length player.ready = is_listed player all k (listed.Stripe stripe) same at in
    let count = ready_count player.service.state player.ready s.ready in
    let names = names_of player.service.state player.ready stripe s.ready (omega (arith, low, count)) in
    next_listed script history player words all s same
    ∙ ap (λ c. slice_get (acting player) c.0 >>= λ actor. acts script run actor c.1) choice
    ∙ bind_to (slice_get (acting player) k) (Stripe stripe) (λ actor. acts script run actor mid) (there_as player all k (listed.Stripe stripe) same at)
    ∙ ap (λ ready. drawn_of player.service.state ready mid) (sym names)
    ∙ on
    ∙ ap (with_words later) (sym (moved_event player asked))

pub chosen_none : (player : Player) (words later : Lcg) (all : List Listed) (k : ℕ) → map actor_of all ≡ acting player → drawn (length all) words ≡ (k, later) → slice_get all k ≡ None →
    Chooses player words later None
chosen_none player words later all k same choice none script history s =
    let run = run_of player history words in
    let past : slice_get (acting player) k ≡ None = ap (λ xs. slice_get xs k) (sym same) ∙ slice_get-map actor_of all k ∙ ap (option_map actor_of) none in
    next_listed script history player words all s same
    ∙ ap (λ c. slice_get (acting player) c.0 >>= λ actor. acts script run actor c.1) choice
    ∙ bind_none (slice_get (acting player) k) (λ actor. acts script run actor later) past

-- the piece that was drawn

-- a piece that was drawn
pub drawn_there : (player : Player) (stripe : ℕ) (words mid later : Lcg) (k : ℕ) (name : PieceName) (asked : Asked) →
    drawn (length (names_at player.ready stripe)) words ≡ (k, mid) → slice_get (names_at player.ready stripe) k ≡ Some name →
    taken player.service.state name mid ≡ with_words later (event_for player.service.state asked) → OnStripe player stripe words later (Some asked)
drawn_there player stripe words mid later k name asked choice at takes =
    let names = names_at player.ready stripe in
    ap (λ c. slice_get names c.0 >>= λ n. taken player.service.state n c.1) choice
    ∙ bind_to (slice_get names k) name (λ n. taken player.service.state n mid) at
    ∙ takes

pub none_there : (player : Player) (stripe : ℕ) (words later : Lcg) (k : ℕ) → drawn (length (names_at player.ready stripe)) words ≡ (k, later) →
    length (names_at player.ready stripe) ≤ k → OnStripe player stripe words later None
none_there player stripe words later k choice past =
    let names = names_at player.ready stripe in
    ap (λ c. slice_get names c.0 >>= λ n. taken player.service.state n c.1) choice
    ∙ bind_none (slice_get names k) (λ n. taken player.service.state n later) (slice_get_past names k past)

-- what becomes of a piece

pub taken_whole : (state : State) (name : PieceName) (words : Lcg) → is_orphan state name ≡ false → taken state name words ≡ with_words words (piece_event state name)
taken_whole state name words whole = rw whole refl

pub taken_lost : (state : State) (name : PieceName) (words later : Lcg) (word : ℕ) → is_orphan state name ≡ true → pcg32 words ≡ (word, later) → (word % 2 == 1) ≡ true →
    taken state name words ≡ with_words later (Some (loss name))
taken_lost state name words later word orphan drew odd =
    let odd_word : ((pcg32 words).0 % 2 == 1) ≡ true = ap (λ d. d.0 % 2 == 1) drew ∙ odd in
    rw (orphan, odd_word) (ap (λ d. with_words d.1 (Some (loss name))) drew)

pub taken_kept : (state : State) (name : PieceName) (words later : Lcg) (word : ℕ) → is_orphan state name ≡ true → pcg32 words ≡ (word, later) → (word % 2 == 1) ≡ false →
    taken state name words ≡ with_words later (piece_event state name)
taken_kept state name words later word orphan drew even =
    let even_word : ((pcg32 words).0 % 2 == 1) ≡ false = ap (λ d. d.0 % 2 == 1) drew ∙ even in
    rw (orphan, even_word) (ap (λ d. with_words d.1 (piece_event state name)) drew)

pub is_odd : (n : ℕ) → n % 2 ≡ 1 → (n % 2 == 1) ≡ true
is_odd n e = grind arith

pub is_even : (n : ℕ) → (n % 2 ≡ 1 → ⊥) → (n % 2 == 1) ≡ false
is_even n h = by_test (n % 2 == 1) refl
  where
    by_test : (b : Bool) → (n % 2 == 1) ≡ b → (n % 2 == 1) ≡ false
    by_test false e = e
    by_test true e = absurd (h (eqb-true (n % 2) 1 e))
