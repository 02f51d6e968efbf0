-- A run goes on.
use Rattle.std.proofs.Common.{◌≡◌, ℕ, ◌+◌, ◌<◌, ◌≤◌, Bool, true, false, List, [], ◌∷◌, ◌++◌, length, map, refl, sym, ap, ◌∙◌, subst, arith, append-nil, suc, zero, inl, inr}
use Rattle.std.specs.Prelude.{Result, Ok, Err, Option, Some, None, filter, slice_get, is_some, if◌then◌else◌}
use Rattle.std.specs.List.{range_with_len}
use Rattle.std.specs.Option.{option_map, option_to_list}
use Rattle.std.proofs.lemmas.List.{length-map, length-set}
use Rattle.std.proofs.lemmas.List.FromFn.{length-range_with_len, get_or-range_with_len}
use Rattle.std.proofs.lemmas.Option.{slice_get-map, slice_get_within, slice_get-get_or}
use Rattle.rand_pcg.specs.Lcg.{Lcg}
use Rattle.fam_model.specs.declared.call.Call.{Call}
use Rattle.fam_model.specs.declared.event.Event.{Event}
use Rattle.fam_model.specs.declared.reply.Reply.{Reply}
use Rattle.fam_model.specs.declared.script.Program.{Program as Text}
use Rattle.fam_model.specs.declared.script.Script.{Script}
use Rattle.fam_model.specs.declared.state.State.{State}
use Rattle.fam_model.specs.Limits.{service_limits}
use Rattle.fam_model.specs.Lists.{◌>>=◌, numbers_below}
use Rattle.fam_model.specs.Pieces.{stripe_count}
use Rattle.fam_model.specs.Text.{next_call}
use Rattle.fam_ready.specs.Ready.{AreReady}
use Rattle.fam_ready.proofs.States.{step_tidy}
use Rattle.fam_schedule.specs.Schedule.{Program, Stripe, PieceName, actors, is_some_of, new_run, next_step, program_event, ready_on, replies_to}
use Rattle.fam_schedule.proofs.Refusals.{IsDueOrRefused, comes_instead}
use Rattle.fam_schedule.proofs.Moves.{step_moves}
use Rattle.fam_schedule.proofs.Runs.{TellsAll, tells_instead}
use Rattle.fam_turns.specs.Turns.{event_with}
use Rattle.fam_turns.proofs.Scheduled.{is_scheduled}
use Rattle.ready_lists.specs.Lists.{busy_stripes, names_at}
use Rattle.fam_core.specs.declared.playing.Player.{Player}
use Rattle.fam_core.specs.declared.turn.Turn.{Turn}
use Rattle.fam_model.specs.declared.rows.Rows.{Rows}
use Rattle.fam_schedule.specs.Schedule.{with_words}
use Rattle.fam_core.specs.declared.chosen.Chosen.{Chosen}
use Rattle.fam_core.specs.declared.chosen.Chosen.TheVariants as chosen
use Rattle.fam_base.specs.declared.error.NoMemory.{NoMemory}
use Rattle.std.proofs.lemmas.Bool.{false≢true}
use Rattle.fam_model.specs.Step.{step}
use Rattle.fam_steps.specs.Steps.{Course}
use Rattle.fam_schedule.specs.Schedule.{Comes, IsScheduled, LeadsTo, went_on}
use Rattle.fam_core.specs.Playing.{Advances, Chooses, ComesNot, IsMade, IsNext, IsRunning, IsStanding, Makes, Stands, StandsAfter, acting, asked_by, chosen_event, may_go, run_of}
use Rattle.fam_core.specs.Turns.{Heard, IsTurn, told_to}
use Rattle.fam_core.proofs.Hearing.{hears}
use Rattle.fam_core.proofs.Leading.{the_step, leads_more}
use Rattle.fam_core.proofs.Stepping.{not_enabled}

-- lists of numbers

-- equal tests of the numbers from k on
filter_from : (p q : ℕ → Bool) (k n : ℕ) → ((i : ℕ) → k ≤ i → i < k + n → p i ≡ q i) → filter p (range_with_len k n) ≡ filter q (range_with_len k n)
filter_from p q k zero h = refl
filter_from p q k (suc n) h =
    let here : p k ≡ q k = h k (omega arith) (omega arith) in
    let rest = filter_from p q (k + 1) n (λ i low high. h i (omega arith) (omega arith)) in
    ap (λ b. if b then k ∷ filter p (range_with_len (k + 1) n) else filter p (range_with_len (k + 1) n)) here
    ∙ ap (λ xs. if q k then k ∷ xs else xs) rest

pub filter_below : (p q : ℕ → Bool) (n : ℕ) → ((i : ℕ) → i < n → p i ≡ q i) → filter p (numbers_below n) ≡ filter q (numbers_below n)
filter_below p q n h = filter_from p q 0 n (λ i low high. h i (omega arith))

pub number_at : (n k : ℕ) → k < n → slice_get (numbers_below n) k ≡ Some k
number_at n k low =
    let longer : length (numbers_below n) ≡ n = length-range_with_len 0 n in
    let number : 0 + k ≡ k = omega arith in
    slice_get-get_or (numbers_below n) k 0 (omega arith) ∙ ap Some (get_or-range_with_len 0 n k 0 low ∙ number)

-- who may act

-- the names of a stripe are those of the schedule
pub names_of : (state : State) (lists : List (List PieceName)) (stripe : ℕ) → AreReady state lists → stripe < stripe_count state.service → names_at lists stripe ≡ ready_on state stripe
names_of state lists stripe ready low =
    let there : slice_get lists stripe ≡ Some (ready_on state stripe) =
    ap (λ xs. slice_get xs stripe) ready ∙ slice_get-map (ready_on state) (numbers_below (stripe_count state.service)) stripe
    ∙ ap (option_map (ready_on state)) (number_at (stripe_count state.service) stripe low) in
    rw there refl

pub ready_count : (state : State) (lists : List (List PieceName)) → AreReady state lists → length lists ≡ stripe_count state.service
ready_count state lists ready =
    ap length ready ∙ length-map (numbers_below (stripe_count state.service)) (ready_on state) ∙ length-range_with_len 0 (stripe_count state.service)

busy_same : (state : State) (lists : List (List PieceName)) → AreReady state lists →
    busy_stripes lists ≡ filter (λ stripe. is_some_of (ready_on state stripe)) (numbers_below (stripe_count state.service))
busy_same state lists ready =
    ap (λ n. filter (λ stripe. is_some_of (names_at lists stripe)) (numbers_below n)) (ready_count state lists ready)
    ∙ filter_below (λ stripe. is_some_of (names_at lists stripe)) (λ stripe. is_some_of (ready_on state stripe)) (stripe_count state.service)
    (λ stripe low. ap is_some_of (names_of state lists stripe ready low))

-- the next call of each program is that of its text
abbrev due_in : Script → List Event → ℕ → Option Call
due_in script history pe = slice_get script.programs pe >>= λ program. next_call program (replies_to history pe)

pub element_at : {A : Type 0} (xs : List A) (k : ℕ) → k < length xs → (x : A) × (slice_get xs k ≡ Some x)
element_at [] k low = let no : ⊥ = omega arith in absurd no
element_at (x ∷ xs) k low = (_, slice_get-get_or (x ∷ xs) k x low)

bind_to : {A B : Type 0} (o : Option A) (x : A) (f : A → Option B) → o ≡ Some x → (o >>= f) ≡ f x
bind_to o x f e = rw e refl

asked_at : (script : Script) (history : List Event) (player : Player) (pe : ℕ) → Stands script history player → pe < length script.programs →
    asked_by player.turns pe ≡ due_in script history pe
asked_at script history player pe s low =
    let count = s.count in
    let text = element_at script.programs pe low in
    let turn = element_at player.turns pe (omega (arith, count)) in
    let is = s.turns pe turn.0 text.0 turn.1 text.1 in
    bind_to (slice_get player.turns pe) turn.0 (λ t. t.asked) turn.1
    ∙ is.due
    ∙ sym (bind_to (slice_get script.programs pe) text.0 (λ program. next_call program (replies_to history pe)) text.1)

pub may_go_same : (script : Script) (history : List Event) (player : Player) (words : Lcg) (pe : ℕ) → Stands script history player → pe < length script.programs →
    event_with player.service.state pe (asked_by player.turns pe) ≡ program_event script (run_of player history words) pe
may_go_same script history player words pe s low =
    ap (event_with player.service.state pe) (asked_at script history player pe s low) ∙ sym (is_scheduled script (run_of player history words) pe)

pub acting_same : (script : Script) (history : List Event) (player : Player) (words : Lcg) → Stands script history player → acting player ≡ actors script (run_of player history words)
acting_same script history player words s =
    let run = run_of player history words in
    let n = length player.turns in
    let programs : filter (may_go player) (numbers_below n) ≡ filter (λ pe. is_some (program_event script run pe)) (numbers_below (length player.service.state.programs)) =
    filter_below (may_go player) (λ pe. is_some (program_event script run pe)) n
    (λ pe low. let count = s.count in ap is_some (may_go_same script history player words pe s (omega (arith, count))))
    ∙ ap (λ k. filter (λ pe. is_some (program_event script run pe)) (numbers_below k)) (s.count ∙ sym s.programs) in
    ap (λ xs. map Program xs ++ map Stripe (busy_stripes player.ready)) programs
    ∙ ap (λ xs. map Program (filter (λ pe. is_some (program_event script run pe)) (numbers_below (length player.service.state.programs))) ++ map Stripe xs)
    (busy_same player.service.state player.ready s.ready)

-- the next event

-- what is told of calls does not speak of the words left
pub tells_with : (script : Script) (history : List Event) (state : State) (words others : Lcg) → TellsAll script (record { before = history; now = state; words = words }) →
    TellsAll script (record { before = history; now = state; words = others })
tells_with script history state words others all pe text there =
    let one = all pe text there in record { p = one.p; there = one.there; tells = one.tells }

-- a program that has heard
heard_turn : (text : Text) (pe : ℕ) (told : Option Reply) (replies later : List Reply) (old new : Turn) → IsTurn text pe replies old → Heard pe told old new →
    later ≡ replies ++ option_to_list told → IsTurn text pe later new
heard_turn text pe None replies later old new is same e = subst (λ rs. IsTurn text pe rs new) (sym (e ∙ append-nil replies)) (subst (IsTurn text pe replies) (sym same) is)
heard_turn text pe (Some given) replies later old new is goes e = subst (λ rs. IsTurn text pe rs new) (sym e) (goes text replies is)

-- the state after the next event
pub stands_next : (script : Script) (history : List Event) (old new : Player) (words later : Lcg) (due event : Event) → Stands script history old →
    next_step script (run_of old history words) ≡ Some (the_step due later) → Comes old.service.state due event → Makes old event new → Stands script (history ++ event ∷ []) new
stands_next script history old new words later due event s chosen instead makes =
    let run = run_of old history words in
    let moves = step_moves service_limits old.service.state new.service.state event makes.makes.steps in
    let comes : IsDueOrRefused script run event = comes_instead script run due event later chosen instead in
    let count = makes.hears.count in
    let few = s.few in
    record {
      few = omega (arith, few, count);
      programs = ap length moves.programs ∙ length-set old.service.state.programs event.pe.0 moves.is ∙ s.programs;
      count = count ∙ s.count;
      turns = λ pe turn text at there.
          let low : pe < length new.turns = slice_get_within new.turns pe turn at in
          let was = element_at old.turns pe (omega (arith, count, low)) in
          heard_turn text pe (told_to pe event) (replies_to history pe) (replies_to (history ++ event ∷ []) pe) was.0 turn (s.turns pe was.0 text was.1 there)
          (makes.hears.each pe was.0 turn was.1 at) (hears script run text pe event there (s.tells words) comes);
      ready = makes.follows old.service.state s.ready s.tidy makes.makes.steps;
      flags = makes.keeps.right old.service.state old.turns s.flags makes.hears makes.makes.steps;
      tells = λ others. tells_with script (history ++ event ∷ []) new.service.state later others (tells_instead script run event new.service.state later (s.tells words) comes makes.makes.steps);
      tidy = step_tidy service_limits old.service.state new.service.state event makes.makes.steps s.tidy;
      made = makes.makes.kept ∙ ap (λ history. history ++ event ∷ []) s.made;
    }

-- the event of what was chosen is due next
chosen_next : (old : Player) (words later : Lcg) (choice : Chosen) (due event : Event) (next : State) → Chooses old words later (Some choice) → chosen_event old choice ≡ Some due →
    Comes old.service.state due event → step service_limits old.service.state event ≡ Some next → IsNext old words due event later next
chosen_next old words later choice due event next chooses is comes steps script history s = (chooses script history s ∙ ap (with_words later) is, comes, steps)

pub advances : (old new : Player) (words later : Lcg) (choice : Chosen) (made : Result Bool NoMemory) → Chooses old words later (Some choice) → IsMade old choice new made → Advances old words new later made
advances old new words later choice (Ok true) chooses (due, event, is, makes) =
    let next = chosen_next old words later choice due event new.service.state chooses is makes.comes makes.makes.makes.steps in
    (due, event, next, λ script history s. stands_next script history old new words later due event s (next script history s).0 makes.comes makes.makes)
advances old new words later choice (Ok false) chooses (not, same) = (same, λ script history s. comes_not choice not script history (chooses script history s))
  where
    comes_not : (choice : Chosen) → ComesNot old choice → (script : Script) (history : List Event) → next_step script (run_of old history words) ≡ with_words later (chosen_event old choice) →
        next_step script (run_of old history words) ≡ None
    comes_not (chosen.Turn pe) none script history next = next ∙ ap (with_words later) none
    comes_not (chosen.Move asked) not script history next = not_enabled script (run_of old history words) asked later next not
advances old new words later choice (Err e) chooses (inl same) = inl (ap (λ (c : Course). c.history) same)
advances old new words later choice (Err e) chooses (inr (due, event, is, makes)) =
    inr (due, event, chosen_next old words later choice due event new.service.state chooses is makes.comes makes.makes.steps, makes.makes.kept)

-- nothing was chosen
pub nobody_acts : (player : Player) (words later : Lcg) → Chooses player words later None → Advances player words player later (Ok false)
nobody_acts player words later chooses = (refl, λ script history s. chooses script history s)

-- a run that goes on by the next event
pub goes_on : (rows : Rows) (script : Script) (seed : ℕ) (old new : Player) (words later : Lcg) → StandsAfter rows script seed old.service.history old words →
    Advances old words new later (Ok true) → StandsAfter rows script seed new.service.history new later
goes_on rows script seed old new words later s (due, event, next, stands) =
    let history = old.service.history in
    let a = next script history s.stands in
    let stood = stands script history s.stands in
    subst (λ h. StandsAfter rows script seed h new later) (sym stood.made)
    (record {
      leads = leads_more script (new_run rows script seed) (run_of old history words) history due event later new.service.state s.leads a.0 a.1 a.2;
      stands = stood;
    })

-- a run that stops short
pub stops_short : (rows : Rows) (script : Script) (seed : ℕ) (old new : Player) (words later : Lcg) (error : NoMemory) → StandsAfter rows script seed old.service.history old words →
    Advances old words new later (Err error) → IsScheduled rows script seed new.service.history false
stops_short rows script seed old new words later error s (inl same) =
    record { end = run_of old old.service.history words; leads = subst (λ h. LeadsTo script (new_run rows script seed) h (run_of old old.service.history words)) (sym same) s.leads; stops = λ e. absurd (false≢true e) }
stops_short rows script seed old new words later error s (inr (due, event, next, kept)) =
    let history = old.service.history in
    let a = next script history s.stands in
    let end = went_on (run_of old history words) event new.service.state later in
    record {
      end = end;
      leads = subst (λ h. LeadsTo script (new_run rows script seed) h end) (sym kept)
          (leads_more script (new_run rows script seed) (run_of old history words) history due event later new.service.state s.leads a.0 a.1 a.2);
      stops = λ e. absurd (false≢true e);
    }

-- a run that stands somewhere
pub running_on : (old new : Player) (words later : Lcg) → IsRunning old words → Advances old words new later (Ok true) → IsRunning new later
running_on old new words later (rows, script, seed, s) advances = (rows, script, seed, goes_on rows script seed old new words later s advances)

pub standing : (player : Player) (words : Lcg) → IsRunning player words → IsStanding player
standing player words (rows, script, seed, s) = (script, player.service.history, s.stands)
