-- A program after an event of its own that the audit took.
use Rattle.std.proofs.Common.{◌≡◌, ℕ, ◌+◌, Bool, true, false, List, [], ◌∷◌, ◌++◌, refl, sym, ap, ◌∙◌, subst, append-nil, arith, eqb-true, inl, inr, ◌⊎◌}
use Rattle.std.specs.Prelude.{◌==◌, ◌&&◌, Option, Some, None, is_some}
use Rattle.std.specs.List.{filter_map}
use Rattle.std.specs.Option.{option_map, option_or, option_to_list}
use Rattle.std.proofs.lemmas.List.Elements.{filter_map-append}
use Rattle.fam_model.specs.declared.call.Call.{Call}
use Rattle.fam_model.specs.declared.call.Call.TheVariants as call
use Rattle.fam_model.specs.declared.event.Event.{Event}
use Rattle.fam_model.specs.declared.event.What.{What}
use Rattle.fam_model.specs.declared.event.What.TheVariants as what
use Rattle.fam_model.specs.declared.reply.Reply.{Reply}
use Rattle.fam_model.specs.declared.script.Program.{Program as Text}
use Rattle.fam_model.specs.declared.state.ProgramState.{ProgramState}
use Rattle.fam_model.specs.declared.state.Started.{Started}
use Rattle.fam_model.specs.declared.state.Started.TheVariants as begun
use Rattle.fam_model.specs.declared.state.State.{State}
use Rattle.fam_model.specs.EqualCalls.{equal_calls}
use Rattle.fam_model.specs.History.{calls, reply_made, answered_with}
use Rattle.fam_model.specs.Limits.{service_limits}
use Rattle.fam_model.specs.Lists.{is_some_and}
use Rattle.fam_model.specs.ContextStep.{answer_step}
use Rattle.fam_model.specs.Programs.{is_running, with_program}
use Rattle.fam_model.specs.Shape.{is_shaped}
use Rattle.fam_model.specs.Step.{effect}
use Rattle.fam_model.specs.Text.{Asked, next_call, is_call}
use Rattle.fam_model.specs.Turn.{answers_started, call_made, is_idle, is_in_turn, is_next}
use Rattle.fam_schedule.specs.Schedule.{event_of, replies_to}
use Rattle.fam_schedule.proofs.Options.{or_none}
use Rattle.fam_schedule.proofs.Told.{speaks, is_mine, Below, told_as, calls_skip, calls_made, calls_answered}
use Rattle.fam_schedule.proofs.Moves.{Moved, started_after, number_after}
use Rattle.fam_schedule.proofs.Follows.{Tells, Settled, Awaits, waits_below, tells_skip, tells_replied, tells_started, tells_answered}
use Rattle.fam_schedule.proofs.Runs.{IsReplied, IsBegun, leaves, equal, counted_up, silent_not_mine}
use Rattle.fam_audit.specs.Turns.{told_by, told_to}

-- replies

-- the replies of these calls
abbrev pub replies_in : List Asked → List Reply
replies_in asked = filter_map (λ a. a.1) asked

replies_append : (xs ys : List Asked) → replies_in (xs ++ ys) ≡ replies_in xs ++ replies_in ys
replies_append xs ys = filter_map-append (λ a. a.1) xs ys

one_reply : (asked : Call) (given : Option Reply) → replies_in (told_as asked given ∷ []) ≡ option_to_list given
one_reply asked None = refl
one_reply asked (Some given) = refl

-- its calls are all below its next one
below_of : (text : Text) (pe n : ℕ) (s : Started) (history : List Event) → Tells text pe n s history → Below pe n history
below_of text pe n begun.Nothing history t = t.below
below_of text pe n (begun.Operation c) history t = waits_below pe n c t.asked history t.waits t.number
below_of text pe n (begun.Barrier c) history t = waits_below pe n c t.asked history t.waits t.number

-- with one event more, the replies are those so far and the one that it tells
abbrev pub Hears : ℕ → List Event → Event → Type 0
Hears pe history event = replies_to (history ++ event ∷ []) pe ≡ replies_to history pe ++ option_to_list (told_to pe event)

-- an event that tells the program nothing
pub hears_skip : (text : Text) (pe n : ℕ) (s : Started) (history : List Event) (event : Event) → Tells text pe n s history → is_mine pe event ≡ false → told_to pe event ≡ None → Hears pe history event
hears_skip text pe n s history event tells other none =
    ap replies_in (calls_skip history pe n event (below_of text pe n s history tells) other)
    ∙ sym (append-nil (replies_to history pe))
    ∙ ap (λ r. replies_to history pe ++ option_to_list r) (sym none)

pub not_told : (pe : ℕ) (event : Event) → (event.pe.0 == pe) ≡ false → told_to pe event ≡ None
not_told pe event e = rw e refl

is_told : (pe : ℕ) (event : Event) → (event.pe.0 == pe) ≡ true → told_to pe event ≡ told_by event.what
is_told pe event e = rw e refl

-- what makes a call answers none
made_not_answers : (made : What) (asked : Call) → call_made made ≡ Some asked → answered_with made ≡ None
made_not_answers (what.Meta a given) asked e = refl
made_not_answers (what.Issue a given) asked e = refl
made_not_answers (what.Piece piece given) asked e = refl
made_not_answers (what.Answer given) asked e = cc
made_not_answers (what.OpenContext context) asked e = refl
made_not_answers (what.CloseContext context given) asked e = refl
made_not_answers (what.Fence context) asked e = refl
made_not_answers (what.Quiet context given) asked e = refl
made_not_answers (what.Wait context named given) asked e = refl
made_not_answers what.Arrive asked e = refl
made_not_answers what.Leave asked e = refl
made_not_answers what.Crash asked e = refl
made_not_answers (what.Lose piece) asked e = refl
made_not_answers (what.Refused a error doubt) asked e = refl

-- what stands after an event of the program

-- the calls that it makes still follow its text, and it got the reply that the event tells
pub record Owns (text : Text) (pe : ℕ) (is : ProgramState) (before : List Event) (event : Event) : Type 0 where
  pub tells : Tells text pe is.next_call is.started (before ++ event ∷ [])
  pub hears : Hears pe before event

tells_as : (text : Text) (pe n m : ℕ) (s t : Started) (history : List Event) → m ≡ n → t ≡ s → Tells text pe n s history → Tells text pe m t history
tells_as text pe n m s t history e f h =
    subst (λ k. Tells text pe k t history) (sym e) (subst (λ x. Tells text pe n x history) (sym f) h)

-- a call

made_tells : (text : Text) (pe : ℕ) (p is : ProgramState) (before : List Event) (number : ℕ) (made : What) (asked : Call) → Settled text pe p.next_call before →
    number ≡ p.next_call → call_made made ≡ Some asked → is_call (next_call text (replies_to before pe)) asked ≡ true → Moved p made is →
    IsReplied p made ⊎ IsBegun p made → Tells text pe is.next_call is.started (before ++ event_of pe number made ∷ [])
made_tells text pe p is before number made asked s at e due moved (inl r) =
    tells_as text pe (p.next_call + 1) is.next_call begun.Nothing is.started (before ++ event_of pe number made ∷ [])
    (moved.number ∙ counted_up p made asked e) (moved.started ∙ r.nothing)
    (tells_replied text pe p.next_call before (event_of pe number made) asked r.given s (equal pe) at e r.reply_is due)
made_tells text pe p is before number made asked s at e due moved (inr (none, inl (c, op, o))) =
    tells_as text pe (p.next_call + 1) is.next_call (begun.Operation p.next_call) is.started (before ++ event_of pe number made ∷ [])
    (moved.number ∙ counted_up p made asked e) (moved.started ∙ ap (started_after p) o)
    (tells_started text pe p.next_call before (event_of pe number made) asked s (equal pe) at e none due)
made_tells text pe p is before number made asked s at e due moved (inr (none, inr b)) =
    tells_as text pe (p.next_call + 1) is.next_call (begun.Barrier p.next_call) is.started (before ++ event_of pe number made ∷ [])
    (moved.number ∙ counted_up p made asked e) (moved.started ∙ ap (started_after p) b)
    (tells_started text pe p.next_call before (event_of pe number made) asked s (equal pe) at e none due)

made_hears : (text : Text) (pe n : ℕ) (before : List Event) (number : ℕ) (made : What) (asked : Call) → Settled text pe n before → number ≡ n →
    call_made made ≡ Some asked → Hears pe before (event_of pe number made)
made_hears text pe n before number made asked s at e =
    let event = event_of pe number made in
    let told : told_to pe event ≡ reply_made made =
    is_told pe event (equal pe) ∙ ap (option_or (reply_made made)) (made_not_answers made asked e) ∙ or_none (reply_made made) in
    ap replies_in (calls_made before pe n event asked s.below (equal pe) (omega (arith, at)) e)
    ∙ replies_append (calls before pe) (told_as asked (reply_made made) ∷ [])
    ∙ ap (λ rs. replies_to before pe ++ rs) (one_reply asked (reply_made made) ∙ ap option_to_list (sym told))

made_owns : (text : Text) (pe : ℕ) (p is : ProgramState) (before : List Event) (number : ℕ) (made : What) (asked : Call) → Settled text pe p.next_call before →
    number ≡ p.next_call → call_made made ≡ Some asked → is_call (next_call text (replies_to before pe)) asked ≡ true → Moved p made is →
    Owns text pe is before (event_of pe number made)
made_owns text pe p is before number made asked s at e due moved =
    record {
      tells = made_tells text pe p is before number made asked s at e due moved (leaves p made asked e);
      hears = made_hears text pe p.next_call before number made asked s at e;
    }

-- an answer

answer_owns : (text : Text) (pe c : ℕ) (p is : ProgramState) (before : List Event) (number : ℕ) (given : Reply) → Awaits text pe p.next_call c before →
    number ≡ c → Moved p (what.Answer given) is → Owns text pe is before (event_of pe number (what.Answer given))
answer_owns text pe c p is before number given a at moved =
    let w = a.waits in
    let event = event_of pe number (what.Answer given) in
    let so_far : replies_to before pe ≡ replies_to w.earlier pe =
    ap replies_in w.told ∙ replies_append (calls w.earlier pe) (told_as a.asked None ∷ []) ∙ append-nil (replies_to w.earlier pe) in
    let told : told_to pe event ≡ Some given = is_told pe event (equal pe) in
    record {
      tells = tells_as text pe p.next_call is.next_call begun.Nothing is.started (before ++ event ∷ []) moved.number moved.started
          (tells_answered text pe p.next_call c before event given a (equal pe) at refl refl);
      hears = ap replies_in (calls_answered before pe c a.asked event given w (equal pe) at refl refl)
          ∙ replies_append (calls w.earlier pe) (told_as a.asked (Some given) ∷ [])
          ∙ ap (λ rs. rs ++ given ∷ []) (sym so_far)
          ∙ ap (λ r. replies_to before pe ++ option_to_list r) (sym told);
    }

-- a piece, or a loss

silent_owns : (text : Text) (pe : ℕ) (p is : ProgramState) (before : List Event) (number : ℕ) (made : What) → Tells text pe p.next_call p.started before →
    speaks made ≡ false → told_by made ≡ None → started_after p made ≡ p.started → number_after p made ≡ p.next_call → Moved p made is →
    Owns text pe is before (event_of pe number made)
silent_owns text pe p is before number made tells silent none started same moved =
    let event = event_of pe number made in
    let other : is_mine pe event ≡ false = silent_not_mine event pe true (equal pe) silent in
    record {
      tells = tells_as text pe p.next_call is.next_call p.started is.started (before ++ event ∷ []) (moved.number ∙ same) (moved.started ∙ started)
          (tells_skip text pe p.next_call p.started before event other tells);
      hears = hears_skip text pe p.next_call p.started before event tells other (is_told pe event (equal pe) ∙ none);
    }

-- turns

first_true : (a b : Bool) → (a && b) ≡ true → a ≡ true
first_true true b e = refl
first_true false b e = cc

second_true : (a b : Bool) → (a && b) ≡ true → b ≡ true
second_true true b e = e
second_true false b e = cc

idle_is : (s : Started) → is_idle s ≡ true → s ≡ begun.Nothing
idle_is begun.Nothing e = refl
idle_is (begun.Operation c) e = cc
idle_is (begun.Barrier c) e = cc

next_is : (p : ProgramState) (number : ℕ) → is_next p number ≡ true → number ≡ p.next_call
next_is p number e = eqb-true number p.next_call (first_true (number == p.next_call) _ e)

-- the call that is due
abbrev pub IsDue : Text → ℕ → List Event → What → Type 0
IsDue text pe before made = (asked : Call) → call_made made ≡ Some asked → is_call (next_call text (replies_to before pe)) asked ≡ true

-- a call that comes while nothing is started
call_owns : (text : Text) (pe : ℕ) (p is : ProgramState) (before : List Event) (number : ℕ) (made : What) (asked : Call) → Tells text pe p.next_call p.started before →
    (is_running p.standing && is_next p number && is_idle p.started && is_some_and (call_made made) is_shaped) ≡ true → call_made made ≡ Some asked →
    IsDue text pe before made → Moved p made is → Owns text pe is before (event_of pe number made)
call_owns text pe p is before number made asked tells turn e due moved =
    let three = is_running p.standing && is_next p number && is_idle p.started in
    let two = is_running p.standing && is_next p number in
    let idle : is_idle p.started ≡ true = second_true two (is_idle p.started) (first_true three (is_some_and (call_made made) is_shaped) turn) in
    let next : is_next p number ≡ true = second_true (is_running p.standing) (is_next p number) (first_true two (is_idle p.started) (first_true three (is_some_and (call_made made) is_shaped) turn)) in
    made_owns text pe p is before number made asked (subst (λ s. Tells text pe p.next_call s before) (idle_is p.started idle) tells)
    (next_is p number next) e (due asked e) moved

-- what is waited for is no crash

no_crash_begun : (p : ProgramState) (made : What) → reply_made made ≡ None → call_made made ≡ Some call.Crash → IsReplied p made ⊎ IsBegun p made → ⊥
no_crash_begun p made none e (inl r) = let no : None ≡ Some r.given = sym none ∙ r.reply_is in cc
no_crash_begun p made none e (inr (quiet, inl (c, op, o))) =
    let no : Some (call.Data c op true) ≡ Some call.Crash = sym (ap call_made o) ∙ e in cc
no_crash_begun p made none e (inr (quiet, inr b)) = let no : Some call.Barrier ≡ Some call.Crash = sym (ap call_made b) ∙ e in cc

same_due : (due : Option Call) (a b : Call) → is_call due a ≡ true → is_call due b ≡ true → a ≡ b
same_due None a b e f = cc
same_due (Some d) a b e f = sym (equal_calls d a e) ∙ equal_calls d b f

no_crash : (text : Text) (pe n c : ℕ) (p : ProgramState) (before : List Event) → Awaits text pe n c before → is_call (next_call text (replies_to before pe)) call.Crash ≡ true → ⊥
no_crash text pe n c p before a due =
    let w = a.waits in
    let so_far : replies_to before pe ≡ replies_to w.earlier pe =
    ap replies_in w.told ∙ replies_append (calls w.earlier pe) (told_as a.asked None ∷ []) ∙ append-nil (replies_to w.earlier pe) in
    let crash : is_call (next_call text (replies_to w.earlier pe)) call.Crash ≡ true = ap (λ rs. is_call (next_call text rs) call.Crash) (sym so_far) ∙ due in
    let asked_is : a.asked ≡ call.Crash = same_due (next_call text (replies_to w.earlier pe)) a.asked call.Crash a.due crash in
    no_crash_begun p w.issue.what w.no_reply (w.made ∙ ap Some asked_is) (leaves p w.issue.what a.asked w.made)

crash_owns : (text : Text) (pe : ℕ) (p is : ProgramState) (before : List Event) (number : ℕ) (s : Started) → Tells text pe p.next_call s before → number ≡ p.next_call →
    is_call (next_call text (replies_to before pe)) call.Crash ≡ true → Moved p what.Crash is → Owns text pe is before (event_of pe number what.Crash)
crash_owns text pe p is before number begun.Nothing tells at due moved = made_owns text pe p is before number what.Crash call.Crash tells at refl due moved
crash_owns text pe p is before number (begun.Operation c) tells at due moved = absurd (no_crash text pe p.next_call c p before tells due)
crash_owns text pe p is before number (begun.Barrier c) tells at due moved = absurd (no_crash text pe p.next_call c p before tells due)

-- an answer comes where something is started

answered_owns : (state : State) (text : Text) (pe : ℕ) (p is : ProgramState) (before : List Event) (number : ℕ) (given : Reply) (s : Started) → p.started ≡ s →
    Tells text pe p.next_call s before → is_in_turn p number (what.Answer given) ≡ true → is_some (effect service_limits state pe p number (what.Answer given)) ≡ true →
    Moved p (what.Answer given) is → Owns text pe is before (event_of pe number (what.Answer given))
answered_owns state text pe p is before number given begun.Nothing started tells turn goes moved =
    let no : false ≡ true = sym (ap (λ (s : Started). is_some (option_map (with_program state pe) (answer_step s state.round p given))) started) ∙ goes in cc
answered_owns state text pe p is before number given (begun.Operation c) started tells turn goes moved =
    let named : (is_running p.standing && number == c) ≡ true = sym (ap (λ (s : Started). is_running p.standing && answers_started s number) started) ∙ turn in
    answer_owns text pe c p is before number given tells (eqb-true number c (second_true (is_running p.standing) (number == c) named)) moved
answered_owns state text pe p is before number given (begun.Barrier c) started tells turn goes moved =
    let named : (is_running p.standing && number == c) ≡ true = sym (ap (λ (s : Started). is_running p.standing && answers_started s number) started) ∙ turn in
    answer_owns text pe c p is before number given tells (eqb-true number c (second_true (is_running p.standing) (number == c) named)) moved

-- any event of the program
pub owns : (state : State) (text : Text) (pe : ℕ) (p is : ProgramState) (before : List Event) (number : ℕ) (made : What) → Tells text pe p.next_call p.started before →
    is_in_turn p number made ≡ true → is_some (effect service_limits state pe p number made) ≡ true → IsDue text pe before made → Moved p made is →
    Owns text pe is before (event_of pe number made)
owns state text pe p is before number (what.Meta a given) tells turn goes due moved = call_owns text pe p is before number (what.Meta a given) (call.Meta a) tells turn refl due moved
owns state text pe p is before number (what.Issue a given) tells turn goes due moved = call_owns text pe p is before number (what.Issue a given) a tells turn refl due moved
owns state text pe p is before number (what.Piece j given) tells turn goes due moved = silent_owns text pe p is before number (what.Piece j given) tells refl refl refl refl moved
owns state text pe p is before number (what.Answer given) tells turn goes due moved = answered_owns state text pe p is before number given p.started refl tells turn goes moved
owns state text pe p is before number (what.OpenContext c) tells turn goes due moved = call_owns text pe p is before number (what.OpenContext c) (call.OpenContext c) tells turn refl due moved
owns state text pe p is before number (what.CloseContext c given) tells turn goes due moved = call_owns text pe p is before number (what.CloseContext c given) (call.CloseContext c) tells turn refl due moved
owns state text pe p is before number (what.Fence c) tells turn goes due moved = call_owns text pe p is before number (what.Fence c) (call.Fence c) tells turn refl due moved
owns state text pe p is before number (what.Quiet c given) tells turn goes due moved = call_owns text pe p is before number (what.Quiet c given) (call.Quiet c) tells turn refl due moved
owns state text pe p is before number (what.Wait c named given) tells turn goes due moved = call_owns text pe p is before number (what.Wait c named given) (call.CopyWait c named) tells turn refl due moved
owns state text pe p is before number what.Arrive tells turn goes due moved = call_owns text pe p is before number what.Arrive call.Barrier tells turn refl due moved
owns state text pe p is before number what.Leave tells turn goes due moved = call_owns text pe p is before number what.Leave call.Leave tells turn refl due moved
owns state text pe p is before number what.Crash tells turn goes due moved =
    crash_owns text pe p is before number p.started tells (next_is p number (second_true (is_running p.standing) (is_next p number) turn)) (due call.Crash refl) moved
owns state text pe p is before number (what.Lose j) tells turn goes due moved = silent_owns text pe p is before number (what.Lose j) tells refl refl refl refl moved
owns state text pe p is before number (what.Refused a error doubt) tells turn goes due moved = call_owns text pe p is before number (what.Refused a error doubt) a tells turn refl due moved
