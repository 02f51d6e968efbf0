-- In a legal history whose calls follow its script, each event is the next one of its program.
use Rattle.std.proofs.Common.{◌≡◌, ℕ, ◌+◌, ◌<◌, Bool, true, false, List, [], ◌∷◌, ◌++◌, length, refl, sym, ap, ◌∙◌, subst, append_assoc, arith, suc, zero, eqb-true, le_refl, inl, inr, ◌⊎◌}
use Rattle.std.specs.Prelude.{◌==◌, ◌&&◌, Option, Some, None, is_some, slice_get, if◌then◌else◌}
use Rattle.std.specs.List.{cons_option, enumerate_from, filter_map, list_all}
use Rattle.std.specs.Option.{option_map_or, option_or}
use Rattle.std.proofs.lemmas.List.Elements.{filter_map-append}
use Rattle.std.proofs.lemmas.Option.{slice_get_within}
use Rattle.fam_model.specs.declared.call.Call.{Call}
use Rattle.fam_model.specs.declared.call.Call.TheVariants as call
use Rattle.fam_model.specs.declared.event.Event.{Event}
use Rattle.fam_model.specs.declared.event.What.{What}
use Rattle.fam_model.specs.declared.event.What.TheVariants as what
use Rattle.fam_model.specs.declared.reply.Reply.{Reply}
use Rattle.fam_model.specs.declared.script.Program.{Program as Text}
use Rattle.fam_model.specs.declared.script.Script.{Script}
use Rattle.fam_model.specs.declared.state.ProgramState.{ProgramState}
use Rattle.fam_model.specs.declared.state.Started.{Started}
use Rattle.fam_model.specs.declared.state.Started.TheVariants as begun
use Rattle.fam_model.specs.declared.state.State.{State}
use Rattle.fam_model.specs.Headline.{follows_script}
use Rattle.fam_model.specs.History.{calls, state_after, answer_of, asked_in, answered_with, reply_made}
use Rattle.fam_model.specs.Limits.{service_limits}
use Rattle.fam_model.specs.Lists.{◌>>=◌, is_some_and}
use Rattle.fam_model.specs.Programs.{is_running, program_of}
use Rattle.fam_model.specs.Shape.{is_shaped}
use Rattle.fam_model.specs.Step.{step}
use Rattle.fam_model.specs.Text.{Asked, follows, follows_after, next_call, is_call}
use Rattle.fam_model.specs.Turn.{call_made, is_idle, is_in_turn, is_next}
use Rattle.fam_schedule.specs.Schedule.{replies_to}
use Rattle.fam_schedule.proofs.Follows.{Tells, Settled, Awaits, follows_append, has_reply}
use Rattle.fam_schedule.proofs.Moves.{step_moves}
use Rattle.fam_schedule.proofs.Options.{bind_some}
use Rattle.fam_schedule.proofs.Places.{get_set_same, get_set_other}
use Rattle.fam_schedule.proofs.Rests.{standing_after, step_rests}
use Rattle.fam_schedule.proofs.Runs.{differ, equal}
use Rattle.fam_schedule.proofs.Told.{told_as, asked_if, answer_append, answer_below, answer_silent, made_answers, told_silent}
use Rattle.fam_schedule.proofs.Whole.{enumerated, pair}
use Rattle.fam_audit.specs.Auditing.{Follows}
use Rattle.fam_audit.specs.Verdict.{goes_on}
use Rattle.fam_audit.proofs.Going.{element}

some_same : {A : Type 0} (x y : A) → Some x ≡ Some y → x ≡ y
some_same x y e = cc

first_true : (a b : Bool) → (a && b) ≡ true → a ≡ true
first_true true b e = refl
first_true false b e = cc

second_true : (a b : Bool) → (a && b) ≡ true → b ≡ true
second_true true b e = e
second_true false b e = cc

-- calls that have their replies are told alike whatever comes behind them

-- the call, if there is one, has its reply
abbrev is_replied : Option Asked → Bool
is_replied o = option_map_or has_reply o true

or_longer : (made first later : Option Reply) → is_some (option_or made first) ≡ true → option_or made (option_or first later) ≡ option_or made first
or_longer (Some r) first later e = refl
or_longer None (Some r) later e = refl
or_longer None None later e = cc

asked_longer : (made : Option Call) (mine : Bool) (own first later : Option Reply) → is_replied (made >>= asked_if mine (option_or own first)) ≡ true →
    (made >>= asked_if mine (option_or own (option_or first later))) ≡ (made >>= asked_if mine (option_or own first))
asked_longer None mine own first later e = refl
asked_longer (Some a) false own first later e = refl
asked_longer (Some a) true own first later e = ap (λ (r : Option Reply). asked_if true r a) (or_longer own first later e)

split : (o : Option Asked) (rest : List Asked) → list_all has_reply (cons_option o rest) ≡ true → (is_replied o ≡ true) × (list_all has_reply rest ≡ true)
split None rest e = (refl, e)
split (Some a) rest e = (first_true (has_reply a) (list_all has_reply rest) e, second_true (has_reply a) (list_all has_reply rest) e)

replied_same : (before rest : List Event) (pe : ℕ) (events : List Event) → list_all has_reply (filter_map (asked_in before pe) events) ≡ true →
    filter_map (asked_in (before ++ rest) pe) events ≡ filter_map (asked_in before pe) events
replied_same before rest pe [] h = refl
replied_same before rest pe (event ∷ events) h =
    let parts = split (asked_in before pe event) (filter_map (asked_in before pe) events) h in
    let here : asked_in (before ++ rest) pe event ≡ asked_in before pe event =
    ap (λ (r : Option Reply). call_made event.what >>= asked_if (event.pe.0 == pe) (option_or (reply_made event.what) r)) (answer_append before rest pe event.call)
    ∙ asked_longer (call_made event.what) (event.pe.0 == pe) (reply_made event.what) (answer_of before pe event.call) (answer_of rest pe event.call) parts.0 in
    ap (λ (o : Option Asked). cons_option o (filter_map (asked_in (before ++ rest) pe) events)) here
    ∙ ap (cons_option (asked_in before pe event)) (replied_same before rest pe events parts.1)

asked_here : (history : List Event) (pe : ℕ) (event : Event) (asked : Call) → call_made event.what ≡ Some asked → (event.pe.0 == pe) ≡ true →
    asked_in history pe event ≡ Some (told_as asked (option_or (reply_made event.what) (answer_of history pe event.call)))
asked_here history pe event asked made mine =
    let given = option_or (reply_made event.what) (answer_of history pe event.call) in
    ap (λ (o : Option Call). o >>= asked_if (event.pe.0 == pe) given) made ∙ ap (λ (b : Bool). asked_if b given asked) mine

-- a call that comes while nothing is started

first_call : (text : Text) (told : List Reply) (asked : Call) (given : Option Reply) (rest : List Asked) → follows_after text told (told_as asked given ∷ rest) ≡ true →
    is_call (next_call text told) asked ≡ true
first_call text told asked None [] e = e
first_call text told asked None (other ∷ rest) e = cc
first_call text told asked (Some given) rest e = first_true (is_call (next_call text told) asked) (follows_after text (told ++ given ∷ []) rest) e

settled_due : (text : Text) (pe n : ℕ) (before later : List Event) (event : Event) (asked : Call) → Settled text pe n before → call_made event.what ≡ Some asked →
    (event.pe.0 == pe) ≡ true → follows_after text [] (calls (before ++ event ∷ later) pe) ≡ true → is_call (next_call text (replies_to before pe)) asked ≡ true
settled_due text pe n before later event asked s made mine follow =
    let history = before ++ event ∷ later in
    let given = option_or (reply_made event.what) (answer_of history pe event.call) in
    let rest = filter_map (asked_in history pe) later in
    let split_calls : calls history pe ≡ calls before pe ++ told_as asked given ∷ rest =
    filter_map-append (asked_in history pe) before (event ∷ later)
    ∙ ap (λ cs. cs ++ filter_map (asked_in history pe) (event ∷ later)) (replied_same before (event ∷ later) pe before s.replied)
    ∙ ap (λ (o : Option Asked). calls before pe ++ cons_option o rest) (asked_here history pe event asked made mine) in
    let whole : (follows_after text [] (calls before pe) && follows_after text (replies_to before pe) (told_as asked given ∷ rest)) ≡ true =
    sym (follows_append text [] (calls before pe) (told_as asked given ∷ rest) s.replied) ∙ ap (follows_after text []) (sym split_calls) ∙ follow in
    first_call text (replies_to before pe) asked given rest (second_true (follows_after text [] (calls before pe)) (follows_after text (replies_to before pe) (told_as asked given ∷ rest)) whole)

-- a program that does not run answers nothing

silent_stopped : (p : ProgramState) (number : ℕ) (made : What) → is_running p.standing ≡ false → is_in_turn p number made ≡ true → is_some (answered_with made) ≡ false
silent_stopped p number (what.Meta a given) stopped turn = refl
silent_stopped p number (what.Issue a given) stopped turn = refl
silent_stopped p number (what.Piece j given) stopped turn = refl
silent_stopped p number (what.Answer given) stopped turn = let no : false ≡ true = sym stopped ∙ first_true (is_running p.standing) _ turn in cc
silent_stopped p number (what.OpenContext c) stopped turn = refl
silent_stopped p number (what.CloseContext c given) stopped turn = refl
silent_stopped p number (what.Fence c) stopped turn = refl
silent_stopped p number (what.Quiet c given) stopped turn = refl
silent_stopped p number (what.Wait c named given) stopped turn = refl
silent_stopped p number what.Arrive stopped turn = refl
silent_stopped p number what.Leave stopped turn = refl
silent_stopped p number what.Crash stopped turn = refl
silent_stopped p number (what.Lose j) stopped turn = refl
silent_stopped p number (what.Refused a error doubt) stopped turn = refl

still_stopped : (p : ProgramState) (made : What) → is_running p.standing ≡ false → is_running (standing_after p made) ≡ false
still_stopped p (what.Meta a given) e = e
still_stopped p (what.Issue a given) e = e
still_stopped p (what.Piece j given) e = e
still_stopped p (what.Answer given) e = e
still_stopped p (what.OpenContext c) e = e
still_stopped p (what.CloseContext c given) e = e
still_stopped p (what.Fence c) e = e
still_stopped p (what.Quiet c given) e = e
still_stopped p (what.Wait c named given) e = e
still_stopped p what.Arrive e = e
still_stopped p what.Leave e = refl
still_stopped p what.Crash e = refl
still_stopped p (what.Lose j) e = e
still_stopped p (what.Refused a error doubt) e = e

-- the program is there and does not run
pub record IsStill (state : State) (pe : ℕ) : Type 0 where
  pub p : ProgramState
  pub there : program_of state pe ≡ Some p
  pub stopped : is_running p.standing ≡ false

-- what an event of the program leaves
after_own : (state next : State) (event : Event) → step service_limits state event ≡ Some next → ((p : ProgramState) → program_of state event.pe.0 ≡ Some p → is_running (standing_after p event.what) ≡ false) →
    IsStill next event.pe.0
after_own state next event steps stops =
    let r = step_rests service_limits state next event steps in
    record {
      p = r.after.is;
      there = ap (λ ps. slice_get ps event.pe.0) r.after.programs ∙ get_set_same state.programs event.pe.0 r.was r.after.is r.there;
      stopped = ap is_running r.after.rests.standing_is ∙ stops r.was r.there;
    }

still_by : (mine : Bool) (state next : State) (event : Event) (pe : ℕ) → (event.pe.0 == pe) ≡ mine → step service_limits state event ≡ Some next → IsStill state pe → IsStill next pe
still_by true state next event pe e steps still =
    let same : event.pe.0 ≡ pe = eqb-true event.pe.0 pe e in
    subst (IsStill next) same (after_own state next event steps (λ p there.
    let is : p ≡ still.p = some_same p still.p (sym (subst (λ k. program_of state k ≡ Some p) same there) ∙ still.there) in
    still_stopped p event.what (ap (λ q. is_running q.standing) is ∙ still.stopped)))
still_by false state next event pe e steps still =
    let moves = step_moves service_limits state next event steps in
    record {
      p = still.p;
      there = ap (λ ps. slice_get ps pe) moves.programs ∙ get_set_other state.programs event.pe.0 pe still.p moves.is still.there (differ event.pe.0 pe e);
      stopped = still.stopped;
    }

third_false : (a b c : Bool) → c ≡ false → (a && b && c) ≡ false
third_false true true c e = e
third_false true false c e = refl
third_false false b c e = refl

no_answer_by : (mine : Bool) (state next : State) (event : Event) (pe c : ℕ) → (event.pe.0 == pe) ≡ mine → step service_limits state event ≡ Some next → IsStill state pe →
    (event.pe.0 == pe && event.call == c && is_some (answered_with event.what)) ≡ false
no_answer_by true state next event pe c e steps still =
    let same : event.pe.0 ≡ pe = eqb-true event.pe.0 pe e in
    let moves = step_moves service_limits state next event steps in
    let is : moves.was ≡ still.p = some_same moves.was still.p (sym (subst (λ k. program_of state k ≡ Some moves.was) same moves.there) ∙ still.there) in
    third_false (event.pe.0 == pe) (event.call == c) (is_some (answered_with event.what))
    (silent_stopped moves.was event.call event.what (ap (λ q. is_running q.standing) is ∙ still.stopped) moves.turn)
no_answer_by false state next event pe c e steps still = rw e refl

answers_none : (history : List Event) (state end : State) (pe c : ℕ) → IsStill state pe → state_after service_limits state history ≡ Some end → answer_of history pe c ≡ None
answers_none [] state end pe c still leads = refl
answers_none (event ∷ history) state end pe c still leads =
    let b = bind_some (step service_limits state event) (λ s. state_after service_limits s history) end leads in
    let none = no_answer_by (event.pe.0 == pe) state b.0 event pe c refl b.1 still in
    ap (λ (t : Bool). if t then answered_with event.what else answer_of history pe c) none
    ∙ answers_none history b.0 end pe c (still_by (event.pe.0 == pe) state b.0 event pe refl b.1 still) b.2

-- a crash does not come while a call waits for its answer

none_or : (a b : Option Reply) → a ≡ None → b ≡ None → option_or a b ≡ None
none_or a b e f = rw (e, f) refl

awaits_no_crash : (text : Text) (pe n c : ℕ) (before later : List Event) (event : Event) → Awaits text pe n c before → call_made event.what ≡ Some call.Crash → (event.pe.0 == pe) ≡ true →
    answer_of later pe c ≡ None → follows_after text [] (calls (before ++ event ∷ later) pe) ≡ true → ⊥
awaits_no_crash text pe n c before later event a made mine silent follow =
    let w = a.waits in
    let tail = w.later ++ event ∷ later in
    let longer = w.earlier ++ w.issue ∷ tail in
    let whole : before ++ event ∷ later ≡ longer = ap (λ h. h ++ event ∷ later) w.whole ∙ append_assoc w.earlier (w.issue ∷ w.later) (event ∷ later) in
    let behind : answer_of (event ∷ later) pe c ≡ None = answer_append (event ∷ []) later pe c ∙ none_or (answer_of (event ∷ []) pe c) (answer_of later pe c) (made_answers event call.Crash pe c made) silent in
    let in_tail : answer_of tail pe c ≡ None = answer_append w.later (event ∷ later) pe c ∙ none_or (answer_of w.later pe c) (answer_of (event ∷ later) pe c) (answer_silent w.later pe c w.silent) behind in
    let from_issue : answer_of (w.issue ∷ tail) pe c ≡ None =
    answer_append (w.issue ∷ []) tail pe c ∙ none_or (answer_of (w.issue ∷ []) pe c) (answer_of tail pe c) (made_answers w.issue a.asked pe c w.made) in_tail in
    let unanswered : answer_of longer pe c ≡ None =
    answer_append w.earlier (w.issue ∷ tail) pe c ∙ none_or (answer_of w.earlier pe c) (answer_of (w.issue ∷ tail) pe c) (answer_below w.earlier pe c c w.below (le_refl c)) from_issue in
    let waiting : option_or (reply_made w.issue.what) (answer_of longer pe w.issue.call) ≡ None =
    none_or (reply_made w.issue.what) (answer_of longer pe w.issue.call) w.no_reply (ap (answer_of longer pe) w.number ∙ unanswered) in
    let issued : asked_in longer pe w.issue ≡ Some (told_as a.asked None) =
    asked_here longer pe w.issue a.asked w.made w.mine ∙ ap (λ (r : Option Reply). Some (told_as a.asked r)) waiting in
    let given = option_or (reply_made event.what) (answer_of longer pe event.call) in
    let rest = filter_map (asked_in longer pe) later in
    let in_rest : filter_map (asked_in longer pe) tail ≡ told_as call.Crash given ∷ rest =
    filter_map-append (asked_in longer pe) w.later (event ∷ later)
    ∙ ap (λ cs. cs ++ filter_map (asked_in longer pe) (event ∷ later)) (told_silent longer pe w.later w.silent)
    ∙ ap (λ (o : Option Asked). cons_option o rest) (asked_here longer pe event call.Crash made mine) in
    let split_calls : calls longer pe ≡ calls w.earlier pe ++ told_as a.asked None ∷ told_as call.Crash given ∷ rest =
    filter_map-append (asked_in longer pe) w.earlier (w.issue ∷ tail)
    ∙ ap (λ cs. cs ++ filter_map (asked_in longer pe) (w.issue ∷ tail)) (replied_same w.earlier (w.issue ∷ tail) pe w.earlier a.settled.replied)
    ∙ ap (λ (o : Option Asked). calls w.earlier pe ++ cons_option o (filter_map (asked_in longer pe) tail)) issued
    ∙ ap (λ cs. calls w.earlier pe ++ told_as a.asked None ∷ cs) in_rest in
    let waits = told_as a.asked None ∷ told_as call.Crash given ∷ rest in
    let both : (follows_after text [] (calls w.earlier pe) && follows_after text (replies_to w.earlier pe) waits) ≡ true =
    sym (follows_append text [] (calls w.earlier pe) waits a.settled.replied) ∙ ap (follows_after text []) (sym split_calls)
    ∙ ap (λ h. follows_after text [] (calls h pe)) (sym whole) ∙ follow in
    let no : false ≡ true = second_true (follows_after text [] (calls w.earlier pe)) false both in cc

-- an event that makes a call comes while nothing is started, or is a crash

idle_is : (s : Started) → is_idle s ≡ true → s ≡ begun.Nothing
idle_is begun.Nothing e = refl
idle_is (begun.Operation c) e = cc
idle_is (begun.Barrier c) e = cc

idle_turn : (p : ProgramState) (number : ℕ) (made : What) → (is_running p.standing && is_next p number && is_idle p.started && is_some_and (call_made made) is_shaped) ≡ true → p.started ≡ begun.Nothing
idle_turn p number made turn =
    let three = is_running p.standing && is_next p number && is_idle p.started in
    idle_is p.started (second_true (is_running p.standing && is_next p number) (is_idle p.started) (first_true three (is_some_and (call_made made) is_shaped) turn))

idle_or_crash : (p : ProgramState) (number : ℕ) (made : What) (asked : Call) → is_in_turn p number made ≡ true → call_made made ≡ Some asked → (p.started ≡ begun.Nothing) ⊎ (made ≡ what.Crash)
idle_or_crash p number (what.Meta a given) asked turn e = inl (idle_turn p number (what.Meta a given) turn)
idle_or_crash p number (what.Issue a given) asked turn e = inl (idle_turn p number (what.Issue a given) turn)
idle_or_crash p number (what.Piece j given) asked turn e = cc
idle_or_crash p number (what.Answer given) asked turn e = cc
idle_or_crash p number (what.OpenContext c) asked turn e = inl (idle_turn p number (what.OpenContext c) turn)
idle_or_crash p number (what.CloseContext c given) asked turn e = inl (idle_turn p number (what.CloseContext c given) turn)
idle_or_crash p number (what.Fence c) asked turn e = inl (idle_turn p number (what.Fence c) turn)
idle_or_crash p number (what.Quiet c given) asked turn e = inl (idle_turn p number (what.Quiet c given) turn)
idle_or_crash p number (what.Wait c named given) asked turn e = inl (idle_turn p number (what.Wait c named given) turn)
idle_or_crash p number what.Arrive asked turn e = inl (idle_turn p number what.Arrive turn)
idle_or_crash p number what.Leave asked turn e = inl (idle_turn p number what.Leave turn)
idle_or_crash p number what.Crash asked turn e = inr refl
idle_or_crash p number (what.Lose j) asked turn e = cc
idle_or_crash p number (what.Refused a error doubt) asked turn e = inl (idle_turn p number (what.Refused a error doubt) turn)

-- the call of an event is the next one of its program

crashes : (text : Text) (pe n c : ℕ) (before later : List Event) (state next end : State) (event : Event) (p : ProgramState) → Awaits text pe n c before → event.pe.0 ≡ pe →
    (p.started ≡ begun.Nothing) ⊎ (event.what ≡ what.Crash) → (p.started ≡ begun.Nothing → ⊥) → step service_limits state event ≡ Some next →
    state_after service_limits next later ≡ Some end → follows_after text [] (calls (before ++ event ∷ later) pe) ≡ true → ⊥
crashes text pe n c before later state next end event p a same (inl idle) busy steps leads follow = busy idle
crashes text pe n c before later state next end event p a same (inr crash) busy steps leads follow =
    let still : IsStill next event.pe.0 = after_own state next event steps (λ q there. ap (λ w. is_running (standing_after q w)) crash) in
    let mine : (event.pe.0 == pe) ≡ true = rw same (equal pe) in
    awaits_no_crash text pe n c before later event a (ap call_made crash) mine (answers_none later next end pe c (subst (IsStill next) same still) leads) follow

due_by : (text : Text) (pe : ℕ) (before later : List Event) (state next end : State) (event : Event) (asked : Call) (p : ProgramState) (s : Started) → p.started ≡ s →
    Tells text pe p.next_call s before → event.pe.0 ≡ pe → is_in_turn p event.call event.what ≡ true → call_made event.what ≡ Some asked → step service_limits state event ≡ Some next →
    state_after service_limits next later ≡ Some end → follows_after text [] (calls (before ++ event ∷ later) pe) ≡ true →
    is_call (next_call text (replies_to before pe)) asked ≡ true
due_by text pe before later state next end event asked p begun.Nothing started tells same turn made steps leads follow =
    settled_due text pe p.next_call before later event asked tells made (rw same (equal pe)) follow
due_by text pe before later state next end event asked p (begun.Operation c) started tells same turn made steps leads follow =
    absurd (crashes text pe p.next_call c before later state next end event p tells same (idle_or_crash p event.call event.what asked turn made)
    (λ idle. let no : begun.Operation c ≡ begun.Nothing = sym started ∙ idle in cc) steps leads follow)
due_by text pe before later state next end event asked p (begun.Barrier c) started tells same turn made steps leads follow =
    absurd (crashes text pe p.next_call c before later state next end event p tells same (idle_or_crash p event.call event.what asked turn made)
    (λ idle. let no : begun.Barrier c ≡ begun.Nothing = sym started ∙ idle in cc) steps leads follow)

-- one of all programs
all_at_place : {A : Type 0} (test : A → Bool) (xs : List A) (k : ℕ) (x : A) → list_all test xs ≡ true → slice_get xs k ≡ Some x → test x ≡ true
all_at_place test [] k x e there = cc
all_at_place test (y ∷ ys) zero x e there = ap test (some_same x y (sym there)) ∙ first_true (test y) (list_all test ys) e
all_at_place test (y ∷ ys) (suc k) x e there = all_at_place test ys k x (second_true (test y) (list_all test ys) e) there

own_follows : (script : Script) (history : List Event) (pe : ℕ) (text : Text) → follows_script script history ≡ true → slice_get script.programs pe ≡ Some text → follows_after text [] (calls history pe) ≡ true
own_follows script history pe text follow there =
    let number : 0 + pe ≡ pe = omega arith in
    ap (λ k. follows text (calls history k)) (sym number)
    ∙ all_at_place (λ entry. follows entry.1 (calls history entry.0)) (enumerate_from 0 script.programs) pe (pair (0 + pe) text) follow (enumerated 0 script.programs pe text there)

goes_made : (made : Option Call) (script : Script) (before later : List Event) (state next end : State) (event : Event) → call_made event.what ≡ made → Follows script before state →
    step service_limits state event ≡ Some next → state_after service_limits next later ≡ Some end → follows_script script (before ++ event ∷ later) ≡ true → goes_on script before event ≡ true
goes_made None script before later state next end event made f steps leads follow =
    ap (λ (o : Option Call). option_map_or (λ asked. is_call (slice_get script.programs event.pe.0 >>= λ program. next_call program (replies_to before event.pe.0)) asked) o true) made
goes_made (Some asked) script before later state next end event made f steps leads follow =
    let moves = step_moves service_limits state next event steps in
    let low : event.pe.0 < length state.programs = slice_get_within state.programs event.pe.0 moves.was moves.there in
    let same : length state.programs ≡ length script.programs = f.programs in
    let text = element script.programs event.pe.0 (omega arith) in
    let one = f.tells event.pe.0 text.0 text.1 in
    let is : moves.was ≡ one.p = some_same moves.was one.p (sym moves.there ∙ one.there) in
    let turn : is_in_turn one.p event.call event.what ≡ true = ap (λ q. is_in_turn q event.call event.what) (sym is) ∙ moves.turn in
    let due = due_by text.0 event.pe.0 before later state next end event asked one.p one.p.started refl one.tells refl turn made steps leads
    (own_follows script (before ++ event ∷ later) event.pe.0 text.0 follow text.1) in
    ap (λ (o : Option Call). option_map_or (λ a. is_call (slice_get script.programs event.pe.0 >>= λ program. next_call program (replies_to before event.pe.0)) a) o true) made
    ∙ ap (λ (o : Option Text). is_call (o >>= λ program. next_call program (replies_to before event.pe.0)) asked) text.1
    ∙ due

pub goes_legal : (script : Script) (before later : List Event) (state next end : State) (event : Event) → Follows script before state → step service_limits state event ≡ Some next →
    state_after service_limits next later ≡ Some end → follows_script script (before ++ event ∷ later) ≡ true → goes_on script before event ≡ true
goes_legal script before later state next end event f steps leads follow = goes_made (call_made event.what) script before later state next end event refl f steps leads follow
