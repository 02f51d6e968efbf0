-- Whether the next event of a program may come.
use Rattle.std.proofs.Common.{◌≡◌, ℕ, Bool, true, false, refl, sym, ap, ◌∙◌, arith}
use Rattle.std.specs.Prelude.{◌==◌, ◌&&◌, not, Option, Some, None, is_some, if◌then◌else◌}
use Rattle.std.proofs.lemmas.Bool.{false≢true}
use Rattle.std.proofs.lemmas.Bool.Decides.{nat_tests}
use Rattle.fam_model.specs.declared.call.Call.{Call}
use Rattle.fam_model.specs.declared.call.Call.TheVariants as call
use Rattle.fam_model.specs.declared.event.Event.{Event}
use Rattle.fam_model.specs.declared.event.What.{What}
use Rattle.fam_model.specs.declared.event.What.TheVariants as what
use Rattle.fam_model.specs.declared.reply.Reply.{Reply}
use Rattle.fam_model.specs.declared.reply.Reply.TheVariants as reply
use Rattle.fam_model.specs.declared.state.ProgramState.{ProgramState}
use Rattle.fam_model.specs.declared.state.Started.{Started}
use Rattle.fam_model.specs.declared.state.Started.TheVariants as begun
use Rattle.fam_model.specs.declared.state.State.{State}
use Rattle.fam_model.specs.ContextStep.{answer_step, with_nothing_started}
use Rattle.fam_model.specs.Limits.{service_limits}
use Rattle.fam_model.specs.Lists.{◌>>=◌, when, is_some_and}
use Rattle.fam_model.specs.Operations.{has_left, result, as_reported}
use Rattle.fam_model.specs.Programs.{Placed, placed, program_of, with_placed, is_running, has_passed}
use Rattle.fam_model.specs.Same.{same_reply}
use Rattle.fam_model.specs.Shape.{is_shaped}
use Rattle.fam_model.specs.Step.{effect, step}
use Rattle.fam_model.specs.Turn.{answers_started, call_made, is_idle, is_in_turn, is_next}
use Rattle.fam_program.proofs.Reporting.{is_some_when}
use Rattle.fam_schedule.specs.Schedule.{event_of}
use Rattle.fam_schedule.proofs.Comes.{first_makes}
use Rattle.fam_turns.specs.declared.next.Next.{Next}
use Rattle.fam_turns.specs.Turns.{TellsEvent, answer_of, event_with, may_act, may_begin, may_finish, may_go, next_by, next_of}
use Rattle.fam_turns.proofs.Beginning.{comes, some_map_is, with_reply}

-- tests

some_if : {A : Type 0} (b : Bool) (o : Option A) → is_some (if b then o else None) ≡ (b && is_some o)
some_if true o = refl
some_if false o = refl

and_false : (b : Bool) → (b && false) ≡ false
and_false true = refl
and_false false = refl

and_true : (b : Bool) → (b && true) ≡ b
and_true true = refl
and_true false = refl

at_turn : (runs number idle shaped : Bool) → idle ≡ true → (runs && number && idle && shaped) ≡ (runs && (number && shaped))
at_turn true true true shaped h = refl
at_turn true false true shaped h = refl
at_turn false number true shaped h = refl
at_turn runs number false shaped h = cc

crash_turn : (runs number : Bool) → (runs && number) ≡ (runs && (number && true))
crash_turn true true = refl
crash_turn true false = refl
crash_turn false number = refl

grouped : (runs number shaped may : Bool) → ((runs && (number && shaped)) && may) ≡ (runs && (number && (shaped && may)))
grouped true true shaped may = refl
grouped true false shaped may = refl
grouped false number shaped may = refl

-- the turn of a first event

ordinary : (p : ProgramState) (n : ℕ) (asked made : Call) → Some made ≡ Some asked → is_idle p.started ≡ true →
    (is_running p.standing && is_next p n && is_idle p.started && is_shaped made) ≡ (is_running p.standing && (is_next p n && is_shaped asked))
ordinary p n asked made e i =
    at_turn (is_running p.standing) (is_next p n) (is_idle p.started) (is_shaped made) i
    ∙ ap (λ (o : Option Call). is_running p.standing && (is_next p n && is_some_and o is_shaped)) e

pub turn_is : (p : ProgramState) (n : ℕ) (asked : Call) (made : What) → call_made made ≡ Some asked → is_idle p.started ≡ true →
    is_in_turn p n made ≡ (is_running p.standing && (is_next p n && is_shaped asked))
turn_is p n asked (what.Meta a given) e i = ordinary p n asked (call.Meta a) e i
turn_is p n asked (what.Issue a given) e i = ordinary p n asked a e i
turn_is p n asked (what.Piece j given) e i = cc
turn_is p n asked (what.Answer given) e i = cc
turn_is p n asked (what.OpenContext c) e i = ordinary p n asked (call.OpenContext c) e i
turn_is p n asked (what.CloseContext c given) e i = ordinary p n asked (call.CloseContext c) e i
turn_is p n asked (what.Fence c) e i = ordinary p n asked (call.Fence c) e i
turn_is p n asked (what.Quiet c given) e i = ordinary p n asked (call.Quiet c) e i
turn_is p n asked (what.Wait c named given) e i = ordinary p n asked (call.CopyWait c named) e i
turn_is p n asked what.Arrive e i = ordinary p n asked call.Barrier e i
turn_is p n asked what.Leave e i = ordinary p n asked call.Leave e i
turn_is p n asked what.Crash e i =
    crash_turn (is_running p.standing) (is_next p n)
    ∙ ap (λ (o : Option Call). is_running p.standing && (is_next p n && is_some_and o is_shaped)) e
turn_is p n asked (what.Lose j) e i = cc
turn_is p n asked (what.Refused a error doubt) e i = ordinary p n asked a e i

-- events

-- the next event comes where it is the program's turn, and it has an effect
event_comes : (state : State) (pe : ℕ) (p : ProgramState) (asked : Option Call) (next : Next) → program_of state pe ≡ Some p → next_of state.service state.rows p asked ≡ Some next →
    is_some (event_with state pe asked) ≡ (is_in_turn p next.call next.what && is_some (effect service_limits state pe p next.call next.what))
event_comes state pe p asked next there is =
    ap (λ (o : Option ProgramState). is_some (o >>= λ q. next_of state.service state.rows q asked >>= kept)) there
    ∙ ap (λ (o : Option Next). is_some (o >>= kept)) is
    ∙ is_some_when (is_some (step service_limits state (event_of pe next.call next.what))) (event_of pe next.call next.what)
    ∙ ap (λ (o : Option ProgramState). is_some (o >>= λ q. if is_in_turn q next.call next.what then effect service_limits state pe q next.call next.what else None)) there
    ∙ some_if (is_in_turn p next.call next.what) (effect service_limits state pe p next.call next.what)
  where
    kept : Next → Option Event
    kept n = when (is_some (step service_limits state (event_of pe n.call n.what))) (event_of pe n.call n.what)

-- where there is no next event none comes
nothing_comes : (state : State) (pe : ℕ) (p : ProgramState) (asked : Option Call) → program_of state pe ≡ Some p → next_of state.service state.rows p asked ≡ None → is_some (event_with state pe asked) ≡ false
nothing_comes state pe p asked there is =
    ap (λ (o : Option ProgramState). is_some (o >>= λ q. next_of state.service state.rows q asked >>= kept)) there
    ∙ ap (λ (o : Option Next). is_some (o >>= kept)) is
  where
    kept : Next → Option Event
    kept n = when (is_some (step service_limits state (event_of pe n.call n.what))) (event_of pe n.call n.what)

-- an event that comes is the next one
pub event_is : (state : State) (pe : ℕ) (p : ProgramState) (asked : Option Call) (next : Next) → program_of state pe ≡ Some p → next_of state.service state.rows p asked ≡ Some next →
    is_some (event_with state pe asked) ≡ true → event_with state pe asked ≡ Some (event_of pe next.call next.what)
event_is state pe p asked next there is some = chosen ∙ ap (λ b. when b (event_of pe next.call next.what)) may
  where
    kept : Next → Option Event
    kept n = when (is_some (step service_limits state (event_of pe n.call n.what))) (event_of pe n.call n.what)

    chosen : event_with state pe asked ≡ kept next
    chosen =
        ap (λ (o : Option ProgramState). o >>= λ q. next_of state.service state.rows q asked >>= kept) there
        ∙ ap (λ (o : Option Next). o >>= kept) is

    may : is_some (step service_limits state (event_of pe next.call next.what)) ≡ true
    may = sym (ap is_some chosen ∙ is_some_when (is_some (step service_limits state (event_of pe next.call next.what))) (event_of pe next.call next.what)) ∙ some

-- where an event comes there is a next one
pub next_there : (state : State) (pe : ℕ) (p : ProgramState) (asked : Option Call) → program_of state pe ≡ Some p → is_some (event_with state pe asked) ≡ true →
    is_some (next_of state.service state.rows p asked) ≡ true
next_there state pe p asked there some = by_next (next_of state.service state.rows p asked) refl
  where
    by_next : (o : Option Next) → next_of state.service state.rows p asked ≡ o → is_some (next_of state.service state.rows p asked) ≡ true
    by_next None e = absurd (false≢true (sym (nothing_comes state pe p asked there e) ∙ some))
    by_next (Some next) e = ap is_some e

-- what is started

-- where nothing is started
idle_acts : (state : State) (pe : ℕ) (p : ProgramState) (asked : Option Call) → program_of state pe ≡ Some p → p.started ≡ begun.Nothing →
    (is_running p.standing && may_go state.round p begun.Nothing asked) ≡ is_some (event_with state pe asked)
idle_acts state pe p None there idle =
    and_false (is_running p.standing)
    ∙ sym (nothing_comes state pe p None there (ap (λ s. next_by state.service state.rows p s None) idle))
idle_acts state pe p (Some asked) there idle =
    let first = comes state pe p asked in
    let next : Next = record { call = p.next_call; what = first.0 } in
    let is : next_of state.service state.rows p (Some asked) ≡ Some next =
    ap (λ s. next_by state.service state.rows p s (Some asked)) idle
    ∙ ap (λ (o : Option What). o >>= λ w. Some (at_number w)) first.1
    in
    let turn = turn_is p p.next_call asked first.0 (first_makes state.service state.rows p asked first.0 first.1).0 (ap is_idle idle) in
    sym (event_comes state pe p (Some asked) next there is
    ∙ ap (λ b. b && is_some (effect service_limits state pe p p.next_call first.0)) turn
    ∙ ap (λ b. (is_running p.standing && (is_next p p.next_call && is_shaped asked)) && b) first.2
    ∙ grouped (is_running p.standing) (is_next p p.next_call) (is_shaped asked) (may_begin state.round p asked))
  where
    at_number : What → Next
    at_number w = record { call = p.next_call; what = w }

same_number : (n : ℕ) → (n == n) ≡ true
same_number n = grind (arith, nat_tests)

-- an answer stands in its turn where the program runs
answer_turn : (p : ProgramState) (n : ℕ) (given : Reply) → answers_started p.started n ≡ true → is_in_turn p n (what.Answer given) ≡ is_running p.standing
answer_turn p n given e = ap (λ b. is_running p.standing && b) e ∙ and_true (is_running p.standing)

-- where an operation is started
operation_acts : (state : State) (pe : ℕ) (p : ProgramState) (n : ℕ) (asked : Option Call) → program_of state pe ≡ Some p → p.started ≡ begun.Operation n →
    (is_running p.standing && may_finish p n) ≡ is_some (event_with state pe asked)
operation_acts state pe p n asked there starts = by_place (placed p n) refl
  where
    left : Placed → Bool
    left at = not (has_left at.operation)

    by_place : (o : Option Placed) → placed p n ≡ o → (is_running p.standing && may_finish p n) ≡ is_some (event_with state pe asked)
    by_place None e =
        ap (λ o. is_running p.standing && is_some_and o left) e
        ∙ and_false (is_running p.standing)
        ∙ sym (nothing_comes state pe p asked there
        (ap (λ s. next_by state.service state.rows p s asked) starts ∙ ap (λ (o : Option Placed). o >>= λ at. Some (answer_of n (result at.operation))) e))
    by_place (Some at) e =
        let given : Reply = result at.operation in
        let is : next_of state.service state.rows p asked ≡ Some (answer_of n given) =
        ap (λ s. next_by state.service state.rows p s asked) starts ∙ ap (λ (o : Option Placed). o >>= λ x. Some (answer_of n (result x.operation))) e
        in
        let answered : is_some (answer_step p.started state.round p given) ≡ not (has_left at.operation) =
        ap (λ s. is_some (answer_step s state.round p given)) starts
        ∙ ap (λ (o : Option Placed). is_some (o >>= λ x. when (left x && same_reply given (result x.operation)) (with_nothing_started (with_placed p x (as_reported x.operation))))) e
        ∙ is_some_when (left at && same_reply given given) _
        ∙ with_reply (left at) given
        in
        ap (λ o. is_running p.standing && is_some_and o left) e
        ∙ sym (event_comes state pe p asked (answer_of n given) there is
        ∙ ap (λ b. b && is_some (effect service_limits state pe p n (what.Answer given))) (answer_turn p n given (ap (λ s. answers_started s n) starts ∙ same_number n))
        ∙ ap (λ b. is_running p.standing && b) (some_map_is _ (answer_step p.started state.round p given) ∙ answered))

-- where a barrier is started
barrier_acts : (state : State) (pe : ℕ) (p : ProgramState) (n : ℕ) (asked : Option Call) → program_of state pe ≡ Some p → p.started ≡ begun.Barrier n →
    (is_running p.standing && has_passed state.round p) ≡ is_some (event_with state pe asked)
barrier_acts state pe p n asked there starts =
    let is : next_of state.service state.rows p asked ≡ Some (answer_of n reply.Passed) = ap (λ s. next_by state.service state.rows p s asked) starts in
    let answered : is_some (answer_step p.started state.round p reply.Passed) ≡ has_passed state.round p =
    ap (λ s. is_some (answer_step s state.round p reply.Passed)) starts
    ∙ is_some_when (has_passed state.round p && same_reply reply.Passed reply.Passed) _
    ∙ with_reply (has_passed state.round p) reply.Passed
    in
    sym (event_comes state pe p asked (answer_of n reply.Passed) there is
    ∙ ap (λ b. b && is_some (effect service_limits state pe p n (what.Answer reply.Passed))) (answer_turn p n reply.Passed (ap (λ s. answers_started s n) starts ∙ same_number n))
    ∙ ap (λ b. is_running p.standing && b) (some_map_is _ (answer_step p.started state.round p reply.Passed) ∙ answered))

acts_by : (state : State) (pe : ℕ) (p : ProgramState) (s : Started) (asked : Option Call) → program_of state pe ≡ Some p → p.started ≡ s → (is_running p.standing && may_go state.round p s asked) ≡ is_some (event_with state pe asked)
acts_by state pe p begun.Nothing asked there e = idle_acts state pe p asked there e
acts_by state pe p (begun.Operation n) asked there e = operation_acts state pe p n asked there e
acts_by state pe p (begun.Barrier n) asked there e = barrier_acts state pe p n asked there e

-- the next event may come where the program may act
pub acts : (round : ℕ) (p : ProgramState) (asked : Option Call) (answer : Bool) → answer ≡ may_act round p asked → TellsEvent round p asked answer
acts round p asked answer e = λ state pe there now.
    e ∙ ap (λ n. may_act n p asked) (sym now) ∙ acts_by state pe p p.started asked there refl
