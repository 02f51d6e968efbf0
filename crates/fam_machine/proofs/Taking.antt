-- The machine's state, seen from the step of one program.
use Rattle.std.proofs.Common.{◌≡◌, ℕ, ◌+◌, ◌<◌, ◌≤◌, arith, Option, Some, None, Bool, true, false, Result, Ok, Err, sym, ap, subst, ◌∙◌, refl}
use Rattle.std.specs.Prelude.{◌&&◌, if◌then◌else◌, slice_get, slice_set, IsTrue, All}
use Rattle.std.specs.Option.{option_map, option_map_or}
use Rattle.std.proofs.lemmas.Bool.{false≢true}
use Rattle.std.proofs.lemmas.List.{map-set, set-get_or}
use Rattle.std.proofs.lemmas.List.Elements.{All-weaker, All-set}
use Rattle.std.proofs.lemmas.Option.{slice_get-map, get_or_from_slice_get}
use Rattle.fam_model.specs.declared.call.MetaCall.{MetaCall}
use Rattle.fam_model.specs.declared.change.Change.{Change}
use Rattle.fam_model.specs.declared.event.What.{What}
use Rattle.fam_model.specs.declared.event.What.TheVariants as what
use Rattle.fam_model.specs.declared.reply.Reply.{Reply}
use Rattle.fam_model.specs.declared.request.Request.{Request}
use Rattle.fam_model.specs.declared.rows.Rows.{Rows}
use Rattle.fam_model.specs.declared.state.ProgramState.{ProgramState}
use Rattle.fam_model.specs.declared.state.State.{State}
use Rattle.fam_model.specs.Directory.{Memory}
use Rattle.fam_model.specs.History.{change_in}
use Rattle.fam_model.specs.Lawful.{is_lawful_change}
use Rattle.fam_model.specs.Limits.{service_limits, number_end}
use Rattle.fam_model.specs.Lists.{◌>>=◌, when, is_some_and}
use Rattle.fam_model.specs.MetaStep.{meta_step, served_change, told_change, may_reply, changed}
use Rattle.fam_model.specs.Programs.{program_of, with_program, with_member, round_after, is_complete, request_of, filled, counted, is_running}
use Rattle.fam_model.specs.Rules.{rule_of}
use Rattle.fam_model.specs.Shape.{is_shaped}
use Rattle.fam_model.specs.Step.{effect}
use Rattle.fam_model.specs.Turn.{is_in_turn, is_next, is_idle, call_made}
use Rattle.fam_program.specs.declared.tracked.TrackedProgram.{TrackedProgram}
use Rattle.fam_machine.specs.declared.error.StepError.{StepError}
use Rattle.fam_machine.specs.declared.error.StepError.TheVariants as error
use Rattle.fam_machine.specs.declared.parts.Parts.{Parts}
use Rattle.fam_machine.specs.Effects.{Steps, Takes}
use Rattle.fam_machine.specs.Sound.{IsSound, IsSoundProgram, IsOnTime, call_mode}
use Rattle.fam_machine.specs.Views.{state_of, states_of, rows_with, memory_with, turn_at, effect_at, rule_at, is_of_member, member_step_of, member_rule, is_plain, makes_call, plain_step}
use Rattle.fam_machine.proofs.Lists.{All-at, both_true}
use Rattle.fam_machine.proofs.Rounds.{round_bound, next_bound, arrive_on_time, leave_on_time, crash_on_time}
use Rattle.fam_machine.proofs.States.{in_turn, mode_made}
use Rattle.fam_rows.proofs.Served.{told_lawful}

-- the program of a number

program_here : (parts : Parts) (pe : ℕ) (p : TrackedProgram) → slice_get parts.programs pe ≡ Some p → program_of (state_of parts) pe ≡ Some p.state
program_here parts pe p e = slice_get-map (λ (q : TrackedProgram). q.state) parts.programs pe ∙ ap (option_map (λ (q : TrackedProgram). q.state)) e

pub turn_here : (parts : Parts) (pe call : ℕ) (made : What) (p : TrackedProgram) → slice_get parts.programs pe ≡ Some p → IsTrue (turn_at (state_of parts) pe call made) → is_in_turn p.state call made ≡ true
turn_here parts pe call made p e t = subst (λ o. is_some_and o (λ p. is_in_turn p call made) ≡ true) (program_here parts pe p e) t

pub effect_here : (parts : Parts) (pe call : ℕ) (made : What) (p : TrackedProgram) → slice_get parts.programs pe ≡ Some p → effect_at (state_of parts) pe call made ≡ effect service_limits (state_of parts) pe p.state call made
effect_here parts pe call made p e = ap (λ o. o >>= λ p. effect service_limits (state_of parts) pe p call made) (program_here parts pe p e)

pub rule_here : (parts : Parts) (pe call : ℕ) (made : What) (p : TrackedProgram) → slice_get parts.programs pe ≡ Some p → rule_at (state_of parts) pe call made ≡ rule_of p.state call made
rule_here parts pe call made p e = ap (λ o. option_map_or (λ p. rule_of p call made) o 1) (program_here parts pe p e)

-- a program of a sound machine is sound
pub sound_here : (parts : Parts) (pe : ℕ) (p : TrackedProgram) → IsSound (state_of parts) → slice_get parts.programs pe ≡ Some p → IsSoundProgram parts.rows parts.round p.state
sound_here parts pe p sound e = All-at (IsSoundProgram parts.rows parts.round) (states_of parts.programs) pe p.state sound.sound (program_here parts pe p e)

-- a call in its turn has a number
pub number_here : (parts : Parts) (pe call : ℕ) (asked : MetaCall) (given : Reply) (p : TrackedProgram) → slice_get parts.programs pe ≡ Some p → IsTrue (turn_at (state_of parts) pe call (what.Meta asked given)) → p.state.next_call < number_end
number_here parts pe call asked given p e t = (in_turn p.state call (call_made (what.Meta asked given)) (turn_here parts pe call (what.Meta asked given) p e t)).bound

-- other programs

-- the machine with one program changed
abbrev with_one : Parts → ℕ → TrackedProgram → Parts
with_one parts pe q = record parts { programs = slice_set parts.programs pe q }

with_one_state : (parts : Parts) (pe : ℕ) (q : TrackedProgram) → with_program (state_of parts) pe q.state ≡ state_of (with_one parts pe q)
with_one_state parts pe q = λ i. record (state_of parts) { programs = sym (map-set (λ (q : TrackedProgram). q.state) parts.programs pe q) i }

-- where the program is as it was, the machine is
with_same : (parts : Parts) (pe : ℕ) (p q : TrackedProgram) → slice_get parts.programs pe ≡ Some p → q ≡ p → with_one parts pe q ≡ parts
with_same parts pe p q e same =
    let back : slice_set parts.programs pe q ≡ parts.programs =
    ap (λ r. slice_set parts.programs pe r) (same ∙ sym (get_or_from_slice_get parts.programs pe p p e)) ∙ set-get_or parts.programs pe p
    in
    λ i. record parts { programs = back i }

-- the step of a program is one of the machine
took : (parts : Parts) (pe : ℕ) (p q : TrackedProgram) (step : Option ProgramState) (rule : ℕ) (result : Result Unit StepError) → slice_get parts.programs pe ≡ Some p → Steps step rule p q result → Takes (option_map (with_program (state_of parts) pe) step) rule parts (with_one parts pe q) result
took parts pe p q step rule (Ok unit) e s = ap (option_map (with_program (state_of parts) pe)) s ∙ ap (λ x. Some x) (with_one_state parts pe q)
took parts pe p q step rule (Err (error.Illegal broken)) e s =
    (ap (option_map (with_program (state_of parts) pe)) s.0, s.1, with_same parts pe p q e s.2)
took parts pe p q step rule (Err error.Memory) e s = with_same parts pe p q e s

plain_effect : (state : State) (pe : ℕ) (p : ProgramState) (call : ℕ) (made : What) → is_plain made ≡ true → effect service_limits state pe p call made ≡ option_map (with_program state pe) (plain_step state.service state.rows state.round p call made)
plain_effect state pe p call (what.Meta asked given) t = absurd (false≢true t)
plain_effect state pe p call (what.Piece piece given) t = absurd (false≢true t)
plain_effect state pe p call what.Arrive t = absurd (false≢true t)
plain_effect state pe p call what.Leave t = absurd (false≢true t)
plain_effect state pe p call what.Crash t = absurd (false≢true t)
plain_effect state pe p call made t = refl

-- the step of an event that changes one program alone
pub plain_taken : (parts : Parts) (pe call : ℕ) (made : What) (p q : TrackedProgram) (result : Result Unit StepError) → slice_get parts.programs pe ≡ Some p → is_plain made ≡ true → Steps (plain_step parts.layout parts.rows parts.round p.state call made) (rule_of p.state call made) p q result → Takes (effect_at (state_of parts) pe call made) (rule_at (state_of parts) pe call made) parts (with_one parts pe q) result
plain_taken parts pe call made p q result e t s =
    subst (λ step. Takes step (rule_at (state_of parts) pe call made) parts (with_one parts pe q) result)
    (sym (effect_here parts pe call made p e ∙ plain_effect (state_of parts) pe p.state call made t))
    (subst (λ rule. Takes (option_map (with_program (state_of parts) pe) (plain_step parts.layout parts.rows parts.round p.state call made)) rule parts (with_one parts pe q) result)
    (sym (rule_here parts pe call made p e))
    (took parts pe p q (plain_step parts.layout parts.rows parts.round p.state call made) (rule_of p.state call made) result e s))

-- the directory

changed_state : (parts : Parts) (chosen : Option Change) (pe : ℕ) (q : TrackedProgram) → with_program (changed (state_of parts) chosen) pe q.state ≡ state_of (record parts { rows = rows_with parts.rows chosen; memory = memory_with parts.rows chosen parts.memory; programs = slice_set parts.programs pe q })
changed_state parts None pe q = λ i. record (state_of parts) { programs = sym (map-set (λ (q : TrackedProgram). q.state) parts.programs pe q) i }
changed_state parts (Some chosen) pe q = λ i. record (changed (state_of parts) (Some chosen)) { programs = sym (map-set (λ (q : TrackedProgram). q.state) parts.programs pe q) i }

-- a call on the directory that is answered rightly
pub meta_taken : (parts : Parts) (pe call : ℕ) (asked : MetaCall) (given : Reply) (p q : TrackedProgram) (made : Request) (rows : Rows) (memory : Memory) → slice_get parts.programs pe ≡ Some p → request_of p.state asked ≡ Some made → may_reply parts.rows p.state.who made given ≡ true → rows ≡ rows_with parts.rows (told_change parts.rows p.state.who made given) → memory ≡ memory_with parts.rows (told_change parts.rows p.state.who made given) parts.memory → q.state ≡ filled (counted p.state) asked given → effect_at (state_of parts) pe call (what.Meta asked given) ≡ Some (state_of (record parts { rows = rows; memory = memory; programs = slice_set parts.programs pe q }))
meta_taken parts pe call asked given p q made rows memory e request may same_rows same_memory same_program =
    let told = told_change parts.rows p.state.who made given in
    let step : meta_step parts.rows p.state asked given ≡ Some (filled (counted p.state) asked given) =
    ap (λ o. o >>= λ request. when (may_reply parts.rows p.state.who request given) (filled (counted p.state) asked given)) request
    ∙ ap (λ b. when b (filled (counted p.state) asked given)) may
    in
    let served : served_change parts.rows p.state asked given ≡ told = ap (λ o. o >>= λ request. told_change parts.rows p.state.who request given) request in
    effect_here parts pe call (what.Meta asked given) p e
    ∙ (λ i. option_map (with_program (changed (state_of parts) (served i)) pe) (step i))
    ∙ ap (λ r. Some (with_program (changed (state_of parts) told) pe r)) (sym same_program)
    ∙ ap (λ x. Some x) (changed_state parts told pe q)
    ∙ (λ i. Some (state_of (record parts { rows = sym same_rows i; memory = sym same_memory i; programs = slice_set parts.programs pe q })))

-- the change that it serves
pub change_here : (parts : Parts) (pe : ℕ) (asked : MetaCall) (given : Reply) (p : TrackedProgram) (made : Request) → slice_get parts.programs pe ≡ Some p → request_of p.state asked ≡ Some made →
    change_in (state_of parts) pe (what.Meta asked given) ≡ told_change parts.rows p.state.who made given
change_here parts pe asked given p made e request =
    ap (λ (o : Option ProgramState). o >>= λ q. served_change parts.rows q asked given) (program_here parts pe p e)
    ∙ ap (λ (o : Option Request). o >>= λ r. told_change parts.rows p.state.who r given) request

-- it is lawful
pub change_is_lawful : (parts : Parts) (pe : ℕ) (asked : MetaCall) (given : Reply) (p : TrackedProgram) (made : Request) (chosen : Change) → IsSound (state_of parts) → call_mode asked ≤ 511 →
    slice_get parts.programs pe ≡ Some p → request_of p.state asked ≡ Some made → told_change parts.rows p.state.who made given ≡ Some chosen → is_lawful_change parts.rows chosen ≡ true
change_is_lawful parts pe asked given p made chosen sound small there request told =
    let mode = mode_made p.state asked made request in
    told_lawful parts.rows p.state.who made given chosen sound.lawful (sound_here parts pe p sound there).user (omega (arith, mode, small)) told

-- one that has no request or a wrong reply
pub meta_refused : (parts : Parts) (pe call : ℕ) (asked : MetaCall) (given : Reply) (p : TrackedProgram) → slice_get parts.programs pe ≡ Some p → request_of p.state asked ≡ None → effect_at (state_of parts) pe call (what.Meta asked given) ≡ None
meta_refused parts pe call asked given p e request =
    effect_here parts pe call (what.Meta asked given) p e
    ∙ ap (λ o. option_map (with_program (changed (state_of parts) (served_change parts.rows p.state asked given)) pe) (o >>= λ request. when (may_reply parts.rows p.state.who request given) (filled (counted p.state) asked given))) request

pub meta_wrong : (parts : Parts) (pe call : ℕ) (asked : MetaCall) (given : Reply) (p : TrackedProgram) (made : Request) → slice_get parts.programs pe ≡ Some p → request_of p.state asked ≡ Some made → may_reply parts.rows p.state.who made given ≡ false → effect_at (state_of parts) pe call (what.Meta asked given) ≡ None
meta_wrong parts pe call asked given p made e request wrong =
    effect_here parts pe call (what.Meta asked given) p e
    ∙ ap (λ o. option_map (with_program (changed (state_of parts) (served_change parts.rows p.state asked given)) pe) (o >>= λ request. when (may_reply parts.rows p.state.who request given) (filled (counted p.state) asked given))) request
    ∙ ap (λ b. option_map (with_program (changed (state_of parts) (served_change parts.rows p.state asked given)) pe) (when b (filled (counted p.state) asked given))) wrong

-- events of which the barrier hears

member_effect : (state : State) (pe : ℕ) (p : ProgramState) (call : ℕ) (made : What) → is_of_member made ≡ true → effect service_limits state pe p call made ≡ option_map (with_member state pe) (member_step_of state.round p made)
member_effect state pe p call what.Arrive t = refl
member_effect state pe p call what.Leave t = refl
member_effect state pe p call what.Crash t = refl
member_effect state pe p call made t = absurd (false≢true t)

member_rule_of : (p : ProgramState) (call : ℕ) (made : What) → is_of_member made ≡ true → rule_of p call made ≡ member_rule made
member_rule_of p call what.Arrive t = refl
member_rule_of p call what.Leave t = refl
member_rule_of p call what.Crash t = refl
member_rule_of p call made t = absurd (false≢true t)

with_member_state : (parts : Parts) (pe : ℕ) (q : TrackedProgram) (complete : Bool) → is_complete parts.round (states_of (slice_set parts.programs pe q)) ≡ complete → with_member (state_of parts) pe q.state ≡ state_of (record parts { round = if complete then parts.round + 1 else parts.round; programs = slice_set parts.programs pe q })
with_member_state parts pe q complete e =
    let programs : slice_set (states_of parts.programs) pe q.state ≡ states_of (slice_set parts.programs pe q) = sym (map-set (λ (q : TrackedProgram). q.state) parts.programs pe q) in
    (λ i. record (state_of parts) { programs = programs i; round = round_after parts.round (programs i) })
    ∙ (λ i. state_of (record parts { round = if e i then parts.round + 1 else parts.round; programs = slice_set parts.programs pe q }))

-- the step of such an event, by whether the round ends
pub member_taken : (parts : Parts) (pe call : ℕ) (made : What) (p q : TrackedProgram) (complete : Bool) → slice_get parts.programs pe ≡ Some p → is_of_member made ≡ true → member_step_of parts.round p.state made ≡ Some q.state → is_complete parts.round (states_of (slice_set parts.programs pe q)) ≡ complete → effect_at (state_of parts) pe call made ≡ Some (state_of (record parts { round = if complete then parts.round + 1 else parts.round; programs = slice_set parts.programs pe q }))
member_taken parts pe call made p q complete e t step whole =
    effect_here parts pe call made p e ∙ member_effect (state_of parts) pe p.state call made t
    ∙ ap (option_map (with_member (state_of parts) pe)) step ∙ ap (λ x. Some x) (with_member_state parts pe q complete whole)

-- and where there is none
pub member_fails : (parts : Parts) (pe call : ℕ) (made : What) (p q : TrackedProgram) (fault : StepError) → slice_get parts.programs pe ≡ Some p → is_of_member made ≡ true → Steps (member_step_of parts.round p.state made) (member_rule made) p q (Err fault) → Takes (effect_at (state_of parts) pe call made) (rule_at (state_of parts) pe call made) parts (with_one parts pe q) (Err fault)
member_fails parts pe call made p q (error.Illegal broken) e t s = (
  effect_here parts pe call made p e ∙ member_effect (state_of parts) pe p.state call made t ∙ ap (option_map (with_member (state_of parts) pe)) s.0,
  s.1 ∙ sym (rule_here parts pe call made p e ∙ member_rule_of p.state call made t),
  with_same parts pe p q e s.2,
)
member_fails parts pe call made p q error.Memory e t s = with_same parts pe p q e s

member_number : (p : ProgramState) (call : ℕ) (made : What) → is_of_member made ≡ true → is_in_turn p call made ≡ true → p.next_call < number_end
member_number p call what.Arrive t turn = (in_turn p call (call_made what.Arrive) turn).bound
member_number p call what.Leave t turn = (in_turn p call (call_made what.Leave) turn).bound
member_number p call what.Crash t turn = next_bound p call (both_true (is_running p.standing) (is_next p call) turn).1
member_number p call made t turn = absurd (false≢true t)

-- the call number of such an event can rise
pub member_number_here : (parts : Parts) (pe call : ℕ) (made : What) (p : TrackedProgram) → slice_get parts.programs pe ≡ Some p → is_of_member made ≡ true → IsTrue (turn_at (state_of parts) pe call made) → p.state.next_call < number_end
member_number_here parts pe call made p e t turn = member_number p.state call made t (turn_here parts pe call made p e turn)

member_on_time : (round : ℕ) (p q : ProgramState) (made : What) → is_of_member made ≡ true → IsOnTime round p → p.next_call < number_end → member_step_of round p made ≡ Some q → IsOnTime round q
member_on_time round p q what.Arrive t on_time less e = arrive_on_time round p q on_time less e
member_on_time round p q what.Leave t on_time less e = leave_on_time round p q on_time less e
member_on_time round p q what.Crash t on_time less e = crash_on_time round p q on_time less e
member_on_time round p q made t on_time less e = absurd (false≢true t)

-- the round that ends by it can rise
pub round_can_rise : (parts : Parts) (pe call : ℕ) (made : What) (p q : TrackedProgram) → IsSound (state_of parts) → slice_get parts.programs pe ≡ Some p → is_of_member made ≡ true → IsTrue (turn_at (state_of parts) pe call made) → member_step_of parts.round p.state made ≡ Some q.state → is_complete parts.round (states_of (slice_set parts.programs pe q)) ≡ true → parts.round < number_end
round_can_rise parts pe call made p q sound e t turn step whole =
    let here = sound_here parts pe p sound e in
    let now = member_on_time parts.round p.state q.state made t here.on_time (member_number_here parts pe call made p e t turn) step in
    let before : All (IsOnTime parts.round) (states_of parts.programs) =
    All-weaker (IsSoundProgram parts.rows parts.round) (IsOnTime parts.round) (λ p s. s.on_time) (states_of parts.programs) sound.sound
    in
    let all : All (IsOnTime parts.round) (states_of (slice_set parts.programs pe q)) =
    subst (All (IsOnTime parts.round)) (sym (map-set (λ (q : TrackedProgram). q.state) parts.programs pe q))
    (All-set (IsOnTime parts.round) (states_of parts.programs) pe q.state now before)
    in
    round_bound parts.round (states_of (slice_set parts.programs pe q)) all whole

-- calls

four_true : (a b c d : Bool) → (a && b && c && d) ≡ true → (c ≡ true) × (d ≡ true)
four_true true true true true e = (refl, refl)
four_true true true true false e = absurd (false≢true e)
four_true true true false d e = absurd (false≢true e)
four_true true false c d e = absurd (false≢true e)
four_true false b c d e = absurd (false≢true e)

-- what a call has at its turn
pub record HasTurn (p : ProgramState) (made : What) : Type 0 where
  pub number : p.next_call < number_end
  pub idle : IsTrue (is_idle p.started)
  pub shaped : is_some_and (call_made made) is_shaped ≡ true

has_turn : (p : ProgramState) (call : ℕ) (made : What) → (is_running p.standing && is_next p call && is_idle p.started && is_some_and (call_made made) is_shaped) ≡ true → HasTurn p made
has_turn p call made t =
    let tests = four_true (is_running p.standing) (is_next p call) (is_idle p.started) (is_some_and (call_made made) is_shaped) t in
    record { number = (in_turn p call (call_made made) t).bound; idle = tests.0; shaped = tests.1 }

plain_turn : (p : ProgramState) (call : ℕ) (made : What) → is_plain made ≡ true → makes_call made ≡ true → is_in_turn p call made ≡ true → HasTurn p made
plain_turn p call (what.Issue asked given) k m t = has_turn p call (what.Issue asked given) t
plain_turn p call (what.OpenContext context) k m t = has_turn p call (what.OpenContext context) t
plain_turn p call (what.CloseContext context given) k m t = has_turn p call (what.CloseContext context given) t
plain_turn p call (what.Fence context) k m t = has_turn p call (what.Fence context) t
plain_turn p call (what.Quiet context given) k m t = has_turn p call (what.Quiet context given) t
plain_turn p call (what.Wait context named given) k m t = has_turn p call (what.Wait context named given) t
plain_turn p call (what.Refused asked error doubt) k m t = has_turn p call (what.Refused asked error doubt) t
plain_turn p call (what.Answer given) k m t = absurd (false≢true m)
plain_turn p call (what.Lose piece) k m t = absurd (false≢true m)
plain_turn p call made k m t = absurd (false≢true k)

-- a call that changes one program alone, at its turn
pub plain_turn_here : (parts : Parts) (pe call : ℕ) (made : What) (p : TrackedProgram) → slice_get parts.programs pe ≡ Some p → is_plain made ≡ true → IsTrue (turn_at (state_of parts) pe call made) → makes_call made ≡ true → HasTurn p.state made
plain_turn_here parts pe call made p e k t m = plain_turn p.state call made k m (turn_here parts pe call made p e t)
