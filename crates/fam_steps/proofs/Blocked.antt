-- Where no event of the shape of a step may come.
use Rattle.std.proofs.Common.{◌≡◌, ℕ, Bool, true, false, refl, sym, ap, ◌∙◌, eqb-true}
use Rattle.std.specs.Prelude.{◌==◌, ◌&&◌, ◌||◌, not, slice_get, Option, Some, None, is_some, if◌then◌else◌}
use Rattle.std.specs.Option.{option_map}
use Rattle.std.proofs.lemmas.Bool.{false≢true}
use Rattle.fam_model.specs.declared.call.Call.{Call}
use Rattle.fam_model.specs.declared.call.Call.TheVariants as call
use Rattle.fam_model.specs.declared.event.Event.{Event}
use Rattle.fam_model.specs.declared.event.What.{What}
use Rattle.fam_model.specs.declared.event.What.TheVariants as what
use Rattle.fam_model.specs.declared.piece.Operation.{Operation}
use Rattle.fam_model.specs.declared.piece.MarkedPiece.{MarkedPiece}
use Rattle.fam_model.specs.declared.reply.PieceAnswer.{PieceAnswer}
use Rattle.fam_model.specs.declared.reply.Reply.{Reply}
use Rattle.fam_model.specs.declared.reply.Reply.TheVariants as reply
use Rattle.fam_model.specs.declared.state.Context.{Context}
use Rattle.fam_model.specs.declared.state.ProgramState.{ProgramState}
use Rattle.fam_model.specs.declared.state.Started.{Started}
use Rattle.fam_model.specs.declared.state.Started.TheVariants as begun
use Rattle.fam_model.specs.declared.state.State.{State}
use Rattle.fam_model.specs.declared.service.Service.{Service}
use Rattle.fam_model.specs.ContextStep.{answer_step, close_step, quiet_step, wait_step, with_nothing_started}
use Rattle.fam_model.specs.EndStep.{arrive_step, has_pending, leave_step, may_arrive}
use Rattle.fam_model.specs.Issue.{issue_refusal}
use Rattle.fam_model.specs.IssueStep.{accepted, issue_step, issue_with}
use Rattle.fam_model.specs.Limits.{service_limits}
use Rattle.fam_model.specs.Lists.{◌>>=◌, when, is_some_and}
use Rattle.fam_model.specs.Operations.{has_left, is_pending, report, reported, as_reported, result}
use Rattle.fam_model.specs.PieceStep.{lose_step, piece_step}
use Rattle.fam_model.specs.Programs.{Placed, counted, has_passed, is_open, is_running, open_context, placed, program_of, unreported_copy, with_context, with_operation, with_placed}
use Rattle.fam_base.specs.declared.error.FamError.{FamError}
use Rattle.fam_model.specs.declared.rows.Rows.{Rows}
use Rattle.fam_model.specs.RefusedStep.{may_refuse, refused_step, would_serve}
use Rattle.fam_model.specs.Same.{same_reply}
use Rattle.fam_model.specs.Shape.{is_shaped}
use Rattle.fam_model.specs.Step.{effect, step}
use Rattle.fam_model.specs.Turn.{answers_started, call_made, is_idle, is_in_turn, is_next}
use Rattle.fam_turns.specs.Turns.{is_busy, is_copying, may_act, may_begin, may_go}
use Rattle.fam_turns.proofs.Coming.{turn_is}
use Rattle.fam_base.specs.declared.naming.PeId.{PeId}
use Rattle.fam_machine.specs.Views.{due_at}
use Rattle.fam_model.specs.Limits.{number_end}
use Rattle.fam_model.specs.Operations.{is_left, may_come}
use Rattle.fam_model.specs.PieceStep.{bytes_found, due_answer, may_answer, with_answer, without_piece}
use Rattle.fam_model.specs.Programs.{has_crashed}
use Rattle.fam_model.specs.Rules.{is_due}
use Rattle.fam_program.specs.Parts.{is_left_piece}
use Rattle.fam_program.proofs.Reporting.{is_some_when}
use Rattle.std.specs.Prelude.{nat_lt}
use Rattle.fam_steps.specs.declared.step.Step.TheVariants as asked
use Rattle.fam_model.specs.Text.{is_crash}
use Rattle.fam_steps.specs.Steps.{HasShape, IsNotEnabled}

-- options and tests

map_none : {A B : Type 0} (f : A → B) (o : Option A) → o ≡ None → option_map f o ≡ None
map_none f o e = rw e refl

when_false : {A : Type 0} (b : Bool) (x : A) → b ≡ false → when b x ≡ None
when_false b x e = rw e refl

bind_none : {A B : Type 0} (o : Option A) (f : A → Option B) → ((x : A) → o ≡ Some x → f x ≡ None) → (o >>= f) ≡ None
bind_none None f h = refl
bind_none (Some x) f h = h x refl

if_false : {A : Type 0} (b : Bool) (o : Option A) → b ≡ false → (if b then o else None) ≡ None
if_false b o e = rw e refl

-- where the test holds there is no value either
if_none : {A : Type 0} (b : Bool) (o : Option A) → (b ≡ true → o ≡ None) → (if b then o else None) ≡ None
if_none true o h = h refl
if_none false o h = refl

same_value : {A : Type 0} (x y : A) → Some x ≡ Some y → x ≡ y
same_value x y e = cc

first_true : (a b : Bool) → (a && b) ≡ true → a ≡ true
first_true true b e = refl
first_true false b e = cc

second_true : (a b : Bool) → (a && b) ≡ true → b ≡ true
second_true true b e = e
second_true false b e = cc

not_of : (b : Bool) → not b ≡ false → b ≡ true
not_of true e = refl
not_of false e = cc

left_false : (a b : Bool) → a ≡ false → (a && b) ≡ false
left_false a b e = rw e refl

and_false : (b : Bool) → (b && false) ≡ false
and_false true = refl
and_false false = refl

-- where one side of an `or` fails
or_first : (a b : Bool) → (a || b) ≡ false → a ≡ false
or_first false b e = refl
or_first true b e = cc

or_second : (a b : Bool) → (a || b) ≡ false → b ≡ false
or_second false b e = e
or_second true b e = cc

-- a test that a value has, of the value
of_some : {A : Type 0} (o : Option A) (test : A → Bool) (x : A) → is_some_and o test ≡ true → o ≡ Some x → test x ≡ true
of_some o test x h e = sym (ap (λ o. is_some_and o test) e) ∙ h

and_not : (a b c : Bool) → b ≡ true → (a && not b && c) ≡ false
and_not true true c e = refl
and_not false true c e = refl
and_not a false c e = cc

not_and : (b c : Bool) → b ≡ true → (not b && c) ≡ false
not_and b c e = rw e refl

-- calls that may not begin

-- the issue of a call that is neither refused nor accepted
no_issue : (service : Service) (p : ProgramState) (a : Call) (given : Reply) → issue_refusal service p a ≡ None → accepted service p a ≡ None → issue_step service p a given ≡ None
no_issue service p a given none unaccepted =
    ap (λ o. issue_with o service p a given) none ∙ ap (λ (o : Option ProgramState). o >>= λ next. when (same_reply given reply.Issued) next) unaccepted

-- an open context that is busy
busy_open : (p : ProgramState) (c : ℕ) → is_busy p c ≡ true → is_open p c ≡ true
busy_open p c h = by_context (open_context p c) h
  where
    by_context : (o : Option Context) → is_some_and o is_pending ≡ true → is_some o ≡ true
    by_context None h = cc
    by_context (Some x) h = refl

copying_copy : (p : ProgramState) (c named : ℕ) → is_copying p c named ≡ true → is_some (unreported_copy p c named) ≡ true
copying_copy p c named h = by_copy (unreported_copy p c named) (second_true (is_open p c) (is_some_and (unreported_copy p c named) has_left) h)
  where
    by_copy : (o : Option Operation) → is_some_and o has_left ≡ true → is_some o ≡ true
    by_copy None h = cc
    by_copy (Some x) h = refl

blocked_issue : (service : Service) (round : ℕ) (p : ProgramState) (a : Call) (given : Reply) → may_begin round p a ≡ false → issue_step service p a given ≡ None
blocked_issue service round p (call.Meta m) given h = cc
blocked_issue service round p (call.Data c op blocking) given h = cc
blocked_issue service round p (call.OpenContext c) given h = cc
blocked_issue service round p (call.CloseContext c) given h =
    let first : (c == 0) ≡ false = or_first (c == 0) (not (is_busy p c)) h in
    let opens : is_open p c ≡ true = busy_open p c (not_of (is_busy p c) (or_second (c == 0) (not (is_busy p c)) h)) in
    no_issue service p (call.CloseContext c) given (rw (first, opens) refl) refl
blocked_issue service round p (call.CopyWait c named) given h =
    let copying : is_copying p c named ≡ true = not_of (is_copying p c named) h in
    let opens : is_open p c ≡ true = first_true (is_open p c) (is_some_and (unreported_copy p c named) has_left) copying in
    let copy : is_some (unreported_copy p c named) ≡ true = copying_copy p c named copying in
    no_issue service p (call.CopyWait c named) given (rw (opens, copy) refl) refl
blocked_issue service round p (call.Fence c) given h = cc
blocked_issue service round p (call.Quiet c) given h =
    let opens : is_open p c ≡ true = busy_open p c (not_of (is_busy p c) h) in
    no_issue service p (call.Quiet c) given (rw opens refl) refl
blocked_issue service round p call.Barrier given h = no_issue service p call.Barrier given refl refl
blocked_issue service round p call.Leave given h = no_issue service p call.Leave given refl refl
blocked_issue service round p call.Crash given h = cc

blocked_close : (round : ℕ) (p : ProgramState) (c : ℕ) (given : Reply) → may_begin round p (call.CloseContext c) ≡ false → close_step p c given ≡ None
blocked_close round p c given h =
    let busy : is_busy p c ≡ true = not_of (is_busy p c) (or_second (c == 0) (not (is_busy p c)) h) in
    bind_none (open_context p c) (λ context. when (not (c == 0) && not (is_pending context) && same_reply given (report context)) (with_context (counted p) c (record (reported context) { is_open = false })))
    (λ context there. when_false (not (c == 0) && not (is_pending context) && same_reply given (report context)) (with_context (counted p) c (record (reported context) { is_open = false }))
    (and_not (not (c == 0)) (is_pending context) (same_reply given (report context)) (of_some (open_context p c) is_pending context busy there)))

blocked_quiet : (round : ℕ) (p : ProgramState) (c : ℕ) (given : Reply) → may_begin round p (call.Quiet c) ≡ false → quiet_step p c given ≡ None
blocked_quiet round p c given h =
    let busy : is_busy p c ≡ true = not_of (is_busy p c) h in
    bind_none (open_context p c) (λ context. when (not (is_pending context) && same_reply given (report context)) (with_context (counted p) c (reported context)))
    (λ context there. when_false (not (is_pending context) && same_reply given (report context)) (with_context (counted p) c (reported context))
    (not_and (is_pending context) (same_reply given (report context)) (of_some (open_context p c) is_pending context busy there)))

blocked_wait : (round : ℕ) (p : ProgramState) (c named : ℕ) (given : Reply) → may_begin round p (call.CopyWait c named) ≡ false → wait_step p c named given ≡ None
blocked_wait round p c named given h =
    let copying : is_copying p c named ≡ true = not_of (is_copying p c named) h in
    let left : is_some_and (unreported_copy p c named) has_left ≡ true = second_true (is_open p c) (is_some_and (unreported_copy p c named) has_left) copying in
    bind_none (slice_get p.contexts c) (λ context. unreported_copy p c named >>= λ operation. when (not (has_left operation) && same_reply given (result operation)) (with_context (counted p) c (with_operation context (as_reported operation))))
    (λ context _. bind_none (unreported_copy p c named) (λ operation. when (not (has_left operation) && same_reply given (result operation)) (with_context (counted p) c (with_operation context (as_reported operation))))
    (λ operation there. when_false (not (has_left operation) && same_reply given (result operation)) (with_context (counted p) c (with_operation context (as_reported operation)))
    (not_and (has_left operation) (same_reply given (result operation)) (of_some (unreported_copy p c named) has_left operation left there))))

-- what may not begin would not be served
unserved : (rows : Rows) (round : ℕ) (p : ProgramState) (a : Call) (error : FamError) (doubt : Bool) → may_begin round p a ≡ false → refused_step service_limits rows round p a error doubt ≡ None
unserved rows round p a error doubt h =
    when_false (would_serve rows round p a && may_refuse service_limits a error doubt) (counted p)
    (left_false (would_serve rows round p a) (may_refuse service_limits a error doubt) (by_call a h))
  where
    by_call : (a : Call) → may_begin round p a ≡ false → would_serve rows round p a ≡ false
    by_call (call.Meta m) h = cc
    by_call (call.Data c op blocking) h = refl
    by_call (call.OpenContext c) h = refl
    by_call (call.CloseContext c) h = refl
    by_call (call.CopyWait c named) h = refl
    by_call (call.Fence c) h = refl
    by_call (call.Quiet c) h = refl
    by_call call.Barrier h = h
    by_call call.Leave h = refl
    by_call call.Crash h = refl

-- an event that makes a call which may not begin has no effect

abbrev Waits : ℕ → ProgramState → What → Type 0
Waits round p made = is_some_and (call_made made) (λ a. not (may_begin round p a)) ≡ true

false_of : (b : Bool) → not b ≡ true → b ≡ false
false_of false e = refl
false_of true e = cc

waits : (state : State) (pe n : ℕ) (p : ProgramState) (made : What) → Waits state.round p made → effect service_limits state pe p n made ≡ None
waits state pe n p (what.Meta a given) h = cc
waits state pe n p (what.Issue a given) h =
    map_none _ (issue_step state.service p a given) (blocked_issue state.service state.round p a given (false_of (may_begin state.round p a) h))
waits state pe n p (what.Piece j given) h = cc
waits state pe n p (what.Answer given) h = cc
waits state pe n p (what.OpenContext c) h = cc
waits state pe n p (what.CloseContext c given) h =
    map_none _ (close_step p c given) (blocked_close state.round p c given (false_of (may_begin state.round p (call.CloseContext c)) h))
waits state pe n p (what.Fence c) h = cc
waits state pe n p (what.Quiet c given) h =
    map_none _ (quiet_step p c given) (blocked_quiet state.round p c given (false_of (may_begin state.round p (call.Quiet c)) h))
waits state pe n p (what.Wait c named given) h =
    map_none _ (wait_step p c named given) (blocked_wait state.round p c named given (false_of (may_begin state.round p (call.CopyWait c named)) h))
waits state pe n p what.Arrive h =
    map_none _ (arrive_step state.round p) (when_false (may_arrive state.round p) _ (false_of (may_arrive state.round p) h))
waits state pe n p what.Leave h =
    map_none _ (leave_step p) (when_false (not (has_pending p)) _ (false_of (not (has_pending p)) h))
waits state pe n p what.Crash h = cc
waits state pe n p (what.Lose j) h = cc
waits state pe n p (what.Refused a error doubt) h =
    map_none _ (refused_step service_limits state.rows state.round p a error doubt)
    (unserved state.rows state.round p a error doubt (false_of (may_begin state.round p a) h))

-- steps

-- the step of an event of this program
step_of : (state : State) (pe : ℕ) (p : ProgramState) (event : Event) → event.pe.0 ≡ pe → program_of state pe ≡ Some p →
    step service_limits state event ≡ (if is_in_turn p event.call event.what then effect service_limits state event.pe.0 p event.call event.what else None)
step_of state pe p event same there =
    ap (λ (o : Option ProgramState). o >>= λ q. if is_in_turn q event.call event.what then effect service_limits state event.pe.0 q event.call event.what else None)
    (ap (program_of state) same ∙ there)

-- there is no such program
pub no_program : (state : State) (pe : ℕ) (event : Event) → event.pe.0 ≡ pe → program_of state pe ≡ None → step service_limits state event ≡ None
no_program state pe event same none =
    ap (λ (o : Option ProgramState). o >>= λ q. if is_in_turn q event.call event.what then effect service_limits state event.pe.0 q event.call event.what else None)
    (ap (program_of state) same ∙ none)

-- it is not the event's turn
out_of_turn : (state : State) (pe : ℕ) (p : ProgramState) (event : Event) → event.pe.0 ≡ pe → program_of state pe ≡ Some p → is_in_turn p event.call event.what ≡ false →
    step service_limits state event ≡ None
out_of_turn state pe p event same there late =
    step_of state pe p event same there ∙ if_false (is_in_turn p event.call event.what) (effect service_limits state event.pe.0 p event.call event.what) late

-- something is started, and the call is no crash
busy_turn : (p : ProgramState) (n : ℕ) (made : What) (a : Call) → call_made made ≡ Some a → is_crash a ≡ false → is_idle p.started ≡ false → is_in_turn p n made ≡ false
busy_turn p n made a e crash busy = by_what made (ap (λ o. is_some_and o is_crash) e ∙ crash) (ap is_some e)
  where
    no_turn : (runs number idle shaped : Bool) → idle ≡ false → (runs && number && idle && shaped) ≡ false
    no_turn true true false shaped i = refl
    no_turn true false false shaped i = refl
    no_turn false number false shaped i = refl
    no_turn runs number true shaped i = cc

    by_what : (made : What) → is_some_and (call_made made) is_crash ≡ false → is_some (call_made made) ≡ true → is_in_turn p n made ≡ false
    by_what (what.Meta a given) c s = no_turn (is_running p.standing) (is_next p n) (is_idle p.started) (is_shaped (call.Meta a)) busy
    by_what (what.Issue a given) c s = no_turn (is_running p.standing) (is_next p n) (is_idle p.started) (is_shaped a) busy
    by_what (what.Piece j given) c s = cc
    by_what (what.Answer given) c s = cc
    by_what (what.OpenContext k) c s = no_turn (is_running p.standing) (is_next p n) (is_idle p.started) (is_shaped (call.OpenContext k)) busy
    by_what (what.CloseContext k given) c s = no_turn (is_running p.standing) (is_next p n) (is_idle p.started) (is_shaped (call.CloseContext k)) busy
    by_what (what.Fence k) c s = no_turn (is_running p.standing) (is_next p n) (is_idle p.started) (is_shaped (call.Fence k)) busy
    by_what (what.Quiet k given) c s = no_turn (is_running p.standing) (is_next p n) (is_idle p.started) (is_shaped (call.Quiet k)) busy
    by_what (what.Wait k named given) c s = no_turn (is_running p.standing) (is_next p n) (is_idle p.started) (is_shaped (call.CopyWait k named)) busy
    by_what what.Arrive c s = no_turn (is_running p.standing) (is_next p n) (is_idle p.started) (is_shaped call.Barrier) busy
    by_what what.Leave c s = no_turn (is_running p.standing) (is_next p n) (is_idle p.started) (is_shaped call.Leave) busy
    by_what what.Crash c s = cc
    by_what (what.Lose j) c s = cc
    by_what (what.Refused a error doubt) c s = no_turn (is_running p.standing) (is_next p n) (is_idle p.started) (is_shaped a) busy

pub busy_call : (state : State) (pe : PeId) (p : ProgramState) (a : Call) → program_of state pe.0 ≡ Some p → is_crash a ≡ false → is_idle p.started ≡ false → IsNotEnabled state (asked.Call pe a)
busy_call state pe p a there crash busy = λ event shape.
    out_of_turn state pe.0 p event (ap (λ (x : PeId). x.0) shape.0) there (busy_turn p event.call event.what a shape.1 crash busy)

-- nothing is started, and the call may not be made or not begin
number_is : (p : ProgramState) (n : ℕ) → is_next p n ≡ true → is_next p p.next_call ≡ true
number_is p n h =
    let same : n ≡ p.next_call = eqb-true n p.next_call (first_true (n == p.next_call) (nat_lt n number_end) h) in
    ap (is_next p) (sym same) ∙ h

pub idle_call : (state : State) (pe : PeId) (p : ProgramState) (a : Call) → program_of state pe.0 ≡ Some p → is_idle p.started ≡ true →
    (is_running p.standing && (is_next p p.next_call && (is_shaped a && may_begin state.round p a))) ≡ false → IsNotEnabled state (asked.Call pe a)
idle_call state pe p a there idle waits_now = λ event shape.
    let same = ap (λ (x : PeId). x.0) shape.0 in
    step_of state pe.0 p event same there
    ∙ if_none (is_in_turn p event.call event.what) (effect service_limits state event.pe.0 p event.call event.what)
    (λ turn. waits state event.pe.0 event.call p event.what
    (ap (λ o. is_some_and o (λ c. not (may_begin state.round p c))) shape.1
    ∙ must_wait (is_running p.standing) (is_next p event.call) (is_next p p.next_call) (is_shaped a) (may_begin state.round p a) (number_is p event.call)
    (sym (turn_is p event.call a event.what shape.1 idle) ∙ turn) waits_now))
  where
    must_wait : (runs number next shaped may : Bool) → (number ≡ true → next ≡ true) → (runs && (number && shaped)) ≡ true → (runs && (next && (shaped && may))) ≡ false → not may ≡ true
    must_wait true true next true may n turn h = let e : may ≡ false = ap (λ b. b && may) (sym (n refl)) ∙ h in rw e refl
    must_wait true true next false may n turn h = cc
    must_wait true false next shaped may n turn h = cc
    must_wait false number next shaped may n turn h = cc

-- a crash that may not come

front : (runs number idle shaped : Bool) → (runs && number && idle && shaped) ≡ true → (runs && number) ≡ true
front true true idle shaped h = refl
front true false idle shaped h = cc
front false number idle shaped h = cc

-- what makes a call stands in its turn only where the program runs and the number is the next one
in_turn_runs : (p : ProgramState) (n : ℕ) (made : What) → is_some (call_made made) ≡ true → is_in_turn p n made ≡ true → (is_running p.standing && is_next p n) ≡ true
in_turn_runs p n (what.Meta a given) s h = front (is_running p.standing) (is_next p n) (is_idle p.started) (is_shaped (call.Meta a)) h
in_turn_runs p n (what.Issue a given) s h = front (is_running p.standing) (is_next p n) (is_idle p.started) (is_shaped a) h
in_turn_runs p n (what.Piece j given) s h = cc
in_turn_runs p n (what.Answer given) s h = cc
in_turn_runs p n (what.OpenContext c) s h = front (is_running p.standing) (is_next p n) (is_idle p.started) (is_shaped (call.OpenContext c)) h
in_turn_runs p n (what.CloseContext c given) s h = front (is_running p.standing) (is_next p n) (is_idle p.started) (is_shaped (call.CloseContext c)) h
in_turn_runs p n (what.Fence c) s h = front (is_running p.standing) (is_next p n) (is_idle p.started) (is_shaped (call.Fence c)) h
in_turn_runs p n (what.Quiet c given) s h = front (is_running p.standing) (is_next p n) (is_idle p.started) (is_shaped (call.Quiet c)) h
in_turn_runs p n (what.Wait c named given) s h = front (is_running p.standing) (is_next p n) (is_idle p.started) (is_shaped (call.CopyWait c named)) h
in_turn_runs p n what.Arrive s h = front (is_running p.standing) (is_next p n) (is_idle p.started) (is_shaped call.Barrier) h
in_turn_runs p n what.Leave s h = front (is_running p.standing) (is_next p n) (is_idle p.started) (is_shaped call.Leave) h
in_turn_runs p n what.Crash s h = h
in_turn_runs p n (what.Lose j) s h = cc
in_turn_runs p n (what.Refused a error doubt) s h = front (is_running p.standing) (is_next p n) (is_idle p.started) (is_shaped a) h

pub no_crash : (state : State) (pe : PeId) (p : ProgramState) → program_of state pe.0 ≡ Some p → is_in_turn p p.next_call what.Crash ≡ false → IsNotEnabled state (asked.Call pe call.Crash)
no_crash state pe p there not_now = λ event shape.
    let same = ap (λ (x : PeId). x.0) shape.0 in
    step_of state pe.0 p event same there
    ∙ if_none (is_in_turn p event.call event.what) (effect service_limits state event.pe.0 p event.call event.what)
    (λ turn. absurd (false≢true (sym not_now ∙ runs_next (is_running p.standing) (is_next p event.call) (is_next p p.next_call) (number_is p event.call) (in_turn_runs p event.call event.what (ap is_some shape.1) turn))))
  where
    runs_next : (runs number next : Bool) → (number ≡ true → next ≡ true) → (runs && number) ≡ true → (runs && next) ≡ true
    runs_next true number next n h = n h
    runs_next false number next n h = cc

-- answers

pub no_answer : (state : State) (pe : PeId) (p : ProgramState) → program_of state pe.0 ≡ Some p → may_act state.round p None ≡ false → IsNotEnabled state (asked.Answer pe)
no_answer state pe p there not_now = λ event shape.
    let same = ap (λ (x : PeId). x.0) shape.0 in
    let given = shape.1.0 in
    step_of state pe.0 p event same there
    ∙ ap (λ w. if is_in_turn p event.call w then effect service_limits state event.pe.0 p event.call w else None) shape.1.1
    ∙ if_none (is_in_turn p event.call (what.Answer given)) (effect service_limits state event.pe.0 p event.call (what.Answer given))
    (λ turn. map_none _ (answer_step p.started state.round p given)
    (by_started p.started given (after (is_running p.standing) (may_go state.round p p.started None) (first_true (is_running p.standing) (answers_started p.started event.call) turn) not_now)))
  where
    after : (runs may : Bool) → runs ≡ true → (runs && may) ≡ false → may ≡ false
    after runs may r h = ap (λ b. b && may) (sym r) ∙ h

    by_started : (s : Started) (given : Reply) → may_go state.round p s None ≡ false → answer_step s state.round p given ≡ None
    by_started begun.Nothing given h = refl
    by_started (begun.Operation n) given h =
        bind_none (placed p n) (λ at. when (not (has_left at.operation) && same_reply given (result at.operation)) (with_nothing_started (with_placed p at (as_reported at.operation))))
        (λ at is. when_false (not (has_left at.operation) && same_reply given (result at.operation)) (with_nothing_started (with_placed p at (as_reported at.operation)))
        (left_false (not (has_left at.operation)) (same_reply given (result at.operation)) (sym (ap (λ o. is_some_and o (λ a. not (has_left a.operation))) is) ∙ h)))
    by_started (begun.Barrier n) given h =
        when_false (has_passed state.round p && same_reply given reply.Passed) (with_nothing_started p) (left_false (has_passed state.round p) (same_reply given reply.Passed) h)

-- pieces

pub no_piece : (state : State) (pe : PeId) (n j : ℕ) → due_at state pe.0 n j ≡ None → IsNotEnabled state (asked.Piece pe n j)
no_piece state pe n j none = λ event shape. by_program event shape (program_of state pe.0) refl
  where
    by_program : (event : Event) → HasShape (asked.Piece pe n j) event → (o : Option ProgramState) → program_of state pe.0 ≡ o → step service_limits state event ≡ None
    by_program event shape None e = no_program state pe.0 event (ap (λ (x : PeId). x.0) shape.0) e
    by_program event shape (Some p) e =
        let given = shape.2.0 in
        step_of state pe.0 p event (ap (λ (x : PeId). x.0) shape.0) e
        ∙ ap (λ w. if is_in_turn p event.call w then effect service_limits state event.pe.0 p event.call w else None) shape.2.1
        ∙ ap (λ m. effect service_limits state event.pe.0 p m (what.Piece j given)) shape.1
        ∙ map_none _ (piece_step service_limits state.rows state.memory p n j given)
        (bind_none (placed p n) (λ at. slice_get at.operation.pieces j >>= λ left. when (test at left given) (next at left given))
        (λ at is. bind_none (slice_get at.operation.pieces j) (λ left. when (test at left given) (next at left given))
        (λ left there. when_false (test at left given) (next at left given)
        (left_false (may_come at.context at.operation j) (may_answer service_limits (due at left) given)
        (may_not at is left there (not_when (is_due p n j) (due at left) (sym (here e at is left there) ∙ none)))))))
      where
        due : Placed → MarkedPiece → PieceAnswer
        due at left = due_answer state.rows state.memory p.who at.operation.kind left.piece

        test : Placed → MarkedPiece → PieceAnswer → Bool
        test at left given = may_come at.context at.operation j && may_answer service_limits (due at left) given

        next : Placed → MarkedPiece → PieceAnswer → ProgramState
        next at left given = with_placed p at (with_answer at.operation j left.piece given (bytes_found state.memory left.piece))

        not_when : (b : Bool) (x : PieceAnswer) → when b x ≡ None → b ≡ false
        not_when true x h = cc
        not_when false x h = refl

        here : program_of state pe.0 ≡ Some p → (at : Placed) → placed p n ≡ Some at → (left : MarkedPiece) → slice_get at.operation.pieces j ≡ Some left → due_at state pe.0 n j ≡ when (is_due p n j) (due at left)
        here e at is left there =
            ap (λ (o : Option ProgramState). o >>= λ q. placed q n >>= λ a. slice_get a.operation.pieces j >>= λ l. when (is_due q n j) (due_answer state.rows state.memory q.who a.operation.kind l.piece)) e
            ∙ ap (λ (o : Option Placed). o >>= λ a. slice_get a.operation.pieces j >>= λ l. when (is_due p n j) (due a l)) is
            ∙ ap (λ (o : Option MarkedPiece). o >>= λ l. when (is_due p n j) (due at l)) there

        may_not : (at : Placed) → placed p n ≡ Some at → (left : MarkedPiece) → slice_get at.operation.pieces j ≡ Some left → is_due p n j ≡ false → may_come at.context at.operation j ≡ false
        may_not at is left there h = sym (ap (λ o. is_some_and o (λ a. may_come a.context a.operation j)) is) ∙ h

-- losses

-- whether a piece may be lost
pub loses : (p : ProgramState) (n j : ℕ) → is_some (lose_step p n j) ≡ (has_crashed p.standing && is_left_piece p n j)
loses p n j = by_place (placed p n)
  where
    by_piece : (at : Placed) (o : Option MarkedPiece) → is_some (o >>= λ left. when (has_crashed p.standing && is_left left) (with_placed p at (without_piece at.operation j left.piece))) ≡ (has_crashed p.standing && is_some_and o is_left)
    by_piece at None = sym (and_false (has_crashed p.standing))
    by_piece at (Some left) = is_some_when (has_crashed p.standing && is_left left) (with_placed p at (without_piece at.operation j left.piece))

    by_place : (o : Option Placed) → is_some (o >>= λ at. slice_get at.operation.pieces j >>= λ left. when (has_crashed p.standing && is_left left) (with_placed p at (without_piece at.operation j left.piece))) ≡ (has_crashed p.standing && is_some_and o (λ at. is_some_and (slice_get at.operation.pieces j) is_left))
    by_place None = sym (and_false (has_crashed p.standing))
    by_place (Some at) = by_piece at (slice_get at.operation.pieces j)

none_of : {A : Type 0} (o : Option A) → is_some o ≡ false → o ≡ None
none_of None h = refl
none_of (Some x) h = cc

pub no_loss : (state : State) (pe : PeId) (n j : ℕ) (p : ProgramState) → program_of state pe.0 ≡ Some p → (has_crashed p.standing && is_left_piece p n j) ≡ false → IsNotEnabled state (asked.Lose pe n j)
no_loss state pe n j p there kept = λ event shape.
    step_of state pe.0 p event (ap (λ (x : PeId). x.0) shape.0) there
    ∙ ap (λ w. if is_in_turn p event.call w then effect service_limits state event.pe.0 p event.call w else None) shape.2
    ∙ ap (λ m. effect service_limits state event.pe.0 p m (what.Lose j)) shape.1
    ∙ map_none _ (lose_step p n j) (none_of (lose_step p n j) (loses p n j ∙ kept))
