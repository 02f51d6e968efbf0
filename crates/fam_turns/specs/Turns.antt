-- Which event of a program comes next, where the next call of its text is given, and whether it may come.
use Rattle.std.specs.Prelude.{◌≡◌, ℕ, Bool, true, not, ◌==◌, ◌&&◌, ◌||◌, slice_get, Option, Some, is_some}
use Rattle.std.specs.Option.{option_map}
use Rattle.fam_base.specs.declared.naming.Who.{Who}
use Rattle.fam_model.specs.declared.call.Call.{Call}
use Rattle.fam_model.specs.declared.call.Call.TheVariants as call
use Rattle.fam_model.specs.declared.call.MetaCall.{MetaCall}
use Rattle.fam_model.specs.declared.event.Event.{Event}
use Rattle.fam_model.specs.declared.event.What.TheVariants as what
use Rattle.fam_model.specs.declared.reply.Reply.{Reply}
use Rattle.fam_model.specs.declared.reply.Reply.TheVariants as reply
use Rattle.fam_model.specs.declared.request.Request.{Request}
use Rattle.fam_model.specs.declared.rows.Rows.{Rows}
use Rattle.fam_model.specs.declared.script.Script.{Script}
use Rattle.fam_model.specs.declared.service.Service.{Service}
use Rattle.fam_model.specs.declared.state.ProgramState.{ProgramState}
use Rattle.fam_model.specs.declared.state.Started.{Started}
use Rattle.fam_model.specs.declared.state.Started.TheVariants as begun
use Rattle.fam_model.specs.declared.state.State.{State}
use Rattle.fam_model.specs.Directory.{answer, first_choice}
use Rattle.fam_model.specs.EndStep.{may_arrive, has_pending}
use Rattle.fam_model.specs.Limits.{service_limits}
use Rattle.fam_model.specs.Lists.{◌>>=◌, when, is_some_and}
use Rattle.fam_model.specs.Operations.{has_left, is_pending, result}
use Rattle.fam_model.specs.Programs.{program_of, placed, open_context, is_open, unreported_copy, request_of, is_running, has_passed}
use Rattle.fam_model.specs.Shape.{is_shaped}
use Rattle.fam_model.specs.Step.{step}
use Rattle.fam_model.specs.Text.{next_call}
use Rattle.fam_model.specs.Turn.{is_next}
use Rattle.fam_schedule.specs.Schedule.{Run, due_reply, event_of, first_event, program_event, replies_to}
use Rattle.fam_turns.specs.declared.next.Next.{Next}

-- the next event

-- the answer of a call
abbrev pub answer_of : ℕ → Reply → Next
answer_of call given = record { call = call; what = what.Answer given }

-- the answer of what is started, or else the first event of this call
abbrev pub next_by : Service → Rows → ProgramState → Started → Option Call → Option Next
next_by service rows p begun.Nothing asked = do
  call ← asked
  first ← first_event service rows p call
  Some (record { call = p.next_call; what = first })
next_by service rows p (begun.Operation call) asked = do
  at ← placed p call
  Some (answer_of call (result at.operation))
next_by service rows p (begun.Barrier call) asked = Some (answer_of call reply.Passed)

-- the next event of a program, if this is the next call of its text
abbrev pub next_of : Service → Rows → ProgramState → Option Call → Option Next
next_of service rows p asked = next_by service rows p p.started asked

-- the same of the program of a number, where it may come now
abbrev pub event_with : State → ℕ → Option Call → Option Event
event_with state pe asked = do
  p ← program_of state pe
  next ← next_of state.service state.rows p asked
  when (is_some (step service_limits state (event_of pe next.call next.what))) (event_of pe next.call next.what)

-- It is the next event of the program in a schedule, where the call is the next one of its text.
abbrev pub IsScheduledEvent : Type 0
IsScheduledEvent =
    (script : Script) (run : Run) (pe : ℕ) →
    program_event script run pe
    ≡ event_with run.now pe (slice_get script.programs pe >>= λ program. next_call program (replies_to run.before pe))

-- what the directory replies

-- the answer of the choice with the least base
abbrev pub served_reply : Rows → Who → Request → Option Reply
served_reply rows who request = option_map answer (first_choice rows who request)

-- the reply to a call; none where a slot that it reads is empty
abbrev pub meta_reply : Rows → ProgramState → MetaCall → Option Reply
meta_reply rows p asked = request_of p asked >>= λ request. due_reply rows p.who request

-- whether it may come

-- the context is open, and some piece of it is left
abbrev pub is_busy : ProgramState → ℕ → Bool
is_busy p c = is_some_and (open_context p c) is_pending

-- a copy of that call is there that was not reported, and some piece of it is left
abbrev pub is_copying : ProgramState → ℕ → ℕ → Bool
is_copying p c named = is_open p c && is_some_and (unreported_copy p c named) has_left

-- The first event of a call may come, at its turn. What is refused may always come: a refusal is an event too.
abbrev pub may_begin : ℕ → ProgramState → Call → Bool
may_begin round p (call.CloseContext c) = c == 0 || not (is_busy p c)
may_begin round p (call.CopyWait c named) = not (is_copying p c named)
may_begin round p (call.Quiet c) = not (is_busy p c)
may_begin round p call.Barrier = may_arrive round p
may_begin round p call.Leave = not (has_pending p)
may_begin round p _ = true

-- the started operation has no piece left
abbrev pub may_finish : ProgramState → ℕ → Bool
may_finish p call = is_some_and (placed p call) (λ at. not (has_left at.operation))

-- what is started may be answered; or else this call is there, and may be made and begin
abbrev pub may_go : ℕ → ProgramState → Started → Option Call → Bool
may_go round p begun.Nothing asked =
    is_some_and asked (λ call. is_next p p.next_call && (is_shaped call && may_begin round p call))
may_go round p (begun.Operation call) asked = may_finish p call
may_go round p (begun.Barrier call) asked = has_passed round p

-- the program runs, and its next event may come
abbrev pub may_act : ℕ → ProgramState → Option Call → Bool
may_act round p asked = is_running p.standing && may_go round p p.started asked

-- the answer tells whether the next event of a program in this state may come
abbrev pub TellsEvent : ℕ → ProgramState → Option Call → Bool → Type 0
TellsEvent round p asked answer =
    (state : State) (pe : ℕ) → program_of state pe ≡ Some p → state.round ≡ round →
    answer ≡ is_some (event_with state pe asked)
