-- The next event of a program in a schedule is the one that its next call gives.
use Rattle.std.proofs.Common.{◌≡◌, ℕ, refl}
use Rattle.std.specs.Prelude.{Option, Some, None, is_some, slice_get}
use Rattle.fam_model.specs.declared.call.Call.{Call}
use Rattle.fam_model.specs.declared.event.Event.{Event}
use Rattle.fam_model.specs.declared.event.What.{What}
use Rattle.fam_model.specs.declared.event.What.TheVariants as what
use Rattle.fam_model.specs.declared.script.Program.{Program as Text}
use Rattle.fam_model.specs.declared.script.Script.{Script}
use Rattle.fam_model.specs.declared.state.ProgramState.{ProgramState}
use Rattle.fam_model.specs.declared.state.Started.{Started}
use Rattle.fam_model.specs.declared.state.Started.TheVariants as begun
use Rattle.fam_model.specs.Limits.{service_limits}
use Rattle.fam_model.specs.Lists.{◌>>=◌, when}
use Rattle.fam_model.specs.Operations.{result}
use Rattle.fam_model.specs.Programs.{Placed, placed, program_of}
use Rattle.fam_model.specs.Step.{step}
use Rattle.fam_model.specs.Text.{next_call}
use Rattle.fam_schedule.specs.Schedule.{Run, event_of, event_after, first_event, replies_to}
use Rattle.fam_turns.specs.declared.next.Next.{Next}
use Rattle.fam_turns.specs.Turns.{IsScheduledEvent, next_by, next_of}

-- what a program does next, by its call's number
abbrev next_at : ℕ → What → Next
next_at n made = record { call = n; what = made }

-- the first event of the call that is due
call_next : (o : Option Call) (first : Call → Option What) (pe n : ℕ) (rest : Event → Option Event) →
    ((o >>= λ asked. first asked >>= λ made. Some (event_of pe n made)) >>= rest)
    ≡ ((o >>= λ asked. first asked >>= λ made. Some (next_at n made)) >>= λ next. rest (event_of pe next.call next.what))
call_next None first pe n rest = refl
call_next (Some asked) first pe n rest = of_first (first asked)
  where
    of_first : (w : Option What) →
        ((w >>= λ made. Some (event_of pe n made)) >>= rest)
        ≡ ((w >>= λ made. Some (next_at n made)) >>= λ next. rest (event_of pe next.call next.what))
    of_first None = refl
    of_first (Some made) = refl

text_next : (o : Option Text) (due : Text → Option Call) (first : Call → Option What) (pe n : ℕ) (rest : Event → Option Event) →
    ((o >>= λ text. due text >>= λ asked. first asked >>= λ made. Some (event_of pe n made)) >>= rest)
    ≡ (((o >>= due) >>= λ asked. first asked >>= λ made. Some (next_at n made)) >>= λ next. rest (event_of pe next.call next.what))
text_next None due first pe n rest = refl
text_next (Some text) due first pe n rest = call_next (due text) first pe n rest

answer_next : (o : Option Placed) (pe call : ℕ) (rest : Event → Option Event) →
    ((o >>= λ at. Some (event_of pe call (what.Answer (result at.operation)))) >>= rest)
    ≡ ((o >>= λ at. Some (next_at call (what.Answer (result at.operation)))) >>= λ next. rest (event_of pe next.call next.what))
answer_next None pe call rest = refl
answer_next (Some at) pe call rest = refl

-- the next event by what is started
after_next : (script : Script) (run : Run) (pe : ℕ) (p : ProgramState) (s : Started) (rest : Event → Option Event) →
    (event_after script run pe p s >>= rest)
    ≡ (next_by run.now.service run.now.rows p s (slice_get script.programs pe >>= λ program. next_call program (replies_to run.before pe))
    >>= λ next. rest (event_of pe next.call next.what))
after_next script run pe p begun.Nothing rest =
    text_next (slice_get script.programs pe) (λ program. next_call program (replies_to run.before pe)) (first_event run.now.service run.now.rows p) pe p.next_call rest
after_next script run pe p (begun.Operation call) rest = answer_next (placed p call) pe call rest
after_next script run pe p (begun.Barrier call) rest = refl

pub is_scheduled : IsScheduledEvent
is_scheduled script run pe = of_program (program_of run.now pe)
  where
    kept : Event → Option Event
    kept event = when (is_some (step service_limits run.now event)) event

    asked : Option Call
    asked = slice_get script.programs pe >>= λ program. next_call program (replies_to run.before pe)

    of_program : (o : Option ProgramState) →
        (o >>= λ p. event_after script run pe p p.started >>= kept)
        ≡ (o >>= λ p. next_of run.now.service run.now.rows p asked >>= λ next. kept (event_of pe next.call next.what))
    of_program None = refl
    of_program (Some p) = after_next script run pe p p.started kept
