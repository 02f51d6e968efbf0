-- What contracts see of the machine.
use Rattle.std.specs.Prelude.{◌≡◌, ℕ, Bool, Result, Ok, Err, nat_lt, true, false, List, map, slice_get, Option, Some, None}
use Rattle.std.specs.List.{enumerate_from}
use Rattle.std.specs.Option.{option_map, option_map_or}
use Rattle.fam_base.specs.declared.naming.Who.{Who}
use Rattle.fam_model.specs.declared.change.Change.{Change}
use Rattle.fam_model.specs.declared.event.Event.{Event}
use Rattle.fam_model.specs.declared.event.What.{What}
use Rattle.fam_model.specs.declared.event.What.TheVariants as what
use Rattle.fam_model.specs.declared.reply.PieceAnswer.{PieceAnswer}
use Rattle.fam_model.specs.declared.rows.Rows.{Rows}
use Rattle.fam_model.specs.declared.state.ProgramState.{ProgramState}
use Rattle.fam_model.specs.declared.service.Service.{Service}
use Rattle.fam_model.specs.declared.state.State.{State}
use Rattle.fam_model.specs.ContextStep.{answer_step, open_step, fence_step, quiet_step, close_step, wait_step}
use Rattle.fam_model.specs.EndStep.{arrive_step, leave_step, crash_step}
use Rattle.fam_model.specs.IssueStep.{issue_step}
use Rattle.fam_model.specs.Opened.{new_program}
use Rattle.fam_model.specs.PieceStep.{due_answer, entry_number, lose_step}
use Rattle.fam_model.specs.RefusedStep.{refused_step}
use Rattle.fam_model.specs.Directory.{after, memory_after, Memory}
use Rattle.fam_model.specs.Limits.{service_limits}
use Rattle.fam_model.specs.Lists.{◌>>=◌, when, is_some_and, find_number}
use Rattle.fam_model.specs.Programs.{program_of, placed}
use Rattle.fam_model.specs.Rules.{is_due, rule_of, broken_rule}
use Rattle.fam_model.specs.Step.{effect, step}
use Rattle.fam_model.specs.Turn.{is_in_turn}
use Rattle.fam_program.specs.declared.tracked.TrackedProgram.{TrackedProgram}
use Rattle.fam_machine.specs.declared.error.StepError.{StepError}
use Rattle.fam_machine.specs.declared.error.StepError.TheVariants as error
use Rattle.fam_machine.specs.declared.parts.Parts.{Parts}

-- the programs of the definitions
abbrev pub states_of : List TrackedProgram → List ProgramState
states_of programs = map (λ p. p.state) programs

-- the state of the definitions
abbrev pub state_of : Parts → State
state_of parts =
    record {
      service = parts.layout;
      rows = parts.rows;
      memory = parts.memory;
      round = parts.round;
      programs = states_of parts.programs;
    }

-- rows after a change, if there is one
abbrev pub rows_with : Rows → Option Change → Rows
rows_with rows None = rows
rows_with rows (Some chosen) = after rows chosen

-- memory after a change, if there is one
abbrev pub memory_with : Rows → Option Change → Memory → Memory
memory_with rows None memory = memory
memory_with rows (Some chosen) memory = memory_after rows chosen memory

-- the program of a number makes an event at its turn
abbrev pub turn_at : State → ℕ → ℕ → What → Bool
turn_at state pe call made = is_some_and (program_of state pe) (λ p. is_in_turn p call made)

-- what an event of the program of a number leads to
abbrev pub effect_at : State → ℕ → ℕ → What → Option State
effect_at state pe call made = program_of state pe >>= λ p. effect service_limits state pe p call made

-- the rule that stands over an event of the program of a number
abbrev pub rule_at : State → ℕ → ℕ → What → ℕ
rule_at state pe call made = option_map_or (λ p. rule_of p call made) (program_of state pe) 1

-- pieces

-- The answer that a piece of the program of a number is due, by the rows and the bytes as they are. None where there is
-- no such piece, or it may not come now.
abbrev pub due_at : State → ℕ → ℕ → ℕ → Option PieceAnswer
due_at state pe call piece = do
  p ← program_of state pe
  at ← placed p call
  left ← slice_get at.operation.pieces piece
  when (is_due p call piece) (due_answer state.rows state.memory p.who at.operation.kind left.piece)

-- events of which the barrier hears

-- a program arrives, leaves or crashes
abbrev pub is_of_member : What → Bool
is_of_member what.Arrive = true
is_of_member what.Leave = true
is_of_member what.Crash = true
is_of_member _ = false

-- the step of the program
abbrev pub member_step_of : ℕ → ProgramState → What → Option ProgramState
member_step_of round p what.Arrive = arrive_step round p
member_step_of round p what.Leave = leave_step p
member_step_of round p _ = crash_step p

-- the rule that stands over it
abbrev pub member_rule : What → ℕ
member_rule what.Arrive = 10
member_rule what.Leave = 11
member_rule _ = 1

-- events that change one program alone

-- neither a call on the directory, nor a piece, nor one of which the barrier hears
abbrev pub is_plain : What → Bool
is_plain (what.Meta asked given) = false
is_plain (what.Piece piece given) = false
is_plain what.Arrive = false
is_plain what.Leave = false
is_plain what.Crash = false
is_plain _ = true

-- the step of the program; none for other events
abbrev pub plain_step : Service → Rows → ℕ → ProgramState → ℕ → What → Option ProgramState
plain_step service rows round p call (what.Issue asked given) = issue_step service p asked given
plain_step service rows round p call (what.Answer given) = answer_step p.started round p given
plain_step service rows round p call (what.OpenContext context) = open_step p context
plain_step service rows round p call (what.CloseContext context given) = close_step p context given
plain_step service rows round p call (what.Fence context) = fence_step p context
plain_step service rows round p call (what.Quiet context given) = quiet_step p context given
plain_step service rows round p call (what.Wait context named given) = wait_step p context named given
plain_step service rows round p call (what.Lose piece) = lose_step p call piece
plain_step service rows round p call (what.Refused asked error doubt) = refused_step service_limits rows round p asked error doubt
plain_step service rows round p call _ = None

-- an event that makes a call
abbrev pub makes_call : What → Bool
makes_call (what.Piece piece given) = false
makes_call (what.Answer given) = false
makes_call (what.Lose piece) = false
makes_call _ = true

-- steps of the machine

-- the machine took the step of the definitions; or there is none, and the least rule that the event breaks is told; or
-- memory was wanting. In the last two cases it is as it was.
abbrev pub IsStep : State → Event → State → Result Unit StepError → Type 0
IsStep old event new (Ok _) = step service_limits old event ≡ Some new
IsStep old event new (Err (error.Illegal rule)) = (broken_rule service_limits old event ≡ Some rule) × (new ≡ old)
IsStep old event new (Err error.Memory) = new ≡ old

-- the bytes of an item, where it is there
abbrev pub bytes_of : State → ℕ → Option (List ℕ)
bytes_of state item = option_map (λ entry. entry.1) (find_number entry_number item state.memory)

-- a program for each user, of which the first ones are local
abbrev pub new_programs : List Who → ℕ → List ProgramState
new_programs whos local = map (λ entry. new_program entry.1 (nat_lt entry.0 local)) (enumerate_from 0 whos)
