-- Where an audit stands between two events, and how it goes on.
use Rattle.std.specs.Prelude.{◌≡◌, ℕ, ◌&&◌, Bool, true, not, List, [], ◌∷◌, ◌++◌, length, slice_get, Option, Some, None}
use Rattle.std.specs.List.{flat_map, list_all}
use Rattle.std.specs.Option.{option_map_or}
use Rattle.fam_model.specs.declared.call.Call.{Call}
use Rattle.fam_model.specs.declared.event.Event.{Event}
use Rattle.fam_model.specs.declared.report.Report.{Report}
use Rattle.fam_model.specs.declared.rows.Rows.{Rows}
use Rattle.fam_model.specs.declared.script.Program.{Program as Text}
use Rattle.fam_model.specs.declared.script.Script.{Script}
use Rattle.fam_model.specs.declared.state.ProgramState.{ProgramState}
use Rattle.fam_model.specs.declared.state.State.{State}
use Rattle.fam_model.specs.EndStep.{has_pending}
use Rattle.fam_model.specs.Headline.{opening}
use Rattle.fam_model.specs.History.{state_after}
use Rattle.fam_model.specs.Limits.{service_limits}
use Rattle.fam_model.specs.Lists.{◌>>=◌}
use Rattle.fam_model.specs.Programs.{is_member, program_of}
use Rattle.fam_model.specs.ReportText.{reply_lines}
use Rattle.fam_model.specs.Step.{step}
use Rattle.fam_model.specs.Text.{is_call}
use Rattle.fam_model.specs.Turn.{call_made}
use Rattle.fam_schedule.specs.Schedule.{Run, replies_to, words_of}
use Rattle.fam_schedule.proofs.Runs.{TellsAll}
use Rattle.fam_audit.specs.declared.auditor.Auditor.{Auditor}
use Rattle.fam_audit.specs.declared.turn.Turn.{Turn}
use Rattle.fam_audit.specs.Turns.{IsTurn, StartsAs}
use Rattle.fam_audit.specs.Verdict.{first_wrong_event, has_ended, rule_broken}

-- where an audit stands

-- these events led to this state; an audit draws no words
abbrev pub run_at : List Event → State → Run
run_at before state = record { before = before; now = state; words = words_of 0 }

-- all programs are local
abbrev pub AreLocal : State → Type 0
AreLocal state = (pe : ℕ) (p : ProgramState) → program_of state pe ≡ Some p → p.is_local ≡ true

-- these events led to this state, and the calls that they tell follow the script
pub record Follows (script : Script) (before : List Event) (state : State) : Type 0 where
  pub programs : length state.programs ≡ length script.programs
  pub tells : TellsAll script (run_at before state)
  pub local : AreLocal state

-- the auditor has what a script leads to by these events
pub record Stands (script : Script) (before : List Event) (auditor : Auditor) : Type 0 where
  pub follows : Follows script before auditor.machine
  pub count : length auditor.turns ≡ length script.programs
  pub turns : (pe : ℕ) (turn : Turn) (text : Text) → slice_get auditor.turns pe ≡ Some turn → slice_get script.programs pe ≡ Some text →
      IsTurn text pe (replies_to before pe) turn

-- how it begins

-- the first n programs before their first calls
pub record StartSoFar (texts : List Text) (n : ℕ) (turns : List Turn) : Type 0 where
  pub count : length turns ≡ n
  pub each : (pe : ℕ) (turn : Turn) → slice_get turns pe ≡ Some turn → StartsAs texts pe turn

-- all of them
abbrev pub StartAs : List Text → List Turn → Type 0
StartAs texts turns = StartSoFar texts (length texts) turns

-- an auditor before the first event
pub record IsOpened (rows : Rows) (script : Script) (auditor : Auditor) : Type 0 where
  pub machine : auditor.machine ≡ opening rows script
  pub stands : Stands script [] auditor

-- how it goes on

-- the next call of a program, if it has one
abbrev pub asked_by : List Turn → ℕ → Option Call
asked_by turns pe = slice_get turns pe >>= λ turn. turn.asked

-- the call that an event makes, if it makes one, is the next one of its program
abbrev pub is_next : List Turn → Event → Bool
is_next turns event = option_map_or (λ asked. is_call (asked_by turns event.pe.0) asked) (call_made event.what) true

-- an event was judged: it breaks this rule, or it was taken
abbrev pub Judges : Auditor → Event → Auditor → Option ℕ → Type 0
Judges old event new (Some rule) =
    (script : Script) (before : List Event) → Stands script before old → rule_broken script before old.machine event ≡ Some rule
Judges old event new None =
    (script : Script) (before : List Event) → Stands script before old →
    (rule_broken script before old.machine event ≡ None) × (step service_limits old.machine event ≡ Some new.machine)
    × Stands script (before ++ event ∷ []) new

-- all events were taken
pub record Takes (script : Script) (before : List Event) (old : Auditor) (history : List Event) (new : Auditor) : Type 0 where
  pub leads : state_after service_limits old.machine history ≡ Some new.machine
  pub stands : Stands script (before ++ history) new

-- events were judged in turn: the place of the first one that breaks a rule, and that rule
pub record Finds (script : Script) (before : List Event) (old : Auditor) (history : List Event) (new : Auditor) (found : Option (ℕ × ℕ)) : Type 0 where
  pub wrong : first_wrong_event script before old.machine history ≡ found
  pub taken : found ≡ None → Takes script before old history new

-- from the first event on
abbrev pub JudgesAll : Auditor → List Event → Auditor → Option (ℕ × ℕ) → Type 0
JudgesAll old history new found = (script : Script) → Stands script [] old → Finds script [] old history new found

-- how it ends

-- the program is no member of the barrier, and has no piece left
abbrev pub is_stopped : ProgramState → Bool
is_stopped p = not (is_member p) && not (has_pending p)

-- all of them
abbrev pub has_stopped : State → Bool
has_stopped state = list_all is_stopped state.programs

-- all events were taken
pub record HasTaken (script : Script) (report : Report) (auditor : Auditor) : Type 0 where
  pub wrong : first_wrong_event script [] (opening report.rows script) report.history ≡ None
  pub leads : state_after service_limits (opening report.rows script) report.history ≡ Some auditor.machine
  pub stands : Stands script report.history auditor

-- they have ended, and these programs have the replies that they tell
pub record IsOver (script : Script) (report : Report) (turns : List Turn) : Type 0 where
  pub wrong : first_wrong_event script [] (opening report.rows script) report.history ≡ None
  pub ended : has_ended script report ≡ true
  pub due : flat_map (λ turn. turn.lines.items) turns ≡ reply_lines (length script.programs) report.history
