-- One legal history: what a run of a script has to be.
use Rattle.std.specs.Prelude.{ℕ, Bool, List, [], ◌∷◌, map, length, IsTrue}
use Rattle.std.specs.List.{list_all, enumerate_from}
use Rattle.fam_model.specs.declared.event.Event.{Event}
use Rattle.fam_model.specs.declared.rows.Rows.{Rows}
use Rattle.fam_model.specs.declared.script.Script.{Script}
use Rattle.fam_model.specs.declared.state.State.{State}
use Rattle.fam_model.specs.Earned.{IsEarned}
use Rattle.fam_model.specs.History.{state_after, is_legal, is_over, calls}
use Rattle.fam_model.specs.Limits.{service_limits}
use Rattle.fam_model.specs.Lists.{is_some_and}
use Rattle.fam_model.specs.Opened.{opened}
use Rattle.fam_model.specs.Text.{follows}

-- the machine before the first event of a script, over these rows; all its programs are local
abbrev pub opening : Rows → Script → State
opening rows script =
    opened rows script.service (map (λ program. program.who) script.programs) (length script.programs)

-- each program's calls are those of its text, in order
abbrev pub follows_script : Script → List Event → Bool
follows_script script history =
    list_all (λ entry. follows entry.1 (calls history entry.0)) (enumerate_from 0 script.programs)

-- A run of a script from these rows, by one thread, over a disk whose count of faults rose from one number to another: a
-- legal history in which each program's calls follow its text, and each refusal for want of room or by the disk is earned.
-- Without a disk both numbers are 0.
pub record IsRun (rows : Rows) (script : Script) (history : List Event) (faults_before faults_after : ℕ) : Type 0 where
  pub legal : IsTrue (is_legal service_limits (opening rows script) history)
  pub follows : IsTrue (follows_script script history)
  pub earned : IsEarned service_limits (opening rows script) (history ∷ []) faults_before faults_after

-- every program has left or crashed, and no piece is left
abbrev pub HasEnded : Rows → Script → List Event → Type 0
HasEnded rows script history = IsTrue (is_some_and (state_after service_limits (opening rows script) history) is_over)
