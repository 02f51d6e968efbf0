-- Laws of the schedule.
use Rattle.std.specs.Prelude.{◌≡◌, ℕ, ◌+◌, ◌-◌, ◌^◌, ◌<◌, ◌≤◌, Bool, true, List, [], ◌∷◌, length, None}
use Rattle.fam_model.specs.declared.event.Event.{Event}
use Rattle.fam_model.specs.declared.rows.Rows.{Rows}
use Rattle.fam_model.specs.declared.script.Script.{Script}
use Rattle.fam_model.specs.Earned.{disk_faults}
use Rattle.fam_model.specs.Grammar.{IsLawfulScript}
use Rattle.fam_model.specs.Headline.{IsRun, HasEnded}
use Rattle.fam_model.specs.Pieces.{stripe_count}
use Rattle.fam_schedule.specs.Schedule.{Run, IsScheduled, LeadsTo, LeadsAsDue, next_step, program_event, ready_on}

-- A history that the schedule gives is one legal run of its script, over a disk that failed at least as often as it
-- refused a change.
pub record ScheduledHistoriesAreRuns : Type 0 where
  pub run : (rows : Rows) (script : Script) (seed : ℕ) (history : List Event) (whole : Bool) (faults_before faults_after : ℕ) →
      IsScheduled rows script seed history whole →
      (faults_after < 2 ^ 64 - 1 → disk_faults (history ∷ []) + faults_before ≤ faults_after) →
      IsRun rows script history faults_before faults_after

-- where the disk refused nothing, each event is the one that is due
pub record UnrefusedEventsAreDue : Type 0 where
  pub due : (script : Script) (run : Run) (history : List Event) (end : Run) →
      LeadsTo script run history end → disk_faults (history ∷ []) ≡ 0 → LeadsAsDue script run history end

-- nobody may act: no program has an event that may come, and no stripe has a piece that may come
pub record IsStill (script : Script) (run : Run) : Type 0 where
  pub programs : (pe : ℕ) → pe < length run.now.programs → program_event script run pe ≡ None
  pub stripes : (stripe : ℕ) → stripe < stripe_count run.now.service → ready_on run.now stripe ≡ []

-- the schedule stops only where nobody may act
pub record StopsWhereNobodyMayAct : Type 0 where
  pub still : (script : Script) (run : Run) → next_step script run ≡ None → IsStill script run

-- where the schedule of a lawful script stops, every program has left or crashed, and no piece is left
pub record WholeRunsHaveEnded : Type 0 where
  pub ended : (rows : Rows) (script : Script) (seed : ℕ) (history : List Event) →
      IsLawfulScript script → IsScheduled rows script seed history true → HasEnded rows script history
