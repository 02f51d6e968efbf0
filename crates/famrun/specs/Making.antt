-- The commands `make` and `trial`: their words, and how they end.
use Rattle.std.specs.Prelude.{◌≡◌, ◌↔◌, ℕ, ◌^◌, ◌<◌, ◌≤◌, ◌||◌, nat_lt, nat_le, not, ◌&&◌, ◌⊎◌, List, [], ◌∷◌, codes, length, Option, Some, None, true}
use Rattle.std.specs.Fmt.{decimal}
use Rattle.std.specs.Io.KnownBytes.{Appends}
use Rattle.fam_base.specs.Causes.{Rose}
use Rattle.fam_io.specs.State.{SinkState, AddsPrefix}
use Rattle.fam_model.specs.declared.event.Event.{Event}
use Rattle.fam_model.specs.declared.state.State.{State}
use Rattle.fam_model.specs.Headline.{opening}
use Rattle.fam_model.specs.History.{state_after}
use Rattle.fam_model.specs.Limits.{service_limits}
use Rattle.fam_model.specs.Lists.{◌>>=◌, when}
use Rattle.fam_model.specs.Rows.{common_rows}
use Rattle.fam_trial.specs.Generator.{made, made_script}
use Rattle.fam_trial.specs.Trial.{trial_line}
use Rattle.famrun.specs.declared.ending.Ending.{Ending}
use Rattle.famrun.specs.declared.ending.Ending.TheVariants.{Told, WriteFault, NoMemory}
use Rattle.famrun.specs.declared.wanted.Wanted.{Wanted}
use Rattle.famrun.specs.Ending.{Tells, status_of}
use Rattle.famrun.specs.OverDisk.{IsPlayed}

-- words

-- the most programs and calls of a script that is made
abbrev pub most_programs : ℕ
most_programs = 64

abbrev pub most_calls : ℕ
most_calls = 4000

-- the words of a command that asks for this script: its name, and three numbers in their decimal digits
pub record HasMade (name : List ℕ) (words : List (List ℕ)) (wanted : Wanted) : Type 0 where
  pub seed : wanted.seed < 2 ^ 64
  pub some : 1 ≤ wanted.programs
  pub programs : wanted.programs ≤ most_programs
  pub calls : wanted.calls ≤ most_calls
  pub words_are : words ≡ name ∷ decimal wanted.seed ∷ decimal wanted.programs ∷ decimal wanted.calls ∷ []

-- the words of such a command
abbrev pub IsMade : List ℕ → List (List ℕ) → Type 0
IsMade name words = (wanted : Wanted) × HasMade name words wanted

-- how it ends

-- `make` ends like this: the script is written, or why not
abbrev pub MakeEnds : Wanted → SinkState → SinkState → Ending → Type 0
MakeEnds wanted before after Told = Appends before.written after.written (made wanted.seed wanted.programs wanted.calls)
MakeEnds wanted before after WriteFault =
    AddsPrefix before after (made wanted.seed wanted.programs wanted.calls) × Rose before.faults after.faults
MakeEnds wanted before after NoMemory = Tells before after (codes "no memory\n")
MakeEnds wanted before after _ = ⊥

-- the line of the run that the schedule gives for the seed, of the script that the seed gives
pub record IsTrial (wanted : Wanted) (line : List ℕ) : Type 0 where
  pub history : List Event
  pub state : State
  pub played : IsPlayed wanted.seed common_rows (made_script wanted.seed wanted.programs wanted.calls) history true 0 0
  pub reached : state_after service_limits (opening common_rows (made_script wanted.seed wanted.programs wanted.calls)) history ≡ Some state
  pub is : line ≡ trial_line wanted.seed wanted.programs wanted.calls history state

-- `trial` ends like this: the line is written, or why not
abbrev pub TrialEnds : Wanted → SinkState → SinkState → Ending → Type 0
TrialEnds wanted before after Told = (line : List ℕ) × IsTrial wanted line × Appends before.written after.written line
TrialEnds wanted before after WriteFault =
    (line : List ℕ) × IsTrial wanted line × AddsPrefix before after line × Rose before.faults after.faults
TrialEnds wanted before after NoMemory = Tells before after (codes "no memory\n")
TrialEnds wanted before after _ = ⊥

-- What such a command leaves, where it ends like this.
pub record MadeOutcome (name : List ℕ) (Ends : Wanted → SinkState → SinkState → Ending → Type 0) (words : List (List ℕ)) (before after : SinkState) (status : ℕ) : Type 0 where
  -- status 2 comes exactly where the words are not those of the command
  pub bad_words : (status ≡ 2) ↔ (¬ IsMade name words)
  pub refused : ¬ IsMade name words → Tells before after (codes "bad words\n")
  -- else it ends in one of these ways, with the status of that way
  pub ends : (wanted : Wanted) → HasMade name words wanted → (ending : Ending) × (status ≡ status_of ending) × Ends wanted before after ending
  -- it is written whole, unless the sink fails or memory is wanting
  pub complete : IsMade name words → ¬ Rose before.faults after.faults → (status ≡ 0) ⊎ (status ≡ 9)

-- for the contracts of private functions

-- no more programs and calls than a script that is made may have
abbrev pub IsInRange : Wanted → Type 0
IsInRange wanted = (wanted.programs ≤ most_programs) × (wanted.calls ≤ most_calls)

-- what is asked for by these numbers, where they are in range
abbrev pub wanted_in : Option ℕ → Option ℕ → Option ℕ → Option Wanted
wanted_in seed programs calls = do
  s ← seed
  p ← programs
  c ← calls
  when (not (nat_lt p 1 || nat_lt most_programs p || nat_lt most_calls c)) (record { seed = s; programs = p; calls = c })
