-- How a simulation ends: its status, its output and its history.
use Rattle.std.specs.Global.{Global}
use Rattle.std.specs.Prelude.{Vec, Bool, true, false, Result, Ok, Err, Some, ◌↔◌, IfSome, ◌≡◌, ℕ, ◌++◌, ◌∷◌, ◌+◌, ◌^◌, ◌<◌, ◌≤◌, ◌⊎◌, List, [], length, codes}
use Rattle.std.specs.Fmt.{decimal}
use Rattle.std.specs.Io.KnownBytes.{Appends, IsAtEnd}
use Rattle.fam_base.specs.Causes.{Rose}
use Rattle.fam_io.specs.State.{SourceState, SinkState, Moves, MovesUpTo, MovesExactly, AddsPrefix}
use Rattle.fam_model.specs.declared.event.Event.{Event}
use Rattle.fam_model.specs.declared.rows.Rows.{Rows}
use Rattle.fam_model.specs.declared.script.Script.{Script}
use Rattle.fam_model.specs.ReportText.{report_of, report_text}
use Rattle.fam_model.specs.Limits.{service_limits}
use Rattle.fam_model.specs.Grammar.{IsScript}
use Rattle.fam_script.specs.BadLine.{IsBadLine}
use Rattle.fam_base.specs.declared.error.NoMemory.{NoMemory as NoMemoryError}
use Rattle.fam_disk.specs.Crash.{DiskState}
use Rattle.meta_journal.specs.Reading.{journal}
use Rattle.meta_journal.specs.declared.starting.OpenFault.{OpenFault}
use Rattle.meta_journal.specs.declared.starting.OpenFault.TheVariants as refusal
use Rattle.famrun.specs.OverDisk.{IsDamagedAt, Looks, RunsOver}
use Rattle.famrun.specs.declared.ending.Ending.{Ending}
use Rattle.famrun.specs.declared.ending.Ending.TheVariants.{Told, BadWords, BadLine, Illegal, ReadFault, WriteFault, NoMemory, TooLong, DiskFault, Damaged}

-- the status of each ending
abbrev pub status_of : Ending → ℕ
status_of Told = 0
status_of BadWords = 2
status_of (BadLine n) = 3
status_of ReadFault = 4
status_of WriteFault = 5
status_of DiskFault = 6
status_of (Damaged place) = 7
status_of (Illegal line rule) = 8
status_of NoMemory = 9
status_of TooLong = 10

-- words

-- the words of `sim` with this seed, which is below 2^64, in its decimal digits
pub record HasSeed (words : List (List ℕ)) (seed : ℕ) : Type 0 where
  pub low : seed < 2 ^ 64
  pub words_are : words ≡ codes "sim" ∷ decimal seed ∷ []

-- the words of `sim`
abbrev pub IsSim : List (List ℕ) → Type 0
IsSim words = (seed : ℕ) × HasSeed words seed

-- input

-- the most bytes that an input may have
abbrev pub input_limit : ℕ
input_limit = 16_777_216

-- the source was read to its end, and this is all that was left in it
pub record ReadsInput (from to : SourceState) (bytes : List ℕ) : Type 0 where
  pub read : Moves from to bytes
  pub end : IsAtEnd to.left
  pub within : length bytes ≤ input_limit

-- the source was read to its end, and all that was left in it is the text of this script
pub record ReadsScript (from to : SourceState) (script : Script) : Type 0 where
  pub bytes : List ℕ
  pub read : Moves from to bytes
  pub end : IsAtEnd to.left
  pub within : length bytes ≤ input_limit
  pub is_script : IsScript bytes script

-- the source was read to its end, and what was left in it is no script: line n is the first bad one
pub record ReadsBadLine (from to : SourceState) (n : ℕ) : Type 0 where
  pub bytes : List ℕ
  pub read : Moves from to bytes
  pub end : IsAtEnd to.left
  pub within : length bytes ≤ input_limit
  pub is_bad : IsBadLine bytes n

-- output

-- A line was written; it is whole unless the sink failed.
pub record Tells (before after : SinkState) (line : List ℕ) : Type 0 where
  pub front : AddsPrefix before after line
  pub whole : Rose before.faults after.faults ⊎ Appends before.written after.written line

-- the report of a history from these rows
abbrev pub report : Script → Rows → List Event → List ℕ
report script rows history = report_text (report_of (length script.programs) rows history)

-- how a simulation ends

-- the run so far; or nothing was played, and the journal was opened at most
abbrev pub IsSoFar : {D : Type 0} → (D → DiskState) → ℕ → SourceState → SourceState → List Event → D → D → Type 0
IsSoFar state seed from to history old new =
    ((history ≡ []) × ((new ≡ old) ⊎ Looks (state old) (state new)))
    ⊎ ((script : Script) × (rows : Rows) × ReadsScript from to script × RunsOver state seed script rows history false old new)

-- the whole run of a script
pub record RunsScript {D : Type 0} (state : D → DiskState) (seed : ℕ) (from to : SourceState) (script : Script) (rows : Rows) (history : List Event) (old new : D) : Type 0 where
  pub reads : ReadsScript from to script
  pub runs : RunsOver state seed script rows history true old new

-- a script was read, and its journal was not opened: nothing was played
pub record IsUnopened {D : Type 0} (state : D → DiskState) (from to : SourceState) (history : List Event) (old new : D) : Type 0 where
  pub script : Script
  pub reads : ReadsScript from to script
  pub nothing : history ≡ []
  pub looks : Looks (state old) (state new)

-- a simulation of what the source has left ends like this, with this history, over this disk
abbrev pub SimEnds : {D : Type 0} → (D → DiskState) → ℕ → SourceState → SourceState → SinkState → SinkState → D → D → List Event → Ending → Type 0
SimEnds state seed from to before after old new history Told =
    (script : Script) × (rows : Rows) × RunsScript state seed from to script rows history old new
    × Appends before.written after.written (report script rows history)
SimEnds state seed from to before after old new history WriteFault =
    (script : Script) × (rows : Rows) × RunsScript state seed from to script rows history old new
    × AddsPrefix before after (report script rows history) × Rose before.faults after.faults
SimEnds state seed from to before after old new history (BadLine n) =
    ReadsBadLine from to n × (history ≡ []) × (new ≡ old) × Tells before after (codes "bad line " ++ (decimal n ++ codes "\n"))
SimEnds state seed from to before after old new history ReadFault =
    Rose from.faults to.faults × (history ≡ []) × (new ≡ old) × Tells before after (codes "read fault\n")
SimEnds state seed from to before after old new history TooLong =
    MovesExactly from to (input_limit + 1) × (history ≡ []) × (new ≡ old) × Tells before after (codes "too long\n")
SimEnds state seed from to before after old new history DiskFault =
    IsUnopened state from to history old new × Rose (state old).faults (state new).faults × Tells before after (codes "disk fault\n")
SimEnds state seed from to before after old new history (Damaged place) =
    IsUnopened state from to history old new × IsDamagedAt (state old) place
    × Tells before after (codes "damaged " ++ (decimal place ++ codes "\n"))
SimEnds state seed from to before after old new history NoMemory =
    IsSoFar state seed from to history old new × Tells before after (codes "no memory\n")
SimEnds state seed from to before after old new history BadWords = ⊥
SimEnds state seed from to before after old new history (Illegal line rule) = ⊥

-- the outcome

-- no call of the source and of the sink failed
abbrev pub IsCalm : SourceState → SourceState → SinkState → SinkState → Type 0
IsCalm from to before after = (¬ Rose from.faults to.faults) × (¬ Rose before.faults after.faults)

-- a script was run, or memory was wanting, or the disk failed at opening, or the journal is damaged
abbrev pub IsRunOrNot : DiskState → DiskState → ℕ → Type 0
IsRunOrNot old new status =
    (status ≡ 0) ⊎ (status ≡ 9) ⊎ ((status ≡ 6) × Rose old.faults new.faults) ⊎ ((status ≡ 7) × ((place : ℕ) × IsDamagedAt old place))

-- the journal was told to be damaged, or memory was wanting, or the disk failed at opening
abbrev pub IsDamagedOrNot : DiskState → DiskState → ℕ → Type 0
IsDamagedOrNot old new status = (status ≡ 7) ⊎ (status ≡ 9) ⊎ ((status ≡ 6) × Rose old.faults new.faults)

-- What `sim` leaves: its status, its history and its disk.
pub record SimOutcome {D : Type 0} (state : D → DiskState) (words : List (List ℕ)) (from to : SourceState) (before after : SinkState) (old new : D) (status : ℕ) (history : List Event) : Type 0 where
  -- status 2 comes exactly where the words are not those of `sim`; nothing is read then, and the disk is left alone
  pub bad_words : (status ≡ 2) ↔ (¬ IsSim words)
  pub refused : ¬ IsSim words → (to ≡ from) × (history ≡ []) × (new ≡ old) × Tells before after (codes "bad words\n")
  -- else it ends in one of these ways, with the status of that way
  pub ends : (sim : IsSim words) → (ending : Ending) × (status ≡ status_of ending) × SimEnds state sim.0 from to before after old new history ending
  -- at most one byte more than an input may have is read
  pub most : MovesUpTo from to (input_limit + 1)
  -- a script is run and reported, unless a call of the outside fails, the journal is damaged, or memory is wanting
  pub complete : IsSim words → IsCalm from to before after →
      IfSome from.left (λ bytes. length bytes ≤ input_limit → (script : Script) → IsScript bytes script → IsRunOrNot (state old) (state new) status)
  -- a journal that is damaged is told to be
  pub damaged : IsSim words → IsCalm from to before after →
      IfSome from.left (λ bytes. length bytes ≤ input_limit → (script : Script) → IsScript bytes script →
      (read : List ℕ) (place : ℕ) → (state old).content ≡ Some read → journal service_limits.journal read ≡ Err place →
      IsDamagedOrNot (state old) (state new) status)
  -- what is no script is told to be none
  pub no_script : IsSim words → IsCalm from to before after →
      IfSome from.left (λ bytes. length bytes ≤ input_limit → ((script : Script) → ¬ IsScript bytes script) → (status ≡ 3) ⊎ (status ≡ 9))
  -- and an input with too many bytes to have them
  pub too_long : IsSim words → IsCalm from to before after →
      IfSome from.left (λ bytes. input_limit < length bytes → (status ≡ 10) ⊎ (status ≡ 9))

-- a text is told, and nothing else happens; the status is 0 unless the sink failed
pub record TellsText (from to : SourceState) (before after : SinkState) (status : ℕ) (history : List Event) (text : List ℕ) : Type 0 where
  pub unread : to ≡ from
  pub nothing : history ≡ []
  pub told : AddsPrefix before after text
  pub whole : status ≡ 0 → Appends before.written after.written text
  pub status_is : (status ≡ 0) ⊎ ((status ≡ 5) × Rose before.faults after.faults)

-- parts of a simulation, for the contracts of private functions

-- why bytes gave no script
abbrev pub NotScript : List ℕ → Ending → Type 0
NotScript bytes (BadLine n) = IsBadLine bytes n
NotScript bytes NoMemory = Unit {0}
NotScript bytes _ = ⊥

-- why an input was not read
abbrev pub NotRead : SourceState → SourceState → Ending → Type 0
NotRead from to ReadFault = Rose from.faults to.faults
NotRead from to TooLong = MovesExactly from to (input_limit + 1)
NotRead from to NoMemory = Unit {0}
NotRead from to _ = ⊥

-- why no script was read
abbrev pub Unread : SourceState → SourceState → Ending → Type 0
Unread from to (BadLine n) = ReadsBadLine from to n
Unread from to ReadFault = Rose from.faults to.faults
Unread from to TooLong = MovesExactly from to (input_limit + 1)
Unread from to NoMemory = Unit {0}
Unread from to _ = ⊥

-- what is told of this, and how that ends: where there is no memory for the line, that is told
abbrev pub IsTold : Ending → SinkState → SinkState → Ending → Type 0
IsTold (BadLine n) before after (BadLine m) = (m ≡ n) × Tells before after (codes "bad line " ++ (decimal n ++ codes "\n"))
IsTold ReadFault before after ReadFault = Tells before after (codes "read fault\n")
IsTold TooLong before after TooLong = Tells before after (codes "too long\n")
IsTold asked before after NoMemory = Tells before after (codes "no memory\n")
IsTold asked before after _ = ⊥

-- a text was written, or why not
abbrev pub Writes : Result (Vec ℕ Global) NoMemoryError → SinkState → SinkState → Ending → Type 0
Writes (Ok text) before after Told = Appends before.written after.written text.items
Writes (Ok text) before after WriteFault = AddsPrefix before after text.items × Rose before.faults after.faults
Writes (Err e) before after NoMemory = Tells before after (codes "no memory\n")
Writes _ before after _ = ⊥

-- a run was reported, or why not
abbrev pub ReportsRun : Script → Rows → List Event → Bool → SinkState → SinkState → Ending → Type 0
ReportsRun script rows history whole before after Told =
    (whole ≡ true) × Appends before.written after.written (report script rows history)
ReportsRun script rows history whole before after WriteFault =
    (whole ≡ true) × AddsPrefix before after (report script rows history) × Rose before.faults after.faults
ReportsRun script rows history whole before after NoMemory = Tells before after (codes "no memory\n")
ReportsRun script rows history whole before after _ = ⊥

-- what is told where a journal was not opened, and how that ends
abbrev pub TellsFault : OpenFault → SinkState → SinkState → Ending → Type 0
TellsFault refusal.Memory before after NoMemory = Tells before after (codes "no memory\n")
TellsFault refusal.DiskFault before after DiskFault = Tells before after (codes "disk fault\n")
TellsFault (refusal.Damaged place) before after (Damaged told) =
    (told ≡ place) × Tells before after (codes "damaged " ++ (decimal place ++ codes "\n"))
TellsFault (refusal.Damaged place) before after NoMemory = Tells before after (codes "no memory\n")
TellsFault fault before after _ = ⊥

-- why a journal was not opened
abbrev pub NotOpened : DiskState → DiskState → SinkState → SinkState → Ending → Type 0
NotOpened old new before after DiskFault = Rose old.faults new.faults × Tells before after (codes "disk fault\n")
NotOpened old new before after (Damaged place) =
    IsDamagedAt old place × Tells before after (codes "damaged " ++ (decimal place ++ codes "\n"))
NotOpened old new before after NoMemory = Tells before after (codes "no memory\n")
NotOpened old new before after _ = ⊥

-- a script was played over a disk and reported, or why not
abbrev pub PlaysScript : {D : Type 0} → (D → DiskState) → ℕ → Script → List Event → SinkState → SinkState → D → D → Ending → Type 0
PlaysScript state seed script history before after old new Told =
    (rows : Rows) × RunsOver state seed script rows history true old new × Appends before.written after.written (report script rows history)
PlaysScript state seed script history before after old new WriteFault =
    (rows : Rows) × RunsOver state seed script rows history true old new
    × AddsPrefix before after (report script rows history) × Rose before.faults after.faults
PlaysScript state seed script history before after old new NoMemory =
    (((history ≡ []) × Looks (state old) (state new)) ⊎ ((rows : Rows) × RunsOver state seed script rows history false old new))
    × Tells before after (codes "no memory\n")
PlaysScript state seed script history before after old new DiskFault =
    (history ≡ []) × Looks (state old) (state new) × NotOpened (state old) (state new) before after DiskFault
PlaysScript state seed script history before after old new (Damaged place) =
    (history ≡ []) × Looks (state old) (state new) × NotOpened (state old) (state new) before after (Damaged place)
PlaysScript state seed script history before after old new _ = ⊥
