-- The command `audit`: its input, and how it ends.
use Rattle.std.specs.Prelude.{◌≡◌, ◌↔◌, IfSome, ℕ, ◌+◌, ◌-◌, ◌<◌, ◌≤◌, ◌||◌, ◌⊎◌, Bool, true, false, List, [], ◌∷◌, ◌++◌, drop, length, slice_range, take, codes}
use Rattle.std.specs.Fmt.{decimal}
use Rattle.std.specs.Io.KnownBytes.{Appends}
use Rattle.std.specs.Str.{bytes_eq}
use Rattle.fam_base.specs.Causes.{Rose}
use Rattle.fam_io.specs.State.{SourceState, SinkState, MovesUpTo, MovesExactly, AddsPrefix}
use Rattle.fam_model.specs.declared.report.Report.{Report}
use Rattle.fam_model.specs.declared.script.Script.{Script}
use Rattle.fam_model.specs.Grammar.{IsScript}
use Rattle.fam_script.specs.BadLine.{IsBadLine}
use Rattle.fam_audit.specs.declared.verdict.Verdict.{Verdict}
use Rattle.fam_audit.specs.declared.verdict.Verdict.TheVariants as verdicts
use Rattle.fam_audit.specs.Verdict.{verdict}
use Rattle.report_reader.specs.Report.{IsReport, IsBadReportLine}
use Rattle.famrun.specs.declared.ending.Ending.{Ending}
use Rattle.famrun.specs.declared.ending.Ending.TheVariants.{Told, BadWords, BadLine, Illegal, ReadFault, WriteFault, DiskFault, Damaged, NoMemory, TooLong}
use Rattle.famrun.specs.Ending.{IsCalm, ReadsInput, Tells, input_limit, status_of}

-- the input

-- a line `stop` ends at this place
abbrev pub is_behind_stop : List ℕ → ℕ → Bool
is_behind_stop bytes n = bytes_eq (take n bytes) (codes "stop\n") || bytes_eq (slice_range bytes (n - 6) n) (codes "\nstop\n")

-- The script of an input ends at this place: behind its first line `stop`, or at the end where there is none. The report is
-- what comes behind it.
pub record IsScriptEnd (bytes : List ℕ) (n : ℕ) : Type 0 where
  pub within : n ≤ length bytes
  pub ends : (is_behind_stop bytes n ≡ true) ⊎ (n ≡ length bytes)
  pub first : (k : ℕ) → k < n → is_behind_stop bytes k ≡ false

-- the verdict

-- What is said of a report behind a script: the verdict on it; or, where the bytes are no report, the first line with which
-- none begins, and rule 15.
abbrev pub IsJudged : Script → List ℕ → Verdict → Type 0
IsJudged script bytes given =
    ((report : Report) × IsReport bytes report × (given ≡ verdict script report))
    ⊎ ((n : ℕ) × IsBadReportLine bytes n × (given ≡ verdicts.Illegal (script.lines + n) 15))

-- this is said of an input
pub record IsInputJudged (bytes : List ℕ) (given : Verdict) : Type 0 where
  pub end : ℕ
  pub is_end : IsScriptEnd bytes end
  pub script : Script
  pub is_script : IsScript (take end bytes) script
  pub judged : IsJudged script (drop end bytes) given

-- what stands for the script of an input is none: line n is the first bad one
pub record HasBadLine (bytes : List ℕ) (n : ℕ) : Type 0 where
  pub end : ℕ
  pub is_end : IsScriptEnd bytes end
  pub is_bad : IsBadLine (take end bytes) n

-- an input was read to its end, and this is said of it
abbrev pub IsAudited : SourceState → SourceState → Verdict → Type 0
IsAudited from to given = (bytes : List ℕ) × ReadsInput from to bytes × IsInputJudged bytes given

-- an input was read to its end, and line n is the first bad one of its script
abbrev pub ReadsBadScript : SourceState → SourceState → ℕ → Type 0
ReadsBadScript from to n = (bytes : List ℕ) × ReadsInput from to bytes × HasBadLine bytes n

-- how it ends

-- what is told of a legal report of so many events
abbrev pub legal_line : ℕ → List ℕ
legal_line events = codes "legal " ++ (decimal events ++ codes "\n")

-- what is told of a line that breaks a rule
abbrev pub illegal_line : ℕ → ℕ → List ℕ
illegal_line line rule = codes "illegal " ++ (decimal line ++ (codes " " ++ (decimal rule ++ codes "\n")))

-- an audit of what the source has left ends like this
abbrev pub AuditEnds : SourceState → SourceState → SinkState → SinkState → Ending → Type 0
AuditEnds from to before after Told =
    (events : ℕ) × IsAudited from to (verdicts.Legal events) × Appends before.written after.written (legal_line events)
AuditEnds from to before after WriteFault =
    (events : ℕ) × IsAudited from to (verdicts.Legal events) × AddsPrefix before after (legal_line events) × Rose before.faults after.faults
AuditEnds from to before after (Illegal line rule) =
    IsAudited from to (verdicts.Illegal line rule) × Tells before after (illegal_line line rule)
AuditEnds from to before after (BadLine n) =
    ReadsBadScript from to n × Tells before after (codes "bad line " ++ (decimal n ++ codes "\n"))
AuditEnds from to before after ReadFault = Rose from.faults to.faults × Tells before after (codes "read fault\n")
AuditEnds from to before after TooLong = MovesExactly from to (input_limit + 1) × Tells before after (codes "too long\n")
AuditEnds from to before after NoMemory = Tells before after (codes "no memory\n")
AuditEnds from to before after BadWords = ⊥
AuditEnds from to before after DiskFault = ⊥
AuditEnds from to before after (Damaged place) = ⊥

-- the words of `audit`
abbrev pub IsAudit : List (List ℕ) → Type 0
IsAudit words = words ≡ codes "audit" ∷ []

-- What `audit` leaves.
pub record AuditOutcome (words : List (List ℕ)) (from to : SourceState) (before after : SinkState) (status : ℕ) : Type 0 where
  -- status 2 comes exactly where the words are not those of `audit`; nothing is read then
  pub bad_words : (status ≡ 2) ↔ (¬ IsAudit words)
  pub refused : ¬ IsAudit words → (to ≡ from) × Tells before after (codes "bad words\n")
  -- else it ends in one of these ways, with the status of that way
  pub ends : IsAudit words → (ending : Ending) × (status ≡ status_of ending) × AuditEnds from to before after ending
  -- at most one byte more than an input may have is read
  pub most : MovesUpTo from to (input_limit + 1)
  -- of what is not too long something is said, unless a call of the outside fails or memory is wanting
  pub complete : IsAudit words → IsCalm from to before after →
      IfSome from.left (λ bytes. length bytes ≤ input_limit → (status ≡ 0) ⊎ (status ≡ 3) ⊎ (status ≡ 8) ⊎ (status ≡ 9))
  -- and an input with too many bytes is told to have them
  pub too_long : IsAudit words → IsCalm from to before after →
      IfSome from.left (λ bytes. input_limit < length bytes → (status ≡ 10) ⊎ (status ≡ 9))

-- for the contracts of private functions

abbrev pub legal : ℕ → Verdict
legal events = verdicts.Legal events

abbrev pub illegal : ℕ → ℕ → Verdict
illegal line rule = verdicts.Illegal line rule

-- why an input was not judged
abbrev pub NotJudged : List ℕ → Ending → Type 0
NotJudged bytes (BadLine n) = HasBadLine bytes n
NotJudged bytes NoMemory = Unit {0}
NotJudged bytes _ = ⊥

-- why nothing was judged
abbrev pub Unjudged : SourceState → SourceState → Ending → Type 0
Unjudged from to (BadLine n) = ReadsBadScript from to n
Unjudged from to ReadFault = Rose from.faults to.faults
Unjudged from to TooLong = MovesExactly from to (input_limit + 1)
Unjudged from to NoMemory = Unit {0}
Unjudged from to _ = ⊥

-- a verdict was told, or why not
abbrev pub TellsVerdict : Verdict → SinkState → SinkState → Ending → Type 0
TellsVerdict (verdicts.Legal events) before after Told = Appends before.written after.written (legal_line events)
TellsVerdict (verdicts.Legal events) before after WriteFault = AddsPrefix before after (legal_line events) × Rose before.faults after.faults
TellsVerdict (verdicts.Illegal line rule) before after (Illegal told broken) =
    (told ≡ line) × (broken ≡ rule) × Tells before after (illegal_line line rule)
TellsVerdict given before after NoMemory = Tells before after (codes "no memory\n")
TellsVerdict given before after _ = ⊥
