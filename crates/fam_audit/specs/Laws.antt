-- What a verdict means.
use Rattle.std.specs.Prelude.{◌≡◌, ℕ, List, length, IsTrue}
use Rattle.fam_model.specs.declared.report.Report.{Report}
use Rattle.fam_model.specs.declared.script.Script.{Script}
use Rattle.fam_model.specs.Headline.{opening, follows_script, HasEnded}
use Rattle.fam_model.specs.Grammar.{IsScript}
use Rattle.fam_model.specs.History.{is_legal}
use Rattle.fam_model.specs.Limits.{service_limits}
use Rattle.fam_model.specs.ReportText.{reply_lines}
use Rattle.fam_audit.specs.declared.verdict.Verdict.TheVariants as verdicts
use Rattle.fam_audit.specs.Verdict.{verdict}

-- A report of a run of its script: its history is legal from its opening on, each program's calls follow its text, all of it
-- has ended, and the reply lines are those of the history.
pub record IsReportOf (script : Script) (report : Report) : Type 0 where
  pub legal : IsTrue (is_legal service_limits (opening report.rows script) report.history)
  pub follows : IsTrue (follows_script script report.history)
  pub ended : HasEnded report.rows script report.history
  pub replies : report.replies ≡ reply_lines (length script.programs) report.history

-- what is called legal is the report of a run, and has so many events
abbrev pub LegalReportsAreOfRuns : Type 0
LegalReportsAreOfRuns =
    (script : Script) (report : Report) (events : ℕ) → verdict script report ≡ verdicts.Legal events →
    IsReportOf script report × (events ≡ length report.history)

-- the report of a run is called legal
abbrev pub ReportsOfRunsAreLegal : Type 0
ReportsOfRunsAreLegal =
    (script : Script) (report : Report) → IsReportOf script report → verdict script report ≡ verdicts.Legal (length report.history)

-- bytes are the text of one script at most, so there is one verdict on them
abbrev pub BytesAreOneScript : Type 0
BytesAreOneScript = (bytes : List ℕ) (a b : Script) → IsScript bytes a → IsScript bytes b → a ≡ b
