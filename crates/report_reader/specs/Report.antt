-- Which bytes are a report, and the line at which bytes stop being the beginning of one.
use Rattle.std.specs.Prelude.{◌≡◌, ℕ, Bool, ◌&&◌, List, ◌++◌, length, IsTrue}
use Rattle.std.specs.List.{list_all}
use Rattle.fam_model.specs.declared.report.ReplyLine.{ReplyLine}
use Rattle.fam_model.specs.declared.report.Report.{Report}
use Rattle.fam_model.specs.declared.rows.Rows.{Rows}
use Rattle.fam_model.specs.ReportText.{report_lines, report_text}
use Rattle.fam_model.specs.Rows.{IsLawful}
use Rattle.fam_model.specs.Values.{is_u32, is_u64, reply_fits}
use Rattle.fam_script.specs.BadLine.{IsFirstBadLine}
use Rattle.report_reader.specs.EventForm.{event_fits}

-- a reply line that has a text of its own
abbrev pub reply_line_fits : ReplyLine → Bool
reply_line_fits told = is_u32 told.pe.0 && is_u64 told.call && reply_fits told.reply

-- the group of a lawful row may be any number of its field
abbrev pub groups_fit : Rows → Bool
groups_fit rows = list_all (λ row. is_u32 row.gid) rows.regions && list_all (λ row. is_u32 row.gid) rows.items

-- a report whose opening is a lawful directory and whose lines have texts of their own
pub record IsLawfulReport (report : Report) : Type 0 where
  pub rows : IsLawful report.rows
  pub groups : IsTrue (groups_fit report.rows)
  pub replies : IsTrue (list_all reply_line_fits report.replies)
  pub history : IsTrue (list_all event_fits report.history)
  pub event_count : IsTrue (is_u64 (length report.history))

-- the bytes are the text of that report
pub record IsReport (bytes : List ℕ) (report : Report) : Type 0 where
  pub lawful : IsLawfulReport report
  pub text : bytes ≡ report_text report

-- a report begins with these lines
pub record BeginsReport (texts : List (List ℕ)) : Type 0 where
  pub report : Report
  pub lawful : IsLawfulReport report
  pub rest : List (List ℕ)
  pub begins : report_lines report ≡ texts ++ rest

-- the bytes are no report, and this is the least number of lines with which no report begins
pub record IsBadReportLine (bytes : List ℕ) (n : ℕ) : Type 0 where
  pub no_report : (report : Report) → ¬ IsReport bytes report
  pub first : IsFirstBadLine BeginsReport bytes n
