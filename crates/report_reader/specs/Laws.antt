-- Laws of reports.
use Rattle.std.specs.Prelude.{◌≡◌, ◌⊎◌, ℕ, List}
use Rattle.fam_model.specs.declared.report.Report.{Report}
use Rattle.report_reader.specs.Report.{IsReport, IsBadReportLine}

-- the bytes are a report
abbrev pub SomeReport : List ℕ → Type 0
SomeReport bytes = (report : Report) × IsReport bytes report

-- the bytes have a bad line
abbrev pub SomeBadLine : List ℕ → Type 0
SomeBadLine bytes = (n : ℕ) × IsBadReportLine bytes n

-- any bytes are a report or have a bad line, are one report at most, and have one bad line at most
pub record BytesAreOneReport : Type 0 where
  pub some : (bytes : List ℕ) → SomeReport bytes ⊎ SomeBadLine bytes
  pub one_report : (bytes : List ℕ) (a b : Report) → IsReport bytes a → IsReport bytes b → a ≡ b
  pub one_bad_line : (bytes : List ℕ) (m n : ℕ) → IsBadReportLine bytes m → IsBadReportLine bytes n → m ≡ n
