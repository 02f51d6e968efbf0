-- One step of a scan.
use Rattle.std.proofs.Common.{◌≡◌, ℕ, suc, ◌+◌, ◌-◌, List, [], ◌∷◌, length, take, drop, Option, Some, None, Result, Ok, Err, sym, ap, ◌∙◌, arith}
use Rattle.std.specs.Prelude.{IfOk}
use Rattle.std.specs.List.{flat_map}
use Rattle.std.proofs.lemmas.List.{append-nil}
use Rattle.fam_model.specs.declared.report.Report.{Report}
use Rattle.fam_script.specs.BadLine.{whole_lines}
use Rattle.fam_script.specs.Parsing.{rest_of}
use Rattle.fam_script.specs.Reading.{parts}
use Rattle.fam_script.proofs.Cuts.{first_part}
use Rattle.report_reader.specs.declared.reader.ReportFault.{ReportFault}
use Rattle.report_reader.specs.declared.stage.Stage.{Stage}
use Rattle.report_reader.specs.Machine.{step, ended_with, and_then, scan, read_of}
use Rattle.report_reader.specs.Report.{IsReport}
use Rattle.report_reader.proofs.Exact.{read_report}

abbrev Texts : Type 0
Texts = List (List ℕ)

abbrev fronts : Texts → Texts
fronts ws = take (length ws - 1) ws

abbrev lasts : Texts → List ℕ
lasts ws = flat_map (λ part. part) (drop (length ws - 1) ws)

one_more : (text w : List ℕ) (ws : Texts) → length (text ∷ w ∷ ws) - 1 ≡ suc (length (w ∷ ws) - 1)
one_more text w ws = omega arith

module _ (bytes text rest : List ℕ) (cut : parts 10 bytes ≡ text ∷ parts 10 rest) where
  cut_whole : whole_lines bytes ≡ text ∷ whole_lines rest
  cut_whole =
      let more = first_part 10 rest in
      let w = more.0 in
      let ws = more.1 in
      ap fronts cut ∙ ap (λ (vs : Texts). fronts (text ∷ vs)) more.2
      ∙ ap (λ (n : ℕ). take n (text ∷ w ∷ ws)) (one_more text w ws)
      ∙ ap (λ (vs : Texts). text ∷ fronts vs) (sym more.2)

  cut_rest : rest_of bytes ≡ rest_of rest
  cut_rest =
      let more = first_part 10 rest in
      let w = more.0 in
      let ws = more.1 in
      ap lasts cut ∙ ap (λ (vs : Texts). lasts (text ∷ vs)) more.2
      ∙ ap (λ (n : ℕ). flat_map (λ part. part) (drop n (text ∷ w ∷ ws))) (one_more text w ws)
      ∙ ap lasts (sym more.2)

  module _ (n : ℕ) (stage : Stage) where
    cut_scan : (o : Option Stage) → step stage text ≡ o →
        scan n stage (whole_lines bytes) (rest_of bytes) ≡ and_then n o (λ next. scan (n + 1) next (whole_lines rest) (rest_of rest))
    cut_scan o e =
        (λ i. scan n stage (cut_whole i) (cut_rest i))
        ∙ ap (λ (o : Option Stage). and_then n o (λ next. scan (n + 1) next (whole_lines rest) (rest_of rest))) e

    pub scan_step : (next : Stage) → step stage text ≡ Some next → scan n stage (whole_lines bytes) (rest_of bytes) ≡ scan (n + 1) next (whole_lines rest) (rest_of rest)
    scan_step next e = cut_scan (Some next) e

    pub scan_bad : step stage text ≡ None → scan n stage (whole_lines bytes) (rest_of bytes) ≡ Err (n + 1)
    scan_bad e = cut_scan None e

-- no line feed any more
pub scan_end : (n : ℕ) (stage : Stage) (bytes : List ℕ) → parts 10 bytes ≡ bytes ∷ [] → scan n stage (whole_lines bytes) (rest_of bytes) ≡ ended_with n stage bytes
scan_end n stage bytes last =
    let whole : whole_lines bytes ≡ [] = ap fronts last in
    let rest : rest_of bytes ≡ bytes = ap lasts last ∙ append-nil bytes in
    λ i. scan n stage (whole i) (rest i)

-- what is read is a report
pub read_whole : (bytes : List ℕ) (result : Result Report ReportFault) → IfOk result (λ r. read_of bytes ≡ Ok r) → IfOk result (λ r. IsReport bytes r)
read_whole bytes (Ok report) e = read_report bytes report e
read_whole bytes (Err fault) e = e
