use Rattle.std.proofs.Common.{ℕ, ◌≡◌, ◌+◌, Err, Result, sym, ap, ◌∙◌, arith}
use Rattle.fam_model.specs.declared.report.Report.{Report}
use Rattle.report_reader.proofs.Scanning.{scan_step, scan_bad}
use Rattle.report_reader.proofs.reader.read_lines.Goals as goal

pub returns-in-None-clause-bad_line : goal.returns-in-None-clause-bad_line
returns-in-None-clause-bad_line c = λ n e.
    let n-is : c.loop-text.lines + 1 ≡ n = cc in
    let bad : ℕ → Result Report ℕ = λ m. Err m in
    c.loop-text.invariant.same
    ∙ scan_bad c.loop-text.rest.now c.in-Some.text.now c.in-Some.others.now c.in-Some.ensures.parts c.loop-text.lines c.loop-text.stage
    (sym c.in_ok-next.ensures ∙ c.in-None.is)
    ∙ ap bad n-is

pub loop-text-preserved : goal.loop-text-preserved
loop-text-preserved c =
    record {
      same =
          c.loop-text.invariant.same
          ∙ scan_step c.loop-text.rest.now c.in-Some.text.now c.in-Some.others.now c.in-Some.ensures.parts c.loop-text.lines c.loop-text.stage c.in-Some-2.next
          (sym c.in_ok-next.ensures ∙ c.in-Some-2.is);
      few = omega (arith, c.in-Some.ensures.shorter);
    }
