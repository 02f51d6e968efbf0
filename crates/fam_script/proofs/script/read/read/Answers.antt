use Rattle.std.proofs.Common.{ℕ, ◌≡◌, ◌+◌, Err, Result, ap, ◌∙◌, arith}
use Rattle.fam_model.specs.declared.script.Script.{Script}
use Rattle.fam_script.specs.Views.{view_reading}
use Rattle.fam_script.proofs.Scans.{scan_step, scan_bad, none_made, some_made}
use Rattle.fam_script.proofs.script.read.read.Goals as goal

pub returns-in-None-clause-bad_line : goal.returns-in-None-clause-bad_line
returns-in-None-clause-bad_line c = λ n e.
    let n-is : c.loop-text.lines + 1 ≡ n = cc in
    let bad : ℕ → Result Script ℕ = λ m. Err m in
    let text = c.in-Some.text.now in
    let before = view_reading c.loop-text.reading in
    c.loop-text.invariant.same
    ∙ scan_bad c.loop-text.rest.now text c.in-Some.others.now c.in-Some.ensures.parts c.loop-text.lines before
    (none_made before text c.in_ok-next.field-0 c.in_ok-next.ensures c.in-None.is)
    ∙ ap bad n-is

pub loop-text-preserved : goal.loop-text-preserved
loop-text-preserved c =
    let text = c.in-Some.text.now in
    let before = view_reading c.loop-text.reading in
    record {
      same =
          c.loop-text.invariant.same
          ∙ scan_step c.loop-text.rest.now text c.in-Some.others.now c.in-Some.ensures.parts c.loop-text.lines before (view_reading c.in-Some-2.next)
          (some_made before text c.in_ok-next.field-0 c.in-Some-2.next c.in_ok-next.ensures c.in-Some-2.is);
      few = omega (arith, c.in-Some.ensures.shorter);
    }
