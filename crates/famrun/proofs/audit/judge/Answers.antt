use Rattle.std.proofs.Common.{ap, ◌∙◌, arith, refl, inr, ◌+◌}
use Rattle.std.specs.Prelude.{Err}
use Rattle.famrun.proofs.Inputs.{bad_line_within}
use Rattle.famrun.proofs.audit.judge.Goals as goal

pub overflow_add-result : goal.overflow_add-result
overflow_add-result c =
    let within = bad_line_within c.args.bytes.now c.in-Err-BadLine.n (c.read.ensures.bad_line c.in-Err-BadLine.n (c.in-Err-BadLine.is ∙ ap Err c.in-Err-BadLine.field-0-is)) in
    let short = c.requires.short in
    omega (arith, within, short)

pub returns-in-Err-BadLine : goal.returns-in-Err-BadLine
returns-in-Err-BadLine c =
    let same = c.in-Err-BadLine.n-is in
    inr (c.in-Err-BadLine.n, c.read.ensures.bad_line c.in-Err-BadLine.n (c.in-Err-BadLine.is ∙ ap Err c.in-Err-BadLine.field-0-is), cc)
