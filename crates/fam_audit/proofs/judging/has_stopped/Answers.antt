use Rattle.std.proofs.Common.{◌<◌, length, sym, ◌∙◌, arith}
use Rattle.fam_audit.specs.Auditing.{is_stopped}
use Rattle.fam_audit.proofs.Comparing.{fails_here, passes_more}
use Rattle.fam_audit.proofs.judging.has_stopped.Goals as goal

pub returns-then-not-is_stopped : goal.returns-then-not-is_stopped
returns-then-not-is_stopped c = sym (fails_here is_stopped c.args.machine.now.programs c.loop-pe.pe (sym c.is_stopped.ensures ∙ c.if-not-is_stopped.true))

pub loop-pe-preserved : goal.loop-pe-preserved
loop-pe-preserved c =
    let programs = c.args.machine.now.programs in
    let low : c.loop-pe.pe < length programs = omega (arith, c.programs-pe-end.ensures, c.loop-pe-test.true) in
    passes_more is_stopped programs c.loop-pe.pe low c.loop-pe.invariant (sym c.is_stopped.ensures ∙ c.if-not-is_stopped.false)
