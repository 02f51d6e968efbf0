use Rattle.std.proofs.Common.{ℕ, ap, sym, ◌∙◌, false}
use Rattle.fam_audit.specs.declared.verdict.Verdict.TheVariants as verdicts
use Rattle.fam_audit.specs.Verdict.{event_line}
use Rattle.fam_audit.proofs.Finishing.{taken_ended, taken_over, wrong_end}
use Rattle.fam_audit.proofs.judging.judge_end.Goals as goal

pub compare-requires : goal.compare-requires
compare-requires c =
    taken_over c.args.script.now c.args.report.now c.args.auditor c.requires.taken (sym c.has_stopped.ensures ∙ c.if-has_stopped.true)

pub returns-in_ok-event_line : goal.returns-in_ok-event_line
returns-in_ok-event_line c =
    let script = c.args.script.now in
    let report = c.args.report.now in
    let taken = c.requires.taken in
    ap (λ (line : ℕ). verdicts.Illegal line 14) (c.in_ok-event_line.ensures ∙ ap (event_line script report) c.len.ensures)
    ∙ sym (wrong_end script report taken.wrong (taken_ended script report c.args.auditor false taken (sym c.has_stopped.ensures ∙ c.if-has_stopped.false)))
