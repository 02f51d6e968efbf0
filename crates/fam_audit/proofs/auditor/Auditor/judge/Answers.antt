use Rattle.std.proofs.Common.{sym, ◌∙◌}
use Rattle.fam_audit.specs.declared.auditor.Auditor.{Auditor}
use Rattle.fam_audit.proofs.Deciding.{judges_illegal, judges_other, judges_taken}
use Rattle.fam_audit.proofs.auditor.Auditor.judge.Goals as goal

pub returns-then-not-branch : goal.returns-then-not-branch
returns-then-not-branch c = judges_other c.args.self.now c.args.self.now c.args.event.now (sym c.in_ok-is_next.ensures ∙ c.if-not-branch.true)

pub returns-in_ok-hear-in-Ok : goal.returns-in_ok-hear-in-Ok
returns-in_ok-hear-in-Ok c =
    let new : Auditor = record { machine = c.step.new.self; turns = c.hear.new.turns } in
    judges_taken c.args.self.now new c.args.event.now (sym c.in_ok-is_next.ensures ∙ c.if-not-branch.false) c.in-Ok.ensures c.in_ok-hear-in-Ok.ensures

pub returns-in-Err-Illegal : goal.returns-in-Err-Illegal
returns-in-Err-Illegal c =
    let told = rw c.in-Err-Illegal.field-0-is at c.in-Err-Illegal.ensures in
    judges_illegal c.args.self.now c.args.self.now c.args.event.now c.in-Err-Illegal.rule (sym c.in_ok-is_next.ensures ∙ c.if-not-branch.false) told.0
