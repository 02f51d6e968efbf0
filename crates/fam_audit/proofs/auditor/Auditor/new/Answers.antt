use Rattle.std.proofs.Common.{ap, sym, ◌∙◌}
use Rattle.fam_model.specs.declared.rows.Rows.{Rows}
use Rattle.fam_model.specs.Opened.{opened}
use Rattle.fam_audit.proofs.Openings.{lawful_users, lawful_groups, opens}
use Rattle.fam_audit.proofs.auditor.Auditor.new.Goals as goal

pub opened-requires-clause-users : goal.opened-requires-clause-users
opened-requires-clause-users c = lawful_users c.args.script.now c.deref.result.now c.requires.script (c.deref.ensures.value ∙ c.in_ok-whos.ensures)

pub opened-requires-clause-groups : goal.opened-requires-clause-groups
opened-requires-clause-groups c = lawful_groups c.args.script.now c.deref.result.now c.requires.script (c.deref.ensures.value ∙ c.in_ok-whos.ensures)

pub returns : goal.returns
returns c =
    opens c.args.rows.now c.args.script.now _ c.deref.result.now c.len.result (c.deref.ensures.value ∙ c.in_ok-whos.ensures) (c.len.ensures ∙ sym c.deref.ensures.len)
    (c.in_ok-machine.ensures ∙ ap (λ (rows : Rows). opened rows c.args.script.now.service c.deref.result.now c.len.result) c.in_ok-rows.ensures) c.in_ok-turns.ensures
