use Rattle.std.proofs.Common.{rules, ◌≡◌, Some}
use Rattle.fam_rows.proofs.Served.{told_lawful}
use Rattle.fam_model.specs.MetaStep.{told_change}
use Rattle.fam_machine.proofs.meta.answer.Goals as goal

-- a change that a reply tells is lawful
pub change-requires-clause-lawful_change : goal.change-requires-clause-lawful_change
change-requires-clause-lawful_change c =
    let told : told_change c.args.rows.now c.args.who c.args.request.now c.args.given.now ≡ Some c.in-Serves.chosen = search rules in
    told_lawful c.args.rows.now c.args.who c.args.request.now c.args.given.now c.in-Serves.chosen c.requires.lawful c.requires.user c.requires.mode told
