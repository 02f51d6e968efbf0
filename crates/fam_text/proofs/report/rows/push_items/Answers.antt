use Rattle.std.proofs.Common.{arith}
use Rattle.std.specs.Prelude.{◌==◌}
use Rattle.std.proofs.lemmas.Grind.{common_steps}
use Rattle.fam_model.specs.Rows.{item_number}
use Rattle.fam_model.specs.ReportText.{item_text}
use Rattle.fam_text.proofs.Lines.{text_of-filter}
use Rattle.fam_text.proofs.report.rows.push_items.Goals as goal

pub returns : goal.returns
returns c =
    rw (text_of-filter item_text (λ row. item_number row == 0) c.args.rows.now) (grind (arith, common_steps))
