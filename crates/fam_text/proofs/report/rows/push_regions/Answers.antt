use Rattle.std.proofs.Common.{arith}
use Rattle.std.specs.Prelude.{◌==◌}
use Rattle.std.proofs.lemmas.Grind.{common_steps}
use Rattle.fam_model.specs.Rows.{region_number}
use Rattle.fam_model.specs.ReportText.{region_text}
use Rattle.fam_text.proofs.Lines.{text_of-filter}
use Rattle.fam_text.proofs.report.rows.push_regions.Goals as goal

pub returns : goal.returns
returns c =
    rw (text_of-filter region_text (λ row. region_number row == 0) c.args.rows.now) (grind (arith, common_steps))
