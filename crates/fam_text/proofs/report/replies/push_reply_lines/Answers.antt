use Rattle.std.proofs.Common.{arith}
use Rattle.std.proofs.lemmas.Grind.{common_steps}
use Rattle.fam_model.specs.ReportText.{reply_line_text}
use Rattle.fam_text.proofs.Lines.{text_of-map}
use Rattle.fam_text.proofs.report.replies.push_reply_lines.Goals as goal

pub returns : goal.returns
returns c =
    rw (text_of-map reply_line_text c.args.lines.now) (grind (arith, common_steps))
