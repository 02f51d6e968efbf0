use Rattle.std.proofs.Common.{◌∷◌, [], map}
use Rattle.std.specs.Prelude.{codes}
use Rattle.fam_model.specs.ReportText.{event_lines, opening_lines, reply_line_text}
use Rattle.fam_text.proofs.Lines.{reported}
use Rattle.fam_text.proofs.report.push_report.Goals as goal

pub returns : goal.returns
returns c =
    rw (c.in_ok-push_text-2.ensures, c.in_ok-push_history.ensures, c.as_slice-2.ensures, c.in_ok-push_opening.ensures, c.in_ok-push_reply_lines.ensures, c.as_slice.ensures, c.in_ok-push_text.ensures)
    (reported c.args.text.now.items (codes "replies")
    (map reply_line_text c.args.report.now.replies)
    (opening_lines c.args.report.now.rows)
    (event_lines c.args.report.now.history)
    (codes "done" ∷ []))
