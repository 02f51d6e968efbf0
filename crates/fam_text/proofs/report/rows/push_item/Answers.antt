use Rattle.std.proofs.Common.{append_assoc}
use Rattle.fam_text.proofs.report.rows.push_item.Goals as goal

pub returns : goal.returns
returns c =
    rw (c.in_ok-extend_from_slice.ensures.items, c.as_slice.ensures, c.in_ok-push_text.ensures, c.in_ok-push_mode.ensures, c.in_ok-push_format-2.ensures, c.in_ok-push_format.ensures)
    (simp append_assoc)
