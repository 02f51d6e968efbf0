use Rattle.std.proofs.Common.{append_assoc}
use Rattle.fam_text.proofs.report.replies.push_item_stat.Goals as goal

pub returns : goal.returns
returns c =
    rw (c.in_ok-push_mode.ensures, c.in_ok-push_format.ensures, c.in_ok-extend_from_slice.ensures.items, c.as_slice.ensures, c.in_ok-push_text.ensures) (simp append_assoc)
