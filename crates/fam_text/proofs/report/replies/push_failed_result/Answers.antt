use Rattle.std.proofs.Common.{append_assoc}
use Rattle.fam_text.proofs.report.replies.push_failed_result.Goals as goal

pub returns-in_ok-push_format-in-HistoryFull : goal.returns-in_ok-push_format-in-HistoryFull
returns-in_ok-push_format-in-HistoryFull c =
    rw (c.in_ok-push_format-in-HistoryFull.ensures, c.in-HistoryFull.is) (simp append_assoc)

pub returns-in_ok-push_format-in-JournalFull : goal.returns-in_ok-push_format-in-JournalFull
returns-in_ok-push_format-in-JournalFull c =
    rw (c.in_ok-push_format-in-JournalFull.ensures, c.in-JournalFull.is) (simp append_assoc)
