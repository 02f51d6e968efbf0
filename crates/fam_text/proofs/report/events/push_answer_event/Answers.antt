use Rattle.std.proofs.Common.{◌∷◌, []}
use Rattle.std.specs.Prelude.{codes}
use Rattle.fam_model.specs.ReplyText.{reply_words}
use Rattle.fam_text.proofs.Told.{told}
use Rattle.fam_text.proofs.report.events.push_answer_event.Goals as goal

pub returns : goal.returns
returns c =
    rw (c.in_ok-push_answered.ensures, c.in_ok-push_text.ensures)
    (told c.args.text.now.items (codes "answer" ∷ []) (reply_words c.args.reply.now))
