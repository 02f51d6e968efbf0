use Rattle.std.proofs.Common.{◌∷◌, []}
use Rattle.std.specs.Prelude.{codes}
use Rattle.fam_model.specs.ReplyText.{reply_words}
use Rattle.fam_model.specs.Words.{context_text}
use Rattle.fam_text.proofs.Told.{told}
use Rattle.fam_text.proofs.report.events.push_close.Goals as goal

pub returns : goal.returns
returns c =
    rw (c.in_ok-push_answered.ensures, c.in_ok-push_format.ensures)
    (told c.args.text.now.items (codes "close" ∷ context_text c.args.context ∷ []) (reply_words c.args.reply.now))
