use Rattle.std.specs.Prelude.{codes}
use Rattle.fam_model.specs.CallText.{meta_words}
use Rattle.fam_model.specs.ReplyText.{reply_words}
use Rattle.fam_text.proofs.Told.{told_of}
use Rattle.fam_text.proofs.report.events.push_meta.Goals as goal

pub returns : goal.returns
returns c =
    rw (c.in_ok-push_answered.ensures, c.in_ok-push_meta_call.ensures, c.in_ok-push_text.ensures)
    (told_of c.args.text.now.items (codes "meta") (meta_words c.args.call.now) (reply_words c.args.reply.now))
