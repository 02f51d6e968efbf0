use Rattle.fam_model.specs.ReplyText.{error_words}
use Rattle.fam_model.specs.EventText.{doubt_words}
use Rattle.fam_text.proofs.Told.{doubted}
use Rattle.fam_text.proofs.report.events.push_doubtful.Goals as goal

pub returns : goal.returns
returns c =
    rw (c.in_ok-push_doubt.ensures, c.in_ok-push_error.ensures, c.in_ok-push_text.ensures)
    (doubted c.args.text.now.items (error_words c.args.error.now) (doubt_words c.args.error.now c.args.doubt))
