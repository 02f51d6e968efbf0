use Rattle.std.proofs.Common.{◌∷◌, ◌++◌}
use Rattle.std.specs.Prelude.{codes}
use Rattle.fam_model.specs.CallText.{call_words}
use Rattle.fam_model.specs.ReplyText.{error_words}
use Rattle.fam_model.specs.EventText.{doubt_words}
use Rattle.fam_text.proofs.Told.{told_of}
use Rattle.fam_text.proofs.report.events.push_refused.Goals as goal

pub returns : goal.returns
returns c =
    rw (c.in_ok-push_doubtful.ensures, c.in_ok-push_call.ensures, c.in_ok-push_text.ensures)
    (told_of c.args.text.now.items (codes "refused") (call_words c.args.call.now) (codes "error" ∷ (error_words c.args.error.now ++ doubt_words c.args.error.now c.args.doubt)))
