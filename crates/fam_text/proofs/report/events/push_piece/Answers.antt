use Rattle.std.proofs.Common.{◌∷◌, []}
use Rattle.std.specs.Prelude.{codes}
use Rattle.std.specs.Fmt.{decimal}
use Rattle.fam_model.specs.ReplyText.{answer_words}
use Rattle.fam_text.proofs.Told.{told}
use Rattle.fam_text.proofs.report.events.push_piece.Goals as goal

pub returns : goal.returns
returns c =
    rw (c.in_ok-push_piece_answer.ensures, c.in_ok-push_format.ensures)
    (told c.args.text.now.items (codes "piece" ∷ decimal c.args.piece ∷ []) (answer_words c.args.answer.now))
