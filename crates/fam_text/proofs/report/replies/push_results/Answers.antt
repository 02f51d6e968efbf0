use Rattle.std.proofs.Common.{arith}
use Rattle.std.proofs.lemmas.Grind.{common_steps}
use Rattle.fam_model.specs.ReplyText.{result_word}
use Rattle.fam_text.proofs.Lines.{spaced-map}
use Rattle.fam_text.proofs.report.replies.push_results.Goals as goal

pub returns : goal.returns
returns c =
    rw (spaced-map result_word c.args.results.now) (grind (arith, common_steps))
