use Rattle.std.proofs.Common.{arith}
use Rattle.std.proofs.lemmas.Grind.{common_steps}
use Rattle.fam_model.specs.EventText.{event_text}
use Rattle.fam_text.proofs.Lines.{text_of-map}
use Rattle.fam_text.proofs.report.events.push_events.Goals as goal

pub returns : goal.returns
returns c =
    rw (text_of-map event_text c.args.events.now) (grind (arith, common_steps))
