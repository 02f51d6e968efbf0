use Rattle.std.proofs.Common.{sym, ◌∙◌}
use Rattle.fam_steps.proofs.Pieces.{piece_found}
use Rattle.fam_steps.proofs.due.piece_event.Goals as goal

pub returns-in-Some : goal.returns-in-Some
returns-in-Some c = piece_found c.args.machine.now c.args.pe c.args.call c.args.piece c.in-Some.answer (sym c.in_ok-answer.ensures ∙ c.in-Some.is)
