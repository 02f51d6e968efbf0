use Rattle.fam_steps.proofs.Enabled.{found_answer, if_ok}
use Rattle.fam_steps.proofs.due.answer_event.Goals as goal

pub returns : goal.returns
returns c = if_ok c.next_event.result (λ event e. found_answer c.args.machine.now c.args.pe event e) c.next_event.ensures
