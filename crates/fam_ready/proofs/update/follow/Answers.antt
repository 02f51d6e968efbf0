use Rattle.fam_ready.proofs.Found.{keeps_by}
use Rattle.fam_ready.proofs.update.follow.Goals as goal

pub returns : goal.returns
returns c = keeps_by c.args.event.now c.args.program.now.state c.args.lists.now c.ask_again.new.lists c.ask_again.result c.ask_again.ensures
