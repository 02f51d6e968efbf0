use Rattle.fam_script.proofs.Numbers.{number_is, number_only}
use Rattle.fam_script.proofs.number.number_in.Goals as goal

pub returns-clause-some : goal.returns-clause-some
returns-clause-some c = rw c.number.ensures (number_is c.args.word.now)

pub returns-clause-none : goal.returns-clause-none
returns-clause-none c = rw c.number.ensures (number_only c.args.word.now)
