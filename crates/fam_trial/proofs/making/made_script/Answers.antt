use Rattle.fam_trial.proofs.Lawful.{made_lawful}
use Rattle.fam_trial.proofs.making.made_script.Goals as goal

pub returns-clause-lawful : goal.returns-clause-lawful
returns-clause-lawful c =
    λ few small. rw (c.in_ok-made_programs.ensures, c.from.ensures, c.from-2.ensures) (made_lawful c.args.seed c.args.programs c.args.calls few small)
