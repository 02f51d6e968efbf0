use Rattle.fam_model.proofs.Histories.{no_rule-step, no_rules-legal}
use Rattle.fam_model.proofs.laws.rules_are_steps.Goals as goal

pub returns : goal.returns
returns c = record { event = no_rule-step; history = no_rules-legal }
