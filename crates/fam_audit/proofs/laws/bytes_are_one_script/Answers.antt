use Rattle.fam_audit.proofs.Scripts.{one_script}
use Rattle.fam_audit.proofs.laws.bytes_are_one_script.Goals as goal

pub returns : goal.returns
returns c = one_script
