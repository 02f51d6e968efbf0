use Rattle.std.proofs.Common.{append_assoc}
use Rattle.fam_script.proofs.printing.calls.push_region_mode.Goals as goal

pub returns : goal.returns
returns c =
    rw (c.in_ok-push_mode.ensures, c.in_ok-push_format.ensures) (simp append_assoc)
