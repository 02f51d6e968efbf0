use Rattle.std.proofs.Common.{append_assoc}
use Rattle.fam_script.proofs.printing.data_calls.push_scatter_index.Goals as goal

pub returns : goal.returns
returns c =
    rw (c.in_ok-push_scattered.ensures, c.in_ok-push_format.ensures, c.in_ok-push_verb.ensures) (simp append_assoc)
