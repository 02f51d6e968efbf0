use Rattle.fam_layout.proofs.Atomics as atomics
use Rattle.fam_layout.proofs.laws.pieces_lie_in_rows.Goals as goal

pub returns : goal.returns
returns c = atomics.pieces_lie_in_rows
