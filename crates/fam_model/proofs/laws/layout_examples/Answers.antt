use Rattle.std.proofs.Common.{refl}
use Rattle.fam_model.proofs.laws.layout_examples.Goals as goal

pub returns : goal.returns
returns c = record { four_parts = refl; by_base = refl; no_bytes = refl; places = refl; rooms = refl }
