use Rattle.std.proofs.Common.{refl}
use Rattle.fam_model.proofs.laws.budget_examples.Goals as goal

pub returns : goal.returns
returns c = record { last_call = refl; too_many_calls = refl; last_bytes = refl; too_many_bytes = refl; last_pieces = refl; too_many_pieces = refl }
