use Rattle.std.proofs.Common.{refl}
use Rattle.fam_model.proofs.laws.atomic_examples.Goals as goal

pub returns : goal.returns
returns c = record { wraps = refl; wraps_below = refl; signed_least = refl; unsigned_least = refl; other_value = refl; that_value = refl; single_bits = refl; bytes = refl }
