use Rattle.std.proofs.Common.{refl}
use Rattle.fam_model.proofs.laws.program_examples.Goals as goal

pub returns : goal.returns
returns c = record { spin_begins = refl; spin_goes_on = refl; spin_ends = refl; spin_ends_with_an_error = refl; spin_gives_up = refl; leaves = refl; has_left = refl; repeats = refl; crashes = refl; has_crashed = refl; follows_its_text = refl; follows_no_other = refl }
