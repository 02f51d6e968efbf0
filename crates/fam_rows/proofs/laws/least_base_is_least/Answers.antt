use Rattle.fam_rows.proofs.Least.{least_fits, none_lower, none_fits, first_lies, first_there}
use Rattle.fam_rows.proofs.laws.least_base_is_least.Goals as goal

pub returns : goal.returns
returns c = record { fits_there = least_fits; none_below = none_lower; none_at_all = none_fits; lies = first_lies; there = first_there }
