use Rattle.fam_layout.proofs.Placing.{places_differ}
use Rattle.fam_layout.proofs.laws.places_differ.Goals as goal

pub returns : goal.returns
returns c = places_differ
