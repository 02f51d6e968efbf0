use Rattle.region_alloc.proofs.Bases.{place_is_base, least_is_least, nowhere_is_no_gap, cut_is_cut}
use Rattle.region_alloc.proofs.laws.places_are_bases.Goals as goal

pub returns : goal.returns
returns c = record { place = place_is_base; least = least_is_least; nowhere = nowhere_is_no_gap; cut = cut_is_cut }
