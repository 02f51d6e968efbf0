-- Services whose numbers are lawful, and cuts that two items share.
use Rattle.std.specs.Prelude.{◌≡◌, ℕ, Bool, ◌||◌, List, IsTrue}
use Rattle.fam_model.specs.declared.piece.Part.{Part}
use Rattle.fam_model.specs.declared.service.Service.{Service}
use Rattle.fam_model.specs.Pieces.{cut_where, is_border, place_at}
use Rattle.fam_model.specs.Services.{is_service}

-- there is a service of these numbers
abbrev pub is_lawful : Service → Bool
is_lawful service = is_service service.servers service.stripes service.unit

-- a unit of either of two items begins here
abbrev pub is_border_of_either : ℕ → ℕ → ℕ → ℕ → Bool
is_border_of_either unit from to place = is_border unit from place || is_border unit to place

-- n bytes, cut where a unit of either item begins; the items' bytes begin at these addresses
abbrev pub shared_cuts : ℕ → ℕ → ℕ → ℕ → List Part
shared_cuts from to n unit = cut_where (is_border_of_either unit from to) 0 n

-- no two addresses of a region share a place
abbrev pub PlacesDiffer : Type 0
PlacesDiffer =
    (service : Service) (region a b : ℕ) → IsTrue (is_lawful service) →
    place_at service region a ≡ place_at service region b → a ≡ b
