-- The bytes of all regions, and what calls do to them.
use Rattle.std.specs.Prelude.{ℕ, ◌+◌, ◌-◌, ◌*◌, ◌%◌, ◌≤◌, ◌≡◌, List, [], ◌++◌, length, take, replicate, unwrap_or, IsSome, refl}
use Rattle.std.specs.Coded.{Coded, code_by, coded×, coded_ℕ, coded_list}
use Rattle.std.specs.FinMap as map
use Rattle.std.specs.Ordering.{nat_cmp}
use Rattle.std.specs.FinMap.{FinMap, empty, get, insert, remove}
use Rattle.fam_model.specs.declared.piece.Place.{Place}
use Rattle.fam_model.specs.declared.service.Service.{Service}
use Rattle.fam_model.specs.Pieces.{stripe_count, place_at}

-- the bytes of each region that is there, by its number, and how they are laid out
pub record Striped : Type 0 where
  pub service : Service
  pub regions : FinMap nat_cmp (List ℕ)

-- it is stored as the numbers of its service and its regions
abbrev pub striped_code : Coded Striped
striped_code =
    code_by (ℕ × (ℕ × (ℕ × FinMap nat_cmp (List ℕ))))
    (coded× coded_ℕ (coded× coded_ℕ (coded× coded_ℕ (map.code coded_ℕ (coded_list coded_ℕ)))))
    (λ m. (m.service.servers, (m.service.stripes, (m.service.unit, m.regions))))
    (λ p. record {
      service = record { servers = p.0; stripes = p.1.0; unit = p.1.1.0 };
      regions = p.1.1.1;
    })
    (λ _. refl)

-- the bytes of a region; none where it is not there
abbrev pub bytes_of : Striped → ℕ → List ℕ
bytes_of memory region = unwrap_or (get memory.regions region) []

-- the region is there
abbrev pub IsThere : Striped → ℕ → Type 0
IsThere memory region = IsSome (get memory.regions region)

-- the same but for the bytes of one region, which is there now
abbrev pub with_bytes : Striped → ℕ → List ℕ → Striped
with_bytes memory region bytes = record memory { regions = insert memory.regions region bytes }

-- the same without one region
abbrev pub without : Striped → ℕ → Striped
without memory region = record memory { regions = remove memory.regions region }

-- so many zero bytes
abbrev pub zeros : ℕ → List ℕ
zeros n = replicate n 0

-- bytes cut down to a size, or zeros added up to it
abbrev pub resized : List ℕ → ℕ → List ℕ
resized bytes size = take size bytes ++ zeros (size - length bytes)

-- n bytes of a region from an address on are there, and lie in one unit
pub record LiesInUnit (memory : Striped) (region address n : ℕ) : Type 0 where
  pub there : IsThere memory region
  pub inside : address + n ≤ length (bytes_of memory region)
  pub in_unit : address % memory.service.unit + n ≤ memory.service.unit

-- the first unit of a region that lies on a stripe
unfoldable pub first_unit : Service → ℕ → ℕ → ℕ
first_unit service region stripe = (stripe + (stripe_count service - region % stripe_count service)) % stripe_count service

-- the address that lies at a place of a region
unfoldable pub address_at : Service → ℕ → Place → ℕ
address_at service region place =
    (place.row * stripe_count service + first_unit service region place.stripe) * service.unit + place.at

-- the place is that of an address, from which on n bytes of the region are there and lie in one unit
pub record LiesAt (memory : Striped) (region : ℕ) (place : Place) (n : ℕ) : Type 0 where
  pub is_place : place ≡ place_at memory.service region (address_at memory.service region place)
  pub lies : LiesInUnit memory region (address_at memory.service region place) n

-- memory with no regions
abbrev pub no_regions : Service → Striped
no_regions service = record { service = service; regions = empty }
