-- Laws of striped memory.
use Rattle.std.specs.Prelude.{◌≡◌, ℕ, ◌+◌, ◌<◌, ◌≤◌, ◌↔◌, List, length, slice_range, IsTrue, ◌⊎◌}
use Rattle.fam_model.specs.declared.service.Service.{Service}
use Rattle.fam_model.specs.PieceStep.{overwritten}
use Rattle.fam_model.specs.Pieces.{stripe_count, place_at}
use Rattle.fam_layout.specs.Layouts.{is_lawful}
use Rattle.striped_memory.specs.Striped.{address_at}
use Rattle.striped_memory.specs.Stripes.{row_count}

-- a region has a row on a stripe exactly where the first byte of that row is one of its bytes
abbrev pub RowsAreExact : Type 0
RowsAreExact =
    (service : Service) (region size stripe row : ℕ) → IsTrue (is_lawful service) → stripe < stripe_count service →
    (row < row_count service region size stripe)
    ↔ (address_at service region (record { stripe = stripe; row = row; at = 0 }) < size)

-- the address of the place of an address is that address
abbrev pub AddressesComeBack : Type 0
AddressesComeBack =
    (service : Service) (region address : ℕ) → IsTrue (is_lawful service) →
    address_at service region (place_at service region address) ≡ address

-- what was written is read
abbrev pub WritesAreRead : Type 0
WritesAreRead =
    (bytes from : List ℕ) (address : ℕ) → address + length from ≤ length bytes →
    slice_range (overwritten address from bytes) address (address + length from) ≡ from

-- a write leaves a range that it does not touch
abbrev pub WritesStayInside : Type 0
WritesStayInside =
    (bytes from : List ℕ) (address start n : ℕ) → address + length from ≤ length bytes →
    (start + n ≤ address) ⊎ (address + length from ≤ start) →
    slice_range (overwritten address from bytes) start (start + n) ≡ slice_range bytes start (start + n)

-- the bytes of an item after a write into it are its bytes with the new ones over them
abbrev pub WritesOfItems : Type 0
WritesOfItems =
    (bytes from : List ℕ) (base size offset : ℕ) → base + size ≤ length bytes → offset + length from ≤ size →
    slice_range (overwritten (base + offset) from bytes) base (base + size)
    ≡ overwritten offset from (slice_range bytes base (base + size))

-- bytes of an item are bytes of its region
abbrev pub ReadsOfItems : Type 0
ReadsOfItems =
    (bytes : List ℕ) (base size offset n : ℕ) → offset + n ≤ size →
    slice_range (slice_range bytes base (base + size)) offset (offset + n)
    ≡ slice_range bytes (base + offset) (base + offset + n)
