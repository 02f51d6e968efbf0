-- What a caller knows after a call, of regions and of the items in them.
use Rattle.std.proofs.Common.{◌≡◌, ◌≢◌, ℕ, ◌+◌, ◌-◌, ◌≤◌, List, [], length, take, drop, slice_range, refl, sym, ap, subst, ◌∙◌, inl, inr, arith}
use Rattle.std.specs.Prelude.{◌⊎◌, min, Some, None, unwrap_or, IsTrue}
use Rattle.std.specs.FinMap.{get}
use Rattle.std.proofs.lemmas.List.{length-replicate, take-take, drop-take, drop-append-le, take-append-le, length-drop, length-take}
use Rattle.fam_model.specs.declared.piece.Place.{Place}
use Rattle.fam_model.specs.Pieces.{place_at}
use Rattle.fam_model.specs.PieceStep.{overwritten}
use Rattle.fam_layout.specs.Layouts.{is_lawful}
use Rattle.stripe_store.proofs.Laws.{length-overwritten}
use Rattle.striped_memory.specs.Striped.{Striped, bytes_of, with_bytes, without, zeros, resized, LiesInUnit, LiesAt, address_at}
use Rattle.striped_memory.proofs.Places.{address_is}
use Rattle.striped_memory.proofs.Ranges.{range_is, reads_of_items, writes_of_items, writes_are_read, writes_stay_inside}
use Rattle.striped_memory.proofs.Sizes.{length_resized}
use Rattle.striped_memory.proofs.Views.{inserted_here, inserted_beside, removed_here as taken_here, removed_beside as taken_beside}

-- the region that a call changed
pub bytes_here : (memory : Striped) (region : ℕ) (bytes : List ℕ) → bytes_of (with_bytes memory region bytes) region ≡ bytes
bytes_here memory region bytes = ap (λ o. unwrap_or o []) (inserted_here memory.regions region bytes)

pub there_here : (memory : Striped) (region : ℕ) (bytes : List ℕ) → get (with_bytes memory region bytes).regions region ≡ Some bytes
there_here memory region bytes = inserted_here memory.regions region bytes

-- and each other
pub there_beside : (memory : Striped) (region q : ℕ) (bytes : List ℕ) → q ≢ region →
    get (with_bytes memory region bytes).regions q ≡ get memory.regions q
there_beside memory region q bytes apart = inserted_beside memory.regions region q bytes apart

pub bytes_beside : (memory : Striped) (region q : ℕ) (bytes : List ℕ) → q ≢ region →
    bytes_of (with_bytes memory region bytes) q ≡ bytes_of memory q
bytes_beside memory region q bytes apart = ap (λ o. unwrap_or o []) (there_beside memory region q bytes apart)

-- the region that a call removed
pub removed_here : (memory : Striped) (region : ℕ) → get (without memory region).regions region ≡ None
removed_here memory region = taken_here memory.regions region

-- and each other
pub removed_beside : (memory : Striped) (region q : ℕ) → q ≢ region → get (without memory region).regions q ≡ get memory.regions q
removed_beside memory region q apart = taken_beside memory.regions region q apart

-- an item that lies at a base is a range of its region

-- a read
pub item_read : (bytes : List ℕ) (base size offset n : ℕ) → offset + n ≤ size →
    slice_range bytes (base + offset) (base + offset + n) ≡ slice_range (slice_range bytes base (base + size)) offset (offset + n)
item_read bytes base size offset n inside = sym (reads_of_items bytes base size offset n inside)

-- a write into it
pub item_written : (bytes from : List ℕ) (base size offset : ℕ) → base + size ≤ length bytes → offset + length from ≤ size →
    slice_range (overwritten (base + offset) from bytes) base (base + size)
    ≡ overwritten offset from (slice_range bytes base (base + size))
item_written bytes from base size offset inside fits = writes_of_items bytes from base size offset inside fits

-- a write into another one
pub item_beside : (bytes from : List ℕ) (base size offset other n : ℕ) → base + size ≤ length bytes → offset + length from ≤ size →
    (other + n ≤ base) ⊎ (base + size ≤ other) →
    slice_range (overwritten (base + offset) from bytes) other (other + n) ≡ slice_range bytes other (other + n)
item_beside bytes from base size offset other n inside fits apart =
    writes_stay_inside bytes from (base + offset) other n (omega arith)
    (elim apart [ inl before ↦ inl (omega arith) | inr behind ↦ inr (omega arith) ])

-- zeros over all of it
pub item_zeroed : (bytes : List ℕ) (base size : ℕ) → base + size ≤ length bytes →
    slice_range (overwritten base (zeros size) bytes) base (base + size) ≡ zeros size
item_zeroed bytes base size inside =
    let count : length (zeros size) ≡ size = length-replicate size 0 in
    subst (λ (n : ℕ). slice_range (overwritten base (zeros size) bytes) base (base + n) ≡ zeros size) count
    (writes_are_read bytes (zeros size) base (omega (arith, count)))

-- another size of the region, as long as the item fits
pub item_kept : (bytes : List ℕ) (base size to : ℕ) → base + size ≤ length bytes → base + size ≤ to →
    slice_range (resized bytes to) base (base + size) ≡ slice_range bytes base (base + size)
item_kept bytes base size to inside fits =
    let front = take to bytes in
    let cut : length front ≡ min to (length bytes) = length-take to bytes in
    let rest : length (drop base front) ≡ length front - base = length-drop base front in
    let split : to ≡ base + (to - base) = omega arith in
    range_is (resized bytes to) base size
    ∙ ap (take size) (drop-append-le base front (zeros (to - length bytes)) (omega (arith, cut)))
    ∙ take-append-le size (drop base front) (zeros (to - length bytes)) (omega (arith, cut, rest))
    ∙ ap (λ (n : ℕ). take size (drop base (take n bytes))) split
    ∙ ap (take size) (drop-take base (to - base) bytes)
    ∙ take-take size (to - base) (drop base bytes) (omega arith)
    ∙ sym (range_is bytes base size)

-- lengths stay

pub length_written : (bytes from : List ℕ) (address : ℕ) → address + length from ≤ length bytes →
    length (overwritten address from bytes) ≡ length bytes
length_written bytes from address inside = length-overwritten bytes address from inside

pub length_of_resized : (bytes : List ℕ) (to : ℕ) → length (resized bytes to) ≡ to
length_of_resized bytes to = length_resized bytes (length bytes) to refl

-- a place that is that of an address

pub place_address : (memory : Striped) (region address : ℕ) (place : Place) → IsTrue (is_lawful memory.service) →
    place ≡ place_at memory.service region address → address_at memory.service region place ≡ address
place_address memory region address place lawful at =
    ap (address_at memory.service region) at ∙ address_is memory.service region address lawful

pub place_lies : (memory : Striped) (region address n : ℕ) (place : Place) → IsTrue (is_lawful memory.service) →
    place ≡ place_at memory.service region address → LiesInUnit memory region address n → LiesAt memory region place n
place_lies memory region address n place lawful at lies =
    let back : address_at memory.service region place ≡ address = place_address memory region address place lawful at in
    record {
      is_place = at ∙ ap (place_at memory.service region) (sym back);
      lies = subst (λ (a : ℕ). LiesInUnit memory region a n) (sym back) lies;
    }

-- these laws, for `grind`
pub ruleset memory_laws = (bytes_here, there_here, there_beside, bytes_beside, removed_here, removed_beside, item_read, item_written, item_beside, item_zeroed, item_kept, length_written, length_of_resized, place_lies, place_address)
