-- Ranges of bytes, before and after a write.
use Rattle.std.proofs.Common.{◌≡◌, ℕ, ◌+◌, ◌-◌, ◌<◌, ◌≤◌, List, length, take, drop, get_or, slice_range, sym, ap, ◌∙◌, inl, inr, arith}
use Rattle.std.specs.Prelude.{min}
use Rattle.std.proofs.lemmas.Bool.{cases_lt}
use Rattle.std.proofs.lemmas.List.{same_lists, length-take, length-drop, drop-take, take-take, drop-drop}
use Rattle.std.proofs.lemmas.List.Edits.{get_or-between}
use Rattle.fam_model.specs.PieceStep.{overwritten}
use Rattle.stripe_store.proofs.Laws.{byte_put, byte_before, byte_after, length-overwritten, range-overwritten}
use Rattle.striped_memory.specs.Laws.{WritesAreRead, WritesStayInside, WritesOfItems, ReadsOfItems}

-- n bytes from i on
pub range_is : (xs : List ℕ) (i n : ℕ) → slice_range xs i (i + n) ≡ take n (drop i xs)
range_is xs i n = let count : (i + n) - i ≡ n = omega arith in ap (λ (k : ℕ). take k (drop i xs)) count

pub length_of_range : (xs : List ℕ) (i n : ℕ) → length (slice_range xs i (i + n)) ≡ min n (length xs - i)
length_of_range xs i n =
    ap length (range_is xs i n) ∙ length-take n (drop i xs) ∙ ap (min n) (length-drop i xs)

pub length_inside : (xs : List ℕ) (i n : ℕ) → i + n ≤ length xs → length (slice_range xs i (i + n)) ≡ n
length_inside xs i n inside = let l = length_of_range xs i n in omega (arith, l)

pub byte_of_range : (xs : List ℕ) (i n k d : ℕ) → k < n → get_or (slice_range xs i (i + n)) k d ≡ get_or xs (i + k) d
byte_of_range xs i n k d below = get_or-between xs i (i + n) k d (omega arith)

pub reads_of_items : ReadsOfItems
reads_of_items bytes base size offset n inside =
    let rest : size ≡ offset + (size - offset) = omega arith in
    range_is (slice_range bytes base (base + size)) offset n
    ∙ ap (λ (xs : List ℕ). take n (drop offset xs)) (range_is bytes base size ∙ ap (λ (k : ℕ). take k (drop base bytes)) rest)
    ∙ ap (take n) (drop-take offset (size - offset) (drop base bytes))
    ∙ take-take n (size - offset) (drop offset (drop base bytes)) (omega arith)
    ∙ ap (take n) (drop-drop offset base bytes)
    ∙ sym (range_is bytes (base + offset) n)

pub writes_are_read : WritesAreRead
writes_are_read bytes from address inside = range-overwritten bytes address from inside

pub writes_stay_inside : WritesStayInside
writes_stay_inside bytes from address start n inside apart =
    let same : length (overwritten address from bytes) ≡ length bytes = length-overwritten bytes address from inside in
    same_lists (slice_range (overwritten address from bytes) start (start + n)) (slice_range bytes start (start + n))
    (length_of_range (overwritten address from bytes) start n ∙ ap (λ (k : ℕ). min n (k - start)) same
    ∙ sym (length_of_range bytes start n))
    (λ k d below.
    let count = length_of_range (overwritten address from bytes) start n in
    let there : k < n = omega (arith, count) in
    byte_of_range (overwritten address from bytes) start n k d there
    ∙ elim apart [
      | inl before ↦ byte_before bytes address from (start + k) d inside (omega arith)
      | inr behind ↦ byte_after bytes address from (start + k) d inside (omega arith)
    ]
    ∙ sym (byte_of_range bytes start n k d there))

-- a byte of an item after a write into it
byte_of_item : (bytes from : List ℕ) (base size offset k d : ℕ) → base + size ≤ length bytes → offset + length from ≤ size → k < size →
    get_or (overwritten (base + offset) from bytes) (base + k) d ≡ get_or (overwritten offset from (slice_range bytes base (base + size))) k d
byte_of_item bytes from base size offset k d inside fits below =
    let item = slice_range bytes base (base + size) in
    let count : length item ≡ size = length_inside bytes base size inside in
    let room : offset + length from ≤ length item = omega (arith, count) in
    let there : (base + offset) + length from ≤ length bytes = omega arith in
    elim (cases_lt k offset) [
      | inl before ↦
          byte_before bytes (base + offset) from (base + k) d there (omega arith)
          ∙ sym (byte_of_range bytes base size k d below)
          ∙ sym (byte_before item offset from k d room before)
      | inr from_here ↦ elim (cases_lt k (offset + length from)) [
        | inl new ↦
            let shift : base + k ≡ (base + offset) + (k - offset) = omega arith in
            let back : offset + (k - offset) ≡ k = omega arith in
            ap (λ (j : ℕ). get_or (overwritten (base + offset) from bytes) j d) shift
            ∙ byte_put bytes (base + offset) from (k - offset) d there (omega arith)
            ∙ sym (byte_put item offset from (k - offset) d room (omega arith))
            ∙ ap (λ (j : ℕ). get_or (overwritten offset from item) j d) back
        | inr behind ↦
            byte_after bytes (base + offset) from (base + k) d there (omega arith)
            ∙ sym (byte_of_range bytes base size k d below)
            ∙ sym (byte_after item offset from k d room behind)
      ]
    ]

pub writes_of_items : WritesOfItems
writes_of_items bytes from base size offset inside fits =
    let new = overwritten (base + offset) from bytes in
    let item = slice_range bytes base (base + size) in
    let count : length item ≡ size = length_inside bytes base size inside in
    let same : length new ≡ length bytes = length-overwritten bytes (base + offset) from (omega arith) in
    let long : length (slice_range new base (base + size)) ≡ size = length_inside new base size (omega (arith, same)) in
    same_lists (slice_range new base (base + size)) (overwritten offset from item)
    (long ∙ sym count ∙ sym (length-overwritten item offset from (omega (arith, count))))
    (λ k d below.
    let there : k < size = omega (arith, long) in
    byte_of_range new base size k d there ∙ byte_of_item bytes from base size offset k d inside fits there)
