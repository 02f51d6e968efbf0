-- Reads and writes of a region, as its bytes show them.
use Rattle.std.proofs.Common.{◌≡◌, ℕ, ◌+◌, ◌-◌, ◌/◌, ◌%◌, ◌<◌, ◌≤◌, Bool, true, false, ◌==◌, List, [], ◌++◌, length, get_or, take, drop, slice_set, slice_range, sym, ap, subst, ◌∙◌, arith}
use Rattle.std.specs.Prelude.{◌↔◌, None, Some, is_some, IsSome}
use Rattle.std.specs.Option.{option_map}
use Rattle.std.specs.FinMap.{empty, get, insert}
use Rattle.std.proofs.Math.Nat.{mod-lt}
use Rattle.std.proofs.lemmas.List.{ext_get_or, get_or_read, nil_from_length, append-nil, take-append-drop, length-replicate}
use Rattle.std.proofs.lemmas.Bool.Decides.{nat_tests}
use Rattle.fam_model.specs.declared.piece.Place.{Place}
use Rattle.fam_model.specs.declared.service.Service.{Service}
use Rattle.fam_model.specs.Pieces.{place_at}
use Rattle.fam_model.specs.PieceStep.{overwritten}
use Rattle.stripe_store.specs.Kept.{Kept, rows_of, row_of, with_row}
use Rattle.stripe_store.specs.Rows as rows
use Rattle.stripe_store.specs.Rows.{Reaches}
use Rattle.striped_memory.specs.Striped.{Striped, bytes_of, with_bytes, zeros, LiesInUnit, LiesAt, address_at}
use Rattle.striped_memory.specs.Stripes.{rows_on, byte_at, byte_of, bytes_in, Sizes, found, size_in, regions_of, IsStriped}
use Rattle.striped_memory.proofs.Places.{some_stripes, further}
use Rattle.striped_memory.proofs.Ranges.{length_inside, byte_of_range}
use Rattle.striped_memory.proofs.Writes.{Written, written}
use Rattle.striped_memory.proofs.Sizes.{row_is, begins, byte_in, length_of_bytes, bytes_written, has_same_shape}
use Rattle.striped_memory.proofs.Views.{get-regions_of, there_found, bytes_there, unchanged, regions_with, striped_with, put_back}

-- what is seen of the stores and the sizes
abbrev pub seen : Service → List Kept → Sizes → Striped
seen service stores sizes = record { service = service; regions = regions_of service stores sizes }

-- the bytes of a region that is there
pub bytes_seen : (service : Service) (stores : List Kept) (sizes : Sizes) (region : ℕ) → IsSome (get (regions_of service stores sizes) region) →
    bytes_of (seen service stores sizes) region ≡ bytes_in service stores region (size_in sizes region)
bytes_seen service stores sizes region there =
    bytes_there service stores sizes region (size_in sizes region) (there_found service stores sizes region there)

pub length_seen : (service : Service) (stores : List Kept) (sizes : Sizes) (region : ℕ) → IsSome (get (regions_of service stores sizes) region) →
    length (bytes_of (seen service stores sizes) region) ≡ size_in sizes region
length_seen service stores sizes region there =
    ap length (bytes_seen service stores sizes region there) ∙ length_of_bytes service stores region (size_in sizes region)

module _ (service : Service) (stores : List Kept) (sizes : Sizes) (region address n : ℕ) (striped : IsStriped service stores sizes)
    (lies : LiesInUnit (seen service stores sizes) region address n) where
  inside : address + n ≤ size_in sizes region
  inside = let count = length_seen service stores sizes region lies.there in let room = lies.inside in omega (arith, count, room)

  stripe_there : (place_at service region address).stripe < length stores
  stripe_there =
      let on = mod-lt (region + address / service.unit) (some_stripes service striped.lawful) in
      let all = striped.stripes in
      omega (arith, on, all)

  reach_there : 0 < n →
      Reaches (rows_on stores (place_at service region address).stripe region) (place_at service region address).row (address % service.unit) n
  reach_there some =
      let room = inside in
      let fits = lies.in_unit in
      let there = row_is service stores region (size_in sizes region) address striped.lawful (striped.rows region)
      (begins service.unit address (size_in sizes region) (omega (arith, room))) in
      let long = there.1 in
      (there.0, omega (arith, long, fits))

  read_there : 0 < n →
      slice_range (rows.bytes_of (rows_on stores (place_at service region address).stripe region) (place_at service region address).row)
      (address % service.unit) (address % service.unit + n)
      ≡ slice_range (bytes_of (seen service stores sizes) region) address (address + n)
  unfolding byte_of
  read_there some =
      let place = place_at service region address in
      let row = rows.bytes_of (rows_on stores place.stripe region) place.row in
      let whole = bytes_in service stores region (size_in sizes region) in
      let reach = reach_there some in
      let fits = lies.in_unit in
      let room = inside in
      let long : length whole ≡ size_in sizes region = length_of_bytes service stores region (size_in sizes region) in
      let front : length (slice_range row (address % service.unit) (address % service.unit + n)) ≡ n = length_inside row (address % service.unit) n reach.1 in
      let back : length (slice_range whole address (address + n)) ≡ n = length_inside whole address n (omega (arith, long, room)) in
      ext_get_or 0 (slice_range row (address % service.unit) (address % service.unit + n)) (slice_range whole address (address + n)) (front ∙ sym back)
      (λ i below.
      let there : i < n = omega (arith, front) in
      byte_of_range row (address % service.unit) n i 0 there
      ∙ ap (byte_at stores region) (sym (further service region address i (omega (arith, fits))))
      ∙ sym (byte_in service stores region (size_in sizes region) (address + i) (omega (arith, room)))
      ∙ sym (byte_of_range whole address n i 0 there))
      ∙ ap (λ (bytes : List ℕ). slice_range bytes address (address + n)) (sym (bytes_seen service stores sizes region lies.there))

-- with the store that code has found

pub stripe_by : (service : Service) (stores : List Kept) (sizes : Sizes) (region address n : ℕ) (place : Place) →
    IsStriped service stores sizes → place ≡ place_at service region address → LiesInUnit (seen service stores sizes) region address n →
    place.stripe < length stores
stripe_by service stores sizes region address n place striped at lies =
    subst (λ (p : Place). p.stripe < length stores) (sym at) (stripe_there service stores sizes region address n striped lies)

reach_at : (service : Service) (stores : List Kept) (sizes : Sizes) (region address n : ℕ) (place : Place) →
    IsStriped service stores sizes → place ≡ place_at service region address → LiesInUnit (seen service stores sizes) region address n → 0 < n →
    Reaches (rows_on stores place.stripe region) place.row place.at n
reach_at service stores sizes region address n place striped at lies some =
    subst (λ (p : Place). Reaches (rows_on stores p.stripe region) p.row p.at n) (sym at)
    (reach_there service stores sizes region address n striped lies some)

read_at : (service : Service) (stores : List Kept) (sizes : Sizes) (region address n : ℕ) (place : Place) →
    IsStriped service stores sizes → place ≡ place_at service region address → LiesInUnit (seen service stores sizes) region address n → 0 < n →
    slice_range (rows.bytes_of (rows_on stores place.stripe region) place.row) place.at (place.at + n)
    ≡ slice_range (bytes_of (seen service stores sizes) region) address (address + n)
read_at service stores sizes region address n place striped at lies some =
    subst (λ (p : Place). slice_range (rows.bytes_of (rows_on stores p.stripe region) p.row) p.at (p.at + n)
    ≡ slice_range (bytes_of (seen service stores sizes) region) address (address + n)) (sym at)
    (read_there service stores sizes region address n striped lies some)

pub reach_by : (service : Service) (stores : List Kept) (sizes : Sizes) (region address n : ℕ) (place : Place) (item : Kept) →
    IsStriped service stores sizes → place ≡ place_at service region address → LiesInUnit (seen service stores sizes) region address n → 0 < n →
    item ≡ get_or stores place.stripe item → Reaches (rows_of item region) place.row place.at n
reach_by service stores sizes region address n place item striped at lies some is =
    subst (λ (kept : Kept). Reaches (rows_of kept region) place.row place.at n)
    (sym (get_or_read stores place.stripe item (stripe_by service stores sizes region address n place striped at lies) is empty))
    (reach_at service stores sizes region address n place striped at lies some)

pub read_by : (service : Service) (stores : List Kept) (sizes : Sizes) (region address n : ℕ) (place : Place) (item : Kept) →
    IsStriped service stores sizes → place ≡ place_at service region address → LiesInUnit (seen service stores sizes) region address n → 0 < n →
    item ≡ get_or stores place.stripe item →
    slice_range (row_of item region place.row) place.at (place.at + n) ≡ slice_range (bytes_of (seen service stores sizes) region) address (address + n)
read_by service stores sizes region address n place item striped at lies some is =
    subst (λ (kept : Kept). slice_range (row_of kept region place.row) place.at (place.at + n)
    ≡ slice_range (bytes_of (seen service stores sizes) region) address (address + n))
    (sym (get_or_read stores place.stripe item (stripe_by service stores sizes region address n place striped at lies) is empty))
    (read_at service stores sizes region address n place striped at lies some)

written_by : (service : Service) (stores : List Kept) (sizes : Sizes) (region address : ℕ) (from : List ℕ) (place : Place) (item store : Kept) →
    IsStriped service stores sizes → place ≡ place_at service region address →
    LiesInUnit (seen service stores sizes) region address (length from) → 0 < length from → item ≡ get_or stores place.stripe item →
    store ≡ with_row item region place.row (rows.overwritten (row_of item region place.row) place.at from) →
    Written service stores (slice_set stores place.stripe store) region address from
written_by service stores sizes region address from place item store striped at lies some is changed =
    subst (λ (kept : Kept). Reaches (rows_of kept region) place.row place.at (length from) →
    store ≡ with_row kept region place.row (rows.overwritten (row_of kept region place.row) place.at from) →
    Written service stores (slice_set stores place.stripe store) region address from) (sym is)
    (λ reach change. written service stores region address from place item store striped.lawful at
    (stripe_by service stores sizes region address (length from) place striped at lies) reach lies.in_unit change)
    (reach_by service stores sizes region address (length from) place item striped at lies some is) changed

pub write_keeps : (service : Service) (stores : List Kept) (sizes : Sizes) (region address : ℕ) (from : List ℕ) (place : Place) (item store : Kept) →
    IsStriped service stores sizes → place ≡ place_at service region address →
    LiesInUnit (seen service stores sizes) region address (length from) → 0 < length from → item ≡ get_or stores place.stripe item →
    store ≡ with_row item region place.row (rows.overwritten (row_of item region place.row) place.at from) →
    IsStriped service (slice_set stores place.stripe store) sizes
write_keeps service stores sizes region address from place item store striped at lies some is changed =
    let done = written_by service stores sizes region address from place item store striped at lies some is changed in
    striped_with service stores (slice_set stores place.stripe store) sizes sizes region (Some (size_in sizes region)) striped
    done.count done.elsewhere (unchanged sizes region (size_in sizes region) (there_found service stores sizes region lies.there))
    (has_same_shape service stores (slice_set stores place.stripe store) region (size_in sizes region) (striped.rows region) done.shape)
    (striped.small region)

pub write_seen : (service : Service) (stores : List Kept) (sizes : Sizes) (region address : ℕ) (from : List ℕ) (place : Place) (item store : Kept) →
    IsStriped service stores sizes → place ≡ place_at service region address →
    LiesInUnit (seen service stores sizes) region address (length from) → 0 < length from → item ≡ get_or stores place.stripe item →
    store ≡ with_row item region place.row (rows.overwritten (row_of item region place.row) place.at from) →
    seen service (slice_set stores place.stripe store) sizes
    ≡ with_bytes (seen service stores sizes) region (overwritten address from (bytes_of (seen service stores sizes) region))
write_seen service stores sizes region address from place item store striped at lies some is changed =
    let done = written_by service stores sizes region address from place item store striped at lies some is changed in
    let same : regions_of service (slice_set stores place.stripe store) sizes
    ≡ insert (regions_of service stores sizes) region (overwritten address from (bytes_of (seen service stores sizes) region)) =
    regions_with service stores (slice_set stores place.stripe store) sizes sizes region (size_in sizes region)
    (overwritten address from (bytes_of (seen service stores sizes) region)) done.elsewhere
    (unchanged sizes region (size_in sizes region) (there_found service stores sizes region lies.there))
    (bytes_written service stores (slice_set stores place.stripe store) region (size_in sizes region) address from done
    (inside service stores sizes region address (length from) striped lies)
    ∙ ap (overwritten address from) (sym (bytes_seen service stores sizes region lies.there))) in
    λ i. record { service = service; regions = same i }

-- bytes that are none

none_written : (xs : List ℕ) (a : ℕ) → overwritten a [] xs ≡ xs
none_written xs a =
    let same : a + 0 ≡ a = omega arith in
    ap (λ (front : List ℕ). front ++ drop (a + 0) xs) (append-nil (take a xs))
    ∙ ap (λ (k : ℕ). take a xs ++ drop k xs) same
    ∙ take-append-drop a xs

pub nothing_written : (memory : Striped) (region address : ℕ) (from : List ℕ) → IsSome (get memory.regions region) → length from ≡ 0 →
    memory ≡ with_bytes memory region (overwritten address from (bytes_of memory region))
nothing_written memory region address from there none =
    let empty_one : from ≡ [] = nil_from_length from none in
    let same : memory.regions ≡ insert memory.regions region (overwritten address from (bytes_of memory region)) =
    sym (put_back memory.regions region there)
    ∙ ap (insert memory.regions region) (sym (ap (λ (xs : List ℕ). overwritten address xs (bytes_of memory region)) empty_one ∙ none_written (bytes_of memory region) address)) in
    λ i. record { service = memory.service; regions = same i }

pub nothing_read : (into bytes : List ℕ) (address : ℕ) → length into ≡ 0 → into ≡ slice_range bytes address (address + length into)
nothing_read into bytes address none =
    let zero_long : (address + length into) - address ≡ 0 = omega arith in
    nil_from_length into none ∙ sym (ap (λ (k : ℕ). take k (drop address bytes)) zero_long)

-- in the words of the contracts

pub some_by : (b : Bool) (n : ℕ) → b ≡ (n == 0) → b ≡ false → 0 < n
some_by b n is e = let test : (n == 0) ≡ false = sym is ∙ e in grind (arith, nat_tests)

pub none_by : (b : Bool) (n : ℕ) → b ≡ (n == 0) → b ≡ true → n ≡ 0
none_by b n is e = let test : (n == 0) ≡ true = sym is ∙ e in grind (arith, nat_tests)

module _ (service : Service) (stores : List Kept) (sizes : Sizes) (region : ℕ) (place : Place) (item : Kept) (striped : IsStriped service stores sizes)
    (is : item ≡ get_or stores place.stripe item) where
  pub place_reaches : (n : ℕ) (memory : Striped) → seen service stores sizes ≡ memory → LiesAt memory region place n → 0 < n →
      Reaches (rows_of item region) place.row place.at n
  place_reaches n memory e =
      subst (λ (m : Striped). LiesAt m region place n → 0 < n → Reaches (rows_of item region) place.row place.at n) e
      (λ lies some. reach_by service stores sizes region (address_at service region place) n place item striped lies.is_place lies.lies some is)

  pub place_read : (n : ℕ) (memory : Striped) → seen service stores sizes ≡ memory → LiesAt memory region place n → 0 < n →
      slice_range (row_of item region place.row) place.at (place.at + n)
      ≡ slice_range (bytes_of memory region) (address_at memory.service region place) (address_at memory.service region place + n)
  place_read n memory e =
      subst (λ (m : Striped). LiesAt m region place n → 0 < n →
      slice_range (row_of item region place.row) place.at (place.at + n)
      ≡ slice_range (bytes_of m region) (address_at m.service region place) (address_at m.service region place + n)) e
      (λ lies some. read_by service stores sizes region (address_at service region place) n place item striped lies.is_place lies.lies some is)

  pub place_kept : (from : List ℕ) (store : Kept) (memory : Striped) → seen service stores sizes ≡ memory → LiesAt memory region place (length from) →
      0 < length from → store ≡ with_row item region place.row (rows.overwritten (row_of item region place.row) place.at from) →
      IsStriped service (slice_set stores place.stripe store) sizes
  place_kept from store memory e =
      subst (λ (m : Striped). LiesAt m region place (length from) → 0 < length from →
      store ≡ with_row item region place.row (rows.overwritten (row_of item region place.row) place.at from) →
      IsStriped service (slice_set stores place.stripe store) sizes) e
      (λ lies some changed. write_keeps service stores sizes region (address_at service region place) from place item store striped lies.is_place lies.lies some is changed)

  pub place_written : (from : List ℕ) (store : Kept) (memory : Striped) → seen service stores sizes ≡ memory → LiesAt memory region place (length from) →
      0 < length from → store ≡ with_row item region place.row (rows.overwritten (row_of item region place.row) place.at from) →
      seen service (slice_set stores place.stripe store) sizes
      ≡ with_bytes memory region (overwritten (address_at memory.service region place) from (bytes_of memory region))
  place_written from store memory e =
      subst (λ (m : Striped). LiesAt m region place (length from) → 0 < length from →
      store ≡ with_row item region place.row (rows.overwritten (row_of item region place.row) place.at from) →
      seen service (slice_set stores place.stripe store) sizes
      ≡ with_bytes m region (overwritten (address_at m.service region place) from (bytes_of m region))) e
      (λ lies some changed. write_seen service stores sizes region (address_at service region place) from place item store striped lies.is_place lies.lies some is changed)

-- the same of n zeros at an address
module _ (service : Service) (stores : List Kept) (sizes : Sizes) (region address n : ℕ) (place : Place) (item : Kept) (striped : IsStriped service stores sizes)
    (at : place ≡ place_at service region address) (is : item ≡ get_or stores place.stripe item) (some : 0 < n) where
  some_zeros : 0 < length (zeros n)
  some_zeros = let count : length (zeros n) ≡ n = length-replicate n 0 in omega (arith, count, some)

  lies_long : (memory : Striped) → LiesInUnit memory region address n → LiesInUnit memory region address (length (zeros n))
  lies_long memory lies = subst (λ (k : ℕ). LiesInUnit memory region address k) (sym (length-replicate n 0)) lies

  pub zeros_reach : (memory : Striped) → seen service stores sizes ≡ memory → LiesInUnit memory region address n →
      Reaches (rows_of item region) place.row place.at n
  zeros_reach memory e =
      subst (λ (m : Striped). LiesInUnit m region address n → Reaches (rows_of item region) place.row place.at n) e
      (λ lies. reach_by service stores sizes region address n place item striped at lies some is)

  pub zeros_kept : (store : Kept) (memory : Striped) → seen service stores sizes ≡ memory → LiesInUnit memory region address n →
      store ≡ with_row item region place.row (rows.overwritten (row_of item region place.row) place.at (zeros n)) →
      IsStriped service (slice_set stores place.stripe store) sizes
  zeros_kept store memory e =
      subst (λ (m : Striped). LiesInUnit m region address n →
      store ≡ with_row item region place.row (rows.overwritten (row_of item region place.row) place.at (zeros n)) →
      IsStriped service (slice_set stores place.stripe store) sizes) e
      (λ lies changed. write_keeps service stores sizes region address (zeros n) place item store striped at (lies_long (seen service stores sizes) lies) some_zeros is changed)

  pub zeros_written : (store : Kept) (memory : Striped) → seen service stores sizes ≡ memory → LiesInUnit memory region address n →
      store ≡ with_row item region place.row (rows.overwritten (row_of item region place.row) place.at (zeros n)) →
      seen service (slice_set stores place.stripe store) sizes
      ≡ with_bytes memory region (overwritten address (zeros n) (bytes_of memory region))
  zeros_written store memory e =
      subst (λ (m : Striped). LiesInUnit m region address n →
      store ≡ with_row item region place.row (rows.overwritten (row_of item region place.row) place.at (zeros n)) →
      seen service (slice_set stores place.stripe store) sizes
      ≡ with_bytes m region (overwritten address (zeros n) (bytes_of m region))) e
      (λ lies changed. write_seen service stores sizes region address (zeros n) place item store striped at (lies_long (seen service stores sizes) lies) some_zeros is changed)

-- the test of a range

lies_by : (service : Service) (stores : List Kept) (sizes : Sizes) (region address n size : ℕ) → Some size ≡ found sizes region →
    address + n ≤ size → address % service.unit + n ≤ service.unit → LiesInUnit (seen service stores sizes) region address n
lies_by service stores sizes region address n size is inside fits =
    let there : IsSome (get (regions_of service stores sizes) region) =
    ap is_some (get-regions_of service stores sizes region ∙ ap (option_map (bytes_in service stores region)) (sym is)) in
    let count : length (bytes_of (seen service stores sizes) region) ≡ size =
    ap length (bytes_there service stores sizes region size (sym is)) ∙ length_of_bytes service stores region size in
    record { there = there; inside = omega (arith, count); in_unit = fits }

lies_facts : (service : Service) (stores : List Kept) (sizes : Sizes) (region address n size : ℕ) → Some size ≡ found sizes region →
    LiesInUnit (seen service stores sizes) region address n → (address + n ≤ size) × (address % service.unit + n ≤ service.unit)
lies_facts service stores sizes region address n size is lies =
    let count : length (bytes_of (seen service stores sizes) region) ≡ size =
    ap length (bytes_there service stores sizes region size (sym is)) ∙ length_of_bytes service stores region size in
    let inside = lies.inside in
    (omega (arith, count, inside), lies.in_unit)

pub lies_exactly : (service : Service) (stores : List Kept) (sizes : Sizes) (region address n size unit : ℕ) (memory : Striped) →
    seen service stores sizes ≡ memory → Some size ≡ found sizes region → unit ≡ service.unit →
    ((address + n ≤ size) × (address % unit + n ≤ unit)) ↔ LiesInUnit memory region address n
lies_exactly service stores sizes region address n size unit memory e is width =
    subst (λ (m : Striped). ((address + n ≤ size) × (address % unit + n ≤ unit)) ↔ LiesInUnit m region address n) e (
      λ both. lies_by service stores sizes region address n size is both.0 (subst (λ (w : ℕ). address % w + n ≤ w) width both.1),
      λ lies. let facts = lies_facts service stores sizes region address n size is lies in
          (facts.0, subst (λ (w : ℕ). address % w + n ≤ w) (sym width) facts.1),
    )

pub lies_nowhere : (service : Service) (stores : List Kept) (sizes : Sizes) (region address n : ℕ) (memory : Striped) →
    seen service stores sizes ≡ memory → None ≡ found sizes region → LiesInUnit memory region address n → ⊥
lies_nowhere service stores sizes region address n memory e =
    subst (λ (m : Striped). None ≡ found sizes region → LiesInUnit m region address n → ⊥) e
    (λ is lies. let wrong : None ≡ Some (size_in sizes region) = is ∙ there_found service stores sizes region lies.there in cc)
