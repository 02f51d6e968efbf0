-- The rows and bytes of a region as its size changes.
use Rattle.std.proofs.Common.{◌≡◌, ℕ, zero, suc, ◌+◌, ◌-◌, ◌*◌, ◌/◌, ◌%◌, ◌<◌, ◌≤◌, List, [], ◌∷◌, ◌++◌, length, map, take, get_or, slice_set, refl, sym, ap, subst, ◌∙◌, inl, inr, arith}
use Rattle.std.specs.Prelude.{replicate, IsTrue}
use Rattle.std.specs.FinMap.{empty}
use Rattle.std.proofs.Math.Nat.{mod-add-div', mul-le-mul_right}
use Rattle.std.proofs.Math.ListN.{get_or-map}
use Rattle.std.proofs.lemmas.Bool.{cases_eq, cases_lt}
use Rattle.std.proofs.lemmas.List.{ext_get_or, length-map, length-append, length-take, length-replicate, map-append, take-map, take-replicate, replicate-append-replicate, get_or-replicate, get_or_past, get_or-take, get_or_append_left, get_or-append_right, get_or_default}
use Rattle.std.proofs.lemmas.List.FromFn.{length-map-range_with_len, get_or-map-range_with_len}
use Rattle.fam_model.specs.declared.piece.Place.{Place}
use Rattle.fam_model.specs.declared.service.Service.{Service}
use Rattle.fam_model.specs.Pieces.{stripe_count, place_at}
use Rattle.fam_model.specs.PieceStep.{overwritten}
use Rattle.fam_layout.specs.Layouts.{is_lawful}
use Rattle.stripe_store.specs.Kept.{Kept, rows_of, row_of, with_row}
use Rattle.stripe_store.specs.Rows as rows
use Rattle.stripe_store.specs.Rows.{bytes_of, grown, Reaches}
use Rattle.stripe_store.proofs.Laws.{byte_put, byte_before, byte_after, length-overwritten}
use Rattle.striped_memory.specs.Striped.{zeros, resized}
use Rattle.striped_memory.specs.Stripes.{store_at, rows_on, byte_of, bytes_in, row_count, HasRows, SameRows, Grew, KeptFront, Shrank, Zeroed, Resized}
use Rattle.striped_memory.proofs.Places.{some_stripes, wide, row_inside, row_behind, rows_are_exact}
use Rattle.striped_memory.proofs.Walks.{past_rows}
use Rattle.striped_memory.proofs.Writes.{Written, written}
use Rattle.std.proofs.Math.Nat.{mod-lt}

-- rows

counted : (rows : List (List ℕ)) (n w : ℕ) → map length rows ≡ replicate n w → length rows ≡ n
counted rows n w shape = sym (length-map rows length) ∙ ap length shape ∙ length-replicate n w

long : (rows : List (List ℕ)) (n w row : ℕ) → map length rows ≡ replicate n w → row < n → length (bytes_of rows row) ≡ w
long rows n w row shape below =
    sym (get_or-map length rows row []) ∙ ap (λ (lengths : List ℕ). get_or lengths row 0) shape ∙ get_or-replicate n row w 0 below

-- the row of an address whose unit begins in the region
pub row_is : (service : Service) (stores : List Kept) (region size address : ℕ) → IsTrue (is_lawful service) →
    HasRows service stores region size → address / service.unit * service.unit < size →
    ((place_at service region address).row < length (rows_on stores (place_at service region address).stripe region))
    × (length (bytes_of (rows_on stores (place_at service region address).stripe region) (place_at service region address).row) ≡ service.unit)
row_is service stores region size address lawful has begins =
    let stripe = (place_at service region address).stripe in
    let row = (place_at service region address).row in
    let on : stripe < stripe_count service = mod-lt (region + address / service.unit) (some_stripes service lawful) in
    let there : row < row_count service region size stripe = row_inside service region size (address / service.unit) lawful begins in
    let shape = has.rows stripe on in
    let count : length (rows_on stores stripe region) ≡ row_count service region size stripe = counted (rows_on stores stripe region) (row_count service region size stripe) service.unit shape in
    (omega (arith, count), long (rows_on stores stripe region) (row_count service region size stripe) service.unit row shape there)

-- the unit of an address of the region begins in the region
pub begins : (w address size : ℕ) → address < size → address / w * w < size
begins w address size below = let whole = mod-add-div' address w in omega (arith, whole)

pub more_rows : (service : Service) (region from to stripe : ℕ) → IsTrue (is_lawful service) → stripe < stripe_count service → from ≤ to →
    row_count service region from stripe ≤ row_count service region to stripe
more_rows service region from to stripe lawful on less =
    elim (cases_lt (row_count service region to stripe) (row_count service region from stripe)) [
      | inl fewer ↦
          let row = row_count service region to stripe in
          let inside = (rows_are_exact service region from stripe row lawful on).0 fewer in
          let there : row < row_count service region to stripe = (rows_are_exact service region to stripe row lawful on).1 (omega (arith, inside)) in
          absurd (omega (arith, there))
      | inr fine ↦ fine
    ]

lengths_of_zeros : (n w : ℕ) → map length (replicate n (zeros w)) ≡ replicate n w
lengths_of_zeros zero w = refl
lengths_of_zeros (suc n) w = λ i. length-replicate {A = ℕ} w 0 i ∷ lengths_of_zeros n w i

-- growing

grown_lengths : (rows : List (List ℕ)) (a b w : ℕ) → map length rows ≡ replicate a w → a ≤ b → map length (grown rows b w) ≡ replicate b w
grown_lengths rows a b w shape less =
    let count : length rows ≡ a = counted rows a w shape in
    let sum : a + (b - length rows) ≡ b = omega arith in
    map-append length rows (replicate (b - length rows) (zeros w))
    ∙ ap (λ (front : List ℕ). front ++ map length (replicate (b - length rows) (zeros w))) shape
    ∙ ap (λ (back : List ℕ). replicate a w ++ back) (lengths_of_zeros (b - length rows) w)
    ∙ replicate-append-replicate a (b - length rows) w
    ∙ ap (λ (n : ℕ). replicate n w) sum

pub grew_rows : (service : Service) (old new : List Kept) (region from to : ℕ) → IsTrue (is_lawful service) →
    length old ≡ stripe_count service → HasRows service old region from → from ≤ to → Grew service old new region to →
    HasRows service new region to
grew_rows service old new region from to lawful all has less grew =
    record {
      rows = λ stripe on.
          ap (map length) (grew.here stripe (omega arith))
          ∙ grown_lengths (rows_on old stripe region) (row_count service region from stripe) (row_count service region to stripe) service.unit
          (has.rows stripe on) (more_rows service region from to stripe lawful on less);
    }

zero_byte : (n k : ℕ) → get_or (zeros n) k 0 ≡ 0
zero_byte n k =
    elim (cases_lt k n) [
      | inl below ↦ get_or-replicate n k 0 0 below
      | inr past ↦ let count : length (zeros n) ≡ n = length-replicate n 0 in get_or_past (zeros n) k 0 (omega arith)
    ]

zero_row : (m w j k : ℕ) → get_or (get_or (replicate m (zeros w)) j []) k 0 ≡ 0
zero_row m w j k =
    elim (cases_lt j m) [
      | inl below ↦ ap (λ bytes. get_or bytes k 0) (get_or-replicate m j (zeros w) [] below) ∙ zero_byte w k
      | inr past ↦
          let count : length (replicate m (zeros w)) ≡ m = length-replicate m (zeros w) in
          ap (λ bytes. get_or bytes k 0) (get_or_past (replicate m (zeros w)) j [] (omega arith))
    ]

-- bytes whose unit began in the region stay
pub grew_old : (service : Service) (old new : List Kept) (region from to address : ℕ) → IsTrue (is_lawful service) →
    length old ≡ stripe_count service → HasRows service old region from → Grew service old new region to →
    address / service.unit * service.unit < from → byte_of service new region address ≡ byte_of service old region address
unfolding byte_of
grew_old service old new region from to address lawful all has grew inside =
    let stripe = (place_at service region address).stripe in
    let row = (place_at service region address).row in
    let on : stripe < stripe_count service = mod-lt (region + address / service.unit) (some_stripes service lawful) in
    let there = row_is service old region from address lawful has inside in
    ap (λ rows. get_or (bytes_of rows row) (address % service.unit) 0) (grew.here stripe (omega arith))
    ∙ ap (λ bytes. get_or bytes (address % service.unit) 0)
    (get_or_append_left (rows_on old stripe region)
    (replicate (row_count service region to stripe - length (rows_on old stripe region)) (zeros service.unit)) [] row there.0)

-- all others are zero
pub grew_new : (service : Service) (old new : List Kept) (region from to address : ℕ) → IsTrue (is_lawful service) →
    length old ≡ stripe_count service → HasRows service old region from → Grew service old new region to →
    from ≤ address / service.unit * service.unit → byte_of service new region address ≡ 0
unfolding byte_of
grew_new service old new region from to address lawful all has grew past =
    let stripe = (place_at service region address).stripe in
    let row = (place_at service region address).row in
    let on : stripe < stripe_count service = mod-lt (region + address / service.unit) (some_stripes service lawful) in
    let behind : row_count service region from stripe ≤ row = row_behind service region from (address / service.unit) lawful past in
    let count : length (rows_on old stripe region) ≡ row_count service region from stripe =
    counted (rows_on old stripe region) (row_count service region from stripe) service.unit (has.rows stripe on) in
    let m = row_count service region to stripe - length (rows_on old stripe region) in
    ap (λ rows. get_or (bytes_of rows row) (address % service.unit) 0) (grew.here stripe (omega arith))
    ∙ ap (λ bytes. get_or bytes (address % service.unit) 0)
    (get_or-append_right (rows_on old stripe region) (replicate m (zeros service.unit)) (length (rows_on old stripe region)) row [] refl (omega arith))
    ∙ zero_row m service.unit (row - length (rows_on old stripe region)) (address % service.unit)

-- shrinking

shrunk_lengths : (rows : List (List ℕ)) (a b w : ℕ) → map length rows ≡ replicate a w → b ≤ a → map length (take b rows) ≡ replicate b w
shrunk_lengths rows a b w shape less =
    sym (take-map length b rows) ∙ ap (take b) shape ∙ take-replicate b a w less

pub shrank_rows : (service : Service) (old new : List Kept) (region from to : ℕ) → IsTrue (is_lawful service) →
    length old ≡ stripe_count service → HasRows service old region from → to ≤ from → Shrank service old new region to →
    HasRows service new region to
shrank_rows service old new region from to lawful all has less shrank =
    record {
      rows = λ stripe on.
          ap (map length) (shrank.here stripe (omega arith))
          ∙ shrunk_lengths (rows_on old stripe region) (row_count service region from stripe) (row_count service region to stripe) service.unit
          (has.rows stripe on) (more_rows service region to from stripe lawful on less);
    }

pub shrank_bytes : (service : Service) (old new : List Kept) (region to address : ℕ) → IsTrue (is_lawful service) →
    length old ≡ stripe_count service → Shrank service old new region to → address < to →
    byte_of service new region address ≡ byte_of service old region address
unfolding byte_of
shrank_bytes service old new region to address lawful all shrank below =
    let stripe = (place_at service region address).stripe in
    let row = (place_at service region address).row in
    let on : stripe < stripe_count service = mod-lt (region + address / service.unit) (some_stripes service lawful) in
    let there : row < row_count service region to stripe =
    row_inside service region to (address / service.unit) lawful (begins service.unit address to below) in
    ap (λ rows. get_or (bytes_of rows row) (address % service.unit) 0) (shrank.here stripe (omega arith))
    ∙ ap (λ bytes. get_or bytes (address % service.unit) 0) (get_or-take (row_count service region to stripe) (rows_on old stripe region) row [] there)

-- shrinking back after an error

pub shrank_back : (service : Service) (old between new : List Kept) (region from : ℕ) →
    length old ≡ stripe_count service → length between ≡ length old → length new ≡ length between → HasRows service old region from →
    KeptFront old between region → Shrank service between new region from → (stripe : ℕ) →
    rows_on new stripe region ≡ rows_on old stripe region
shrank_back service old between new region from all count count' has kept shrank stripe =
    elim (cases_lt stripe (length old)) [
      | inl on ↦
          let same : length (rows_on old stripe region) ≡ row_count service region from stripe =
          counted (rows_on old stripe region) (row_count service region from stripe) service.unit (has.rows stripe (omega arith)) in
          shrank.here stripe (omega arith)
          ∙ ap (λ (n : ℕ). take n (rows_on between stripe region)) (sym same)
          ∙ kept.here stripe
      | inr past ↦ past_rows new stripe region (omega arith) ∙ sym (past_rows old stripe region past)
    ]

-- bytes

pub length_of_bytes : (service : Service) (stores : List Kept) (region size : ℕ) → length (bytes_in service stores region size) ≡ size
unfolding bytes_in
length_of_bytes service stores region size = length-map-range_with_len (byte_of service stores region) 0 size

pub byte_in : (service : Service) (stores : List Kept) (region size k : ℕ) → k < size →
    get_or (bytes_in service stores region size) k 0 ≡ byte_of service stores region k
unfolding bytes_in
byte_in service stores region size k below =
    get_or-map-range_with_len (byte_of service stores region) 0 size k k 0 below (omega arith)

-- bytes by what each of them is
pub bytes_are : (service : Service) (stores : List Kept) (region size : ℕ) (bytes : List ℕ) → length bytes ≡ size →
    ((k : ℕ) → k < size → byte_of service stores region k ≡ get_or bytes k 0) → bytes_in service stores region size ≡ bytes
bytes_are service stores region size bytes count each =
    let long : length (bytes_in service stores region size) ≡ size = length_of_bytes service stores region size in
    ext_get_or 0 (bytes_in service stores region size) bytes (long ∙ sym count)
    (λ k below. let there : k < size = omega (arith, long) in byte_in service stores region size k there ∙ each k there)

pub bytes_same : (service : Service) (old new : List Kept) (region size : ℕ) →
    ((k : ℕ) → k < size → byte_of service new region k ≡ byte_of service old region k) →
    bytes_in service new region size ≡ bytes_in service old region size
bytes_same service old new region size each =
    bytes_are service new region size (bytes_in service old region size) (length_of_bytes service old region size)
    (λ k below. each k below ∙ sym (byte_in service old region size k below))

pub bytes_zero : (service : Service) (stores : List Kept) (region size : ℕ) →
    ((k : ℕ) → k < size → byte_of service stores region k ≡ 0) → bytes_in service stores region size ≡ zeros size
bytes_zero service stores region size each =
    bytes_are service stores region size (zeros size) (length-replicate size 0) (λ k below. each k below ∙ sym (zero_byte size k))

pub length_resized : (bytes : List ℕ) (from to : ℕ) → length bytes ≡ from → length (resized bytes to) ≡ to
length_resized bytes from to count =
    let front = length-take to bytes in
    let back = length-replicate {A = ℕ} (to - length bytes) 0 in
    length-append (take to bytes) (zeros (to - length bytes)) ∙ omega (arith, front, back)

resized_low : (bytes : List ℕ) (from to k : ℕ) → length bytes ≡ from → k < from → k < to → get_or (resized bytes to) k 0 ≡ get_or bytes k 0
resized_low bytes from to k count low inside =
    let front = length-take to bytes in
    get_or_append_left (take to bytes) (zeros (to - length bytes)) 0 k (omega (arith, front)) ∙ get_or-take to bytes k 0 inside

resized_high : (bytes : List ℕ) (from to k : ℕ) → length bytes ≡ from → from ≤ k → k < to → get_or (resized bytes to) k 0 ≡ 0
resized_high bytes from to k count high inside =
    let front = length-take to bytes in
    let whole : length (take to bytes) ≡ from = omega (arith, front) in
    get_or-append_right (take to bytes) (zeros (to - length bytes)) from k 0 whole high
    ∙ zero_byte (to - length bytes) (k - from)

pub bytes_resized : (service : Service) (old new : List Kept) (region from to : ℕ) →
    ((k : ℕ) → k < from → k < to → byte_of service new region k ≡ byte_of service old region k) →
    ((k : ℕ) → from ≤ k → k < to → byte_of service new region k ≡ 0) →
    bytes_in service new region to ≡ resized (bytes_in service old region from) to
bytes_resized service old new region from to low high =
    let before = bytes_in service old region from in
    let count : length before ≡ from = length_of_bytes service old region from in
    bytes_are service new region to (resized before to) (length_resized before from to count)
    (λ k inside. elim (cases_lt k from) [
      | inl below ↦ low k below inside ∙ sym (byte_in service old region from k below) ∙ sym (resized_low before from to k count below inside)
      | inr past ↦ high k past inside ∙ sym (resized_high before from to k count past inside)
    ])

-- bytes after a write

pub bytes_written : (service : Service) (old new : List Kept) (region size address : ℕ) (from : List ℕ) →
    Written service old new region address from → address + length from ≤ size →
    bytes_in service new region size ≡ overwritten address from (bytes_in service old region size)
bytes_written service old new region size address from is inside =
    let before = bytes_in service old region size in
    let count : length before ≡ size = length_of_bytes service old region size in
    let room : address + length from ≤ length before = omega (arith, count) in
    bytes_are service new region size (overwritten address from before) (length-overwritten before address from room ∙ count)
    (λ k below. elim (cases_lt k address) [
      | inl low ↦ is.outside k (inl low) ∙ sym (byte_in service old region size k below) ∙ sym (byte_before before address from k 0 room low)
      | inr past ↦ elim (cases_lt k (address + length from)) [
        | inl new_one ↦
            let split : address + (k - address) ≡ k = omega arith in
            ap (byte_of service new region) (sym split)
            ∙ is.inside (k - address) (omega arith)
            ∙ sym (byte_put before address from (k - address) 0 room (omega arith))
            ∙ ap (λ (j : ℕ). get_or (overwritten address from before) j 0) split
        | inr behind ↦ is.outside k (inr behind) ∙ sym (byte_in service old region size k below) ∙ sym (byte_after before address from k 0 room behind)
      ]
    ])

-- the rest of a unit

pub has_same_shape : (service : Service) (old new : List Kept) (region size : ℕ) → HasRows service old region size →
    ((stripe : ℕ) → map length (rows_on new stripe region) ≡ map length (rows_on old stripe region)) → HasRows service new region size
has_same_shape service old new region size has shape = record { rows = λ stripe on. shape stripe ∙ has.rows stripe on }

-- some size that is no less has rows
abbrev HasMore : Service → List Kept → ℕ → ℕ → Type 0
HasMore service stores region size = (more : ℕ) × (size ≤ more) × HasRows service stores region more

rest_reach_there : (service : Service) (stores : List Kept) (region size : ℕ) (d : Kept) → IsTrue (is_lawful service) →
    length stores ≡ stripe_count service → HasMore service stores region size → 0 < size % service.unit →
    Reaches (rows_of (get_or stores (place_at service region size).stripe d) region) (place_at service region size).row
    (size % service.unit) (service.unit - size % service.unit)
rest_reach_there service stores region size d lawful all has some =
    let whole = mod-add-div' size service.unit in
    let less = has.1 in
    let place = place_at service region size in
    let there = row_is service stores region has.0 size lawful has.2 (omega (arith, whole, less)) in
    let on : place.stripe < stripe_count service = mod-lt (region + size / service.unit) (some_stripes service lawful) in
    let below : size % service.unit < service.unit = mod-lt size (wide service lawful) in
    let same : store_at stores place.stripe ≡ get_or stores place.stripe d = get_or_default stores place.stripe empty d (omega arith) in
    let count = there.1 in
    subst (λ (kept : Kept). Reaches (rows_of kept region) place.row (size % service.unit) (service.unit - size % service.unit)) same
    (there.0, omega (arith, count, below))

pub rest_reach : (service seen : Service) (stores : List Kept) (region size : ℕ) (place : Place) (d : Kept) → IsTrue (is_lawful service) →
    length stores ≡ stripe_count service → HasMore service stores region size → place ≡ place_at service region size → seen ≡ service →
    0 < place.at → Reaches (rows_of (get_or stores place.stripe d) region) place.row place.at (seen.unit - place.at)
rest_reach service seen stores region size place d lawful all has at is =
    subst (λ (s : Service). 0 < place.at → Reaches (rows_of (get_or stores place.stripe d) region) place.row place.at (s.unit - place.at)) (sym is)
    (subst (λ (p : Place). 0 < p.at → Reaches (rows_of (get_or stores p.stripe d) region) p.row p.at (service.unit - p.at)) (sym at)
    (rest_reach_there service stores region size d lawful all has))

in_rest : (w size a : ℕ) → 0 < w → size ≤ a → a / w * w < size → a < size + (w - size % w)
in_rest w size a some past starts =
    let p = mod-add-div' size w in
    let q = mod-add-div' a w in
    let l : a % w < w = mod-lt a some in
    let m : size % w < w = mod-lt size some in
    elim (cases_lt (size / w) (a / w)) [
      | inl more ↦ let next : size / w + 1 ≤ a / w = omega arith in absurd (omega (arith, mul-le-mul_right w next))
      | inr less ↦ omega (arith, mul-le-mul_right w less)
    ]

past_rest : (w size a : ℕ) → 0 < w → 0 < size % w → size ≤ a / w * w → size + (w - size % w) ≤ a
past_rest w size a some part starts =
    let p = mod-add-div' size w in
    let q = mod-add-div' a w in
    let m : size % w < w = mod-lt size some in
    elim (cases_lt (size / w) (a / w)) [
      | inl more ↦ let next : size / w + 1 ≤ a / w = omega arith in omega (arith, mul-le-mul_right w next)
      | inr less ↦ absurd (omega (arith, mul-le-mul_right w less))
    ]

pub zeroed_rest : (service : Service) (old new : List Kept) (region size : ℕ) → IsTrue (is_lawful service) → 0 < size % service.unit →
    Written service old new region size (zeros (service.unit - size % service.unit)) → Zeroed service old new region size
zeroed_rest service old new region size lawful part is =
    let w = service.unit in
    let n = w - size % w in
    let count : length (zeros n) ≡ n = length-replicate n 0 in
    let some = wide service lawful in
    record {
      count = is.count;
      shape = is.shape;
      before = λ a below. is.outside a (inl below);
      rest = λ a past starts.
          let split : size + (a - size) ≡ a = omega arith in
          let near = in_rest w size a some past starts in
          ap (byte_of service new region) (sym split) ∙ is.inside (a - size) (omega arith) ∙ zero_byte n (a - size);
      behind = λ a starts. let far = past_rest w size a some part starts in is.outside a (inr (omega arith));
      elsewhere = is.elsewhere;
    }

rest_zeroed_there : (service : Service) (stores : List Kept) (region size : ℕ) (d store : Kept) → IsTrue (is_lawful service) →
    length stores ≡ stripe_count service → HasMore service stores region size → 0 < size % service.unit →
    store ≡ with_row (get_or stores (place_at service region size).stripe d) region (place_at service region size).row
    (rows.overwritten (row_of (get_or stores (place_at service region size).stripe d) region (place_at service region size).row)
    (size % service.unit) (zeros (service.unit - size % service.unit))) →
    Zeroed service stores (slice_set stores (place_at service region size).stripe store) region size
rest_zeroed_there service stores region size d store lawful all has part changed =
    let w = service.unit in
    let n = w - size % w in
    let place = place_at service region size in
    let on : place.stripe < stripe_count service = mod-lt (region + size / w) (some_stripes service lawful) in
    let below : size % w < w = mod-lt size (wide service lawful) in
    let count : n ≡ length (zeros n) = sym (length-replicate n 0) in
    let reach = rest_reach_there service stores region size d lawful all has part in
    zeroed_rest service stores (slice_set stores place.stripe store) region size lawful part
    (written service stores region size (zeros n) place d store lawful refl (omega arith)
    (subst (λ (m : ℕ). Reaches (rows_of (get_or stores place.stripe d) region) place.row (size % w) m) count reach)
    (omega (arith, count)) changed)

pub rest_zeroed : (service seen : Service) (stores : List Kept) (region size : ℕ) (place : Place) (d store : Kept) → IsTrue (is_lawful service) →
    length stores ≡ stripe_count service → HasMore service stores region size → place ≡ place_at service region size → seen ≡ service →
    0 < place.at →
    store ≡ with_row (get_or stores place.stripe d) region place.row
    (rows.overwritten (row_of (get_or stores place.stripe d) region place.row) place.at (zeros (seen.unit - place.at))) →
    Zeroed service stores (slice_set stores place.stripe store) region size
rest_zeroed service seen stores region size place d store lawful all has at is =
    subst (λ (s : Service). 0 < place.at →
    store ≡ with_row (get_or stores place.stripe d) region place.row
    (rows.overwritten (row_of (get_or stores place.stripe d) region place.row) place.at (zeros (s.unit - place.at))) →
    Zeroed service stores (slice_set stores place.stripe store) region size) (sym is)
    (subst (λ (p : Place). 0 < p.at →
    store ≡ with_row (get_or stores p.stripe d) region p.row
    (rows.overwritten (row_of (get_or stores p.stripe d) region p.row) p.at (zeros (service.unit - p.at))) →
    Zeroed service stores (slice_set stores p.stripe store) region size) (sym at)
    (rest_zeroed_there service stores region size d store lawful all has))

-- resizing

pub resized_down : (service : Service) (old new : List Kept) (region from to : ℕ) → IsTrue (is_lawful service) →
    length old ≡ stripe_count service → length new ≡ length old → HasRows service old region from → to ≤ from → Shrank service old new region to →
    Resized service old new region from to
resized_down service old new region from to lawful all count has less shrank =
    record {
      count = count;
      rows = shrank_rows service old new region from to lawful all has less shrank;
      bytes = bytes_resized service old new region from to
          (λ k low inside. shrank_bytes service old new region to k lawful all shrank inside)
          (λ k past inside. absurd (omega arith));
      elsewhere = shrank.elsewhere;
    }

pub resized_back : (service : Service) (old between new : List Kept) (region from : ℕ) →
    length old ≡ stripe_count service → length between ≡ length old → length new ≡ length between → HasRows service old region from →
    KeptFront old between region → Shrank service between new region from → SameRows old new
resized_back service old between new region from all count count' has kept shrank stripe q =
    elim (cases_eq q region) [
      | inl same ↦
          subst (λ (n : ℕ). rows_on new stripe n ≡ rows_on old stripe n) (sym same)
          (shrank_back service old between new region from all count count' has kept shrank stripe)
      | inr apart ↦ shrank.elsewhere stripe q apart ∙ kept.elsewhere stripe q apart
    ]

pub resized_up : (service : Service) (old between new : List Kept) (region from to : ℕ) → IsTrue (is_lawful service) →
    length old ≡ stripe_count service → length between ≡ length old → HasRows service old region from → from ≤ to →
    Grew service old between region to → Zeroed service between new region from → Resized service old new region from to
resized_up service old between new region from to lawful all count has less grew zeroed =
    record {
      count = zeroed.count ∙ count;
      rows = has_same_shape service between new region to (grew_rows service old between region from to lawful all has less grew) zeroed.shape;
      bytes = bytes_resized service old new region from to
          (λ k low inside.
          zeroed.before k low ∙ grew_old service old between region from to k lawful all has grew (begins service.unit k from low))
          (λ k past inside. elim (cases_lt (k / service.unit * service.unit) from) [
            | inl starts ↦ zeroed.rest k past starts
            | inr behind ↦ zeroed.behind k behind ∙ grew_new service old between region from to k lawful all has grew behind
          ]);
      elsewhere = λ stripe q apart. zeroed.elsewhere stripe q apart ∙ grew.elsewhere stripe q apart;
    }
