-- What a write into one row does to the bytes of regions.
use Rattle.std.proofs.Common.{◌≡◌, ◌≢◌, ℕ, ◌+◌, ◌*◌, ◌/◌, ◌%◌, ◌<◌, ◌≤◌, List, [], length, map, get_or, slice_set, sym, ap, subst, ◌∙◌, inl, inr, arith}
use Rattle.std.specs.Prelude.{◌⊎◌, IsTrue}
use Rattle.std.specs.FinMap.{empty}
use Rattle.std.proofs.Math.Nat.{mod-add-div'}
use Rattle.std.proofs.Math.Seq.{map-set_same}
use Rattle.std.proofs.lemmas.Bool.{cases_eq}
use Rattle.std.proofs.lemmas.List.{length-set, get_or-set_same, get_or-set_other, get_or_default}
use Rattle.fam_model.specs.declared.piece.Place.{Place}
use Rattle.fam_model.specs.declared.service.Service.{Service}
use Rattle.fam_model.specs.Pieces.{stripe_count, place_at}
use Rattle.fam_layout.specs.Layouts.{is_lawful}
use Rattle.fam_layout.proofs.Placing.{same_unit}
use Rattle.stripe_store.specs.Kept.{Kept, rows_of, row_of, with_row}
use Rattle.stripe_store.specs.Rows.{bytes_of, overwritten, Reaches}
use Rattle.stripe_store.proofs.Laws.{rows_here, rows_elsewhere, byte_put, byte_before, byte_after, length-overwritten}
use Rattle.striped_memory.specs.Stripes.{store_at, rows_on, byte_at, byte_of, SameElsewhere}
use Rattle.striped_memory.proofs.Places.{some_stripes, further}

-- the region has these bytes from an address on, and all else is as it was
pub record Written (service : Service) (old new : List Kept) (region address : ℕ) (from : List ℕ) : Type 0 where
  pub count : length new ≡ length old
  pub shape : (stripe : ℕ) → map length (rows_on new stripe region) ≡ map length (rows_on old stripe region)
  pub inside : (i : ℕ) → i < length from → byte_of service new region (address + i) ≡ get_or from i 0
  pub outside : (b : ℕ) → (b < address) ⊎ (address + length from ≤ b) → byte_of service new region b ≡ byte_of service old region b
  pub elsewhere : SameElsewhere old new region

-- one row of one store
module _ (old : List Kept) (region s row at : ℕ) (from : List ℕ) (d store : Kept) (stripe : s < length old)
    (reach : Reaches (rows_of (get_or old s d) region) row at (length from))
    (changed : store ≡ with_row (get_or old s d) region row (overwritten (row_of (get_or old s d) region row) at from)) where
  here : get_or old s d ≡ store_at old s
  here = get_or_default old s d empty stripe

  now : store_at (slice_set old s store) s ≡ store
  now = get_or-set_same old s store empty stripe

  beside : (t : ℕ) → t ≢ s → store_at (slice_set old s store) t ≡ store_at old t
  beside t differ = get_or-set_other old s t store empty differ

  reach_here : Reaches (rows_on old s region) row at (length from)
  reach_here = subst (λ (kept : Kept). Reaches (rows_of kept region) row at (length from)) here reach

  rows_now : rows_on (slice_set old s store) s region ≡ slice_set (rows_on old s region) row (overwritten (bytes_of (rows_on old s region) row) at from)
  rows_now =
      ap (λ (kept : Kept). rows_of kept region) (now ∙ changed)
      ∙ rows_here (get_or old s d) region (slice_set (rows_of (get_or old s d) region) row (overwritten (row_of (get_or old s d) region row) at from))
      ∙ ap (λ (kept : Kept). slice_set (rows_of kept region) row (overwritten (row_of kept region row) at from)) here

  others : SameElsewhere old (slice_set old s store) region
  others t q apart =
      elim (cases_eq t s) [
        | inl same ↦
            subst (λ (n : ℕ). rows_on (slice_set old s store) n q ≡ rows_on old n q) (sym same)
            (ap (λ (kept : Kept). rows_of kept q) (now ∙ changed)
            ∙ rows_elsewhere (get_or old s d) region (slice_set (rows_of (get_or old s d) region) row (overwritten (row_of (get_or old s d) region row) at from)) q apart
            ∙ ap (λ (kept : Kept). rows_of kept q) here)
        | inr differ ↦ ap (λ (kept : Kept). rows_of kept q) (beside t differ)
      ]

  same_shape : (t : ℕ) → map length (rows_on (slice_set old s store) t region) ≡ map length (rows_on old t region)
  same_shape t =
      elim (cases_eq t s) [
        | inl same ↦
            subst (λ (n : ℕ). map length (rows_on (slice_set old s store) n region) ≡ map length (rows_on old n region)) (sym same)
            (ap (map length) rows_now
            ∙ map-set_same length (rows_on old s region) row (overwritten (bytes_of (rows_on old s region) row) at from) []
            (length-overwritten (bytes_of (rows_on old s region) row) at from reach_here.1))
        | inr differ ↦ ap (λ (kept : Kept). map length (rows_of kept region)) (beside t differ)
      ]

  row_now : bytes_of (rows_on (slice_set old s store) s region) row ≡ overwritten (bytes_of (rows_on old s region) row) at from
  row_now =
      ap (λ rows. bytes_of rows row) rows_now
      ∙ get_or-set_same (rows_on old s region) row (overwritten (bytes_of (rows_on old s region) row) at from) [] reach_here.0

  put_here : (i : ℕ) → i < length from → byte_at (slice_set old s store) region (record { stripe = s; row = row; at = at + i }) ≡ get_or from i 0
  put_here i below =
      ap (λ bytes. get_or bytes (at + i) 0) row_now ∙ byte_put (bytes_of (rows_on old s region) row) at from i 0 reach_here.1 below

  kept_here : (j : ℕ) → (j < at) ⊎ (at + length from ≤ j) →
      byte_at (slice_set old s store) region (record { stripe = s; row = row; at = j }) ≡ byte_at old region (record { stripe = s; row = row; at = j })
  kept_here j apart =
      ap (λ bytes. get_or bytes j 0) row_now
      ∙ elim apart [
        | inl before ↦ byte_before (bytes_of (rows_on old s region) row) at from j 0 reach_here.1 before
        | inr behind ↦ byte_after (bytes_of (rows_on old s region) row) at from j 0 reach_here.1 behind
      ]

  kept_row : (r j : ℕ) → r ≢ row →
      byte_at (slice_set old s store) region (record { stripe = s; row = r; at = j }) ≡ byte_at old region (record { stripe = s; row = r; at = j })
  kept_row r j differ =
      ap (λ rows. get_or (bytes_of rows r) j 0) rows_now
      ∙ ap (λ bytes. get_or bytes j 0)
      (get_or-set_other (rows_on old s region) row r (overwritten (bytes_of (rows_on old s region) row) at from) [] differ)

  kept_stripe : (t r j : ℕ) → t ≢ s →
      byte_at (slice_set old s store) region (record { stripe = t; row = r; at = j }) ≡ byte_at old region (record { stripe = t; row = r; at = j })
  kept_stripe t r j differ = ap (λ (kept : Kept). get_or (bytes_of (rows_of kept region) r) j 0) (beside t differ)

  -- a place that is not one of the written ones
  kept_place : (t r j : ℕ) → (t ≡ s → r ≡ row → (j < at) ⊎ (at + length from ≤ j)) →
      byte_at (slice_set old s store) region (record { stripe = t; row = r; at = j }) ≡ byte_at old region (record { stripe = t; row = r; at = j })
  kept_place t r j apart =
      elim (cases_eq t s) [
        | inl same ↦ elim (cases_eq r row) [
          | inl also ↦
              let P : ℕ → ℕ → Type 0 = λ n m. byte_at (slice_set old s store) region (record { stripe = n; row = m; at = j }) ≡ byte_at old region (record { stripe = n; row = m; at = j }) in
              subst (λ (n : ℕ). P n r) (sym same) (subst (λ (m : ℕ). P s m) (sym also) (kept_here j (apart same also)))
          | inr differ ↦
              subst (λ (n : ℕ). byte_at (slice_set old s store) region (record { stripe = n; row = r; at = j }) ≡ byte_at old region (record { stripe = n; row = r; at = j })) (sym same)
              (kept_row r j differ)
        ]
        | inr differ ↦ kept_stripe t r j differ
      ]

apart_in_unit : (w address n b : ℕ) → b / w ≡ address / w → (b < address) ⊎ (address + n ≤ b) → (b % w < address % w) ⊎ (address % w + n ≤ b % w)
apart_in_unit w address n b same apart =
    let p = mod-add-div' b w in
    let q = mod-add-div' address w in
    let products : b / w * w ≡ address / w * w = ap (λ (k : ℕ). k * w) same in
    elim apart [ inl before ↦ inl (omega arith) | inr behind ↦ inr (omega arith) ]

-- the bytes from an address on, written at its place
written_there : (service : Service) (old : List Kept) (region address : ℕ) (from : List ℕ) (d store : Kept) →
    IsTrue (is_lawful service) → (place_at service region address).stripe < length old →
    Reaches (rows_of (get_or old (place_at service region address).stripe d) region) (place_at service region address).row (place_at service region address).at (length from) →
    address % service.unit + length from ≤ service.unit →
    store ≡ with_row (get_or old (place_at service region address).stripe d) region (place_at service region address).row
    (overwritten (row_of (get_or old (place_at service region address).stripe d) region (place_at service region address).row) (place_at service region address).at from) →
    Written service old (slice_set old (place_at service region address).stripe store) region address from
unfolding byte_of
written_there service old region address from d store lawful stripe reach fits changed =
    let s = stripe_count service in
    let place = place_at service region address in
    record {
      count = length-set old place.stripe store;
      shape = same_shape old region place.stripe place.row place.at from d store stripe reach changed;
      inside = λ i below.
          ap (byte_at (slice_set old place.stripe store) region) (further service region address i (omega arith))
          ∙ put_here old region place.stripe place.row place.at from d store stripe reach changed i below;
      outside = λ b apart.
          kept_place old region place.stripe place.row place.at from d store stripe reach changed
          ((region + b / service.unit) % s) (b / service.unit / s) (b % service.unit)
          (λ same also. apart_in_unit service.unit address (length from) b
          (same_unit s region (b / service.unit) (address / service.unit) (some_stripes service lawful) same also) apart);
      elsewhere = others old region place.stripe place.row place.at from d store stripe reach changed;
    }

pub written : (service : Service) (old : List Kept) (region address : ℕ) (from : List ℕ) (place : Place) (d store : Kept) →
    IsTrue (is_lawful service) → place ≡ place_at service region address → place.stripe < length old →
    Reaches (rows_of (get_or old place.stripe d) region) place.row place.at (length from) →
    address % service.unit + length from ≤ service.unit →
    store ≡ with_row (get_or old place.stripe d) region place.row (overwritten (row_of (get_or old place.stripe d) region place.row) place.at from) →
    Written service old (slice_set old place.stripe store) region address from
written service old region address from place d store lawful at =
    subst
    (λ (place : Place). place.stripe < length old →
    Reaches (rows_of (get_or old place.stripe d) region) place.row place.at (length from) → address % service.unit + length from ≤ service.unit →
    store ≡ with_row (get_or old place.stripe d) region place.row (overwritten (row_of (get_or old place.stripe d) region place.row) place.at from) →
    Written service old (slice_set old place.stripe store) region address from)
    (sym at) (written_there service old region address from d store lawful)
