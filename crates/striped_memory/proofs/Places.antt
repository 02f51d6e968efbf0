-- Units, their stripes and their rows, in numbers.
use Rattle.std.proofs.Common.{◌≡◌, ℕ, ◌+◌, ◌-◌, ◌*◌, ◌/◌, ◌%◌, ◌<◌, ◌≤◌, refl, ap, ◌∙◌, inl, inr, arith}
use Rattle.std.specs.Prelude.{◌⊎◌, IsTrue}
use Rattle.std.specs.Int.{div_ceil}
use Rattle.std.proofs.Math.Nat.{mod-add-mod, mod-add-div', mod-lt, add-mul-mod_self_right, mul-le-mul_right}
use Rattle.std.proofs.lemmas.Bool.Decides.{nat_tests}
use Rattle.std.proofs.lemmas.Grind.{div_ceil_times}
use Rattle.std.proofs.lemmas.Nat.{le-div, div-mul-add, mod-mul-add}
use Rattle.fam_model.specs.declared.service.Service.{Service}
use Rattle.fam_model.specs.Pieces.{stripe_count, place_at}
use Rattle.fam_layout.specs.Layouts.{is_lawful}
use Rattle.striped_memory.specs.Striped.{first_unit, address_at}
use Rattle.striped_memory.specs.Stripes.{row_count}
use Rattle.striped_memory.specs.Laws.{RowsAreExact, AddressesComeBack}

pub some_stripes : (service : Service) → IsTrue (is_lawful service) → 0 < stripe_count service
some_stripes service lawful = grind (arith, nat_tests)

pub wide : (service : Service) → IsTrue (is_lawful service) → 0 < service.unit
wide service lawful = grind (arith, nat_tests)

pub order : (a b : ℕ) → (a < b) ⊎ (b ≤ a)
order a b = grind arith

-- the remainder that is left out and the one that is put back
back : (r u s : ℕ) → 0 < s → ((r + u) % s + (s - r % s)) % s ≡ u % s
back r u s pos =
    let l : r % s < s = mod-lt r pos in
    let d : r % s + r / s * s ≡ r = mod-add-div' r s in
    let f : r + u + (s - r % s) ≡ u + (1 + r / s) * s = omega arith in
    mod-add-mod (r + u) s (s - r % s) ∙ (ap (λ (n : ℕ). n % s) f ∙ add-mul-mod_self_right u (1 + r / s) s)

-- the first unit of a region on the stripe of a unit
pub first_is : (service : Service) (region unit : ℕ) → 0 < stripe_count service →
    first_unit service region ((region + unit) % stripe_count service) ≡ unit % stripe_count service
unfolding first_unit
first_is service region unit some = back region unit (stripe_count service) some

pub first_below : (service : Service) (region stripe : ℕ) → 0 < stripe_count service →
    first_unit service region stripe < stripe_count service
unfolding first_unit
first_below service region stripe some = mod-lt (stripe + (stripe_count service - region % stripe_count service)) some

address_by : (s w f r a at u n : ℕ) → f ≡ u % s → r ≡ u / s → u ≡ n / w → at ≡ n % w → (r * s + f) * w + at ≡ n
address_by s w f r a at u n first row unit byte =
    let p : u % s + u / s * s ≡ u = mod-add-div' u s in
    let q : n % w + n / w * w ≡ n = mod-add-div' n w in
    let t : r * s + f ≡ n / w = ap (λ (k : ℕ). k * s + f) row ∙ ap (λ (k : ℕ). u / s * s + k) first ∙ omega arith in
    ap (λ (k : ℕ). k * w + at) t ∙ omega arith

-- the address of its place
pub address_is : AddressesComeBack
unfolding address_at
address_is service region address lawful =
    address_by (stripe_count service) service.unit
    (first_unit service region ((region + address / service.unit) % stripe_count service))
    (address / service.unit / stripe_count service) 0 (address % service.unit) (address / service.unit) address
    (first_is service region (address / service.unit) (some_stripes service lawful)) refl refl refl

-- a unit is there exactly where it begins below the size
pub unit_there : (size w u : ℕ) → 0 < w → u * w < size → u < div_ceil size w
unit_there size w u some below =
    let bound = div_ceil_times size w some in
    elim (order u (div_ceil size w)) [
      | inl there ↦ there
      | inr past ↦ absurd (omega (arith, bound.0, mul-le-mul_right w past))
    ]

pub unit_begins : (size w u : ℕ) → 0 < w → u < div_ceil size w → u * w < size
unit_begins size w u some there =
    let bound = div_ceil_times size w some in
    let next : u + 1 ≤ div_ceil size w = omega arith in
    omega (arith, bound.1, mul-le-mul_right w next)

-- a row is there exactly where its unit is
pub row_there : (d s f row : ℕ) → f < s → row * s + f < d → row < (d + (s - 1 - f)) / s
row_there d s f row below unit =
    let least : row + 1 ≤ (d + (s - 1 - f)) / s = le-div (row + 1) (d + (s - 1 - f)) s (omega arith) (omega arith) in
    omega arith

pub row_of_unit : (d s f row : ℕ) → f < s → row < (d + (s - 1 - f)) / s → row * s + f < d
row_of_unit d s f row below there =
    let next : row + 1 ≤ (d + (s - 1 - f)) / s = omega arith in
    let whole = mod-add-div' (d + (s - 1 - f)) s in
    omega (arith, whole, mul-le-mul_right s next)

pub rows_are_exact : RowsAreExact
unfolding row_count address_at
rows_are_exact service region size stripe row lawful on =
    let some = some_stripes service lawful in
    let s = stripe_count service in
    let f = first_unit service region stripe in
    let below = first_below service region stripe some in (
      λ there. let begins = unit_begins size service.unit (row * s + f) (wide service lawful) (row_of_unit (div_ceil size service.unit) s f row below there) in omega (arith, begins),
      λ inside. row_there (div_ceil size service.unit) s f row below (unit_there size service.unit (row * s + f) (wide service lawful) (omega arith)),
    )

-- the row of a unit, and the count of the rows on its stripe
pub row_inside : (service : Service) (region size unit : ℕ) → IsTrue (is_lawful service) → unit * service.unit < size →
    unit / stripe_count service < row_count service region size ((region + unit) % stripe_count service)
unfolding row_count
row_inside service region size unit lawful begins =
    let some = some_stripes service lawful in
    let s = stripe_count service in
    let first = first_is service region unit some in
    let below = first_below service region ((region + unit) % s) some in
    let whole = mod-add-div' unit s in
    let there = unit_there size service.unit unit (wide service lawful) begins in
    row_there (div_ceil size service.unit) s (first_unit service region ((region + unit) % s)) (unit / s) below
    (omega (arith, first, whole, there))

pub row_behind : (service : Service) (region size unit : ℕ) → IsTrue (is_lawful service) → size ≤ unit * service.unit →
    row_count service region size ((region + unit) % stripe_count service) ≤ unit / stripe_count service
unfolding row_count
row_behind service region size unit lawful past =
    let some = some_stripes service lawful in
    let s = stripe_count service in
    let f = first_unit service region ((region + unit) % s) in
    let first : f ≡ unit % s = first_is service region unit some in
    let below : f < s = first_below service region ((region + unit) % s) some in
    let whole = mod-add-div' unit s in
    elim (order (unit / s) ((div_ceil size service.unit + (s - 1 - f)) / s)) [
      | inl there ↦
          let u : unit / s * s + f < div_ceil size service.unit = row_of_unit (div_ceil size service.unit) s f (unit / s) below there in
          let begins = unit_begins size service.unit unit (wide service lawful) (omega (arith, whole, first, u)) in
          absurd (omega (arith, begins))
      | inr done ↦ done
    ]

-- bytes further on in a unit
pub further_unit : (w address i : ℕ) → address % w + i < w → (address + i) / w ≡ address / w
further_unit w address i inside =
    let whole = mod-add-div' address w in
    let split : address + i ≡ address / w * w + (address % w + i) = omega (arith, whole) in
    ap (λ (n : ℕ). n / w) split ∙ div-mul-add (address / w) w (address % w + i) inside

pub further_byte : (w address i : ℕ) → address % w + i < w → (address + i) % w ≡ address % w + i
further_byte w address i inside =
    let whole = mod-add-div' address w in
    let split : address + i ≡ address / w * w + (address % w + i) = omega (arith, whole) in
    ap (λ (n : ℕ). n % w) split ∙ mod-mul-add (address / w) w (address % w + i) inside

pub further : (service : Service) (region address i : ℕ) → address % service.unit + i < service.unit →
    place_at service region (address + i)
    ≡ record { stripe = (place_at service region address).stripe; row = (place_at service region address).row; at = address % service.unit + i }
further service region address i inside =
    let unit = further_unit service.unit address i inside in
    let byte = further_byte service.unit address i inside in
    λ j. record {
      stripe = (region + unit j) % stripe_count service;
      row = unit j / stripe_count service;
      at = byte j;
    }
