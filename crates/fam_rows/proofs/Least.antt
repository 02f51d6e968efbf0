-- The least base fits, and no lower one does.
use Rattle.std.proofs.Common.{◌≡◌, ℕ, ◌+◌, ◌*◌, ◌/◌, ◌%◌, ◌<◌, Bool, true, false, eqb, leb, ltb, List, [], ◌∷◌, length, get_or, Some, None, is_some, IsSome, inl, inr, refl, sym, ap, ◌∙◌, arith}
use mathlib.Core.Bool.{not}
use Rattle.std.specs.List.{list_all, position_or_len, slice_get}
use Rattle.std.proofs.lemmas.Bool.{cases_Bool, cases_lt, eqb-true, leb-true, both_ways, not-false}
use Rattle.std.proofs.lemmas.List.Folds.{find_at}
use Rattle.std.proofs.lemmas.List.FromFn.{get_or-map-range_with_len, length-map-range_with_len}
use Rattle.std.proofs.lemmas.List.Sums.{fails_before_first}
use Rattle.std.proofs.lemmas.Option.{slice_get_past, get_or_from_slice_get}
use Rattle.fam_base.specs.Name.{is_good_name}
use Rattle.fam_base.specs.Permission.{is_allowed}
use Rattle.fam_base.specs.declared.error.FamError.{FamError}
use Rattle.fam_base.specs.declared.error.FamError.TheVariants.{Absent, NoPermission, TooLarge, NoSpace, Exists, BadName}
use Rattle.fam_base.specs.declared.naming.Need.TheVariants.{Write}
use Rattle.fam_base.specs.declared.naming.Who.{Who}
use Rattle.fam_model.specs.declared.request.Request.{Request}
use Rattle.fam_model.specs.declared.request.Request.TheVariants as request
use Rattle.fam_model.specs.declared.rows.RegionRow.{RegionRow}
use Rattle.fam_model.specs.declared.rows.Rows.{Rows}
use Rattle.fam_model.specs.Directory.{first_case, error_or, refusal, may_lie, first_base}
use Rattle.fam_model.specs.Limits.{max_region_size, max_items, number_end}
use Rattle.fam_model.specs.Lists.{◌>>=◌}
use Rattle.fam_model.specs.Rows.{room, fits, is_beside, items_in, bases_up_to, least_base, no_gap, region_of, item_named, region_number, region_owner}
use Rattle.fam_rows.proofs.Edits.{All_unfound}
use Rattle.fam_rows.proofs.Searches.{passes_found, find_none}
use Rattle.fam_rows.proofs.Served.{passed, there_passed}
use Rattle.fam_rows.proofs.Standing.{three_parts, came_of, tested}

-- a base that fits is one of those that are tried
tried : (rows : Rows) (row : RegionRow) (n b : ℕ) → fits rows row n b ≡ true → (64 * (b / 64) ≡ b) × (b / 64 < row.size / 64 + 1)
tried rows row n b e =
    let parts = three_parts (eqb (b % 64) 0) (leb (b + room n) row.size) (list_all (is_beside n b) (items_in rows (region_number row))) e in
    let aligned : b % 64 ≡ 0 = eqb-true _ _ parts.0 in
    let within = leb-true (b + room n) row.size parts.1 in
    (omega arith, omega (arith, within))

-- the bases that are tried, by their places
base_at : (size j : ℕ) → j < size / 64 + 1 → get_or (bases_up_to size) j 0 ≡ 64 * j
base_at size j lt = get_or-map-range_with_len (λ i. 64 * i) 0 (size / 64 + 1) j j 0 lt (omega arith)

-- where the search stops
stop : (rows : Rows) (row : RegionRow) (n base : ℕ) → least_base rows row n ≡ Some base → (position_or_len (fits rows row n) (bases_up_to row.size) < row.size / 64 + 1) × (base ≡ 64 * position_or_len (fits rows row n) (bases_up_to row.size))
stop rows row n base e =
    let p : ℕ → Bool = fits rows row n in
    let bases = bases_up_to row.size in
    let place = position_or_len p bases in
    let read : slice_get bases place ≡ Some base = sym (find_at p bases) ∙ e in
    let count : length bases ≡ row.size / 64 + 1 = length-map-range_with_len (λ i. 64 * i) 0 (row.size / 64 + 1) in
    elim (cases_lt place (length bases)) [
      | inl inside ↦
          let lt : place < row.size / 64 + 1 = omega (arith, inside, count) in
          (lt, sym (get_or_from_slice_get bases place base 0 read) ∙ base_at row.size place lt)
      | inr past ↦ absurd (cc (sym (slice_get_past bases place past) ∙ read))
    ]

pub least_fits : (rows : Rows) (row : RegionRow) (n base : ℕ) → least_base rows row n ≡ Some base → fits rows row n base ≡ true
least_fits rows row n base e = passes_found (fits rows row n) (bases_up_to row.size) base e

pub none_lower : (rows : Rows) (row : RegionRow) (n base lower : ℕ) → least_base rows row n ≡ Some base → lower < base → fits rows row n lower ≡ false
none_lower rows row n base lower e below = elim (cases_Bool (fits rows row n lower)) [
  | inl holds ↦ absurd (
      let at_end = stop rows row n base e in
      let place = tried rows row n lower holds in
      let before : lower / 64 < position_or_len (fits rows row n) (bases_up_to row.size) = omega (arith, at_end.1, place.0) in
      let fails = fails_before_first (fits rows row n) (bases_up_to row.size) (lower / 64) 0 before in
      let here : get_or (bases_up_to row.size) (lower / 64) 0 ≡ lower = base_at row.size (lower / 64) place.1 ∙ place.0 in
      both_ways (fits rows row n lower) (sym (ap (fits rows row n) here) ∙ fails) holds)
  | inr fails ↦ fails
]

pub none_fits : (rows : Rows) (row : RegionRow) (n base : ℕ) → least_base rows row n ≡ None → fits rows row n base ≡ false
none_fits rows row n base e = elim (cases_Bool (fits rows row n base)) [
  | inl holds ↦ absurd (
      let place = tried rows row n base holds in
      let count : length (bases_up_to row.size) ≡ row.size / 64 + 1 = length-map-range_with_len (λ i. 64 * i) 0 (row.size / 64 + 1) in
      let fails = All_unfound (fits rows row n) (bases_up_to row.size) e (base / 64) 0 (omega (arith, place.1, count)) in
      let here : get_or (bases_up_to row.size) (base / 64) 0 ≡ base = base_at row.size (base / 64) place.1 ∙ place.0 in
      both_ways (fits rows row n base) (sym (ap (fits rows row n) here) ∙ fails) holds)
  | inr fails ↦ fails
]

-- where a new item of a request would lie, it may lie
pub first_lies : (rows : Rows) (asked : Request) (base : ℕ) → first_base rows asked ≡ Some base → may_lie rows asked base ≡ true
first_lies rows (request.Allocate name size mode region) base e =
    let came = came_of (region_of rows region.0) (λ row. least_base rows row size) base e in
    tested (region_of rows region.0) (λ row. fits rows row size base) came.0 came.1 (least_fits rows came.0 size base came.2)
first_lies rows asked base e = refl

-- a request that is not refused has a first base
pub first_there : (rows : Rows) (who : Who) (asked : Request) → refusal rows who asked ≡ None → IsSome (first_base rows asked)
first_there rows who (request.Allocate name size mode region) none =
    let behind : RegionRow → List (Bool × FamError) = λ row.
    (is_some (item_named rows region.0 name), Exists)
    ∷ (not (is_allowed (region_owner row) row.mode who Write), NoPermission)
    ∷ (leb max_items (length rows.items), NoSpace)
    ∷ (no_gap rows row size, NoSpace)
    ∷ (leb number_end rows.next_item, NoSpace)
    ∷ [] in
    let named = passed (not (is_good_name name)) BadName _ none in
    let sized = passed (ltb max_region_size size) TooLarge (first_case (error_or Absent (region_of rows region.0) behind)) named.1 in
    let there = there_passed Absent (region_of rows region.0) behind sized.1 in
    let fresh = passed (is_some (item_named rows region.0 name)) Exists _ there.2 in
    let allowed = passed (not (is_allowed (region_owner there.0) there.0.mode who Write)) NoPermission _ fresh.1 in
    let counted = passed (leb max_items (length rows.items)) NoSpace _ allowed.1 in
    let gap = passed (no_gap rows there.0 size) NoSpace (first_case ((leb number_end rows.next_item, NoSpace) ∷ [])) counted.1 in
    let some : is_some (least_base rows there.0 size) ≡ true = not-false (is_some (least_base rows there.0 size)) (find_none (fits rows there.0 size) (bases_up_to there.0.size) ∙ gap.0) in
    ap (λ o. is_some (o >>= λ row. least_base rows row size)) there.1 ∙ some
first_there rows who asked none = refl
