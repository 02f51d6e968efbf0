-- What a walk over all stores has done to the rows of one region.
use Rattle.std.proofs.Common.{◌≡◌, ◌≢◌, ℕ, ◌+◌, ◌<◌, ◌≤◌, List, [], length, take, get_or, slice_set, refl, sym, ap, subst, ◌∙◌, inl, inr, arith}
use Rattle.std.specs.FinMap.{empty}
use Rattle.std.proofs.lemmas.Bool.{cases_eq, cases_lt}
use Rattle.std.proofs.lemmas.List.{length-set, get_or-set_same, get_or-set_other, get_or_default, get_or_past}
use Rattle.stripe_store.specs.Kept.{Kept, rows_of, with_rows}
use Rattle.stripe_store.specs.Rows.{grown}
use Rattle.stripe_store.proofs.Laws.{no_rows, rows_here, rows_elsewhere}
use Rattle.fam_model.specs.declared.service.Service.{Service}
use Rattle.striped_memory.specs.Stripes.{store_at, rows_on, row_count, SameElsewhere, Dropped}

-- the stores before i have new rows of the region, and all else is as it was
pub record Walked (change : ℕ → List (List ℕ) → List (List ℕ)) (region i : ℕ) (old new : List Kept) : Type 0 where
  pub count : length new ≡ length old
  pub here : (k : ℕ) → k < i → rows_on new k region ≡ change k (rows_on old k region)
  pub left : (k : ℕ) → i ≤ k → store_at new k ≡ store_at old k
  pub elsewhere : SameElsewhere old new region

pub walked_none : (change : ℕ → List (List ℕ) → List (List ℕ)) (region : ℕ) (old : List Kept) → Walked change region 0 old old
walked_none change region old =
    record { count = refl; here = λ k below. absurd (omega arith); left = λ k past. refl; elsewhere = λ k other differ. refl }

pub walked_more : (change : ℕ → List (List ℕ) → List (List ℕ)) (region i : ℕ) (old new : List Kept) (store : Kept) →
    Walked change region i old new → i < length old →
    store ≡ with_rows (store_at new i) region (change i (rows_on new i region)) →
    Walked change region (i + 1) old (slice_set new i store)
walked_more change region i old new store walked inside changed =
    let count = walked.count in
    let there : i < length new = omega arith in
    let now : store_at (slice_set new i store) i ≡ store = get_or-set_same new i store empty there in
    let other : (k : ℕ) → k ≢ i → store_at (slice_set new i store) k ≡ store_at new k =
    λ k differ. get_or-set_other new i k store empty differ in
    let start : store_at new i ≡ store_at old i = walked.left i (omega arith) in
    record {
      count = length-set new i store ∙ count;
      here = λ k below.
          elim (cases_eq k i) [
            | inl same ↦
                subst (λ (n : ℕ). rows_on (slice_set new i store) n region ≡ change n (rows_on old n region)) (sym same)
                (ap (λ kept. rows_of kept region) (now ∙ changed) ∙ rows_here (store_at new i) region (change i (rows_on new i region))
                ∙ ap (λ kept. change i (rows_of kept region)) start)
            | inr differ ↦ ap (λ kept. rows_of kept region) (other k differ) ∙ walked.here k (omega (arith, differ))
          ];
      left = λ k past. let differ : k ≢ i = omega arith in other k differ ∙ walked.left k (omega arith);
      elsewhere = λ k q apart.
          elim (cases_eq k i) [
            | inl same ↦
                subst (λ (n : ℕ). rows_on (slice_set new i store) n q ≡ rows_on old n q) (sym same)
                (ap (λ kept. rows_of kept q) (now ∙ changed)
                ∙ rows_elsewhere (store_at new i) region (change i (rows_on new i region)) q apart
                ∙ ap (λ kept. rows_of kept q) start)
            | inr differ ↦ ap (λ kept. rows_of kept q) (other k differ) ∙ walked.elsewhere k q apart
          ];
    }

-- so many rows, at least
abbrev pub to_grown : Service → ℕ → ℕ → ℕ → List (List ℕ) → List (List ℕ)
to_grown service region size k rows = grown rows (row_count service region size k) service.unit

-- so many rows, at most
abbrev pub to_shrunk : Service → ℕ → ℕ → ℕ → List (List ℕ) → List (List ℕ)
to_shrunk service region size k rows = take (row_count service region size k) rows

-- no rows
abbrev pub to_none : ℕ → List (List ℕ) → List (List ℕ)
to_none k rows = []

-- the same, from the element that the walk is at
pub walked_by : (change : ℕ → List (List ℕ) → List (List ℕ)) (region i : ℕ) (old new : List Kept) (d store : Kept) →
    Walked change region i old new → i < length new →
    store ≡ with_rows (get_or new i d) region (change i (rows_of (get_or new i d) region)) →
    Walked change region (i + 1) old (slice_set new i store)
walked_by change region i old new d store walked inside changed =
    let count = walked.count in
    walked_more change region i old new store walked (omega (arith, count))
    (changed ∙ ap (λ (kept : Kept). with_rows kept region (change i (rows_of kept region))) (get_or_default new i d empty inside))

-- no store, no rows
pub past_rows : (stores : List Kept) (stripe region : ℕ) → length stores ≤ stripe → rows_on stores stripe region ≡ []
past_rows stores stripe region past =
    ap (λ kept. rows_of kept region) (get_or_past stores stripe empty past) ∙ no_rows region

pub walked_dropped : (region i : ℕ) (old new : List Kept) → Walked to_none region i old new → length new ≤ i → Dropped old new region
walked_dropped region i old new walked all =
    record {
      here = λ stripe. elim (cases_lt stripe i) [ inl below ↦ walked.here stripe below | inr past ↦ past_rows new stripe region (omega arith) ];
      elsewhere = walked.elsewhere;
    }
