-- What the rows of each region are after a change.
use Rattle.std.proofs.Common.{◌≡◌, ℕ, Bool, true, false, cond, List, [], ◌∷◌, refl, sym, ap, ◌∙◌}
use Rattle.std.specs.Prelude.{Option, Some, None, unwrap_or}
use Rattle.std.specs.Ordering.{nat_cmp, eq_by_cmp}
use Rattle.std.specs.Cmp.{nat_cmp_total}
use Rattle.std.specs.FinMap.{empty, get, get-empty, get-insert, get-remove, same_map, nat_cmp-IsAntisymmetric}
use Rattle.stripe_store.specs.Kept.{Kept, rows_of, with_rows}

-- what a map has where these are the rows
abbrev pub shown : List (List ℕ) → Option (List (List ℕ))
shown [] = None
shown (row ∷ rows) = Some (row ∷ rows)

shown_back : (rows : List (List ℕ)) → unwrap_or (shown rows) [] ≡ rows
shown_back [] = refl
shown_back (row ∷ rows) = refl

-- what a map has at each number after a change at one
pub get-with_rows : (kept : Kept) (region : ℕ) (rows : List (List ℕ)) (q : ℕ) → get (with_rows kept region rows) q ≡ cond (eq_by_cmp nat_cmp q region) (shown rows) (get kept q)
get-with_rows kept region [] q = get-remove nat_cmp_total kept region q
get-with_rows kept region (row ∷ rows) q = get-insert nat_cmp_total kept region (row ∷ rows) q

rows_in : (b : Bool) (rows : List (List ℕ)) (o : Option (List (List ℕ))) → unwrap_or (cond b (shown rows) o) [] ≡ cond b rows (unwrap_or o [])
rows_in true rows o = shown_back rows
rows_in false rows o = refl

-- the rows of each region after a change at one
pub rows_of-with_rows : (kept : Kept) (region : ℕ) (rows : List (List ℕ)) (q : ℕ) → rows_of (with_rows kept region rows) q ≡ cond (eq_by_cmp nat_cmp q region) rows (rows_of kept q)
rows_of-with_rows kept region rows q =
    ap (λ o. unwrap_or o []) (get-with_rows kept region rows q) ∙ rows_in (eq_by_cmp nat_cmp q region) rows (get kept q)

-- no region has rows in an empty store
pub rows_of-empty : (q : ℕ) → rows_of empty q ≡ []
rows_of-empty q = ap (λ o. unwrap_or o []) (get-empty nat_cmp q)

-- no region is there with no rows
abbrev pub IsTidy : Kept → Type 0
IsTidy kept = (q : ℕ) → get kept q ≡ shown (rows_of kept q)

tidy_in : (b : Bool) (rows : List (List ℕ)) (o : Option (List (List ℕ))) → o ≡ shown (unwrap_or o []) → cond b (shown rows) o ≡ shown (cond b rows (unwrap_or o []))
tidy_in true rows o tidy = refl
tidy_in false rows o tidy = tidy

pub tidy-empty : IsTidy empty
tidy-empty q = get-empty nat_cmp q ∙ ap shown (sym (rows_of-empty q))

pub tidy-with_rows : (kept : Kept) (region : ℕ) (rows : List (List ℕ)) → IsTidy kept → IsTidy (with_rows kept region rows)
tidy-with_rows kept region rows tidy q =
    get-with_rows kept region rows q ∙ tidy_in (eq_by_cmp nat_cmp q region) rows (get kept q) (tidy q)
    ∙ ap shown (sym (rows_of-with_rows kept region rows q))

-- with the same rows of each region two are the same
pub same_kept : (a b : Kept) → IsTidy a → IsTidy b → ((q : ℕ) → rows_of a q ≡ rows_of b q) → a ≡ b
same_kept a b tidy_a tidy_b same =
    same_map nat_cmp_total nat_cmp-IsAntisymmetric a b (λ q. tidy_a q ∙ ap shown (same q) ∙ sym (tidy_b q))
