-- What a caller knows after a change, of rows and of bytes.
use Rattle.std.proofs.Common.{◌≡◌, ◌≢◌, ℕ, ◌+◌, ◌-◌, ◌<◌, ◌≤◌, ◌==◌, cond, List, [], ◌++◌, length, take, drop, get_or, slice_range, slice_set, ap, subst, ◌∙◌, append_assoc, arith}
use Rattle.std.specs.Prelude.{if◌then◌else◌}
use Rattle.std.specs.FinMap.{empty}
use Rattle.std.specs.Cmp.{unsigned_tied}
use Rattle.std.proofs.Math.Seq.{drop-append_seam, take-append_seam}
use Rattle.std.proofs.lemmas.Bool.Decides.{nat_tests}
use Rattle.std.proofs.lemmas.Grind.{common_steps}
use Rattle.std.proofs.lemmas.List.{length-append, length-set, get_or-set_same, length-drop, length-take-le}
use Rattle.stripe_store.specs.Rows.{bytes_of, overwritten}
use Rattle.stripe_store.specs.Kept.{Kept, rows_of, row_of, with_rows, with_row}
use Rattle.stripe_store.proofs.Kept.{rows_of-with_rows, rows_of-empty}

-- in an empty store no region has rows
pub no_rows : (q : ℕ) → rows_of empty q ≡ []
no_rows q = rows_of-empty q

-- the rows of each region after a change at one
pub rows_after : (kept : Kept) (region : ℕ) (rows : List (List ℕ)) (q : ℕ) → rows_of (with_rows kept region rows) q ≡ (if q == region then rows else rows_of kept q)
rows_after kept region rows q =
    rows_of-with_rows kept region rows q ∙ ap (λ b. cond b rows (rows_of kept q)) (unsigned_tied q region)

-- at that region
pub rows_here : (kept : Kept) (region : ℕ) (rows : List (List ℕ)) → rows_of (with_rows kept region rows) region ≡ rows
rows_here kept region rows =
    let after = rows_after kept region rows region in grind (arith, nat_tests)

-- and at each other
pub rows_elsewhere : (kept : Kept) (region : ℕ) (rows : List (List ℕ)) (q : ℕ) → q ≢ region → rows_of (with_rows kept region rows) q ≡ rows_of kept q
rows_elsewhere kept region rows q other =
    let after = rows_after kept region rows q in grind (arith, nat_tests)

-- a row after a change of it
pub row_here : (kept : Kept) (region row : ℕ) (bytes : List ℕ) → row < length (rows_of kept region) → row_of (with_row kept region row bytes) region row ≡ bytes
row_here kept region row bytes there =
    ap (λ rows. bytes_of rows row) (rows_here kept region (slice_set (rows_of kept region) row bytes))
    ∙ get_or-set_same (rows_of kept region) row bytes [] there

-- and each other row
pub row_beside : (kept : Kept) (region row other : ℕ) (bytes : List ℕ) → other ≢ row → row_of (with_row kept region row bytes) region other ≡ row_of kept region other
row_beside kept region row other bytes differ =
    ap (λ rows. bytes_of rows other) (rows_here kept region (slice_set (rows_of kept region) row bytes))
    ∙ grind (arith, common_steps)

-- no row comes or goes
pub count_kept : (kept : Kept) (region row : ℕ) (bytes : List ℕ) → length (rows_of (with_row kept region row bytes) region) ≡ length (rows_of kept region)
count_kept kept region row bytes =
    ap length (rows_here kept region (slice_set (rows_of kept region) row bytes)) ∙ length-set (rows_of kept region) row bytes

-- other bytes leave the length
pub length-overwritten : (row : List ℕ) (at : ℕ) (bytes : List ℕ) → at + length bytes ≤ length row → length (overwritten row at bytes) ≡ length row
length-overwritten row at bytes inside =
    let front : length (take at row) ≡ at = length-take-le at row (omega arith) in
    simp (length-append, length-drop) (omega arith)

between : (xs ys zs : List ℕ) → slice_range (xs ++ ys ++ zs) (length xs) (length xs + length ys) ≡ ys
between xs ys zs =
    let count : (length xs + length ys) - length xs ≡ length ys = omega arith in
    rw (append_assoc, drop-append_seam, count, take-append_seam)

-- what was put is there
pub range-overwritten : (row : List ℕ) (at : ℕ) (bytes : List ℕ) → at + length bytes ≤ length row → slice_range (overwritten row at bytes) at (at + length bytes) ≡ bytes
range-overwritten row at bytes inside =
    let front : length (take at row) ≡ at = length-take-le at row (omega arith) in
    subst (λ n. slice_range (overwritten row at bytes) n (n + length bytes) ≡ bytes) front (between (take at row) bytes (drop (at + length bytes) row))

-- a byte that was put, and those before and after
pub byte_put : (row : List ℕ) (at : ℕ) (bytes : List ℕ) (i d : ℕ) → at + length bytes ≤ length row → i < length bytes → get_or (overwritten row at bytes) (at + i) d ≡ get_or bytes i d
byte_put row at bytes i d inside below = grind (arith, common_steps)

pub byte_before : (row : List ℕ) (at : ℕ) (bytes : List ℕ) (i d : ℕ) → at + length bytes ≤ length row → i < at → get_or (overwritten row at bytes) i d ≡ get_or row i d
byte_before row at bytes i d inside below = grind (arith, common_steps)

pub byte_after : (row : List ℕ) (at : ℕ) (bytes : List ℕ) (i d : ℕ) → at + length bytes ≤ length row → at + length bytes ≤ i → get_or (overwritten row at bytes) i d ≡ get_or row i d
byte_after row at bytes i d inside above = grind (arith, common_steps)

-- these laws, for `grind`
pub ruleset store_laws = (no_rows, rows_here, rows_elsewhere, row_here, row_beside, count_kept, length-overwritten, range-overwritten, byte_put, byte_before, byte_after)
