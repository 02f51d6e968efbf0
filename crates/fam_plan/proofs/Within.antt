-- The parts of a range end where it ends.
use Rattle.std.proofs.Common.{◌≡◌, ℕ, ◌+◌, ◌≤◌, Bool, true, false, ◌||◌, List, [], ◌∷◌, refl, arith, append-nil}
use Rattle.std.specs.Prelude.{nat_lt}
use Rattle.std.proofs.lemmas.Bool.Decides.{nat_tests}
use Rattle.fam_model.specs.declared.piece.Part.{Part}
use Rattle.fam_model.specs.Issue.{ends_past}
use Rattle.fam_model.specs.Laws.{AreInRow}
use Rattle.fam_model.specs.Pieces.{cut_where, cuts, all_cuts, part}
use Rattle.fam_model.proofs.Cuts.{exact}

both_false : (p q : Bool) → p ≡ false → q ≡ false → (p || q) ≡ false
both_false true q e f = cc
both_false false q e f = f

row_ends : (parts : List Part) (start end size : ℕ) → AreInRow start parts end → end ≤ size →
    (start ≤ end) × (ends_past size parts ≡ false)
row_ends [] start end size row low = (omega (arith, row), refl)
row_ends (p ∷ parts) start end size row low =
    let rest = row_ends parts (start + p.n) end size row.1 low in
    let here : nat_lt size (p.offset + p.n) ≡ false = grind (arith, nat_tests, row.0, rest.0) in
    (omega (arith, rest.0), both_false _ _ here rest.1)

-- no part of a range ends past its end
pub cuts_within : (test : ℕ → Bool) (offset n size : ℕ) → offset + n ≤ size → ends_past size (cut_where test offset n) ≡ false
cuts_within test offset n size low =
    (row_ends (cut_where test offset n) offset (offset + n) size (exact test offset n).in_row low).1

-- the cuts of one part
pub one_part : (unit base offset n : ℕ) → all_cuts unit base (part offset n ∷ []) ≡ cuts base offset n unit
one_part unit base offset n = append-nil (cuts base offset n unit)
