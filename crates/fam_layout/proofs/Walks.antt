-- A walk from border to border gives the parts of a range.
use Rattle.std.proofs.Common.{◌≡◌, ℕ, zero, suc, ◌+◌, ◌-◌, ◌<◌, ◌≤◌, Bool, true, false, cond, List, [], ◌∷◌, ◌++◌, refl, sym, ap, ◌∙◌, inl, inr, append_assoc, arith}
use Rattle.std.specs.Prelude.{filter, ◌==◌, ◌⊎◌, min, if◌then◌else◌}
use Rattle.std.specs.List.{range_with_len}
use Rattle.std.proofs.lemmas.Bool.Decides.{nat_tests}
use Rattle.fam_model.specs.declared.piece.Part.{Part}
use Rattle.fam_model.specs.Pieces.{cut_where, parted, part}

skipped : (holds : Bool) (at : ℕ) (rest after : List ℕ) → holds ≡ false → rest ≡ after → cond holds (at ∷ rest) rest ≡ after
skipped true at rest after not_there e = cc
skipped false at rest after not_there e = e

-- places at which the test fails go
passed : (test : ℕ → Bool) (at d m n to : ℕ) → n ≡ d + m → to ≡ at + d → ((k : ℕ) → at ≤ k → k < to → test k ≡ false) →
    filter test (range_with_len at n) ≡ filter test (range_with_len to m)
passed test at zero m n to e f none =
    let same : n ≡ m = omega arith in let there : to ≡ at = omega arith in rw (same, there) refl
passed test at (suc d) m zero to e f none = absurd (omega arith)
passed test at (suc d) m (suc n) to e f none =
    skipped (test at) at (filter test (range_with_len (at + 1) n)) (filter test (range_with_len to m))
    (none at (omega arith) (omega arith))
    (passed test (at + 1) d m n to (omega arith) (omega arith) (λ k low high. none k (omega arith) high))

cut_none : (test : ℕ → Bool) (offset n : ℕ) → n ≡ 0 → cut_where test offset n ≡ []
cut_none test offset n e = rw e refl

cut_by : (none : Bool) (parts : List Part) → none ≡ false → (if none then [] else parts) ≡ parts
cut_by true parts e = cc
cut_by false parts e = refl

cut_some : (test : ℕ → Bool) (offset n end : ℕ) → 0 < n → offset + n ≡ end →
    cut_where test offset n ≡ parted offset (filter test (range_with_len (offset + 1) (n - 1))) end
cut_some test offset n end some e =
    let there : (n == 0) ≡ false = grind (arith, nat_tests) in
    cut_by (n == 0) _ there ∙ ap (λ end. parted offset (filter test (range_with_len (offset + 1) (n - 1))) end) e

taken : (holds : Bool) (at : ℕ) (rest : List ℕ) → holds ≡ true → cond holds (at ∷ rest) rest ≡ at ∷ rest
taken true at rest e = refl
taken false at rest e = cc

-- the first part ends at the end
last_part : (test : ℕ → Bool) (at end : ℕ) → at < end → ((k : ℕ) → at < k → k < end → test k ≡ false) →
    cut_where test at (end - at) ≡ part at (end - at) ∷ []
last_part test at end some none =
    cut_some test at (end - at) end (omega arith) (omega arith)
    ∙ ap (λ places. parted at places end)
    (passed test (at + 1) (end - at - 1) 0 (end - at - 1) end (omega arith) (omega arith) (λ k low high. none k (omega arith) high))

-- the first part ends at a border
next_part : (test : ℕ → Bool) (at next end m : ℕ) → at < next → end ≡ next + suc m → test next ≡ true →
    ((k : ℕ) → at < k → k < next → test k ≡ false) →
    cut_where test at (end - at) ≡ part at (next - at) ∷ cut_where test next (end - next)
next_part test at next end m some e here none =
    cut_some test at (end - at) end (omega arith) (omega arith)
    ∙ ap (λ places. parted at places end)
    (passed test (at + 1) (next - at - 1) (suc m) (end - at - 1) next (omega arith) (omega arith) (λ k low high. none k (omega arith) high)
    ∙ taken (test next) next (filter test (range_with_len (next + 1) m)) here)
    ∙ ap (λ n. part at (next - at) ∷ parted next (filter test (range_with_len (next + 1) n)) end) (omega arith)
    ∙ ap (λ parts. part at (next - at) ∷ parts) (sym (cut_some test next (end - next) end (omega arith) (omega arith)))

-- the first part ends at the border or at the end
step_by : (test : ℕ → Bool) (at border next end : ℕ) → at < border → test border ≡ true →
    ((k : ℕ) → at < k → k < border → test k ≡ false) → next ≡ min border end → at < end → (border < end) ⊎ (end ≤ border) →
    cut_where test at (end - at) ≡ part at (next - at) ∷ cut_where test next (end - next)
step_by test at border next end past here none e some cases =
    elim cases [
      | inl before ↦
          let same : border ≡ next = omega arith in
          next_part test at next end (end - next - 1) (omega arith) (omega arith) (ap test (sym same) ∙ here) (λ k low high. none k low (omega arith))
      | inr behind ↦
          let same : next ≡ end = omega arith in
          last_part test at end some (λ k low high. none k low (omega arith))
          ∙ ap (λ (e : ℕ). part at (e - at) ∷ []) (sym same)
          ∙ ap (λ parts. part at (next - at) ∷ parts) (sym (cut_none test next (end - next) (omega arith)))
    ]

split : (m n : ℕ) → (m < n) ⊎ (n ≤ m)
split m n = grind arith

-- one more part
pub step : (test : ℕ → Bool) (done grown all : List Part) (at border next end : ℕ) → at < border → test border ≡ true →
    ((k : ℕ) → at < k → k < border → test k ≡ false) → next ≡ min border end → at < end →
    grown ≡ done ++ part at (next - at) ∷ [] →
    done ++ cut_where test at (end - at) ≡ all → grown ++ cut_where test next (end - next) ≡ all
step test done grown all at border next end past here none e some pushed so_far =
    ap (λ parts. parts ++ cut_where test next (end - next)) pushed
    ∙ append_assoc done (part at (next - at) ∷ []) (cut_where test next (end - next))
    ∙ ap (λ parts. done ++ parts) (sym (step_by test at border next end past here none e some (split border end)))
    ∙ so_far
