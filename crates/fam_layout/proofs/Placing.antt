-- Two addresses of a region have two places.
use Rattle.std.proofs.Common.{◌≡◌, ℕ, ◌+◌, ◌*◌, ◌/◌, ◌%◌, ◌<◌, ◌≤◌, ap, arith}
use Rattle.std.specs.Prelude.{◌⊎◌}
use Rattle.std.proofs.Common.{inl, inr}
use Rattle.std.proofs.Math.Nat.{mul-le-mul_left}
use Rattle.std.proofs.lemmas.Bool.Decides.{nat_tests}
use Rattle.fam_model.specs.Pieces.{stripe_count}
use Rattle.fam_layout.specs.Layouts.{PlacesDiffer}

-- less in quotients is less by a whole divisor
apart : (s p q : ℕ) → p < q → s * p + s ≤ s * q
apart s p q below = omega (arith, mul-le-mul_left {m = p + 1} {n = q} s (omega arith))

order : (p q : ℕ) → (p < q) ⊎ ((p ≡ q) ⊎ (q < p))
order p q = grind arith

-- numbers less than s apart, whose sums with r have the same rest, are the same
same_by : (s r u v p q m : ℕ) → r + u ≡ s * p + m → r + v ≡ s * q + m → u < v + s → v < u + s →
    (p < q) ⊎ ((p ≡ q) ⊎ (q < p)) → u ≡ v
same_by s r u v p q m eu ev near back cases =
    elim cases [
      | inl less ↦ omega (arith, apart s p q less)
      | inr rest ↦ elim rest [ inl same ↦ omega (arith, ap (λ k. s * k) same) | inr more ↦ omega (arith, apart s q p more) ]
    ]

pub same_unit : (s r u v : ℕ) → 0 < s → (r + u) % s ≡ (r + v) % s → u / s ≡ v / s → u ≡ v
same_unit s r u v some turn row =
    let products : s * (u / s) ≡ s * (v / s) = ap (λ k. s * k) row in
    same_by s r u v ((r + u) / s) ((r + v) / s) ((r + u) % s) (omega arith) (omega arith) (omega arith) (omega arith)
    (order ((r + u) / s) ((r + v) / s))

differ : (s unit r a b : ℕ) → 0 < s → 0 < unit → (r + a / unit) % s ≡ (r + b / unit) % s → a / unit / s ≡ b / unit / s →
    a % unit ≡ b % unit → a ≡ b
differ s unit r a b some wide turn row at =
    let products : unit * (a / unit) ≡ unit * (b / unit) = ap (λ k. unit * k) (same_unit s r (a / unit) (b / unit) some turn row) in
    omega arith

pub places_differ : PlacesDiffer
places_differ service region a b lawful same =
    differ (stripe_count service) service.unit region a b (grind (arith, nat_tests)) (grind (arith, nat_tests))
    (ap (λ place. place.stripe) same) (ap (λ place. place.row) same) (ap (λ place. place.at) same)
