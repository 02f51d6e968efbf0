-- Numbers that are all below a bound.
use Rattle.std.proofs.Common.{◌≡◌, ℕ, suc, ◌<◌, true, List, [], ◌∷◌, get_or, refl}
use Rattle.std.specs.Prelude.{nat_lt}
use Rattle.std.specs.List.{list_all}
use Rattle.std.proofs.lemmas.Bool.{lt-ltb}
use Rattle.fam_script.proofs.Tests.{and_both}

pub all_below : (most : ℕ) (xs : List ℕ) → ((i : ℕ) → get_or xs i 0 < most) → list_all (λ x. nat_lt x most) xs ≡ true
all_below most [] h = refl
all_below most (x ∷ xs) h =
    and_both (nat_lt x most) (list_all (λ y. nat_lt y most) xs) (lt-ltb x most (h 0)) (all_below most xs (λ i. h (suc i)))
