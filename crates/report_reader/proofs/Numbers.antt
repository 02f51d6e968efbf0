-- Words cut at any separator.
use Rattle.std.proofs.Common.{◌≡◌, ℕ, List, ◌∷◌, None, ap}
use Rattle.fam_script.specs.Reading.{Words, parts, one_of}
use Rattle.fam_script.proofs.Cuts.{first_part}

-- two words are not one, whatever the separator
pub not_one : (separator : ℕ) (a rest : List ℕ) → one_of (a ∷ parts separator rest) ≡ None
not_one separator a rest = let more = first_part separator rest in ap (λ (ws : Words). one_of (a ∷ ws)) more.2
