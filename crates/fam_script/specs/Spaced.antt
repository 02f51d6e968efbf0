-- The words of a line behind its first one.
use Rattle.std.specs.Prelude.{ℕ, List, [], ◌∷◌}
use Rattle.fam_model.specs.Words.{words_text}

-- words with one space in front of each
abbrev pub spaced : List (List ℕ) → List ℕ
spaced [] = []
spaced (word ∷ words) = 32 ∷ words_text (word ∷ words)
