-- Numbers that are read one after another.
use Rattle.std.proofs.Common.{◌≡◌, ℕ, List, [], ◌∷◌, ◌++◌, Option, Some, None, refl, sym, ap, ◌∙◌, append_assoc}
use Rattle.fam_script.specs.Reading.{parts, number_of, onto, numbers_of}

-- those that were found, and then others
abbrev pub joined : List ℕ → Option (List ℕ) → Option (List ℕ)
joined found None = None
joined found (Some others) = Some (found ++ others)

joined_nothing : (o : Option (List ℕ)) → joined [] o ≡ o
joined_nothing None = refl
joined_nothing (Some others) = refl

-- none was found yet
pub begins : (word : List ℕ) → numbers_of (parts 44 word) ≡ joined [] (numbers_of (parts 44 word))
begins word = sym (joined_nothing (numbers_of (parts 44 word)))

joined_one : (found : List ℕ) (n : ℕ) (o : Option (List ℕ)) → joined found (onto (Some n) o) ≡ joined (found ++ n ∷ []) o
joined_one found n None = refl
joined_one found n (Some others) = ap (λ (l : List ℕ). Some (l)) (sym (append_assoc found (n ∷ []) others))

module _ (found first rest others : List ℕ) (cut : parts 44 rest ≡ first ∷ parts 44 others) where
  read_first : (o : Option ℕ) → number_of first ≡ o → joined found (numbers_of (parts 44 rest)) ≡ joined found (onto o (numbers_of (parts 44 others)))
  read_first o e = ap (λ (ws : List (List ℕ)). joined found (numbers_of ws)) cut ∙ ap (λ (o : Option ℕ). joined found (onto o (numbers_of (parts 44 others)))) e

  -- one more
  pub goes_on : (n : ℕ) → number_of first ≡ Some n → joined found (numbers_of (parts 44 rest)) ≡ joined (found ++ n ∷ []) (numbers_of (parts 44 others))
  goes_on n e = read_first (Some n) e ∙ joined_one found n (numbers_of (parts 44 others))

  -- a word that is no number
  pub stops : number_of first ≡ None → joined found (numbers_of (parts 44 rest)) ≡ None
  stops e = read_first None e

-- the last one
module _ (found rest : List ℕ) (last : parts 44 rest ≡ rest ∷ []) where
  read_last : (o : Option ℕ) → number_of rest ≡ o → joined found (numbers_of (parts 44 rest)) ≡ joined found (onto o (Some []))
  read_last o e = ap (λ (ws : List (List ℕ)). joined found (numbers_of ws)) last ∙ ap (λ (o : Option ℕ). joined found (onto o (Some []))) e

  pub ends : (n : ℕ) → number_of rest ≡ Some n → joined found (numbers_of (parts 44 rest)) ≡ Some (found ++ n ∷ [])
  ends n e = read_last (Some n) e

  pub ends_badly : number_of rest ≡ None → joined found (numbers_of (parts 44 rest)) ≡ None
  ends_badly e = read_last None e
