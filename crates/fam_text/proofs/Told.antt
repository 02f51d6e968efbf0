-- Events as words that were appended in turn.
use Rattle.std.proofs.Common.{◌≡◌, ℕ, List, ◌∷◌, ◌++◌, append_assoc, sym, ap, ◌∙◌}
use Rattle.std.specs.Prelude.{codes}
use Rattle.fam_model.specs.EventText.{answered}
use Rattle.fam_script.specs.Spaced.{spaced}
use Rattle.fam_script.proofs.Joined.{spaced-cons, spaced-append}

-- a first word was appended, and then some others
pub begun : (old word : List ℕ) (words : List (List ℕ)) → (old ++ (32 ∷ word)) ++ spaced words ≡ old ++ spaced (word ∷ words)
begun old word words =
    append_assoc old (32 ∷ word) (spaced words) ∙ ap (λ text. old ++ text) (sym (spaced-cons word words))

-- some words were appended, and then a colon and an answer
pub told : (old : List ℕ) (words answer : List (List ℕ)) → (old ++ spaced words) ++ (codes " :" ++ spaced answer) ≡ old ++ spaced (answered words answer)
told old words answer =
    append_assoc old (spaced words) (codes " :" ++ spaced answer)
    ∙ ap (λ text. old ++ (spaced words ++ text)) (sym (spaced-cons (codes ":") answer))
    ∙ ap (λ text. old ++ text) (sym (spaced-append words (codes ":" ∷ answer)))

-- words were appended, then others, and then a colon and an answer
pub told_of : (old word : List ℕ) (words answer : List (List ℕ)) → ((old ++ (32 ∷ word)) ++ spaced words) ++ (codes " :" ++ spaced answer) ≡ old ++ spaced (answered (word ∷ words) answer)
told_of old word words answer =
    ap (λ text. text ++ (codes " :" ++ spaced answer)) (begun old word words) ∙ told old (word ∷ words) answer

-- an error was appended, and then the words of its doubt
pub doubted : (old : List ℕ) (error doubt : List (List ℕ)) → ((old ++ codes " : error") ++ spaced error) ++ spaced doubt ≡ old ++ (codes " :" ++ spaced (codes "error" ∷ (error ++ doubt)))
doubted old error doubt =
    append_assoc (old ++ codes " : error") (spaced error) (spaced doubt)
    ∙ append_assoc old (codes " : error") (spaced error ++ spaced doubt)
    ∙ ap (λ text. old ++ (codes " : error" ++ text)) (sym (spaced-append error doubt))
    ∙ ap (λ text. old ++ (codes " :" ++ text)) (sym (spaced-cons (codes "error") (error ++ doubt)))
