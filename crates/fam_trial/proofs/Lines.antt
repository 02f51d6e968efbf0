-- Lines that were appended in turn.
use Rattle.std.proofs.Common.{◌≡◌, ℕ, List, [], ◌∷◌, ◌++◌, map, drop, refl, sym, ap, ◌∙◌, append_assoc, append-nil}
use Rattle.std.specs.List.{flat_map}
use Rattle.std.proofs.lemmas.List.{map-append}
use Rattle.std.proofs.lemmas.List.Concat.{flat_map-append}
use Rattle.fam_model.specs.declared.line.Line.{Line}
use Rattle.fam_model.specs.ScriptText.{line_text, line_words}
use Rattle.fam_model.specs.Words.{words_text, text_of}
use Rattle.fam_script.specs.Spaced.{spaced}
use Rattle.fam_script.proofs.Joined.{spaced-append}
use Rattle.fam_trial.specs.Lines.{lines_text}

pub drop_spaced : (words : List (List ℕ)) → drop 1 (spaced words) ≡ words_text words
drop_spaced [] = refl
drop_spaced (word ∷ words) = refl

-- one line, by its words
pub line_added : (old now made : List ℕ) (line : Line) → made ≡ spaced (line_words line) → now ≡ old ++ (drop 1 made ++ 10 ∷ []) → now ≡ old ++ lines_text (line ∷ [])
line_added old now made line is grown =
    grown ∙ ap (λ t. old ++ (drop 1 t ++ 10 ∷ [])) is ∙ ap (λ t. old ++ (t ++ 10 ∷ [])) (drop_spaced (line_words line))
    ∙ ap (λ t. old ++ t) (sym (append-nil (line_text line ++ 10 ∷ [])))

text_append : (xs ys : List Line) → lines_text (xs ++ ys) ≡ lines_text xs ++ lines_text ys
text_append xs ys = ap text_of (map-append line_text xs ys) ∙ flat_map-append (λ line. line ++ 10 ∷ []) (map line_text xs) (map line_text ys)

-- lines, and then others
pub more_lines : (old now next : List ℕ) (xs ys : List Line) → now ≡ old ++ lines_text xs → next ≡ now ++ lines_text ys → next ≡ old ++ lines_text (xs ++ ys)
more_lines old now next xs ys so_far grown =
    grown ∙ ap (λ t. t ++ lines_text ys) so_far ∙ append_assoc old (lines_text xs) (lines_text ys) ∙ ap (λ t. old ++ t) (sym (text_append xs ys))

-- the lines of one element more
pub element_more : {A : Type 0} (f : A → List Line) (old now next : List ℕ) (xs more : List A) (x : A) → more ≡ xs ++ x ∷ [] →
    now ≡ old ++ lines_text (flat_map f xs) → next ≡ now ++ lines_text (f x) → next ≡ old ++ lines_text (flat_map f more)
element_more f old now next xs more x split so_far grown =
    more_lines old now next (flat_map f xs) (f x) so_far grown
    ∙ ap (λ l. old ++ lines_text (flat_map f xs ++ l)) (sym (append-nil (f x)))
    ∙ ap (λ l. old ++ lines_text l) (sym (flat_map-append f xs (x ∷ [])))
    ∙ ap (λ ys. old ++ lines_text (flat_map f ys)) (sym split)

-- lines between a first one and a last one
pub framed : (old begun inside whole : List ℕ) (first last : Line) (body : List Line) → begun ≡ old ++ lines_text (first ∷ []) →
    inside ≡ begun ++ lines_text body → whole ≡ inside ++ lines_text (last ∷ []) → whole ≡ old ++ lines_text (first ∷ (body ++ last ∷ []))
framed old begun inside whole first last body a b c =
    more_lines old inside whole (first ∷ body) (last ∷ []) (more_lines old begun inside (first ∷ []) body a b) c

-- one line, by words that were appended in turn
pub words_added : (text made : List ℕ) (a b c : List (List ℕ)) → made ≡ (([] ++ spaced a) ++ spaced b) ++ spaced c → text ≡ [] ++ (drop 1 made ++ 10 ∷ []) →
    text ≡ text_of (words_text ((a ++ b) ++ c) ∷ [])
words_added text made a b c is grown =
    let whole : made ≡ spaced ((a ++ b) ++ c) = is ∙ ap (λ t. t ++ spaced c) (sym (spaced-append a b)) ∙ sym (spaced-append (a ++ b) c) in
    grown ∙ ap (λ t. drop 1 t ++ 10 ∷ []) whole ∙ ap (λ t. t ++ 10 ∷ []) (drop_spaced ((a ++ b) ++ c)) ∙ sym (append-nil (words_text ((a ++ b) ++ c) ++ 10 ∷ []))
