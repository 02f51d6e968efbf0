-- Lines that were appended in turn.
use Rattle.std.proofs.Common.{◌≡◌, ℕ, Bool, true, false, List, [], ◌∷◌, ◌++◌, append_assoc, refl, sym, ap, ◌∙◌, map, filter, cond}
use Rattle.std.specs.Prelude.{not}
use Rattle.std.specs.List.{flat_map}
use Rattle.std.proofs.lemmas.List.Concat.{flat_map-append}
use Rattle.fam_model.specs.Words.{text_of}
use Rattle.fam_script.specs.Spaced.{spaced}
use Rattle.fam_script.proofs.Joined.{spaced-cons}

-- the words that each element gives, with a space in front of each
pub spaced-map : {X : Type 0} (word : X → List ℕ) (xs : List X) → spaced (map word xs) ≡ flat_map (λ x. 32 ∷ word x) xs
spaced-map word [] = refl
spaced-map word (x ∷ xs) = spaced-cons (word x) (map word xs) ∙ ap (λ text. (32 ∷ word x) ++ text) (spaced-map word xs)

-- a line for each element
pub text_of-map : {X : Type 0} (line : X → List ℕ) (xs : List X) → text_of (map line xs) ≡ flat_map (λ x. line x ++ 10 ∷ []) xs
text_of-map line [] = refl
text_of-map line (x ∷ xs) = ap (λ text. (line x ++ 10 ∷ []) ++ text) (text_of-map line xs)

shown_step : {X : Type 0} (line : X → List ℕ) (x : X) (b : Bool) (kept : List X) (rest : List ℕ) → text_of (map line kept) ≡ rest → text_of (map line (cond (not b) (x ∷ kept) kept)) ≡ cond b [] (line x ++ 10 ∷ []) ++ rest
shown_step line x true kept rest same = same
shown_step line x false kept rest same = ap (λ text. (line x ++ 10 ∷ []) ++ text) same

-- a line for each element that is not left out
pub text_of-filter : {X : Type 0} (line : X → List ℕ) (p : X → Bool) (xs : List X) → text_of (map line (filter (λ x. not (p x)) xs)) ≡ flat_map (λ x. cond (p x) [] (line x ++ 10 ∷ [])) xs
text_of-filter line p [] = refl
text_of-filter line p (x ∷ xs) =
    shown_step line x (p x) (filter (λ x. not (p x)) xs) (flat_map (λ x. cond (p x) [] (line x ++ 10 ∷ [])) xs) (text_of-filter line p xs)

-- lines were appended, and then others
pub more_lines : (old : List ℕ) (xs ys : List (List ℕ)) → (old ++ text_of xs) ++ text_of ys ≡ old ++ text_of (xs ++ ys)
more_lines old xs ys =
    append_assoc old (text_of xs) (text_of ys)
    ∙ ap (λ text. old ++ text) (sym (flat_map-append (λ line. line ++ 10 ∷ []) xs ys))

-- a first line was appended, and then others
pub first_line : (old line : List ℕ) (xs : List (List ℕ)) → (old ++ (line ++ 10 ∷ [])) ++ text_of xs ≡ old ++ text_of (line ∷ xs)
first_line old line xs = append_assoc old (line ++ 10 ∷ []) (text_of xs)

-- a first line was appended, and then others of two kinds
pub opened : (old line : List ℕ) (xs ys : List (List ℕ)) → (((old ++ line) ++ 10 ∷ []) ++ text_of xs) ++ text_of ys ≡ old ++ text_of (line ∷ (xs ++ ys))
opened old line xs ys =
    ap (λ text. (text ++ text_of xs) ++ text_of ys) (append_assoc old line (10 ∷ []))
    ∙ ap (λ text. text ++ text_of ys) (first_line old line xs)
    ∙ more_lines old (line ∷ xs) ys

-- a first line was appended, and then others of four kinds
pub reported : (old line : List ℕ) (first second third fourth : List (List ℕ)) → ((((old ++ (line ++ 10 ∷ [])) ++ text_of first) ++ text_of second) ++ text_of third) ++ text_of fourth ≡ old ++ text_of ((((line ∷ first) ++ second) ++ third) ++ fourth)
reported old line first second third fourth =
    ap (λ text. ((text ++ text_of second) ++ text_of third) ++ text_of fourth) (first_line old line first)
    ∙ ap (λ text. (text ++ text_of third) ++ text_of fourth) (more_lines old (line ∷ first) second)
    ∙ ap (λ text. text ++ text_of fourth) (more_lines old ((line ∷ first) ++ second) third)
    ∙ more_lines old (((line ∷ first) ++ second) ++ third) fourth
