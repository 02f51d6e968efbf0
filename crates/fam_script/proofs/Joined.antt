-- Texts that were appended in turn.
use Rattle.std.proofs.Common.{◌≡◌, ℕ, List, [], ◌∷◌, ◌++◌, Option, None, Some, append_assoc, append-nil, refl, sym, ap, ◌∙◌, map}
use Rattle.std.specs.Prelude.{IfSome}
use Rattle.std.specs.List.{join_with_byte, flat_map}
use Rattle.std.specs.Fmt.{decimal}
use Rattle.fam_script.specs.Spaced.{spaced}

-- two texts were appended, one after the other
pub joined : (old first second : List ℕ) → (old ++ first) ++ second ≡ old ++ (first ++ second)
joined old first second = append_assoc old first second

-- nothing was appended
pub nothing_joined : (old : List ℕ) → old ++ [] ≡ old
nothing_joined old = append-nil old

-- the first word of a line, and the words behind it
pub words_text-cons : (word : List ℕ) (words : List (List ℕ)) → join_with_byte 32 (word ∷ words) ≡ word ++ spaced words
words_text-cons word [] = sym (append-nil word)
words_text-cons word (next ∷ words) = refl

pub spaced-cons : (word : List ℕ) (words : List (List ℕ)) → spaced (word ∷ words) ≡ (32 ∷ word) ++ spaced words
spaced-cons word words = ap (λ text. 32 ∷ text) (words_text-cons word words)

-- some words, and others behind them
pub spaced-append : (xs ys : List (List ℕ)) → spaced (xs ++ ys) ≡ spaced xs ++ spaced ys
spaced-append [] ys = refl
spaced-append (x ∷ xs) ys =
    spaced-cons x (xs ++ ys)
    ∙ ap (λ text. (32 ∷ x) ++ text) (spaced-append xs ys)
    ∙ sym (append_assoc (32 ∷ x) (spaced xs) (spaced ys))
    ∙ ap (λ text. text ++ spaced ys) (sym (spaced-cons x xs))

-- what texts of words and lines are made of
pub ruleset texts = (joined, nothing_joined, words_text-cons, spaced-append)

-- a list is its first number, and the others with a comma in front of each
pub list_text-cons : (n : ℕ) (ns : List ℕ) → join_with_byte 44 (decimal n ∷ map decimal ns) ≡ decimal n ++ flat_map (λ m. 44 ∷ decimal m) ns
list_text-cons n [] = sym (append-nil (decimal n))
list_text-cons n (m ∷ ns) = ap (λ text. decimal n ++ (44 ∷ text)) (list_text-cons m ns)

pub ruleset lists = (joined, nothing_joined, list_text-cons)

-- what follows for the bytes that a format may have
pub if_some : {A : Type 0} (o : Option A) (P Q : A → Type 0) → ((x : A) → P x → Q x) → IfSome o P → IfSome o Q
if_some None P Q more told = tt
if_some (Some x) P Q more told = more x told
