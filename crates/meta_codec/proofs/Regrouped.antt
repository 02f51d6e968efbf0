-- Fields that were put one after another are those of the body.
use Rattle.std.proofs.Common.{◌≡◌, ℕ, List, [], ◌∷◌, ◌++◌, sym, ap, ◌∙◌, append_assoc}
use Rattle.std.specs.List.{concat}
use Rattle.std.proofs.lemmas.List.{append-nil}

two : (old a b : List ℕ) → (old ++ a) ++ b ≡ old ++ concat (a ∷ b ∷ [])
two old a b = append_assoc old a b ∙ ap (λ (l : List ℕ). old ++ (a ++ l)) (sym (append-nil b))

pub three : (old a b c : List ℕ) → ((old ++ a) ++ b) ++ c ≡ old ++ concat (a ∷ b ∷ c ∷ [])
three old a b c = two (old ++ a) b c ∙ append_assoc old a (concat (b ∷ c ∷ []))

four : (old a b c d : List ℕ) → (((old ++ a) ++ b) ++ c) ++ d ≡ old ++ concat (a ∷ b ∷ c ∷ d ∷ [])
four old a b c d = three (old ++ a) b c d ∙ append_assoc old a (concat (b ∷ c ∷ d ∷ []))

five : (old a b c d e : List ℕ) → ((((old ++ a) ++ b) ++ c) ++ d) ++ e ≡ old ++ concat (a ∷ b ∷ c ∷ d ∷ e ∷ [])
five old a b c d e = four (old ++ a) b c d e ∙ append_assoc old a (concat (b ∷ c ∷ d ∷ e ∷ []))

-- the fields of a region behind its number
region_put : (old : List ℕ) (k : ℕ) (a b c d e f : List ℕ) → (old ++ k ∷ a) ++ concat (b ∷ c ∷ d ∷ e ∷ f ∷ []) ≡ old ++ k ∷ concat (a ∷ b ∷ c ∷ d ∷ e ∷ f ∷ [])
region_put old k a b c d e f = append_assoc old (k ∷ a) (concat (b ∷ c ∷ d ∷ e ∷ f ∷ []))

-- the room of an item behind its number, and its owner and name
item_put : (old : List ℕ) (k : ℕ) (a b c d e f g h : List ℕ)
    → ((old ++ k ∷ a) ++ concat (b ∷ c ∷ d ∷ [])) ++ concat (e ∷ f ∷ g ∷ h ∷ []) ≡ old ++ k ∷ concat (a ∷ b ∷ c ∷ d ∷ e ∷ f ∷ g ∷ h ∷ [])
item_put old k a b c d e f g h =
    append_assoc (old ++ k ∷ a) (concat (b ∷ c ∷ d ∷ [])) (concat (e ∷ f ∷ g ∷ h ∷ []))
    ∙ append_assoc old (k ∷ a) (concat (b ∷ c ∷ d ∷ []) ++ concat (e ∷ f ∷ g ∷ h ∷ []))
    ∙ ap (λ (l : List ℕ). old ++ k ∷ (a ++ l)) (joined b c d (concat (e ∷ f ∷ g ∷ h ∷ [])))
  where
    joined : (b c d rest : List ℕ) → concat (b ∷ c ∷ d ∷ []) ++ rest ≡ b ++ (c ++ (d ++ rest))
    joined b c d rest =
        append_assoc b (c ++ (d ++ [])) rest
        ∙ ap (λ (l : List ℕ). b ++ l) (append_assoc c (d ++ []) rest ∙ ap (λ (l : List ℕ). c ++ l) (append_assoc d [] rest))

pub region_is : (old mid new : List ℕ) (k : ℕ) (a b c d e f name : List ℕ) → mid ≡ old ++ k ∷ a → new ≡ mid ++ concat (b ∷ c ∷ d ∷ e ∷ f ∷ []) → f ≡ name
    → new ≡ old ++ k ∷ concat (a ∷ b ∷ c ∷ d ∷ e ∷ name ∷ [])
region_is old mid new k a b c d e f name first second same =
    second
    ∙ ap (λ (l : List ℕ). l ++ concat (b ∷ c ∷ d ∷ e ∷ f ∷ [])) first
    ∙ region_put old k a b c d e f
    ∙ ap (λ (n : List ℕ). old ++ k ∷ concat (a ∷ b ∷ c ∷ d ∷ e ∷ n ∷ [])) same

pub item_is : (old mid late new : List ℕ) (k : ℕ) (a b c d e f g h name : List ℕ) → mid ≡ old ++ k ∷ a → late ≡ mid ++ concat (b ∷ c ∷ d ∷ [])
    → new ≡ late ++ concat (e ∷ f ∷ g ∷ h ∷ []) → h ≡ name → new ≡ old ++ k ∷ concat (a ∷ b ∷ c ∷ d ∷ e ∷ f ∷ g ∷ name ∷ [])
item_is old mid late new k a b c d e f g h name first second third same =
    third
    ∙ ap (λ (l : List ℕ). l ++ concat (e ∷ f ∷ g ∷ h ∷ [])) (second ∙ ap (λ (l : List ℕ). l ++ concat (b ∷ c ∷ d ∷ [])) first)
    ∙ item_put old k a b c d e f g h
    ∙ ap (λ (n : List ℕ). old ++ k ∷ concat (a ∷ b ∷ c ∷ d ∷ e ∷ f ∷ g ∷ n ∷ [])) same

pub four_is : (old p q r new a b c d : List ℕ) → p ≡ old ++ a → q ≡ p ++ b → r ≡ q ++ c → new ≡ r ++ d → new ≡ old ++ concat (a ∷ b ∷ c ∷ d ∷ [])
four_is old p q r new a b c d e1 e2 e3 e4 =
    e4
    ∙ ap (λ (l : List ℕ). l ++ d) (e3 ∙ ap (λ (l : List ℕ). l ++ c) (e2 ∙ ap (λ (l : List ℕ). l ++ b) e1))
    ∙ four old a b c d

pub five_is : (old p q r s new a b c d e : List ℕ) → p ≡ old ++ a → q ≡ p ++ b → r ≡ q ++ c → s ≡ r ++ d → new ≡ s ++ e
    → new ≡ old ++ concat (a ∷ b ∷ c ∷ d ∷ e ∷ [])
five_is old p q r s new a b c d e e1 e2 e3 e4 e5 =
    e5
    ∙ ap (λ (l : List ℕ). l ++ e) (e4 ∙ ap (λ (l : List ℕ). l ++ d) (e3 ∙ ap (λ (l : List ℕ). l ++ c) (e2 ∙ ap (λ (l : List ℕ). l ++ b) e1)))
    ∙ five old a b c d e
