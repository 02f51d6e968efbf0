-- What patterns over the words of a command tell.
use Rattle.std.proofs.Common.{◌≡◌, ◌↔◌, ℕ, ◌<◌, ◌≤◌, ◌^◌, Bool, true, false, List, [], ◌∷◌, refl, sym, ap, ◌∙◌, arith, length, get_or}
use Rattle.std.specs.Prelude.{Option, Some, None, MatchOption, IfSome, IfNone, IsTrue, codes, ◌≢◌, nat_eq, slice_index_or}
use Rattle.std.proofs.lemmas.Bool.{false≢true}
use Rattle.std.specs.Fmt.{decimal}
use Rattle.std.specs.Cmp.Lexicographic.{pointwise, same_text, other_text}
use Rattle.famrun.specs.Commands.{BeginsWith}
use Rattle.famrun.specs.Ending.{IsSim, HasSeed}

-- one item
pub one_item : {A : Type 0} → (xs : List A) (x : A) → 1 ≤ length xs → length xs < 2 → x ≡ slice_index_or xs 0 x → xs ≡ x ∷ []
one_item [] x least below is = absurd (omega arith)
one_item (y ∷ []) x least below is = ap (λ z. z ∷ []) (sym is)
one_item (y ∷ z ∷ rest) x least below is = absurd (omega arith)

-- two items
pub two_items : {A : Type 0} → (xs : List A) (x y : A) → 2 ≤ length xs → length xs < 3 → x ≡ slice_index_or xs 0 x → y ≡ slice_index_or xs 1 y → xs ≡ x ∷ y ∷ []
two_items [] x y least below first second = absurd (omega arith)
two_items (a ∷ []) x y least below first second = absurd (omega arith)
two_items (a ∷ b ∷ []) x y least below first second = ap (λ z. z ∷ b ∷ []) (sym first) ∙ ap (λ z. x ∷ z ∷ []) (sym second)
two_items (a ∷ b ∷ c ∷ rest) x y least below first second = absurd (omega arith)

-- the only word was compared
pub told_alone : (words : List (List ℕ)) (only word text : List ℕ) (r : Bool) → words ≡ only ∷ [] → text ≡ only → r ≡ pointwise nat_eq text word →
    IsTrue r ↔ (words ≡ word ∷ [])
told_alone words only word text true alone same is = (λ t. alone ∙ ap (λ w. w ∷ []) (sym same ∙ same_text text word is), λ e. refl)
told_alone words only word text false alone same is =
    (λ t. absurd (false≢true t), λ e. absurd (other_text text word is (same ∙ ap (λ ws. get_or ws 0 word) (sym alone ∙ e))))

-- the first of two words is `sim`, and the other was read as a number
pub has_seed : (words : List (List ℕ)) (name seed name_text seed_text : List ℕ) (n : ℕ) → words ≡ name ∷ seed ∷ [] →
    name_text ≡ name → true ≡ pointwise nat_eq name_text (codes "sim") → seed_text ≡ seed → n < 2 ^ 64 → seed_text ≡ decimal n → HasSeed words n
has_seed words name seed name_text seed_text n two name_is is_name seed_is low same =
    record {
      low = low;
      words_are = two ∙ ap (λ w. w ∷ seed ∷ []) (sym name_is ∙ same_text name_text (codes "sim") is_name)
          ∙ ap (λ w. codes "sim" ∷ w ∷ []) (sym seed_is ∙ same);
    }

pub no_seed : (words : List (List ℕ)) (name seed seed_text : List ℕ) → words ≡ name ∷ seed ∷ [] → seed_text ≡ seed → ((n : ℕ) → n < 2 ^ 64 → seed_text ≢ decimal n) → ¬ IsSim words
no_seed words name seed seed_text two seed_is none sim =
    none sim.0 sim.1.low (seed_is ∙ ap (λ ws. get_or ws 1 seed) (sym two ∙ sim.1.words_are))

-- what was found of the seed
pub seed_told : (words : List (List ℕ)) (name seed name_text seed_text : List ℕ) (found : Option ℕ) → words ≡ name ∷ seed ∷ [] →
    name_text ≡ name → true ≡ pointwise nat_eq name_text (codes "sim") → seed_text ≡ seed →
    IfSome found (λ n. (n < 2 ^ 64) × (seed_text ≡ decimal n)) → IfNone found ((n : ℕ) → n < 2 ^ 64 → seed_text ≢ decimal n) →
    MatchOption found (¬ IsSim words) (HasSeed words)
seed_told words name seed name_text seed_text (Some n) two name_is is_name seed_is some none = has_seed words name seed name_text seed_text n two name_is is_name seed_is some.0 some.1
seed_told words name seed name_text seed_text None two name_is is_name seed_is some none = no_seed words name seed seed_text two seed_is none

-- the first of some items
pub first_item : {A : Type 0} → (xs : List A) (x : A) → 1 ≤ length xs → x ≡ slice_index_or xs 0 x → (rest : List A) × (xs ≡ x ∷ rest)
first_item [] x least is = absurd (omega arith)
first_item (y ∷ rest) x least is = (rest, ap (λ z. z ∷ rest) (sym is))

-- the first word was compared
pub told_first : (words : List (List ℕ)) (first word text : List ℕ) (rest : List (List ℕ)) (r : Bool) → words ≡ first ∷ rest → text ≡ first → r ≡ pointwise nat_eq text word →
    IsTrue r ↔ BeginsWith word words
told_first words first word text rest true e same is = (λ t. (rest, e ∙ ap (λ w. w ∷ rest) (sym same ∙ same_text text word is)), λ b. refl)
told_first words first word text rest false e same is =
    (λ t. absurd (false≢true t), λ b. absurd (other_text text word is (same ∙ ap (λ ws. get_or ws 0 word) (sym e ∙ b.1))))
