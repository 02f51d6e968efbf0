-- Bytes cut at the first separator.
use Rattle.std.proofs.Common.{◌≡◌, ℕ, ◌+◌, ◌-◌, ◌≤◌, Bool, true, false, cond, List, [], ◌∷◌, length, get_or, take, drop, Option, Some, None, refl, sym, ap, subst, ◌∙◌, arith, length-drop}
use Rattle.std.specs.Prelude.{◌==◌, nat_lt, position}
use Rattle.std.specs.List.{slice_split, onto_first, position_or_len}
use Rattle.std.proofs.lemmas.Bool.{ltb-true, ltb-false, cond_above, cond_below}
use Rattle.std.proofs.lemmas.List.Splits.{slice_split_none, slice_split_first}
use Rattle.std.proofs.lemmas.List.Sums.{fails_before_first, position_or_len_is}
use Rattle.std.proofs.lemmas.List.{take_all}
use Rattle.memchr.specs.Find.{IsFirst, Passes}
use Rattle.fam_script.specs.Reading.{parts, one_of}
use Rattle.fam_script.proofs.Tests.{some_is}

abbrev some : ℕ → Option ℕ
some n = Some n

fails : (b : Bool) → (b ≡ true → ⊥) → b ≡ false
fails true never = absurd (never refl)
fails false never = refl

module _ (p : ℕ → Bool) (xs : List ℕ) where
  abbrev Cut : ℕ → Type 0
  Cut at = slice_split p xs ≡ take at xs ∷ slice_split p (drop (at + 1) xs)

  -- a search for the separator finds its first place
  pub first_place : (r : Option ℕ) → IsFirst (Passes p xs) 0 (length xs) r → r ≡ position p xs
  first_place None none =
      let all : position_or_len p xs ≡ length xs = position_or_len_is p xs (length xs) 0 (omega arith) (λ k low. fails (p (get_or xs k 0)) (none k (omega arith) low)) (λ low. absurd (omega (arith, low))) in
      cond_above (position_or_len p xs) (length xs) (some (position_or_len p xs)) None None (omega (arith, all)) refl
  first_place (Some k) (found, passes) =
      let at : position_or_len p xs ≡ k = position_or_len_is p xs k 0 (omega (arith, found.high)) (λ j low. fails (p (get_or xs j 0)) (found.before j (omega arith) low)) (λ _. passes) in
      sym (ap some at) ∙ cond_below (position_or_len p xs) (length xs) (some (position_or_len p xs)) None (omega (arith, at, found.high))

  cut_some : (at : ℕ) → position p xs ≡ Some at → Cut at
  cut_some at e = by_test (nat_lt (position_or_len p xs) (length xs)) refl e
    where
      by_test : (b : Bool) → nat_lt (position_or_len p xs) (length xs) ≡ b → cond b (some (position_or_len p xs)) None ≡ some at → Cut at
      by_test true h e = subst Cut (some_is (position_or_len p xs) at e) (slice_split_first p xs 0 (ltb-true _ _ h))
      by_test false h e = absurd cc

  -- no part before, where there is no separator
  pub cut_none : position p xs ≡ None → slice_split p xs ≡ xs ∷ []
  cut_none e = by_test (nat_lt (position_or_len p xs) (length xs)) refl e
    where
      by_test : (b : Bool) → nat_lt (position_or_len p xs) (length xs) ≡ b → cond b (some (position_or_len p xs)) None ≡ None → slice_split p xs ≡ xs ∷ []
      by_test true h e = absurd cc
      by_test false h e =
          let high : length xs ≤ position_or_len p xs = ltb-false _ _ h in
          slice_split_none p xs (λ k d low. fails_before_first p xs k d (omega arith))

  -- the part before the separator, and the parts behind it
  pub cut_at : (at : ℕ) → position p xs ≡ Some at → slice_split p xs ≡ take at xs ∷ slice_split p (take (length xs - (at + 1)) (drop (at + 1) xs))
  cut_at at e =
      let whole : take (length xs - (at + 1)) (drop (at + 1) xs) ≡ drop (at + 1) xs = take_all (length xs - (at + 1)) (drop (at + 1) xs) (omega (arith, length-drop (at + 1) xs)) in
      cut_some at e ∙ ap (λ (rest : List ℕ). take at xs ∷ slice_split p rest) (sym whole)

-- the parts are one at least
abbrev HasFirst : List (List ℕ) → Type 0
HasFirst words = (w : List ℕ) × (ws : List (List ℕ)) × (words ≡ w ∷ ws)

onto_has_first : (x : ℕ) (words : List (List ℕ)) → HasFirst (onto_first x words)
onto_has_first x [] = (x ∷ [], [], refl)
onto_has_first x (w ∷ ws) = (x ∷ w, ws, refl)

either_has_first : (b : Bool) (v w : List (List ℕ)) → HasFirst v → HasFirst w → HasFirst (cond b v w)
either_has_first true v w p q = p
either_has_first false v w p q = q

pub first_part : (separator : ℕ) (bytes : List ℕ) → HasFirst (parts separator bytes)
first_part separator [] = ([], [], refl)
first_part separator (x ∷ bytes) =
    either_has_first (x == separator) ([] ∷ parts separator bytes) (onto_first x (parts separator bytes)) ([], parts separator bytes, refl) (onto_has_first x (parts separator bytes))

-- two words are not one
pub not_one : (a rest : List ℕ) → one_of (a ∷ parts 32 rest) ≡ None
not_one a rest = let more = first_part 32 rest in ap (λ (ws : List (List ℕ)). one_of (a ∷ ws)) more.2
