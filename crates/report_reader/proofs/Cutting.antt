-- The words in front of a text.
use Rattle.std.proofs.Common.{◌≡◌, ℕ, zero, suc, ◌+◌, ◌-◌, ◌<◌, ◌≤◌, List, [], ◌∷◌, ◌++◌, length, take, drop, refl, sym, ap, subst, ◌∙◌, append_assoc, arith}
use Rattle.std.specs.List.{flat_map, join_with_byte}
use Rattle.std.proofs.lemmas.List.{append-nil, take_at, length-append}
use Rattle.std.proofs.lemmas.List.Concat.{flat_map-append}
use Rattle.std.proofs.lemmas.List.Splits.{join_with_byte-slice_split}
use Rattle.fam_model.specs.Words.{words_text}
use Rattle.fam_script.specs.Reading.{Words, parts}
use Rattle.fam_script.proofs.Cuts.{first_part}

-- words with a space behind each
abbrev pub fronts : Words → List ℕ
fronts words = flat_map (λ word. word ++ 32 ∷ []) words

-- so many words were cut off
pub record IsCut (text rest : List ℕ) (k : ℕ) : Type 0 where
  pub words : parts 32 rest ≡ drop k (parts 32 text)
  pub front : text ≡ fronts (take k (parts 32 text)) ++ rest

-- a text cut at its first space
cut_is : (rest word others : List ℕ) → parts 32 rest ≡ word ∷ parts 32 others → rest ≡ word ++ 32 ∷ others
cut_is rest word others e =
    let more = first_part 32 others in
    sym (join_with_byte-slice_split 32 rest) ∙ ap (join_with_byte 32) e ∙ ap (λ (ws : Words). join_with_byte 32 (word ∷ ws)) more.2
    ∙ ap (λ (ws : Words). word ++ 32 ∷ join_with_byte 32 ws) (sym more.2) ∙ ap (λ (text : List ℕ). word ++ 32 ∷ text) (join_with_byte-slice_split 32 others)

dropped_more : (k : ℕ) (ws : Words) (w : List ℕ) (vs : Words) → drop k ws ≡ w ∷ vs → (drop (suc k) ws ≡ vs) × (take (suc k) ws ≡ take k ws ++ w ∷ [])
dropped_more zero ws w vs e = (ap (λ (l : Words). drop 1 l) e, ap (λ (l : Words). take 1 l) e)
dropped_more (suc k) [] w vs e = absurd cc
dropped_more (suc k) (u ∷ ws) w vs e =
    let more = dropped_more k ws w vs e in (more.0, ap (λ (l : Words). u ∷ l) more.1)

abbrev no_words : Words
no_words = []

drop_nothing : (n : ℕ) → drop n (no_words) ≡ []
drop_nothing zero = refl
drop_nothing (suc n) = refl

dropped_all : (k n : ℕ) (ws : Words) (w : List ℕ) → drop k ws ≡ w ∷ [] → k < n → drop n ws ≡ []
dropped_all k zero ws w e low = absurd (omega arith)
dropped_all zero (suc n) ws w e low = ap (λ (l : Words). drop (suc n) l) e ∙ drop_nothing n
dropped_all (suc k) (suc n) [] w e low = absurd cc
dropped_all (suc k) (suc n) (u ∷ ws) w e low = dropped_all k n ws w e (omega arith)

pub cut_first : (text : List ℕ) → IsCut text text 0
cut_first text = record { words = refl; front = refl }

pub cut_more : (text rest word others : List ℕ) (k n : ℕ) → IsCut text rest k → parts 32 rest ≡ word ∷ parts 32 others → n ≡ suc k → IsCut text others n
cut_more text rest word others k n so_far e n-is =
    let words = parts 32 text in
    let more = dropped_more k words word (parts 32 others) (sym so_far.words ∙ e) in
    subst (IsCut text others) (sym n-is) (record {
      words = sym more.0;
      front =
          so_far.front ∙ ap (λ (r : List ℕ). fronts (take k words) ++ r) (cut_is rest word others e)
          ∙ ap (λ (r : List ℕ). fronts (take k words) ++ r) (sym (append_assoc word (32 ∷ []) others))
          ∙ sym (append_assoc (fronts (take k words)) (word ++ 32 ∷ []) others)
          ∙ ap (λ (f : List ℕ). f ++ others) (ap (λ (g : List ℕ). fronts (take k words) ++ g) (sym (append-nil (word ++ 32 ∷ []))) ∙ sym (flat_map-append (λ w. w ++ 32 ∷ []) (take k words) (word ∷ [])))
          ∙ ap (λ (ws : Words). fronts ws ++ others) (sym more.1);
    })

pub cut_all : (text rest : List ℕ) (k n : ℕ) → IsCut text rest k → parts 32 rest ≡ rest ∷ [] → k < n → drop n (parts 32 text) ≡ []
cut_all text rest k n so_far e low = dropped_all k n (parts 32 text) rest (sym so_far.words ∙ e) low

-- words with a space behind each are their text and a space
fronts_are : (w : List ℕ) (ws : Words) → fronts (w ∷ ws) ≡ words_text (w ∷ ws) ++ 32 ∷ []
fronts_are w [] = append-nil (w ++ 32 ∷ [])
fronts_are w (v ∷ ws) =
    ap (λ (f : List ℕ). (w ++ 32 ∷ []) ++ f) (fronts_are v ws)
    ∙ append_assoc w (32 ∷ []) (words_text (v ∷ ws) ++ 32 ∷ [])
    ∙ sym (append_assoc w (32 ∷ words_text (v ∷ ws)) (32 ∷ []))

front_is : (n : ℕ) (ws : Words) → 1 ≤ n → 0 < length ws → fronts (take n ws) ≡ words_text (take n ws) ++ 32 ∷ []
front_is zero ws one some = absurd (omega arith)
front_is (suc n) [] one some = absurd (omega arith)
front_is (suc n) (w ∷ ws) one some = fronts_are w (take n ws)

pub front_split : (text rest : List ℕ) (n : ℕ) → IsCut text rest n → 1 ≤ n → text ≡ words_text (take n (parts 32 text)) ++ 32 ∷ rest
front_split text rest n cut one =
    let has = first_part 32 text in
    let some : 0 < length (parts 32 text) = subst (λ (ws : Words). 0 < length ws) (sym has.2) (omega arith) in
    cut.front ∙ ap (λ (f : List ℕ). f ++ rest) (front_is n (parts 32 text) one some)
    ∙ append_assoc (words_text (take n (parts 32 text))) (32 ∷ []) rest

-- a front is found by the lengths of the rest and the whole
pub front_found : (text rest front : List ℕ) (n : ℕ) → text ≡ front ++ 32 ∷ rest → n ≡ length text - length rest - 1 → take n text ≡ front
front_found text rest front n e n-is =
    let length-is : length (front ++ 32 ∷ rest) ≡ length front + suc (length rest) = length-append front (32 ∷ rest) in
    let whole : length text ≡ length (front ++ 32 ∷ rest) = ap (λ (l : List ℕ). length l) e in
    let n-front : length front ≡ n = omega (arith, n-is, whole, length-is) in
    ap (take n) e ∙ take_at front (32 ∷ rest) n n-front
