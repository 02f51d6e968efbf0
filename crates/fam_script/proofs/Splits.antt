-- Lines and words, put together and taken apart.
use Rattle.std.proofs.Common.{◌≡◌, ℕ, ◌-◌, ◌<◌, Bool, true, false, not, cond, List, [], ◌∷◌, ◌++◌, length, take, drop, refl, sym, ap, ◌∙◌, append_assoc, arith, length-append}
use Rattle.std.specs.Prelude.{◌==◌}
use Rattle.std.specs.List.{flat_map, list_all, slice_split, onto_first, join_with_byte}
use Rattle.std.proofs.lemmas.List.{append-nil, take_at, drop_at}
use Rattle.std.proofs.lemmas.List.Splits.{join_with_byte-slice_split, length-slice_split}
use Rattle.fam_model.specs.Words.{text_of}
use Rattle.fam_script.specs.BadLine.{whole_lines}
use Rattle.fam_script.specs.Parsing.{rest_of}
use Rattle.fam_script.proofs.Tests.{and_left, and_right}

-- a text without the byte c
abbrev pub lacks : ℕ → List ℕ → Bool
lacks c text = list_all (λ b. not (b == c)) text

not_true : (b : Bool) → not b ≡ true → b ≡ false
not_true true e = cc
not_true false e = refl

module _ (c : ℕ) (same : (c == c) ≡ true) where
  abbrev split : List ℕ → List (List ℕ)
  split text = slice_split (λ b. b == c) text

  pub split-cons : (text rest : List ℕ) → lacks c text ≡ true → split (text ++ c ∷ rest) ≡ text ∷ split rest
  split-cons [] rest none = ap (λ (b : Bool). cond b ([] ∷ split rest) (onto_first c (split rest))) same
  split-cons (x ∷ text) rest none =
      let other = not_true (x == c) (and_left (not (x == c)) (lacks c text) none) in
      ap (λ (b : Bool). cond b ([] ∷ split (text ++ c ∷ rest)) (onto_first x (split (text ++ c ∷ rest)))) other
      ∙ ap (onto_first x) (split-cons text rest (and_right (not (x == c)) (lacks c text) none))

  pub split-last : (text : List ℕ) → lacks c text ≡ true → split text ≡ text ∷ []
  split-last [] none = refl
  split-last (x ∷ text) none =
      let other = not_true (x == c) (and_left (not (x == c)) (lacks c text) none) in
      ap (λ (b : Bool). cond b ([] ∷ split text) (onto_first x (split text))) other
      ∙ ap (onto_first x) (split-last text (and_right (not (x == c)) (lacks c text) none))

  -- parts with c between them
  pub parts_back : (w : List ℕ) (ws : List (List ℕ)) → list_all (lacks c) (w ∷ ws) ≡ true → split (join_with_byte c (w ∷ ws)) ≡ w ∷ ws
  parts_back w [] none = split-last w (and_left (lacks c w) true none)
  parts_back w (v ∷ ws) none =
      split-cons w (join_with_byte c (v ∷ ws)) (and_left (lacks c w) (list_all (lacks c) (v ∷ ws)) none)
      ∙ ap (λ (l : List (List ℕ)). w ∷ l) (parts_back v ws (and_right (lacks c w) (list_all (lacks c) (v ∷ ws)) none))

-- lines

lines_back : (texts : List (List ℕ)) → list_all (lacks 10) texts ≡ true → slice_split (λ b. b == 10) (text_of texts) ≡ texts ++ [] ∷ []
lines_back [] none = refl
lines_back (t ∷ texts) none =
    ap (λ (l : List ℕ). slice_split (λ b. b == 10) l) (append_assoc t (10 ∷ []) (text_of texts))
    ∙ split-cons 10 refl t (text_of texts) (and_left (lacks 10 t) (list_all (lacks 10) texts) none)
    ∙ ap (λ (l : List (List ℕ)). t ∷ l) (lines_back texts (and_right (lacks 10 t) (list_all (lacks 10) texts) none))

one_less : (texts : List (List ℕ)) → length (texts ++ [] ∷ []) - 1 ≡ length texts
one_less texts = omega (arith, length-append texts ([] ∷ []))

pub whole_lines_back : (texts : List (List ℕ)) → list_all (lacks 10) texts ≡ true → whole_lines (text_of texts) ≡ texts
whole_lines_back texts none =
    ap (λ (parts : List (List ℕ)). take (length parts - 1) parts) (lines_back texts none)
    ∙ ap (λ (n : ℕ). take n (texts ++ [] ∷ [])) (one_less texts) ∙ take_at texts ([] ∷ []) (length texts) refl

pub rest_back : (texts : List (List ℕ)) → list_all (lacks 10) texts ≡ true → rest_of (text_of texts) ≡ []
rest_back texts none =
    ap (λ (parts : List (List ℕ)). flat_map (λ part. part) (drop (length parts - 1) parts)) (lines_back texts none)
    ∙ ap (λ (n : ℕ). flat_map (λ part. part) (drop n (texts ++ [] ∷ []))) (one_less texts)
    ∙ ap (λ (parts : List (List ℕ)). flat_map (λ part. part) parts) (drop_at texts ([] ∷ []) (length texts) refl)

joined : (w : List ℕ) (ws : List (List ℕ)) → join_with_byte 10 (w ∷ ws) ≡ text_of (take (length ws) (w ∷ ws)) ++ flat_map (λ part. part) (drop (length ws) (w ∷ ws))
joined w [] = sym (append-nil w)
joined w (v ∷ ws) =
    ap (λ (l : List ℕ). w ++ (10 ∷ l)) (joined v ws)
    ∙ sym (append_assoc w (10 ∷ []) (text_of (take (length ws) (v ∷ ws)) ++ flat_map (λ part. part) (drop (length ws) (v ∷ ws))))
    ∙ sym (append_assoc (w ++ 10 ∷ []) (text_of (take (length ws) (v ∷ ws))) (flat_map (λ part. part) (drop (length ws) (v ∷ ws))))

joined_parts : (parts : List (List ℕ)) → 0 < length parts → join_with_byte 10 parts ≡ text_of (take (length parts - 1) parts) ++ flat_map (λ part. part) (drop (length parts - 1) parts)
joined_parts [] some = absurd (omega arith)
joined_parts (w ∷ ws) some =
    let less : length (w ∷ ws) - 1 ≡ length ws = omega arith in
    joined w ws ∙ ap (λ (n : ℕ). text_of (take n (w ∷ ws)) ++ flat_map (λ part. part) (drop n (w ∷ ws))) (sym less)

-- bytes are their whole lines, and what stands behind the last line feed
pub bytes_are : (bytes : List ℕ) → bytes ≡ text_of (whole_lines bytes) ++ rest_of bytes
bytes_are bytes =
    let parts = slice_split (λ b. b == 10) bytes in
    sym (join_with_byte-slice_split 10 bytes) ∙ joined_parts parts (omega (arith, length-slice_split (λ b. b == 10) bytes))
