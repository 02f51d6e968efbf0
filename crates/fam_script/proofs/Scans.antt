-- One step of a scan.
use Rattle.std.proofs.Common.{◌≡◌, ℕ, suc, ◌+◌, ◌-◌, List, [], ◌∷◌, length, take, drop, Option, Some, None, Err, sym, ap, ◌∙◌, arith}
use Rattle.std.specs.Prelude.{MatchOption}
use Rattle.std.specs.List.{flat_map}
use Rattle.std.proofs.lemmas.List.{append-nil}
use Rattle.fam_script.specs.BadLine.{whole_lines}
use Rattle.fam_script.specs.Machine.{Reading}
use Rattle.fam_script.specs.Parsing.{rest_of, ended_with, and_then, step_text, scan}
use Rattle.fam_script.specs.Reading.{parts}
use Rattle.fam_script.specs.Views.{view_reading}
use Rattle.fam_script.specs.declared.script.reading.Reading.{Reading as LinesSoFar}
use Rattle.fam_script.proofs.Cuts.{first_part}
use Rattle.fam_script.proofs.Tests.{some_is}

abbrev Texts : Type 0
Texts = List (List ℕ)

abbrev fronts : Texts → Texts
fronts ws = take (length ws - 1) ws

abbrev lasts : Texts → List ℕ
lasts ws = flat_map (λ part. part) (drop (length ws - 1) ws)

one_more : (text w : List ℕ) (ws : Texts) → length (text ∷ w ∷ ws) - 1 ≡ suc (length (w ∷ ws) - 1)
one_more text w ws = omega arith

module _ (bytes text rest : List ℕ) (cut : parts 10 bytes ≡ text ∷ parts 10 rest) where
  cut_whole : whole_lines bytes ≡ text ∷ whole_lines rest
  cut_whole =
      let more = first_part 10 rest in
      let w = more.0 in
      let ws = more.1 in
      ap fronts cut ∙ ap (λ (vs : Texts). fronts (text ∷ vs)) more.2
      ∙ ap (λ (n : ℕ). take n (text ∷ w ∷ ws)) (one_more text w ws)
      ∙ ap (λ (vs : Texts). text ∷ fronts vs) (sym more.2)

  cut_rest : rest_of bytes ≡ rest_of rest
  cut_rest =
      let more = first_part 10 rest in
      let w = more.0 in
      let ws = more.1 in
      ap lasts cut ∙ ap (λ (vs : Texts). lasts (text ∷ vs)) more.2
      ∙ ap (λ (n : ℕ). flat_map (λ part. part) (drop n (text ∷ w ∷ ws))) (one_more text w ws)
      ∙ ap lasts (sym more.2)

  module _ (n : ℕ) (reading : Reading) where
    cut_scan : (o : Option Reading) → step_text reading text ≡ o →
        scan n reading (whole_lines bytes) (rest_of bytes) ≡ and_then n o (λ next. scan (n + 1) next (whole_lines rest) (rest_of rest))
    cut_scan o e =
        (λ i. scan n reading (cut_whole i) (cut_rest i))
        ∙ ap (λ (o : Option Reading). and_then n o (λ next. scan (n + 1) next (whole_lines rest) (rest_of rest))) e

    pub scan_step : (next : Reading) → step_text reading text ≡ Some next → scan n reading (whole_lines bytes) (rest_of bytes) ≡ scan (n + 1) next (whole_lines rest) (rest_of rest)
    scan_step next e = cut_scan (Some next) e

    pub scan_bad : step_text reading text ≡ None → scan n reading (whole_lines bytes) (rest_of bytes) ≡ Err (n + 1)
    scan_bad e = cut_scan None e

-- no line feed any more
pub scan_end : (n : ℕ) (reading : Reading) (bytes : List ℕ) → parts 10 bytes ≡ bytes ∷ [] → scan n reading (whole_lines bytes) (rest_of bytes) ≡ ended_with n reading bytes
scan_end n reading bytes last =
    let whole : whole_lines bytes ≡ [] = ap fronts last in
    let rest : rest_of bytes ≡ bytes = ap lasts last ∙ append-nil bytes in
    λ i. scan n reading (whole i) (rest i)

-- the step of a line, from what the code made of it

module _ (before : Reading) (text : List ℕ) where
  abbrev pub Made : Option LinesSoFar → Type 0
  Made o = MatchOption o (step_text before text ≡ None) (λ now. step_text before text ≡ Some (view_reading now))

  pub none_made : (o : Option LinesSoFar) → Made o → o ≡ None → step_text before text ≡ None
  none_made None made e = made
  none_made (Some now) made e = absurd cc

  pub some_made : (o : Option LinesSoFar) (next : LinesSoFar) → Made o → o ≡ Some next → step_text before text ≡ Some (view_reading next)
  some_made None next made e = absurd cc
  some_made (Some now) next made e = made ∙ ap (λ (r : LinesSoFar). Some (view_reading r)) (some_is now next e)
