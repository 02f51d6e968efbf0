-- How many lines inputs have.
use Rattle.std.proofs.Common.{◌≡◌, ℕ, ◌+◌, ◌-◌, ◌<◌, ◌≤◌, zero, suc, Bool, true, false, List, [], ◌∷◌, ◌++◌, map, length, refl, sym, ap, ◌∙◌, subst, arith, length-append, inl, inr, ◌⊎◌}
use Rattle.std.specs.Prelude.{count_by, drop, take, ◌==◌, if◌then◌else◌, codes}
use Rattle.std.specs.List.{flat_map, slice_split}
use Rattle.std.proofs.lemmas.List.{length-map}
use Rattle.std.proofs.lemmas.List.Splits.{length-slice_split}
use Rattle.std.proofs.lemmas.List.Sums.{count_by-le-length}
use Rattle.famrun.specs.Ending.{input_limit}
use Rattle.fam_model.specs.declared.script.Script.{Script}
use Rattle.fam_model.specs.Grammar.{IsScript}
use Rattle.fam_model.specs.ScriptText.{line_text, script_lines}
use Rattle.fam_model.specs.Words.{text_of}
use Rattle.fam_script.specs.BadLine.{whole_lines}
use Rattle.std.proofs.lemmas.Bool.{cases_lt}
use Rattle.famrun.specs.Auditing.{is_behind_stop}
use Rattle.report_reader.specs.Report.{IsBadReportLine}

-- a text has a byte for each line at least
pub lines_within : (lines : List (List ℕ)) → length lines ≤ length (text_of lines)
lines_within [] = omega arith
lines_within (line ∷ lines) =
    let rest = lines_within lines in
    let all : length (text_of (line ∷ lines)) ≡ length (line ++ 10 ∷ []) + length (text_of lines) = length-append (line ++ 10 ∷ []) (text_of lines) in
    let first : length (line ++ 10 ∷ []) ≡ length line + 1 = length-append line (10 ∷ []) in
    omega (arith, rest, all, first)

-- a script has no more lines than bytes
pub script_lines_within : (bytes : List ℕ) (script : Script) → IsScript bytes script → script.lines ≤ length bytes
script_lines_within bytes script is =
    let count = is.lawful.but_count.line_count in
    let texts : length (map line_text (script_lines script)) ≡ length (script_lines script) = length-map (script_lines script) line_text in
    let within = lines_within (map line_text (script_lines script)) in
    let same : length bytes ≡ length (text_of (map line_text (script_lines script))) = ap length is.text in
    omega (arith, count, texts, within, same)

-- the first bad line is at most one behind the whole ones
take_within : {A : Type 0} (n : ℕ) (xs : List A) → length (take n xs) ≤ n
take_within zero xs = omega arith
take_within (suc n) [] = omega arith
take_within (suc n) (x ∷ xs) = let rest = take_within n xs in omega (arith, rest)

drop_within : {A : Type 0} (n : ℕ) (xs : List A) → length (drop n xs) ≤ length xs - n
drop_within zero xs = omega arith
drop_within (suc n) [] = omega arith
drop_within (suc n) (x ∷ xs) = let rest = drop_within n xs in omega (arith, rest)

take_whole : {A : Type 0} (n : ℕ) (xs : List A) → length xs ≤ n → take n xs ≡ xs
take_whole zero [] h = refl
take_whole (suc n) [] h = refl
take_whole zero (x ∷ xs) h = absurd (omega (arith, h))
take_whole (suc n) (x ∷ xs) h = ap (λ ys. x ∷ ys) (take_whole n xs (omega (arith, h)))

whole_within : (bytes : List ℕ) → length (whole_lines bytes) ≤ length bytes
whole_within bytes =
    let parts = slice_split (λ b. b == 10) bytes in
    let taken : length (take (length parts - 1) parts) ≤ length parts - 1 = take_within (length parts - 1) parts in
    let count : length parts ≡ count_by (λ b. b == 10) bytes + 1 = length-slice_split (λ b. b == 10) bytes in
    let few : count_by (λ b. b == 10) bytes ≤ length bytes = count_by-le-length (λ b. b == 10) bytes in
    omega (arith, taken, count, few)

pub bad_line_within : (bytes : List ℕ) (n : ℕ) → IsBadReportLine bytes n → n ≤ length bytes + 1
bad_line_within bytes zero is = omega arith
bad_line_within bytes (suc m) is =
    let before = (is.first.before m (omega arith)).0 in
    let whole = whole_within bytes in
    omega (arith, before, whole)

-- no line `stop` ends before the next place either
pub one_further : (bytes : List ℕ) (n : ℕ) → ((k : ℕ) → k < n → is_behind_stop bytes k ≡ false) → is_behind_stop bytes n ≡ false → (k : ℕ) → k < n + 1 → is_behind_stop bytes k ≡ false
one_further bytes n before here k low = by_place (cases_lt k n)
  where
    by_place : (k < n) ⊎ (n ≤ k) → is_behind_stop bytes k ≡ false
    by_place (inl less) = before k less
    by_place (inr more) = let same : k ≡ n = omega (arith, low, more) in subst (λ m. is_behind_stop bytes m ≡ false) (sym same) here

-- the parts of an input

pub short_enough : (bytes : List ℕ) (end : ℕ) (script : Script) → end ≤ length bytes → length bytes ≤ input_limit → IsScript (take end bytes) script →
    script.lines + length (take (length bytes - end) (drop end bytes)) ≤ input_limit
short_enough bytes end script within few is =
    let lines = script_lines_within (take end bytes) script is in
    let front = take_within end bytes in
    let back = take_within (length bytes - end) (drop end bytes) in
    omega (arith, lines, front, back, within, few)

pub rest_is : (bytes : List ℕ) (end : ℕ) → take (length bytes - end) (drop end bytes) ≡ drop end bytes
rest_is bytes end = take_whole (length bytes - end) (drop end bytes) (drop_within end bytes)
