-- Bytes are the text of one script at most: its lines are read back, and give its programs.
use Rattle.std.proofs.Common.{◌≡◌, ℕ, true, List, [], ◌∷◌, length, map, Option, Some, refl, sym, ap, ◌∙◌}
use Rattle.std.specs.List.{list_all}
use Rattle.fam_model.specs.declared.line.Line.{Line}
use Rattle.fam_model.specs.declared.script.Script.{Script}
use Rattle.fam_model.specs.Grammar.{is_line, IsLawfulScript, IsScript}
use Rattle.fam_model.specs.ScriptText.{line_text, script_lines}
use Rattle.fam_script.specs.BadLine.{whole_lines}
use Rattle.fam_script.specs.Machine.{Reading, Whole, read}
use Rattle.fam_script.specs.Reading.{line_of}
use Rattle.fam_script.proofs.LinesBack.{line_reader}
use Rattle.fam_script.proofs.Runs.{lawful_is_read}
use Rattle.fam_script.proofs.Splits.{lacks, whole_lines_back}
use Rattle.fam_script.proofs.Tests.{and_left, and_right, and_both}
use Rattle.fam_audit.specs.Laws.{BytesAreOneScript}

-- the lines of a text

no_feeds : (lines : List Line) → list_all is_line lines ≡ true → list_all (lacks 10) (map line_text lines) ≡ true
no_feeds [] lawful = refl
no_feeds (l ∷ lines) lawful =
    and_both (lacks 10 (line_text l)) (list_all (lacks 10) (map line_text lines))
    (line_reader.no_feed l (and_left (is_line l) (list_all is_line lines) lawful))
    (no_feeds lines (and_right (is_line l) (list_all is_line lines) lawful))

some_same : (x y : Line) → Some x ≡ Some y → x ≡ y
some_same x y e = cc

heads : (x y : List ℕ) (xs ys : List (List ℕ)) → x ∷ xs ≡ y ∷ ys → x ≡ y
heads x y xs ys e = cc

tails : (x y : List ℕ) (xs ys : List (List ℕ)) → x ∷ xs ≡ y ∷ ys → xs ≡ ys
tails x y xs ys e = cc

line_same : (x y : Line) → is_line x ≡ true → is_line y ≡ true → line_text x ≡ line_text y → x ≡ y
line_same x y p q e = some_same x y (sym (line_reader.again x p) ∙ ap line_of e ∙ line_reader.again y q)

join : (x y : Line) (xs ys : List Line) → x ≡ y → xs ≡ ys → x ∷ xs ≡ y ∷ ys
join x y xs ys e f = cc

lines_same : (xs ys : List Line) → list_all is_line xs ≡ true → list_all is_line ys ≡ true → map line_text xs ≡ map line_text ys → xs ≡ ys
lines_same [] [] p q e = refl
lines_same [] (y ∷ ys) p q e = cc
lines_same (x ∷ xs) [] p q e = cc
lines_same (x ∷ xs) (y ∷ ys) p q e =
    join x y xs ys
    (line_same x y (and_left (is_line x) (list_all is_line xs) p) (and_left (is_line y) (list_all is_line ys) q)
    (heads (line_text x) (line_text y) (map line_text xs) (map line_text ys) e))
    (lines_same xs ys (and_right (is_line x) (list_all is_line xs) p) (and_right (is_line y) (list_all is_line ys) q)
    (tails (line_text x) (line_text y) (map line_text xs) (map line_text ys) e))

-- the lines of a script that is the text of bytes
cut : (bytes : List ℕ) (script : Script) → IsScript bytes script → whole_lines bytes ≡ map line_text (script_lines script)
cut bytes script is =
    ap whole_lines is.text
    ∙ whole_lines_back (map line_text (script_lines script)) (no_feeds (script_lines script) is.lawful.but_count.lines)

-- a script, by what was read of its lines
abbrev script_of : Option Reading → ℕ → Script → Script
script_of (Some (Whole service programs)) lines other = record { service = service; programs = programs; lines = lines }
script_of _ lines other = other

pub one_script : BytesAreOneScript
one_script bytes a b p q =
    let same : script_lines a ≡ script_lines b =
    lines_same (script_lines a) (script_lines b) p.lawful.but_count.lines q.lawful.but_count.lines (sym (cut bytes a p) ∙ cut bytes b q) in
    let count : a.lines ≡ b.lines =
    p.lawful.but_count.line_count ∙ ap (λ (lines : List Line). length lines) same ∙ sym q.lawful.but_count.line_count in
    ap (λ (o : Option Reading). script_of o a.lines a) (sym (lawful_is_read a p.lawful) ∙ ap read same ∙ lawful_is_read b q.lawful)
    ∙ ap (λ (n : ℕ). script_of (Some (Whole b.service b.programs)) n a) count
