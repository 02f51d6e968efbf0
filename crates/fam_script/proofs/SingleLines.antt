-- The line that a text is, as it is read.
use Rattle.std.proofs.Common.{◌≡◌, ℕ, List, Option, Some, None, refl, sym, ap, ◌∙◌}
use Rattle.fam_model.specs.declared.line.Line.{Line}
use Rattle.fam_script.specs.Lines.{IsLineOf}
use Rattle.fam_script.specs.Reading.{line_of}
use Rattle.fam_script.proofs.LinesBack.{line_reader}

none_is_some : (l : Line) → None ≡ Some l → ⊥
none_is_some l e = cc

-- what is read is the line
pub line_is : (text : List ℕ) (found : Option Line) → found ≡ line_of text → IsLineOf text found
line_is text None e = λ l lawful same. none_is_some l (e ∙ ap line_of same ∙ line_reader.again l lawful)
line_is text (Some l) e = line_reader.takes text l (sym e)

-- and the line is what is read
pub line_found : (text : List ℕ) (found : Option Line) → IsLineOf text found → line_of text ≡ found
line_found text None none = by_read (line_of text) refl
  where
    by_read : (o : Option Line) → line_of text ≡ o → line_of text ≡ None
    by_read None e = e
    by_read (Some l) e = let t = line_reader.takes text l e in absurd (none l t.0 t.1)
line_found text (Some l) is = ap line_of is.1 ∙ line_reader.again l is.0
