-- The line that a text is.
use Rattle.std.specs.Prelude.{◌≡◌, ℕ, true, List, Option, Some, None}
use Rattle.fam_model.specs.declared.line.Line.{Line}
use Rattle.fam_model.specs.Grammar.{is_line}
use Rattle.fam_model.specs.ScriptText.{line_text}

-- this is the lawful line whose text it is, if it is the text of one
abbrev pub IsLineOf : List ℕ → Option Line → Type 0
IsLineOf text (Some l) = (is_line l ≡ true) × (text ≡ line_text l)
IsLineOf text None = (l : Line) → is_line l ≡ true → ¬ (text ≡ line_text l)
