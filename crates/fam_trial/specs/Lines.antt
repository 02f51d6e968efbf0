-- Lines of a script as text.
use Rattle.std.specs.Prelude.{ℕ, List, map}
use Rattle.fam_model.specs.declared.line.Line.{Line}
use Rattle.fam_model.specs.ScriptText.{line_text}
use Rattle.fam_model.specs.Words.{text_of}

-- lines, each with its line feed
abbrev pub lines_text : List Line → List ℕ
lines_text lines = text_of (map line_text lines)
