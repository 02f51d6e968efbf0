use Rattle.std.proofs.Common.{◌≡◌, ℕ, List, Option, Ok, Err, Result}
use Rattle.std.specs.Prelude.{IfOk}
use Rattle.fam_base.specs.declared.error.NoMemory.{NoMemory}
use Rattle.fam_model.specs.declared.line.Line.{Line}
use Rattle.fam_script.specs.Lines.{IsLineOf}
use Rattle.fam_script.specs.Reading.{line_of}
use Rattle.fam_script.proofs.SingleLines.{line_is}
use Rattle.fam_script.proofs.script.parse_line.Goals as goal

-- what is read is the line
read_line : (text : List ℕ) (result : Result (Option Line) NoMemory) → IfOk result (λ l. l ≡ line_of text) → IfOk result (IsLineOf text)
read_line text (Ok found) e = line_is text found e
read_line text (Err fault) e = e

pub returns : goal.returns
returns c = read_line c.args.text.now c.line.result c.line.ensures.line
