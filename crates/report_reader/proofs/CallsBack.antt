-- A call is read back from its text.
use Rattle.std.proofs.Common.{◌≡◌, ℕ, true, List, Option, Some, None, sym, ap, ◌∙◌}
use Rattle.fam_model.specs.declared.call.Call.{Call}
use Rattle.fam_model.specs.declared.line.Line.{Line}
use Rattle.fam_model.specs.declared.line.Line.TheVariants as line
use Rattle.fam_model.specs.CallText.{call_text}
use Rattle.fam_model.specs.Lists.{◌>>=◌}
use Rattle.fam_script.specs.Lines.{IsLineOf}
use Rattle.fam_script.proofs.LinesBack.{line_reader}
use Rattle.fam_script.proofs.SingleLines.{line_found}
use Rattle.report_reader.specs.EventForm.{is_call_told}
use Rattle.report_reader.specs.Reading.{call_of, call_on}

-- what is found where the text is this line, or that of none
pub call_found : (text : List ℕ) (found : Option Line) → IsLineOf text found → call_of text ≡ (found >>= call_on)
call_found text found is = ap (λ (o : Option Line). o >>= call_on) (line_found text found is)

pub call_back : (asked : Call) → is_call_told asked ≡ true → call_of (call_text asked) ≡ Some asked
call_back asked told = ap (λ (o : Option Line). o >>= call_on) (line_reader.again (line.One asked) told)
