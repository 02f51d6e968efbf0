use Rattle.std.proofs.Common.{ap, ◌∙◌}
use Rattle.std.specs.Prelude.{Err}
use Rattle.famrun.proofs.reading.script_of.Goals as goal

pub returns-in-Err-BadLine-clause-ending : goal.returns-in-Err-BadLine-clause-ending
returns-in-Err-BadLine-clause-ending c = c.parse.ensures.bad_line c.in-Err-BadLine.n (c.in-Err-BadLine.is ∙ ap Err c.in-Err-BadLine.field-0-is)
