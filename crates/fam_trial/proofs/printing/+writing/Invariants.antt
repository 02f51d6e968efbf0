use Rattle.std.proofs.Common.{◌≡◌, ◌++◌, take}
use Rattle.std.specs.List.{flat_map}
use Rattle.fam_model.specs.ScriptText.{statement_lines}
use Rattle.fam_trial.specs.Lines.{lines_text}
use Rattle.fam_trial.proofs.printing.+writing.Given as goal

abbrev pub invariant-add_statements-loop-statement : goal.invariant-add_statements-loop-statement
invariant-add_statements-loop-statement l = l.grown.items ≡ l.fn.text.items ++ lines_text (flat_map statement_lines (take l.statement-index l.statements))
