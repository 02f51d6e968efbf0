use Rattle.std.proofs.Common.{◌≡◌, ◌++◌, take}
use Rattle.std.specs.List.{flat_map}
use Rattle.fam_model.specs.ScriptText.{program_lines}
use Rattle.fam_trial.specs.Lines.{lines_text}
use Rattle.fam_trial.proofs.printing.add_programs.Given as goal

abbrev pub invariant-loop-program : goal.invariant-loop-program
invariant-loop-program l = l.grown.items ≡ l.fn.text.items ++ lines_text (flat_map program_lines (take l.program-index l.programs))
