use Rattle.std.proofs.Common.{◌++◌, sym, ap, ◌∙◌}
use Rattle.std.specs.List.{flat_map}
use Rattle.fam_model.specs.declared.line.Line.TheVariants as line
use Rattle.fam_model.specs.ScriptText.{statement_lines}
use Rattle.fam_script.proofs.Blocks.{statement_lines-Repeat}
use Rattle.fam_trial.specs.Lines.{lines_text}
use Rattle.fam_trial.proofs.Lines.{framed}
use Rattle.fam_trial.proofs.printing.+writing.Goals as goal

pub add_repeat-returns : goal.add_repeat-returns
add_repeat-returns t c =
    let old = c.args.text.items in
    let body = c.args.body.now in
    framed old c.in_ok-begun.begun.items c.in_ok-inside.inside.items c.in_ok-whole.whole.items (line.Repeat c.args.times) line.Done (flat_map statement_lines body)
    c.in_ok-begun.ensures c.in_ok-inside.ensures c.in_ok-whole.ensures
    ∙ ap (λ l. old ++ lines_text l) (sym (statement_lines-Repeat c.args.times body))
