use Rattle.std.proofs.Common.{◌≡◌, ◌∷◌, ◌++◌, [], take}
use Rattle.std.specs.List.{flat_map}
use Rattle.fam_model.specs.ReportText.{reply_line_text}
use Rattle.fam_text.proofs.report.replies.push_reply_lines.Given as goal

abbrev pub invariant-loop-line : goal.invariant-loop-line
invariant-loop-line l =
    l.text.items ≡ l.initial.text.items ++ flat_map (λ line. reply_line_text line ++ 10 ∷ []) (take l.line-index l.lines)
