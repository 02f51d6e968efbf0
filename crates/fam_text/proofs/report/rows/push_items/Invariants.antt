use Rattle.std.proofs.Common.{◌≡◌, ◌∷◌, ◌++◌, [], cond, take}
use Rattle.std.specs.Prelude.{◌==◌}
use Rattle.std.specs.List.{flat_map}
use Rattle.fam_model.specs.Rows.{item_number}
use Rattle.fam_model.specs.ReportText.{item_text}
use Rattle.fam_text.proofs.report.rows.push_items.Given as goal

abbrev pub invariant-loop-row : goal.invariant-loop-row
invariant-loop-row l =
    l.text.items
    ≡ l.initial.text.items
    ++ flat_map (λ row. cond (item_number row == 0) [] (item_text row ++ 10 ∷ [])) (take l.row-index l.rows)
