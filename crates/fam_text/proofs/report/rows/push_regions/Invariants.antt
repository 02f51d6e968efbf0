use Rattle.std.proofs.Common.{◌≡◌, ◌∷◌, ◌++◌, [], cond, take}
use Rattle.std.specs.Prelude.{◌==◌}
use Rattle.std.specs.List.{flat_map}
use Rattle.fam_model.specs.Rows.{region_number}
use Rattle.fam_model.specs.ReportText.{region_text}
use Rattle.fam_text.proofs.report.rows.push_regions.Given as goal

abbrev pub invariant-loop-row : goal.invariant-loop-row
invariant-loop-row l =
    l.text.items
    ≡ l.initial.text.items
    ++ flat_map (λ row. cond (region_number row == 0) [] (region_text row ++ 10 ∷ [])) (take l.row-index l.rows)
