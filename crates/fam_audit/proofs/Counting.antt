-- The lines of an opening, counted.
use Rattle.std.proofs.Common.{◌≡◌, ◌+◌, length, length-append, ◌∙◌, arith}
use Rattle.std.specs.Prelude.{◌==◌, not, count_by, filter, map}
use Rattle.std.proofs.lemmas.List.{length-map}
use Rattle.std.proofs.lemmas.List.Sums.{length-filter}
use Rattle.fam_model.specs.declared.rows.ItemRow.{ItemRow}
use Rattle.fam_model.specs.declared.rows.RegionRow.{RegionRow}
use Rattle.fam_model.specs.declared.rows.Rows.{Rows}
use Rattle.fam_model.specs.ReportText.{item_text, opening_lines, region_text}
use Rattle.fam_model.specs.Rows.{item_number, region_number}

-- one line, and one for each region and each item but those that are always there
pub opening_length : (rows : Rows) →
    length (opening_lines rows) ≡ 1 + (count_by (λ row. not (region_number row == 0)) rows.regions + count_by (λ row. not (item_number row == 0)) rows.items)
opening_length rows =
    let regions = filter (λ (row : RegionRow). not (region_number row == 0)) rows.regions in
    let items = filter (λ (row : ItemRow). not (item_number row == 0)) rows.items in
    let both = length-append (map region_text regions) (map item_text items) in
    let first = length-map regions region_text ∙ length-filter (λ (row : RegionRow). not (region_number row == 0)) rows.regions in
    let second = length-map items item_text ∙ length-filter (λ (row : ItemRow). not (item_number row == 0)) rows.items in
    omega (arith, both, first, second)
