use Rattle.std.proofs.Common.{◌∷◌, [], map, filter}
use Rattle.std.specs.Prelude.{◌==◌, codes, not}
use Rattle.std.specs.Fmt.{decimal}
use Rattle.fam_model.specs.Words.{words_text}
use Rattle.fam_model.specs.Rows.{item_number, region_number}
use Rattle.fam_model.specs.ReportText.{item_text, region_text}
use Rattle.fam_text.proofs.Lines.{opened}
use Rattle.fam_text.proofs.report.rows.push_opening.Goals as goal

pub returns : goal.returns
returns c =
    rw (c.in_ok-push_items.ensures, c.as_slice-2.ensures, c.in_ok-push_regions.ensures, c.as_slice.ensures, c.in_ok-push_text.ensures, c.in_ok-push_format.ensures)
    (opened c.args.text.now.items
    (words_text (codes "opening" ∷ decimal c.args.rows.now.next_region ∷ decimal c.args.rows.now.next_item ∷ []))
    (map region_text (filter (λ row. not (region_number row == 0)) c.args.rows.now.regions))
    (map item_text (filter (λ row. not (item_number row == 0)) c.args.rows.now.items)))
