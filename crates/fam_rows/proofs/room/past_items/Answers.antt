use Rattle.std.proofs.Common.{◌≤◌, sym, ◌∙◌, subst}
use Rattle.fam_model.specs.declared.rows.ItemRow.{ItemRow}
use Rattle.fam_model.specs.Limits.{max_region_size}
use Rattle.fam_model.specs.Rows.{room_end}
use Rattle.fam_rows.proofs.Searches.{room_ends}
use Rattle.fam_rows.proofs.Gaps.{seen_one}
use Rattle.fam_rows.proofs.room.past_items.Goals as goal
use Rattle.fam_rows.proofs.room.past_items.Goals.{then-item-region, else-item-region}

-- rooms end inside their regions
pub moved_past-base-requires : goal.moved_past-base-requires
moved_past-base-requires c =
    let Ends : ItemRow → Type 0 = λ x. room_end x ≤ max_region_size in
    let bound = room_ends c.args.rows.now c.requires c.loop-item.item-index c.item-item.result (rw (← c.as_slice-item-items.ensures) c.loop-item-test.true) in
    subst Ends (sym c.item-item.is) (rw c.as_slice-item-items.ensures bound)

-- one more item is passed, or lies in another region
pub loop-item-preserved : goal.loop-item-preserved
loop-item-preserved c =
    seen_one c.args.n c.args.from c.args.region.0 c.loop-item.base c.if-item-region.base c.loop-item.item-index c.as_slice-item-items.result.now c.item-item.result c.loop-item-test.true c.item-item.is c.loop-item.invariant
    (λ same. elim c.if-item-region.branch [ then-item-region w ↦ w.base-is ∙ w.moved_past-base.ensures | else-item-region w ↦ absurd (w.if-item-region.false same) ])
    (λ other. elim c.if-item-region.branch [ then-item-region w ↦ absurd (other w.if-item-region.true) | else-item-region w ↦ w.base-is ])
