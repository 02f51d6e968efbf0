use Rattle.std.proofs.Common.{◌≡◌, ◌<◌, ◌≤◌, get_or, length, map, take}
use Rattle.std.specs.List.{All}
use Rattle.fam_model.specs.declared.rows.ItemRow.{ItemRow}
use Rattle.fam_model.specs.Rows.{item_number}
use Rattle.fam_directory.specs.Index.{IsIndexOf, rows_of}
use Rattle.fam_directory.proofs.building.add_items.Given as goal

-- the items so far are copied, and are in the indexes
abbrev pub invariant-loop-item : goal.invariant-loop-item
invariant-loop-item l = record {
  copied : l.items.rows ≡ take l.item-index l.item-items;
  kept : map (λ region. region.row) l.regions.items ≡ l.rows.regions;
  passed : (d : ItemRow) → l.item-index < length l.item-items → l.items.next ≤ item_number (get_or l.item-items l.item-index d);
  within : l.items.next ≤ l.rows.next_item;
  indexes : All (IsIndexOf (rows_of l.regions.items l.items.rows 0 0)) l.regions.items;
}
