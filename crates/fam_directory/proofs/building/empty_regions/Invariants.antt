use Rattle.std.proofs.Common.{◌≡◌, map, take}
use Rattle.std.specs.List.{All}
use Rattle.fam_directory.specs.Index.{IsIndexOf, without_items}
use Rattle.fam_directory.proofs.building.empty_regions.Given as goal

-- the regions so far, with no items
abbrev pub invariant-loop-row : goal.invariant-loop-row
invariant-loop-row l = record {
  made : map (λ region. region.row) l.regions.items ≡ take l.row-index l.row-items;
  indexes : All (IsIndexOf (without_items l.rows)) l.regions.items;
}
