use Rattle.std.proofs.Common.{◌≡◌, map, take}
use Rattle.fam_directory.proofs.building.region_rows.Given as goal

-- copies of the rows so far
abbrev pub invariant-loop-region : goal.invariant-loop-region
invariant-loop-region l = l.rows ≡ map (λ region. region.row) (take l.region-index l.regions)
