use Rattle.std.proofs.Common.{◌≡◌, take}
use Rattle.fam_audit.proofs.copying.copy_of_regions.Given as goal

abbrev pub invariant-loop-row : goal.invariant-loop-row
invariant-loop-row l = l.copy ≡ take l.row-index l.rows
