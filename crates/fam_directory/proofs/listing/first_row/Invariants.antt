use Rattle.std.proofs.Common.{◌≡◌, drop}
use Rattle.fam_directory.specs.Slots.{rows_in}
use Rattle.fam_directory.proofs.listing.first_row.Given as goal

-- the slots so far have no rows
abbrev pub invariant-loop-at : goal.invariant-loop-at
invariant-loop-at l = rows_in l.slots ≡ rows_in (drop l.at l.slots)
