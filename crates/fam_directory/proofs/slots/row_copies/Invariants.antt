use Rattle.std.proofs.Common.{◌≡◌, take}
use Rattle.fam_directory.specs.Slots.{rows_in}
use Rattle.fam_directory.proofs.slots.row_copies.Given as goal

-- copies of the rows so far
abbrev pub invariant-loop-slot : goal.invariant-loop-slot
invariant-loop-slot l = l.rows ≡ rows_in (take l.slot-index l.slots)
