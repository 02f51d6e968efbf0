use Rattle.std.proofs.Common.{◌≡◌, ℕ, List, take}
use Rattle.fam_directory.specs.Index.{named_in}
use Rattle.fam_directory.specs.Names.{named}
use Rattle.fam_directory.proofs.building.names_of.Given as goal

-- the names so far
abbrev pub invariant-loop-row : goal.invariant-loop-row
invariant-loop-row l = (name : List ℕ) → named name l.names ≡ named_in name (take l.row-index l.regions)
