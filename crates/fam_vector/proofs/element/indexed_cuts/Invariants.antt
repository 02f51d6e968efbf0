use Rattle.std.proofs.Common.{◌≡◌, ◌++◌, drop, false}
use Rattle.fam_model.specs.Issue.{ends_past}
use Rattle.fam_model.specs.Pieces.{all_cuts, indexed}
use Rattle.fam_vector.proofs.element.indexed_cuts.Given as goal

-- the cuts so far, and those of the elements that are left, which end in time
abbrev pub invariant-loop-place : goal.invariant-loop-place
invariant-loop-place l =
    (ends_past l.target.size (indexed l.size (drop l.place-index l.places)) ≡ false)
    × (l.ranges ++ all_cuts l.layout.unit l.target.base (indexed l.size (drop l.place-index l.places))
    ≡ all_cuts l.layout.unit l.target.base (indexed l.size l.places))
