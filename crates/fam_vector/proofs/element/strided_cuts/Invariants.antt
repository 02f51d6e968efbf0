use Rattle.std.proofs.Common.{◌≡◌, ◌++◌, false}
use Rattle.fam_model.specs.Issue.{ends_past}
use Rattle.fam_model.specs.Pieces.{all_cuts}
use Rattle.fam_vector.specs.Vector.{strided_parts}
use Rattle.fam_vector.proofs.Elements.{strided_from}
use Rattle.fam_vector.proofs.element.strided_cuts.Given as goal

-- the cuts so far, and those of the elements that are left, which end in time
abbrev pub invariant-loop-k : goal.invariant-loop-k
invariant-loop-k l =
    (ends_past l.target.size (strided_from l.elements l.k) ≡ false)
    × (l.ranges ++ all_cuts l.layout.unit l.target.base (strided_from l.elements l.k)
    ≡ all_cuts l.layout.unit l.target.base (strided_parts l.elements))
