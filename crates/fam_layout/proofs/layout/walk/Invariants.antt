use Rattle.std.proofs.Common.{◌≡◌, ◌+◌, ◌-◌, ◌≤◌, ◌++◌}
use Rattle.fam_model.specs.Pieces.{cut_where}
use Rattle.fam_layout.specs.Layouts.{is_border_of_either}
use Rattle.fam_layout.proofs.layout.walk.Given as goal

-- the ranges so far, and the parts of what is left
abbrev pub invariant-loop-at : goal.invariant-loop-at
invariant-loop-at l =
    (l.at ≤ l.end)
    × (l.offset ≤ l.at)
    × (l.end ≡ l.offset + l.n)
    × (l.ranges ++ cut_where (is_border_of_either l.unit l.from l.to) l.at (l.end - l.at)
    ≡ l.fn.ranges ++ cut_where (is_border_of_either l.unit l.from l.to) l.offset l.n)

abbrev pub decreases-loop-at : goal.decreases-loop-at
decreases-loop-at l = l.end - l.at
