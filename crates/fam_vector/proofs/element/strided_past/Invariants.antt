use Rattle.std.proofs.Common.{◌≡◌}
use Rattle.fam_model.specs.Issue.{ends_past}
use Rattle.fam_vector.specs.Vector.{strided_parts}
use Rattle.fam_vector.proofs.Elements.{strided_from}
use Rattle.fam_vector.proofs.element.strided_past.Given as goal

-- the elements that are left settle the answer
abbrev pub invariant-loop-k : goal.invariant-loop-k
invariant-loop-k l = ends_past l.limit (strided_from l.elements l.k) ≡ ends_past l.limit (strided_parts l.elements)
