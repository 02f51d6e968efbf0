use Rattle.std.proofs.Common.{◌≡◌, drop}
use Rattle.fam_model.specs.Issue.{ends_past}
use Rattle.fam_model.specs.Pieces.{indexed}
use Rattle.fam_vector.proofs.element.indexed_past.Given as goal

-- the elements that are left settle the answer
abbrev pub invariant-loop-place : goal.invariant-loop-place
invariant-loop-place l = ends_past l.limit (indexed l.size (drop l.place-index l.places)) ≡ ends_past l.limit (indexed l.size l.places)
