use Rattle.std.proofs.Common.{◌≡◌, take}
use Rattle.fam_vector.specs.Vector.{copied}
use Rattle.fam_vector.proofs.copy.copied_parts.Given as goal

-- the pieces of the parts so far
abbrev pub invariant-loop-part : goal.invariant-loop-part
invariant-loop-part l = l.pieces ≡ copied l.layout l.from.item l.from.offset l.to.item l.to.offset (take l.part-index l.part-items)
