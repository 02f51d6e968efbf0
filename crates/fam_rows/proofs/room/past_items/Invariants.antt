use Rattle.std.proofs.Common.{◌≡◌, take, eqb}
use Rattle.std.specs.List.{filter}
use Rattle.fam_rows.specs.Passing.{past}
use Rattle.fam_rows.proofs.room.past_items.Given as goal

-- the base is past the items seen so far
abbrev pub invariant-loop-item : goal.invariant-loop-item
invariant-loop-item l = l.base ≡ past l.n l.from (filter (λ item. eqb item.region.0 l.region.0) (take l.item-index l.item-items))
