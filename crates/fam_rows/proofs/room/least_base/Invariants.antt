use Rattle.std.proofs.Common.{◌≡◌, ℕ, ◌-◌, ◌+◌, ◌<◌, ◌%◌, false}
use Rattle.fam_model.specs.Rows.{fits}
use Rattle.fam_rows.proofs.room.least_base.Given as goal

-- no base below this one fits
abbrev pub invariant-loop-next : goal.invariant-loop-next
invariant-loop-next l = record { aligned : l.base % 64 ≡ 0; none_below : (b : ℕ) → b < l.base → fits l.rows l.row l.n b ≡ false }

abbrev pub decreases-loop-next : goal.decreases-loop-next
decreases-loop-next l = l.row.size + 1 - l.base
