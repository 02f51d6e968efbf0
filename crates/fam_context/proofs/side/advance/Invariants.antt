use Rattle.std.proofs.Common.{◌≡◌, ℕ, ◌<◌, ◌≤◌, ◌-◌, false, length, get_or}
use Rattle.fam_context.specs.declared.side.Side.{Side}
use Rattle.fam_context.specs.Sides.{is_busy}
use Rattle.fam_context.proofs.side.advance.Given as goal

abbrev pub invariant-loop-place : goal.invariant-loop-place
invariant-loop-place l = (l.place ≤ length l.sides) × ((k : ℕ) (d : Side) → k < l.place → is_busy (get_or l.sides k d) ≡ false)

abbrev pub decreases-loop-place : goal.decreases-loop-place
decreases-loop-place l = length l.sides - l.place
