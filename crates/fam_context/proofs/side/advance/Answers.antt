use Rattle.std.proofs.Common.{arith, ap, sym, ◌∙◌}
use Rattle.fam_context.specs.Sides.{is_busy}
use Rattle.fam_context.proofs.Reached.{advanced, get_or_either}
use Rattle.fam_context.proofs.side.advance.Goals as goal

pub returns-else-not-is_busy : goal.returns-else-not-is_busy
returns-else-not-is_busy c =
    advanced c.args.sides.now c.loop-place.place c.loop-place.invariant.0 c.loop-place.invariant.1
    (λ h d. ap is_busy (get_or_either c.args.sides.now c.loop-place.place d c.index-sides-place.result h ∙ sym c.index-sides-place.is)
    ∙ sym c.if-not-is_busy.ensures)

pub returns-after-loop-place : goal.returns-after-loop-place
returns-after-loop-place c =
    advanced c.args.sides.now c.loop-place.place c.loop-place.invariant.0 c.loop-place.invariant.1 (λ h d. absurd (omega arith))
