use Rattle.std.proofs.Common.{arith, ◌+◌}
use Rattle.fam_layout.specs.Layouts.{is_border_of_either}
use Rattle.fam_layout.proofs.Borders.{here, none_before}
use Rattle.fam_layout.proofs.Walks.{step}
use Rattle.fam_layout.proofs.layout.walk.Goals as goal

pub loop-at-preserved : goal.loop-at-preserved
loop-at-preserved c =
    let first = c.next_border in
    let second = c.next_border-in-loop-at in
    let border = c.min-border.result in
    let next = c.min-next.result in
    let end = c.args.offset + c.args.n in (
      omega arith,
      omega arith,
      omega arith,
      step (is_border_of_either c.args.unit c.args.from c.args.to) c.loop-at.ranges c.push.new.self _ c.loop-at.at border next end
          (omega arith)
          (here c.args.unit c.args.from c.args.to first.result second.result border first.ensures.is second.ensures.is c.min-border.ensures)
          (none_before c.args.unit c.args.from c.args.to first.result second.result border c.loop-at.at first.ensures.least second.ensures.least c.min-border.ensures)
          c.min-next.ensures
          c.loop-at-test.true
          c.in_ok-push.ensures.ok
          c.loop-at.invariant.3,
    )
