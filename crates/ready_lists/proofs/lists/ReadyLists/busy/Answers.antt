use Rattle.std.proofs.Common.{◌+◌, ℕ, Bool, arith, sym, ap, ◌∙◌}
use Rattle.fam_schedule.specs.Schedule.{is_some_of}
use Rattle.ready_lists.specs.Lists.{names_at}
use Rattle.ready_lists.proofs.Busy.{passing_yes, passing_no, not_empty, empty}
use Rattle.ready_lists.proofs.lists.ReadyLists.busy.Goals as goal
use Rattle.ready_lists.proofs.lists.ReadyLists.busy.Goals.{then-count-ne0, else-count-ne0}

pub loop-stripe-preserved : goal.loop-stripe-preserved
loop-stripe-preserved c =
    let at = c.loop-stripe.stripe in
    let has : ℕ → Bool = λ stripe. is_some_of (names_at c.args.self.now stripe) in
    elim c.if-count-ne0.branch [
      | then-count-ne0 w ↦ (w.busy-is ∙ ap (λ n. n + 1) c.loop-stripe.invariant.0 ∙ sym (passing_yes has at (not_empty (names_at c.args.self.now at) c.count.result c.count.ensures w.if-count-ne0.true)), omega arith)
      | else-count-ne0 w ↦ (w.busy-is ∙ c.loop-stripe.invariant.0 ∙ sym (passing_no has at (empty (names_at c.args.self.now at) c.count.result c.count.ensures w.if-count-ne0.false)), omega arith)
    ]
