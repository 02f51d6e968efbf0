use Rattle.std.proofs.Common.{◌≡◌, ◌+◌, ◌<◌, ℕ, Bool, arith, length}
use Rattle.fam_schedule.specs.Schedule.{is_some_of}
use Rattle.ready_lists.specs.Lists.{names_at}
use Rattle.ready_lists.proofs.Busy.{passing, passing_yes, passing_no, passing_is, not_empty, empty}
use Rattle.ready_lists.proofs.lists.ReadyLists.busy_at.Goals as goal
use Rattle.ready_lists.proofs.lists.ReadyLists.busy_at.Goals.{then-count-ne0+else-left-eq0, else-count-ne0}

pub returns-then-left-eq0 : goal.returns-then-left-eq0
returns-then-left-eq0 c =
    let at = c.loop-stripe.stripe in
    let has : ℕ → Bool = λ stripe. is_some_of (names_at c.args.self.now stripe) in
    let within : at < length c.args.self.now = omega arith in
    let so_far : c.args.k ≡ c.loop-stripe.left + passing has 0 at = c.loop-stripe.invariant in
    let none_left : c.loop-stripe.left ≡ 0 = c.if-left-eq0.true in
    let here : c.args.k ≡ passing has 0 at = omega arith in
    passing_is has (length c.args.self.now) at c.args.k within (not_empty (names_at c.args.self.now at) c.count.result c.count.ensures c.if-count-ne0.true) here

pub loop-stripe-preserved : goal.loop-stripe-preserved
loop-stripe-preserved c =
    let at = c.loop-stripe.stripe in
    let has : ℕ → Bool = λ stripe. is_some_of (names_at c.args.self.now stripe) in
    let so_far : c.args.k ≡ c.loop-stripe.left + passing has 0 at = c.loop-stripe.invariant in
    elim c.if-count-ne0.branch [
      | then-count-ne0+else-left-eq0 w ↦ (let more : passing has 0 (at + 1) ≡ passing has 0 at + 1 = passing_yes has at (not_empty (names_at c.args.self.now at) c.count.result c.count.ensures w.if-count-ne0.true) in omega arith)
      | else-count-ne0 w ↦ (let same : passing has 0 (at + 1) ≡ passing has 0 at = passing_no has at (empty (names_at c.args.self.now at) c.count.result c.count.ensures w.if-count-ne0.false) in omega arith)
    ]
