use Rattle.std.proofs.Common.{◌≡◌, ℕ, ◌<◌, false}
use Rattle.fam_context.specs.Next.{posts_on}
use Rattle.fam_context.proofs.next.scan.Given as goal

abbrev pub invariant-loop-j : goal.invariant-loop-j
invariant-loop-j l = (i : ℕ) → i < l.j → posts_on l.context l.operation l.side.flags l.stripe i ≡ false
