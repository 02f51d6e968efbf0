use Rattle.std.proofs.Common.{◌≡◌, ◌≤◌, sym, ◌∙◌, subst}
use Rattle.fam_ready.proofs.Loops.{below_all}
use Rattle.fam_ready.proofs.renew.renew_operation.Goals as goal

-- src/renew.rt:46:1
pub returns : goal.returns
returns c =
    below_all c.args.context.now.context c.args.pe c.args.operation.now.call c.loop-piece.piece c.args.operation.now c.args.lists.now c.loop-piece.lists c.requires.there
    (subst (λ n. n ≤ c.loop-piece.piece) c.len-piece-end.ensures c.loop-piece-test.false) c.loop-piece.invariant
