use Rattle.fam_ready.proofs.Front.{covers_front, covers_none, low_front, no_front}
use Rattle.fam_ready.proofs.release.freed.Goals as goal
use Rattle.fam_ready.proofs.release.freed.Goals.{else-front-operations-via-then-front-operations+else-epoch-operations, else-front-operations-via-else-front-operations}

pub returns-then-epoch-operations-clause-covers : goal.returns-then-epoch-operations-clause-covers
returns-then-epoch-operations-clause-covers c =
    covers_front c.args.context.now c.args.epoch c.front-front.result c.epoch_end.result c.operations-operations.result.now
    c.operations-operations.ensures.ordered c.operations-operations.ensures.value c.front-front.ensures c.epoch_end.ensures

pub returns-else-front-operations-clause-covers : goal.returns-else-front-operations-clause-covers
returns-else-front-operations-clause-covers c =
    covers_none c.args.context.now c.args.epoch c.operations-operations.ensures.ordered
    (λ f there.
    elim c.else-front-operations.branch [
      | else-front-operations-via-then-front-operations+else-epoch-operations w ↦
          low_front c.operations-operations.result.now c.args.context.now.context.operations c.args.epoch c.front-front.result w.index-operations-front.result f
          c.operations-operations.ensures.value c.front-front.ensures w.if-epoch-operations.false there
      | else-front-operations-via-else-front-operations w ↦
          no_front c.operations-operations.result.now c.args.context.now.context.operations c.args.epoch c.front-front.result f
          c.operations-operations.ensures.value c.front-front.ensures w.if-front-operations.false there
    ])
