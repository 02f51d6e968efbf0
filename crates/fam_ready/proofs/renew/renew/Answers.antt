use Rattle.std.proofs.Common.{◌≡◌, sym, ◌∙◌}
use Rattle.fam_ready.specs.Telling.{Tells, is_piece}
use Rattle.fam_ready.proofs.Answering.{IsPieceAt, tells_if_with, tells_if_without}
use Rattle.fam_ready.proofs.renew.renew.Goals as goal

-- src/renew.rt:14:1
pub returns-then-may_come : goal.returns-then-may_come
returns-then-may_come c =
    tells_if_with c.args.context.now.context c.args.pe c.args.operation.now.call c.args.piece c.in-Some.marked.now c.args.lists.now c.insert.new.self c.insert.result
    (record { operation = c.args.operation.now; there = c.requires.there; piece = sym c.in-Some.ensures.value })
    (sym c.may_come.ensures ∙ c.if-may_come.true) c.insert.ensures.ok

-- src/renew.rt:14:1
pub returns-else-may_come : goal.returns-else-may_come
returns-else-may_come c =
    tells_if_without c.args.context.now.context c.args.pe c.args.operation.now.call c.args.piece c.in-Some.marked.now c.args.lists.now c.remove.new.self
    (record { operation = c.args.operation.now; there = c.requires.there; piece = sym c.in-Some.ensures.value })
    (sym c.may_come.ensures ∙ c.if-may_come.false) c.remove.ensures
