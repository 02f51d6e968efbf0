use Rattle.std.proofs.Common.{sym, ◌∙◌}
use Rattle.fam_audit.proofs.Told.{heard_one, on_ok}
use Rattle.fam_audit.proofs.auditor.hear.Goals as goal

pub returns : goal.returns
returns c =
    on_ok c.replied.result
    (heard_one c.args.event.now c.args.turns.now c.in-Some.reply c.at_mut-turn.result.now c.replied.new.self (sym c.in_ok-reply.ensures ∙ c.in-Some.is) c.at_mut-turn.ensures.value)
    c.replied.ensures
