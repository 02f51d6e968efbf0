use Rattle.famrun.proofs.Audited.{unjudged_ends}
use Rattle.famrun.proofs.audit.audit_source.Goals as goal

pub returns-in-Err-clause-ends : goal.returns-in-Err-clause-ends
returns-in-Err-clause-ends g c =
    unjudged_ends (g.S.Source.source c.args.input.now) (g.S.Source.source c.judge_source.new.input) (g.K.Sink.sink c.args.output.now) (g.K.Sink.sink c.tell_unread.new.output)
    c.in-Err.ending c.tell_unread.result c.in-Err.ensures.ending c.tell_unread.ensures
