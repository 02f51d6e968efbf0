use Rattle.std.proofs.Common.{map, string_bytes, sym, ◌∙◌}
use Rattle.famrun.proofs.Audited.{audited_out}
use Rattle.famrun.proofs.audit.audit_main.Goals as goal

pub returns : goal.returns
returns g c =
    audited_out (map string_bytes c.args.words.now) (g.S.Source.source c.args.input.now) (g.S.Source.source c.audit_source.new.input) (g.K.Sink.sink c.args.output.now)
    (g.K.Sink.sink c.audit_source.new.output) c.status-2.result c.audit_source.result (c.is_audit.ensures.0 c.if-not-is_audit.false) c.status-2.ensures
    c.audit_source.ensures.ends c.audit_source.ensures.most
