use Rattle.std.proofs.Common.{◌≡◌, Option, Some, None, sym, subst, ◌∙◌}
use Rattle.fam_model.specs.declared.line.Line.{Line}
use Rattle.fam_script.specs.Lines.{IsLineOf}
use Rattle.report_reader.proofs.CallsBack.{call_found}
use Rattle.report_reader.proofs.call.call.Goals as goal

pub one_call-requires : goal.one_call-requires
one_call-requires c =
    (subst (IsLineOf c.args.text.now) c.in-Some.is c.in_ok-line.ensures).0

pub returns-in-Some-clause-call : goal.returns-in-Some-clause-call
returns-in-Some-clause-call c =
    c.one_call.ensures.call ∙ sym (call_found c.args.text.now (Some c.in-Some.line) (subst (IsLineOf c.args.text.now) c.in-Some.is c.in_ok-line.ensures))

pub returns-in-None-clause-call : goal.returns-in-None-clause-call
returns-in-None-clause-call c =
    sym (call_found c.args.text.now None (subst (IsLineOf c.args.text.now) c.in-None.is c.in_ok-line.ensures))
