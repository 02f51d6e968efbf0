use Rattle.std.proofs.Common.{subst}
use Rattle.famrun.specs.Auditing.{IsJudged}
use Rattle.famrun.proofs.Inputs.{rest_is, short_enough}
use Rattle.famrun.proofs.audit.judge_input.Goals as goal

pub judge-requires-clause-short : goal.judge-requires-clause-short
judge-requires-clause-short c =
    short_enough c.args.bytes.now c.script_end-end.result c.in_ok-script.script c.script_end-end.ensures.within c.requires c.in_ok-script.ensures.script

pub returns-in-Ok-clause-verdict : goal.returns-in-Ok-clause-verdict
returns-in-Ok-clause-verdict c =
    record {
      end = c.script_end-end.result;
      is_end = c.script_end-end.ensures;
      script = c.in_ok-script.script;
      is_script = c.in_ok-script.ensures.script;
      judged = subst (λ bytes. IsJudged c.in_ok-script.script bytes c.in-Ok.verdict) (rest_is c.args.bytes.now c.script_end-end.result) c.in-Ok.ensures;
    }
