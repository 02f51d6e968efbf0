use Rattle.report_reader.proofs.FrontCalls.{front_found, front_missing}
use Rattle.report_reader.proofs.call.call_in_front.Goals as goal

pub returns-in-Some-2-clause-front : goal.returns-in-Some-2-clause-front
returns-in-Some-2-clause-front c =
    front_found c.args.text.now c.in-Some.behind.now c.in-Some-behind_word.given.now c.in-Some.asked.now c.call_size-count.result c.call_size-count.ensures c.if-count-eq0.false
    c.in-Some.ensures.0 c.in-Some.ensures.1 c.in-Some-behind_word.ensures c.in_ok-call.field-0 c.in-Some-2.call c.in_ok-call.ensures.call c.in-Some-2.is

pub returns-in-None-clause-front : goal.returns-in-None-clause-front
returns-in-None-clause-front c =
    front_missing c.args.text.now c.in-Some.behind.now c.in-Some-behind_word.given.now c.in-Some.asked.now c.call_size-count.result c.call_size-count.ensures c.if-count-eq0.false
    c.in-Some.ensures.0 c.in-Some.ensures.1 c.in-Some-behind_word.ensures c.in_ok-call.field-0 c.in_ok-call.ensures.call c.in-None.is
