use Rattle.std.proofs.Common.{◌+◌, arith}
use Rattle.report_reader.proofs.Cutting.{cut_more, cut_all}
use Rattle.report_reader.proofs.call.behind.Goals as goal

pub returns-in_default : goal.returns-in_default
returns-in_default c = cut_all c.args.text.now c.loop.rest.now c.loop.counter c.args.count c.loop.invariant c.in_default.ensures.parts c.loop-test.true

pub loop-preserved : goal.loop-preserved
loop-preserved c = cut_more c.args.text.now c.loop.rest.now c.in-Some.field-0-0.now c.in-Some.others.now c.loop.counter (c.loop.counter + 1) c.loop.invariant c.in-Some.ensures.parts (omega arith)
