use Rattle.report_reader.proofs.Cutting.{IsCut}
use Rattle.report_reader.proofs.call.behind.Given as goal

abbrev pub invariant-loop : goal.invariant-loop
invariant-loop l = IsCut l.text l.rest l.counter
