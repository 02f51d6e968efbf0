use Rattle.report_reader.proofs.ResultsRead.{some_from}
use Rattle.report_reader.proofs.results.some_results.Goals as goal

pub returns-in-Some : goal.returns-in-Some
returns-in-Some c = some_from c.args.text.now c.in_ok-results.field-0 c.in-Some.results c.in_ok-results.ensures c.in-Some.is
