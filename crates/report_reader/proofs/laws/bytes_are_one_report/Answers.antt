use Rattle.report_reader.proofs.Exact.{one_each}
use Rattle.report_reader.proofs.laws.bytes_are_one_report.Goals as goal

pub returns : goal.returns
returns c = one_each
