use Rattle.report_reader.proofs.Exact.{read_bad}
use Rattle.report_reader.proofs.Scanning.{read_whole}
use Rattle.report_reader.proofs.reader.read.Goals as goal

pub returns-clause-report : goal.returns-clause-report
returns-clause-report c = read_whole c.args.bytes.now c.read_lines.result c.read_lines.ensures.report

pub returns-clause-bad_line : goal.returns-clause-bad_line
returns-clause-bad_line c = λ n e. read_bad c.args.bytes.now n (c.read_lines.ensures.bad_line n e)
