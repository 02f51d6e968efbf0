use Rattle.std.proofs.Common.{◌≡◌, ◌+◌, ◌≤◌, length}
use Rattle.fam_script.specs.BadLine.{whole_lines}
use Rattle.fam_script.specs.Parsing.{rest_of}
use Rattle.report_reader.specs.Machine.{scan, read_of}
use Rattle.report_reader.proofs.reader.read_lines.Given as goal

abbrev pub invariant-loop-text : goal.invariant-loop-text
invariant-loop-text l = record {
  same : read_of l.fn.bytes ≡ scan l.lines l.stage (whole_lines l.rest) (rest_of l.rest);
  few : l.lines + length l.rest ≤ length l.fn.bytes;
}

abbrev pub decreases-loop-text : goal.decreases-loop-text
decreases-loop-text l = length l.rest
