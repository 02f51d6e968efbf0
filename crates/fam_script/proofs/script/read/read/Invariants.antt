use Rattle.std.proofs.Common.{◌≡◌, ◌+◌, ◌≤◌, length}
use Rattle.fam_script.specs.BadLine.{whole_lines}
use Rattle.fam_script.specs.Parsing.{rest_of, scan, parse_of}
use Rattle.fam_script.specs.Views.{view_reading}
use Rattle.fam_script.proofs.script.read.read.Given as goal

abbrev pub invariant-loop-text : goal.invariant-loop-text
invariant-loop-text l = record {
  same : parse_of l.fn.bytes ≡ scan l.lines (view_reading l.reading) (whole_lines l.rest) (rest_of l.rest);
  few : l.lines + length l.rest ≤ length l.fn.bytes;
}

abbrev pub decreases-loop-text : goal.decreases-loop-text
decreases-loop-text l = length l.rest
