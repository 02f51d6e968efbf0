use Rattle.std.proofs.Common.{◌≡◌, length}
use Rattle.fam_script.specs.Reading.{parts}
use Rattle.report_reader.specs.Reading.{results_of}
use Rattle.report_reader.proofs.ResultsRead.{joined}
use Rattle.report_reader.proofs.results.results_in.Given as goal

abbrev pub invariant-loop-first : goal.invariant-loop-first
invariant-loop-first l = results_of (parts 32 l.fn.text) ≡ joined l.found (results_of (parts 32 l.rest))

abbrev pub decreases-loop-first : goal.decreases-loop-first
decreases-loop-first l = length l.rest
