use Rattle.std.proofs.Common.{◌≡◌, length}
use Rattle.fam_script.specs.Reading.{parts, numbers_of}
use Rattle.fam_script.proofs.Lists.{joined}
use Rattle.fam_script.proofs.script.word.numbers.Given as goal

abbrev pub invariant-loop-first : goal.invariant-loop-first
invariant-loop-first l = numbers_of (parts 44 l.fn.word) ≡ joined l.found (numbers_of (parts 44 l.rest))

abbrev pub decreases-loop-first : goal.decreases-loop-first
decreases-loop-first l = length l.rest
