use Rattle.std.proofs.Common.{◌≡◌, ◌-◌, length}
use Rattle.fam_io.proofs.Passing.{HasWritten}
use Rattle.fam_io.proofs.whole.write_all.Given as goal

abbrev pub invariant-loop-written : goal.invariant-loop-written
invariant-loop-written g l =
    HasWritten (g.K.Sink.sink l.initial.output) (g.K.Sink.sink l.output) l.bytes l.written
    × (g.K.Sink.source_beside l.output ≡ g.K.Sink.source_beside l.initial.output)

abbrev pub decreases-loop-written : goal.decreases-loop-written
decreases-loop-written g l = length l.bytes - l.written
