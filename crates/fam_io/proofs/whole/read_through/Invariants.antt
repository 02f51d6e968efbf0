use Rattle.std.proofs.Common.{◌≡◌, ◌+◌, ◌-◌, length}
use Rattle.fam_io.proofs.Passing.{HasRead}
use Rattle.fam_io.proofs.whole.read_through.Given as goal

abbrev pub invariant-loop-bytes : goal.invariant-loop-bytes
invariant-loop-bytes g l =
    HasRead (g.S.Source.source l.initial.input) (g.S.Source.source l.input) l.bytes.items (l.limit + 1)
    × (g.S.Source.sink_beside l.input ≡ g.S.Source.sink_beside l.initial.input)

abbrev pub decreases-loop-bytes : goal.decreases-loop-bytes
decreases-loop-bytes g l = l.limit + 1 - length l.bytes.items
