use Rattle.std.proofs.Common.{◌≡◌, map, drop}
use Rattle.std.specs.Prelude.{Some}
use Rattle.fam_disk.specs.Known.{known_after}
use Rattle.fam_disk.proofs.images.known_after.Given as goal

abbrev pub invariant-loop-call : goal.invariant-loop-call
invariant-loop-call l =
    known_after (drop l.call-index l.fn.calls) l.replay.content.items l.replay.known.items ≡ known_after l.fn.calls l.fn.first (map Some l.fn.first)
