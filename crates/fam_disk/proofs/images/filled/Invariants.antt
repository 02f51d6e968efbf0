use Rattle.std.proofs.Common.{◌≡◌, ◌++◌, ◌≤◌, drop}
use Rattle.fam_disk.specs.Known.{filled}
use Rattle.fam_disk.proofs.images.filled.Given as goal

abbrev pub invariant-loop-byte : goal.invariant-loop-byte
invariant-loop-byte l =
    (l.image.items ++ filled (drop l.byte-index l.fn.known) (drop l.used l.fn.fill) ≡ filled l.fn.known l.fn.fill) × (l.used ≤ l.byte-index)
