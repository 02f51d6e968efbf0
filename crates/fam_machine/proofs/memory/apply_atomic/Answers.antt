use Rattle.std.proofs.Common.{to_z-of_z, refl}
use Rattle.fam_machine.proofs.memory.apply_atomic.Goals as goal

-- the arguments are passed on as they are
pub returns : goal.returns
returns c =
    rw (c.write.ensures, c.apply-old.ensures.bytes, c.bytes_found.ensures, to_z-of_z c.ranges.a, to_z-of_z c.ranges.b) refl
