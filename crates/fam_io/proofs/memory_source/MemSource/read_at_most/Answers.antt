use Rattle.fam_io.proofs.Memory.{source_at-read}
use Rattle.fam_io.proofs.memory_source.MemSource.read_at_most.Goals as goal

pub returns-clause-read : goal.returns-clause-read
returns-clause-read c =
    rw (c.fails_next.ensures.counted, ← c.self.view_is) (source_at-read _ _ _ _ _ _)
