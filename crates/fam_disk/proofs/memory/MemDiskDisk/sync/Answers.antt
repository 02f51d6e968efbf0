use Rattle.std.proofs.Common.{List, ℕ, ◌∙◌, ap, sym}
use Rattle.std.specs.Prelude.{Some}
use Rattle.fam_disk.proofs.Pushed.{passes_asked, passes_synced, syncs_asked, syncs_synced, synced_image}
use Rattle.fam_disk.proofs.memory.MemDiskDisk.sync.Goals as goal

pub returns-then-fails_next-clause-crash : goal.returns-then-fails_next-clause-crash
returns-then-fails_next-clause-crash c =
    passes_asked _ _ _ _ _ _ _ _ (c.fault.ensures.same.first ∙ c.in_ok-note.ensures.first) (c.fault.ensures.same.calls ∙ c.in_ok-note.ensures.ok)

pub returns-then-fails_next-clause-syncs : goal.returns-then-fails_next-clause-syncs
returns-then-fails_next-clause-syncs c = syncs_asked _ _ (c.fault.ensures.same.calls ∙ c.in_ok-note.ensures.ok)

pub returns-clause-synced : goal.returns-clause-synced
returns-clause-synced c image left =
    ap (λ (l : List ℕ). Some l)
    (c.in_ok-note-2.ensures.content ∙ c.args.self.now.replayed
    ∙ sym (synced_image _ _ _ _ image c.in_ok-note-2.ensures.first c.in_ok-note-2.ensures.ok left))

pub returns-clause-crash : goal.returns-clause-crash
returns-clause-crash c = passes_synced _ _ _ _ _ _ _ _ c.in_ok-note-2.ensures.first c.in_ok-note-2.ensures.ok

pub returns-clause-syncs : goal.returns-clause-syncs
returns-clause-syncs c = syncs_synced _ _ c.in_ok-note-2.ensures.ok
