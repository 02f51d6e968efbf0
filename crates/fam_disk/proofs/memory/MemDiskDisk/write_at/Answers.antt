use Rattle.std.proofs.Common.{List, ℕ, length, ◌∙◌, subst}
use Rattle.fam_disk.specs.Crash.{Passes, IsTorn}
use Rattle.fam_disk.specs.Memory.{memory_state}
use Rattle.fam_disk.proofs.Pushed.{passes_wrote, syncs_wrote, ap_push}
use Rattle.fam_disk.proofs.memory.MemDiskDisk.write_at.Goals as goal

pub returns-then-fails-clause-crash : goal.returns-then-fails-clause-crash
returns-then-fails-clause-crash c =
    subst (λ (bytes : List ℕ). Passes (IsTorn c.args.at (length bytes)) (memory_state c.args.self.now) (memory_state c.fault.new.self)) c.in_ok-bytes.ensures.ok
    (passes_wrote c.args.at c.in_ok-bytes.bytes _ _ _ _ _ _ _ _ _
    (c.fault.ensures.same.first ∙ c.in_ok-note.ensures.first ∙ c.copy.ensures.same.first)
    (c.fault.ensures.same.calls ∙ c.in_ok-note.ensures.ok ∙ ap_push _ c.copy.ensures.same.calls))

pub returns-then-fails-clause-syncs : goal.returns-then-fails-clause-syncs
returns-then-fails-clause-syncs c =
    syncs_wrote _ _ _ _ _ (c.fault.ensures.same.calls ∙ c.in_ok-note.ensures.ok ∙ ap_push _ c.copy.ensures.same.calls)

pub returns-clause-crash : goal.returns-clause-crash
returns-clause-crash c =
    subst (λ (bytes : List ℕ). Passes (IsTorn c.args.at (length bytes)) (memory_state c.args.self.now) (memory_state c.replace.new.self)) c.in_ok-bytes.ensures.ok
    (passes_wrote c.args.at c.in_ok-bytes.bytes _ _ _ _ _ _ _ _ _
    (c.in_ok-replace.ensures.first ∙ c.overwritten.ensures.same.first ∙ c.copy.ensures.same.first)
    (c.in_ok-replace.ensures.ok ∙ ap_push _ (c.overwritten.ensures.same.calls ∙ c.copy.ensures.same.calls)))

pub returns-clause-syncs : goal.returns-clause-syncs
returns-clause-syncs c = syncs_wrote _ _ _ _ _ (c.in_ok-replace.ensures.ok ∙ ap_push _ (c.overwritten.ensures.same.calls ∙ c.copy.ensures.same.calls))
