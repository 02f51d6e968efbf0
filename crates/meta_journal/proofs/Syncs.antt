-- The syncs of a disk go on, call by call.
use Rattle.std.proofs.Common.{◌≡◌, ℕ, List, [], ◌∷◌, ◌++◌, sym, ◌∙◌, ap, append_assoc}
use Rattle.std.specs.Prelude.{Result, Ok, Err, IsSome, is_ok, is_some, if◌then◌else◌}
use Rattle.std.proofs.lemmas.List.{append-nil}
use Rattle.fam_disk.specs.Crash.{DiskState}
use Rattle.meta_journal.specs.Syncs.{KeepsSyncs}

pub same_syncs : (old new : DiskState) → new.syncs ≡ old.syncs → KeepsSyncs old new
same_syncs old new same told = ([], same ∙ sym (append-nil old.syncs))

pub one_sync : {T E : Type 0} (old new : DiskState) (r : Result T E)
    → (IsSome old.content → new.syncs ≡ (if is_ok r then old.syncs ++ new.moment ∷ [] else old.syncs)) → KeepsSyncs old new
one_sync old new (Ok x) is told = (new.moment ∷ [], is told)
one_sync old new (Err e) is told = ([], is told ∙ sym (append-nil old.syncs))

pub more_syncs : (old mid new : DiskState) → KeepsSyncs old mid → is_some mid.content ≡ is_some old.content → KeepsSyncs mid new → KeepsSyncs old new
more_syncs old mid new first tells second told =
    let a = first told in
    let b = second (tells ∙ told) in
    (a.0 ++ b.0, b.1 ∙ ap (λ (l : List ℕ). l ++ b.0) a.1 ∙ append_assoc old.syncs a.0 b.0)
