-- The syncs of a disk go on.
use Rattle.std.specs.Prelude.{◌≡◌, ℕ, List, ◌++◌, IsSome}
use Rattle.fam_disk.specs.Crash.{DiskState}

-- the moments of the syncs that were served stay, and later ones may follow, on a disk that tells of itself
abbrev pub KeepsSyncs : DiskState → DiskState → Type 0
KeepsSyncs old new = IsSome old.content → (more : List ℕ) × (new.syncs ≡ old.syncs ++ more)
