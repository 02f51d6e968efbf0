-- Why room is refused.
use Rattle.std.specs.Prelude.{◌≡◌, ℕ, ◌+◌, ◌<◌, ◌≤◌, ◌^◌, ◌⊎◌}
use Rattle.fam_base.specs.declared.error.FamError.{FamError}
use Rattle.fam_base.specs.declared.error.FamError.TheVariants.{Memory, Absent, NoPermission, Range, Unaligned, Unsupported, TooLarge, NoSpace, Exists, BadName, BadHandle, InUse, Budget, HistoryFull, JournalFull, DiskFault}

-- want of memory, or of room in a journal
abbrev pub IsWant : FamError → Type 0
IsWant Memory = Unit {0}
IsWant (JournalFull used need) = Unit {0}
IsWant Absent = ⊥
IsWant NoPermission = ⊥
IsWant Range = ⊥
IsWant Unaligned = ⊥
IsWant Unsupported = ⊥
IsWant TooLarge = ⊥
IsWant NoSpace = ⊥
IsWant Exists = ⊥
IsWant BadName = ⊥
IsWant BadHandle = ⊥
IsWant InUse = ⊥
IsWant Budget = ⊥
IsWant (HistoryFull used need) = ⊥
IsWant DiskFault = ⊥

-- there are too many entries, the reserved ones counted, or a stamp is too great
abbrev pub IsFull : ℕ → ℕ → ℕ → ℕ → Type 0
IsFull limit used need stamp = (limit < used + need) ⊎ (2 ^ 62 ≤ stamp)

-- the history is full, memory is wanting for an entry, or the object refuses
abbrev pub IsRefusal : (FamError → Type 0) → ℕ → ℕ → FamError → Type 0
IsRefusal refuses used need e = (e ≡ HistoryFull used need) ⊎ (((e ≡ Memory) × (0 < need)) ⊎ (IsWant e × refuses e))
