-- The body of a change: the number of its kind, and its fields in order. Numbers are little-endian.
use Rattle.std.specs.Prelude.{ℕ, ◌^◌, ◌<◌, ◌≤◌, List, [], ◌∷◌, length, IsTrue}
use Rattle.std.specs.Int.{to_le_bytes, w16, w32, w64}
use Rattle.std.specs.List.{concat}
use Rattle.fam_base.specs.Name.{is_good_name}
use Rattle.fam_model.specs.Limits.{nobody}
use Rattle.fam_model.specs.declared.change.Change.{Change}
use Rattle.fam_model.specs.declared.change.Change.TheVariants as change

abbrev pub u16 : ℕ → List ℕ
u16 n = to_le_bytes w16 n

abbrev pub u32 : ℕ → List ℕ
u32 n = to_le_bytes w32 n

abbrev pub u64 : ℕ → List ℕ
u64 n = to_le_bytes w64 n

-- a name is its length and its bytes
abbrev pub name_bytes : List ℕ → List ℕ
name_bytes name = length name ∷ name

-- the body of a change
abbrev pub body : Change → List ℕ
body (change.CreateRegion region uid gid mode size name) =
    1 ∷ concat (u64 region.0 ∷ u32 uid ∷ u32 gid ∷ u16 mode ∷ u64 size ∷ name_bytes name ∷ [])
body (change.DestroyRegion region) = 2 ∷ u64 region.0
body (change.ResizeRegion region size) = 3 ∷ concat (u64 region.0 ∷ u64 size ∷ [])
body (change.Allocate item region base size uid gid mode name) =
    4 ∷ concat (u64 item.0 ∷ u64 region.0 ∷ u64 base ∷ u64 size ∷ u32 uid ∷ u32 gid ∷ u16 mode ∷ name_bytes name ∷ [])
body (change.Deallocate item) = 5 ∷ u64 item.0
body (change.SetItemMode item mode) = 6 ∷ concat (u64 item.0 ∷ u16 mode ∷ [])
body (change.SetRegionMode region mode) = 7 ∷ concat (u64 region.0 ∷ u16 mode ∷ [])
body (change.Skip next_region next_item) = 8 ∷ concat (u64 next_region ∷ u64 next_item ∷ [])

-- who owns a thing, its mode and its name
pub record IsOwned (uid gid mode : ℕ) (name : List ℕ) : Type 0 where
  pub user_fits : uid < nobody
  pub group_fits : gid < 2 ^ 32
  pub mode_fits : mode ≤ 511
  pub name_is_good : IsTrue (is_good_name name)

-- a change that has a body
abbrev pub HasBody : Change → Type 0
HasBody (change.CreateRegion region uid gid mode size name) =
    (region.0 < 2 ^ 64) × (size < 2 ^ 64) × IsOwned uid gid mode name
HasBody (change.DestroyRegion region) = region.0 < 2 ^ 64
HasBody (change.ResizeRegion region size) = (region.0 < 2 ^ 64) × (size < 2 ^ 64)
HasBody (change.Allocate item region base size uid gid mode name) =
    (item.0 < 2 ^ 64) × (region.0 < 2 ^ 64) × (base < 2 ^ 64) × (size < 2 ^ 64) × IsOwned uid gid mode name
HasBody (change.Deallocate item) = item.0 < 2 ^ 64
HasBody (change.SetItemMode item mode) = (item.0 < 2 ^ 64) × (mode ≤ 511)
HasBody (change.SetRegionMode region mode) = (region.0 < 2 ^ 64) × (mode ≤ 511)
HasBody (change.Skip next_region next_item) = (next_region < 2 ^ 64) × (next_item < 2 ^ 64)
