-- A body read back: the one change that has it.
use Rattle.std.specs.Prelude.{ℕ, Bool, ◌==◌, nat_le, nat_lt, List, [], ◌∷◌, length, take, drop, Option, None, if◌then◌else◌}
use Rattle.std.specs.Int.{Width, byte_len, from_le_bytes, w16, w32, w64}
use Rattle.fam_base.specs.Name.{is_good_name}
use Rattle.fam_model.specs.Limits.{nobody}
use Rattle.fam_model.specs.Lists.{◌>>=◌, when}
use Rattle.fam_model.specs.declared.change.Change.{Change}
use Rattle.fam_model.specs.declared.change.Change.TheVariants as change

-- a field is a value and the bytes behind it
abbrev pub Field : Type 0 → Type 0
Field A = Option (A × List ℕ)

unfoldable pub number_at : Width → List ℕ → Field ℕ
number_at w bytes =
    when (nat_le (byte_len w) (length bytes)) (from_le_bytes w (take (byte_len w) bytes), drop (byte_len w) bytes)

-- a field whose value passes a test
unfoldable pub passing : {A : Type 0} → (A → Bool) → Field A → Field A
passing test field = do
  x ← field
  when (test x.0) x

abbrev pub user_at : List ℕ → Field ℕ
user_at bytes = passing (λ uid. nat_lt uid nobody) (number_at w32 bytes)

abbrev pub mode_at : List ℕ → Field ℕ
mode_at bytes = passing (λ mode. nat_le mode 511) (number_at w16 bytes)

-- a length, and that many bytes
unfoldable pub bytes_at : List ℕ → Field (List ℕ)
bytes_at [] = None
bytes_at (n ∷ rest) = when (nat_le n (length rest)) (take n rest, drop n rest)

abbrev pub name_at : List ℕ → Field (List ℕ)
name_at bytes = passing is_good_name (bytes_at bytes)

-- nothing stands behind the last field
unfoldable pub whole : {A : Type 0} → A → List ℕ → Option A
whole x rest = when (length rest == 0) x

unfoldable pub create_region_at : List ℕ → Option Change
create_region_at bytes = do
  region ← number_at w64 bytes
  uid ← user_at region.1
  gid ← number_at w32 uid.1
  mode ← mode_at gid.1
  size ← number_at w64 mode.1
  name ← name_at size.1
  whole (change.CreateRegion (record { 0 = region.0 }) uid.0 gid.0 mode.0 size.0 name.0) name.1

unfoldable pub destroy_region_at : List ℕ → Option Change
destroy_region_at bytes = do
  region ← number_at w64 bytes
  whole (change.DestroyRegion (record { 0 = region.0 })) region.1

unfoldable pub resize_region_at : List ℕ → Option Change
resize_region_at bytes = do
  region ← number_at w64 bytes
  size ← number_at w64 region.1
  whole (change.ResizeRegion (record { 0 = region.0 }) size.0) size.1

unfoldable pub allocate_at : List ℕ → Option Change
allocate_at bytes = do
  item ← number_at w64 bytes
  region ← number_at w64 item.1
  base ← number_at w64 region.1
  size ← number_at w64 base.1
  uid ← user_at size.1
  gid ← number_at w32 uid.1
  mode ← mode_at gid.1
  name ← name_at mode.1
  whole (change.Allocate (record { 0 = item.0 }) (record { 0 = region.0 }) base.0 size.0 uid.0 gid.0 mode.0 name.0) name.1

unfoldable pub deallocate_at : List ℕ → Option Change
deallocate_at bytes = do
  item ← number_at w64 bytes
  whole (change.Deallocate (record { 0 = item.0 })) item.1

unfoldable pub set_item_mode_at : List ℕ → Option Change
set_item_mode_at bytes = do
  item ← number_at w64 bytes
  mode ← mode_at item.1
  whole (change.SetItemMode (record { 0 = item.0 }) mode.0) mode.1

unfoldable pub set_region_mode_at : List ℕ → Option Change
set_region_mode_at bytes = do
  region ← number_at w64 bytes
  mode ← mode_at region.1
  whole (change.SetRegionMode (record { 0 = region.0 }) mode.0) mode.1

unfoldable pub skip_at : List ℕ → Option Change
skip_at bytes = do
  next_region ← number_at w64 bytes
  next_item ← number_at w64 next_region.1
  whole (change.Skip next_region.0 next_item.0) next_item.1

-- the reading of the kind with this number
abbrev pub of_kind : ℕ → List ℕ → Option Change
of_kind kind bytes =
    if kind == 1 then create_region_at bytes else (
    if kind == 2 then destroy_region_at bytes else (
    if kind == 3 then resize_region_at bytes else (
    if kind == 4 then allocate_at bytes else (
    if kind == 5 then deallocate_at bytes else (
    if kind == 6 then set_item_mode_at bytes else (
    if kind == 7 then set_region_mode_at bytes else (
    if kind == 8 then skip_at bytes else None)))))))

-- the change that has this body, if one has
abbrev pub decoded : List ℕ → Option Change
decoded [] = None
decoded (kind ∷ bytes) = of_kind kind bytes
