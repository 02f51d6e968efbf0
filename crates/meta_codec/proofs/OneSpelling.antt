-- What is spelled is read again.
use Rattle.std.proofs.Common.{◌≡◌, ℕ, ◌+◌, ◌^◌, ◌<◌, ◌≤◌, Bool, true, List, [], ◌++◌, length, refl, ap, arith, rules, length-append}
use Rattle.std.specs.Prelude.{Some, IsTrue, nat_le, nat_lt}
use Rattle.std.specs.Int.{w16, w32, w64}
use Rattle.std.proofs.lemmas.Nat.{from_le_bytes-to_le_bytes_2, from_le_bytes-to_le_bytes_4, from_le_bytes-to_le_bytes_8}
use Rattle.std.proofs.lemmas.List.{take_at, drop_at}
use Rattle.std.proofs.lemmas.Bool.Decides.{nat_tests}
use Rattle.fam_base.specs.Name.{is_good_name}
use Rattle.fam_model.specs.Journal.{body_length}
use Rattle.fam_model.specs.Limits.{nobody}
use Rattle.fam_model.specs.declared.change.Change.{Change}
use Rattle.fam_model.specs.declared.change.Change.TheVariants as change
use Rattle.meta_codec.specs.Body.{body, HasBody, u16, u32, u64, name_bytes}
use Rattle.meta_codec.specs.Reading.{Field, decoded, number_at, passing, user_at, mode_at, name_at, bytes_at, whole, create_region_at, destroy_region_at, resize_region_at, allocate_at, deallocate_at, set_item_mode_at, set_region_mode_at, skip_at}

-- a value that was read, and the bytes behind it
abbrev read : {A : Type 0} → A → List ℕ → Field A
read x rest = Some (x, rest)

read_is : {A : Type 0} (x y : A) (rest : List ℕ) → x ≡ y → read x rest ≡ read y rest
read_is {A} x y rest same = ap (λ (z : A). read z rest) same

pub u64_again : (n : ℕ) (rest : List ℕ) → n < 2 ^ 64 → number_at w64 (u64 n ++ rest) ≡ read n rest
unfolding number_at
u64_again n rest fits =
    let long : nat_le 8 (length (u64 n ++ rest)) ≡ true = grind (arith, nat_tests) in
    rw long (read_is _ _ rest (from_le_bytes-to_le_bytes_8 n fits))

pub u32_again : (n : ℕ) (rest : List ℕ) → n < 2 ^ 32 → number_at w32 (u32 n ++ rest) ≡ read n rest
unfolding number_at
u32_again n rest fits =
    let long : nat_le 4 (length (u32 n ++ rest)) ≡ true = grind (arith, nat_tests) in
    rw long (read_is _ _ rest (from_le_bytes-to_le_bytes_4 n fits))

pub u16_again : (n : ℕ) (rest : List ℕ) → n < 2 ^ 16 → number_at w16 (u16 n ++ rest) ≡ read n rest
unfolding number_at
u16_again n rest fits =
    let long : nat_le 2 (length (u16 n ++ rest)) ≡ true = grind (arith, nat_tests) in
    rw long (read_is _ _ rest (from_le_bytes-to_le_bytes_2 n fits))

passing_again : {A : Type 0} (test : A → Bool) (field : Field A) (x : A) (rest : List ℕ) → field ≡ read x rest → test x ≡ true → passing test field ≡ read x rest
unfolding passing
passing_again test field x rest is passes = rw (is, passes) refl

user_again : (uid : ℕ) (rest : List ℕ) → uid < nobody → user_at (u32 uid ++ rest) ≡ read uid rest
user_again uid rest fits =
    passing_again (λ n. nat_lt n nobody) (number_at w32 (u32 uid ++ rest)) uid rest (u32_again uid rest (omega arith)) (grind (arith, nat_tests))

mode_again : (mode : ℕ) (rest : List ℕ) → mode ≤ 511 → mode_at (u16 mode ++ rest) ≡ read mode rest
mode_again mode rest fits =
    passing_again (λ n. nat_le n 511) (number_at w16 (u16 mode ++ rest)) mode rest (u16_again mode rest (omega arith)) (grind (arith, nat_tests))

bytes_again : (name rest : List ℕ) → bytes_at (name_bytes name ++ rest) ≡ read name rest
unfolding bytes_at
bytes_again name rest =
    let fits : nat_le (length name) (length (name ++ rest)) ≡ true = grind (arith, nat_tests, length-append name rest) in
    rw (fits, take_at name rest (length name) refl, drop_at name rest (length name) refl) refl

name_again : (name rest : List ℕ) → IsTrue (is_good_name name) → name_at (name_bytes name ++ rest) ≡ read name rest
name_again name rest good = passing_again is_good_name (bytes_at (name_bytes name ++ rest)) name rest (bytes_again name rest) (good_true good)
  where
    good_true : IsTrue (is_good_name name) → is_good_name name ≡ true
    good_true h = search rules

-- the change that has the body of a change is that change
pub decoded-body : (c : Change) → HasBody c → decoded (body c) ≡ Some c
unfolding create_region_at destroy_region_at resize_region_at allocate_at deallocate_at set_item_mode_at set_region_mode_at skip_at whole
decoded-body (change.CreateRegion region uid gid mode size name) (region_fits, size_fits, owned) =
    let user = owned.user_fits in
    let group = owned.group_fits in
    let bits = owned.mode_fits in
    let good = owned.name_is_good in
    rw (u64_again, user_again, u32_again, mode_again, u64_again, name_again) refl
decoded-body (change.DestroyRegion region) fits = rw u64_again refl
decoded-body (change.ResizeRegion region size) (region_fits, size_fits) = rw (u64_again, u64_again) refl
decoded-body (change.Allocate item region base size uid gid mode name) (item_fits, region_fits, base_fits, size_fits, owned) =
    let user = owned.user_fits in
    let group = owned.group_fits in
    let bits = owned.mode_fits in
    let good = owned.name_is_good in
    rw (u64_again, u64_again, u64_again, u64_again, user_again, u32_again, mode_again, name_again) refl
decoded-body (change.Deallocate item) fits = rw u64_again refl
decoded-body (change.SetItemMode item mode) (item_fits, bits) = rw (u64_again, mode_again) refl
decoded-body (change.SetRegionMode region mode) (region_fits, bits) = rw (u64_again, mode_again) refl
decoded-body (change.Skip next_region next_item) (region_fits, item_fits) = rw (u64_again, u64_again) refl

length-named : (name : List ℕ) → length (name_bytes name ++ []) ≡ 1 + length name
length-named name = omega (arith, length-append name [])

pub length-body : (c : Change) → length (body c) ≡ body_length c
length-body (change.CreateRegion region uid gid mode size name) = omega (arith, length-named name)
length-body (change.DestroyRegion region) = refl
length-body (change.ResizeRegion region size) = refl
length-body (change.Allocate item region base size uid gid mode name) = omega (arith, length-named name)
length-body (change.Deallocate item) = refl
length-body (change.SetItemMode item mode) = refl
length-body (change.SetRegionMode region mode) = refl
length-body (change.Skip next_region next_item) = refl
