-- What is read is spelled so.
use Rattle.std.proofs.Common.{◌≡◌, ℕ, suc, ◌+◌, ◌^◌, ◌<◌, ◌≤◌, Bool, true, false, cond, List, [], ◌∷◌, ◌++◌, length, get_or, take, drop, refl, sym, ap, subst, ◌∙◌, arith, rules, inl, inr, nat_lt, nat_le, length-take}
use Rattle.std.specs.Prelude.{Option, Some, None, IsTrue, IfSome, ◌==◌}
use Rattle.std.specs.Int.{Width, w16, w32, w64, byte_len, from_le_bytes, to_le_bytes}
use Rattle.std.proofs.lemmas.Bool.{cases_lt}
use Rattle.std.proofs.lemmas.Bool.Decides.{nat_tests}
use Rattle.std.proofs.lemmas.List.{append-nil, nil_from_length, take-append-drop, get_or-drop, get_or-take, get_or_past}
use Rattle.std.proofs.lemmas.Nat.{le_bytes_2, le_bytes_4, le_bytes_8}
use Rattle.fam_base.specs.Name.{is_good_name}
use Rattle.fam_model.specs.Limits.{nobody}
use Rattle.fam_model.specs.Lists.{◌>>=◌, when}
use Rattle.fam_model.specs.declared.change.Change.{Change}
use Rattle.fam_model.specs.declared.change.Change.TheVariants as change
use Rattle.meta_codec.specs.Body.{body, HasBody, IsOwned, u16, u32, u64, name_bytes}
use Rattle.meta_codec.specs.Reading.{Field, decoded, number_at, passing, user_at, mode_at, name_at, bytes_at, whole, create_region_at, destroy_region_at, resize_region_at, allocate_at, deallocate_at, set_item_mode_at, set_region_mode_at, skip_at, of_kind}

abbrev pub IsBytes : List ℕ → Type 0
IsBytes bytes = (i : ℕ) → get_or bytes i 0 < 256

is_bytes-drop : (n : ℕ) (bytes : List ℕ) → IsBytes bytes → IsBytes (drop n bytes)
is_bytes-drop n bytes fits i = rw get_or-drop (fits (n + i))

is_bytes-take : (n : ℕ) (bytes : List ℕ) → IsBytes bytes → IsBytes (take n bytes)
is_bytes-take n bytes fits i =
    elim (cases_lt i n) [
      | inl lt ↦ rw (get_or-take n bytes i 0 lt) (fits i)
      | inr le ↦ rw (get_or_past (take n bytes) i 0 (omega (arith, length-take n bytes))) (omega arith)
    ]

is_bytes-rest : (byte : ℕ) (bytes : List ℕ) → IsBytes (byte ∷ bytes) → IsBytes bytes
is_bytes-rest byte bytes fits i = fits (suc i)

-- the value of a step that gave one
bound : {A B : Type 0} (o : Option A) (f : A → Option B) (y : B) → (o >>= f) ≡ Some y → (x : A) × (o ≡ Some x) × (f x ≡ Some y)
bound (Some x) f y is = (x, refl, is)
bound None f y is = absurd cc

-- a test that held
held : {A : Type 0} (test : Bool) (x y : A) → when test x ≡ Some y → (test ≡ true) × (x ≡ y)
held true x y is = (refl, cc)
held false x y is = absurd cc

at_most : (a b : ℕ) → nat_le a b ≡ true → a ≤ b
at_most a b test = grind (arith, nat_tests)

-- what a field took from the front
record Takes (bytes text rest : List ℕ) : Type 0 where
  parts : bytes ≡ text ++ rest
  rest_fits : IsBytes rest

-- the bytes of a width are those of the number that they are
record IsWide (w : Width) (limit : ℕ) : Type 0 where
  back : (bytes : List ℕ) → length bytes ≡ byte_len w → IsBytes bytes → to_le_bytes w (from_le_bytes w bytes) ≡ bytes
  below : (bytes : List ℕ) → IsBytes bytes → from_le_bytes w bytes < limit

wide16 : IsWide w16 (2 ^ 16)
wide16 = record { back = λ bytes long fits. le_bytes_2 bytes _ long fits refl; below = λ bytes fits. omega (arith, fits 0, fits 1) }

wide32 : IsWide w32 (2 ^ 32)
wide32 = record { back = λ bytes long fits. le_bytes_4 bytes _ long fits refl; below = λ bytes fits. omega (arith, fits 0, fits 1, fits 2, fits 3) }

wide64 : IsWide w64 (2 ^ 64)
wide64 =
    record {
      back = λ bytes long fits. le_bytes_8 bytes _ long fits refl;
      below = λ bytes fits. omega (arith, fits 0, fits 1, fits 2, fits 3, fits 4, fits 5, fits 6, fits 7);
    }

-- a field and what was read of it
abbrev Reads : {A : Type 0} → Field A → A × List ℕ → Type 0
Reads field x = field ≡ Some x

number_takes : (w : Width) (limit : ℕ) → IsWide w limit → (bytes : List ℕ) (x : ℕ × List ℕ) → IsBytes bytes → Reads (number_at w bytes) x → Takes bytes (to_le_bytes w x.0) x.1 × (x.0 < limit)
unfolding number_at
number_takes w limit wide bytes x fits is =
    let front : List ℕ = take (byte_len w) bytes in
    let made : ℕ × List ℕ = (from_le_bytes w front, drop (byte_len w) bytes) in
    let test = held (nat_le (byte_len w) (length bytes)) made x is in
    let long : length front ≡ byte_len w = omega (arith, at_most (byte_len w) (length bytes) test.0, length-take (byte_len w) bytes) in
    let again : to_le_bytes w (from_le_bytes w front) ≡ front = wide.back front long (is_bytes-take (byte_len w) bytes fits) in
    subst (λ (y : ℕ × List ℕ). Takes bytes (to_le_bytes w y.0) y.1 × (y.0 < limit)) test.1 (
      record {
        parts = sym (ap (λ (l : List ℕ). l ++ drop (byte_len w) bytes) again ∙ take-append-drop (byte_len w) bytes);
        rest_fits = is_bytes-drop (byte_len w) bytes fits;
      },
      wide.below front (is_bytes-take (byte_len w) bytes fits),
    )

u64_takes : (bytes : List ℕ) (x : ℕ × List ℕ) → IsBytes bytes → Reads (number_at w64 bytes) x → Takes bytes (u64 x.0) x.1 × (x.0 < 2 ^ 64)
u64_takes bytes x fits is = number_takes w64 (2 ^ 64) wide64 bytes x fits is

u32_takes : (bytes : List ℕ) (x : ℕ × List ℕ) → IsBytes bytes → Reads (number_at w32 bytes) x → Takes bytes (u32 x.0) x.1 × (x.0 < 2 ^ 32)
u32_takes bytes x fits is = number_takes w32 (2 ^ 32) wide32 bytes x fits is

passed : {A : Type 0} (test : A → Bool) (field : Field A) (x : A × List ℕ) → Reads (passing test field) x → Reads field x × (test x.0 ≡ true)
unfolding passing
passed {A} test field x is =
    let y = bound field (λ (z : A × List ℕ). when (test z.0) z) x is in
    let ok = held (test y.0.0) y.0 x y.2 in
    (y.1 ∙ ap (λ (z : A × List ℕ). Some z) ok.1, subst (λ (z : A × List ℕ). test z.0 ≡ true) ok.1 ok.0)

user_takes : (bytes : List ℕ) (x : ℕ × List ℕ) → IsBytes bytes → Reads (user_at bytes) x → Takes bytes (u32 x.0) x.1 × (x.0 < nobody)
user_takes bytes x fits is =
    let ok = passed (λ uid. nat_lt uid nobody) (number_at w32 bytes) x is in
    ((u32_takes bytes x fits ok.0).0, grind (arith, nat_tests, ok.1))

mode_takes : (bytes : List ℕ) (x : ℕ × List ℕ) → IsBytes bytes → Reads (mode_at bytes) x → Takes bytes (u16 x.0) x.1 × (x.0 ≤ 511)
mode_takes bytes x fits is =
    let ok = passed (λ mode. nat_le mode 511) (number_at w16 bytes) x is in
    ((number_takes w16 (2 ^ 16) wide16 bytes x fits ok.0).0, grind (arith, nat_tests, ok.1))

bytes_take : (bytes : List ℕ) (x : List ℕ × List ℕ) → IsBytes bytes → Reads (bytes_at bytes) x → Takes bytes (name_bytes x.0) x.1
unfolding bytes_at
bytes_take [] x fits is = absurd cc
bytes_take (n ∷ rest) x fits is =
    let made : List ℕ × List ℕ = (take n rest, drop n rest) in
    let test = held (nat_le n (length rest)) made x is in
    let long : length (take n rest) ≡ n = omega (arith, at_most n (length rest) test.0, length-take n rest) in
    subst (λ (y : List ℕ × List ℕ). Takes (n ∷ rest) (name_bytes y.0) y.1) test.1
    (record {
      parts =
          ap (λ (l : List ℕ). n ∷ l) (sym (take-append-drop n rest))
          ∙ ap (λ (m : ℕ). m ∷ (take n rest ++ drop n rest)) (sym long);
      rest_fits = is_bytes-drop n rest (is_bytes-rest n rest fits);
    })

name_takes : (bytes : List ℕ) (x : List ℕ × List ℕ) → IsBytes bytes → Reads (name_at bytes) x → Takes bytes (name_bytes x.0) x.1 × IsTrue (is_good_name x.0)
name_takes bytes x fits is =
    let ok = passed is_good_name (bytes_at bytes) x is in
    (bytes_take bytes x fits ok.0, good (is_good_name x.0) ok.1)
  where
    good : (b : Bool) → b ≡ true → IsTrue b
    good b is = search rules

-- nothing was left
ended : (c d : Change) (rest : List ℕ) → whole c rest ≡ Some d → (rest ≡ []) × (c ≡ d)
unfolding whole
ended c d rest is =
    let ok = held (length rest == 0) c d is in
    (nil_from_length rest (grind (arith, nat_tests, ok.0)), ok.1)

-- what is spelled behind a kind
abbrev Spells : ℕ → List ℕ → Change → Type 0
Spells kind bytes c = HasBody c × (kind ∷ bytes ≡ body c)

-- a field in front of what was left of it
on : {a x b t : List ℕ} → Takes a x b → b ≡ t → a ≡ x ++ t
on {a} {x} {b} {t} takes rest = takes.parts ∙ ap (λ (r : List ℕ). x ++ r) rest

create_region-spelled : (bytes : List ℕ) (c : Change) → IsBytes bytes → create_region_at bytes ≡ Some c → Spells 1 bytes c
unfolding create_region_at
create_region-spelled bytes c fits is =
    let region = bound (number_at w64 bytes) (λ region. user_at region.1 >>= λ uid. number_at w32 uid.1 >>= λ gid. mode_at gid.1 >>= λ mode. number_at w64 mode.1 >>= λ size. name_at size.1 >>= λ name. whole (change.CreateRegion (record { 0 = region.0 }) uid.0 gid.0 mode.0 size.0 name.0) name.1) c is in
    let region_takes = u64_takes bytes region.0 fits region.1 in
    let uid = bound (user_at region.0.1) (λ uid. number_at w32 uid.1 >>= λ gid. mode_at gid.1 >>= λ mode. number_at w64 mode.1 >>= λ size. name_at size.1 >>= λ name. whole (change.CreateRegion (record { 0 = region.0.0 }) uid.0 gid.0 mode.0 size.0 name.0) name.1) c region.2 in
    let uid_takes = user_takes region.0.1 uid.0 region_takes.0.rest_fits uid.1 in
    let gid = bound (number_at w32 uid.0.1) (λ gid. mode_at gid.1 >>= λ mode. number_at w64 mode.1 >>= λ size. name_at size.1 >>= λ name. whole (change.CreateRegion (record { 0 = region.0.0 }) uid.0.0 gid.0 mode.0 size.0 name.0) name.1) c uid.2 in
    let gid_takes = u32_takes uid.0.1 gid.0 uid_takes.0.rest_fits gid.1 in
    let mode = bound (mode_at gid.0.1) (λ mode. number_at w64 mode.1 >>= λ size. name_at size.1 >>= λ name. whole (change.CreateRegion (record { 0 = region.0.0 }) uid.0.0 gid.0.0 mode.0 size.0 name.0) name.1) c gid.2 in
    let mode_is = mode_takes gid.0.1 mode.0 gid_takes.0.rest_fits mode.1 in
    let size = bound (number_at w64 mode.0.1) (λ size. name_at size.1 >>= λ name. whole (change.CreateRegion (record { 0 = region.0.0 }) uid.0.0 gid.0.0 mode.0.0 size.0 name.0) name.1) c mode.2 in
    let size_takes = u64_takes mode.0.1 size.0 mode_is.0.rest_fits size.1 in
    let name = bound (name_at size.0.1) (λ name. whole (change.CreateRegion (record { 0 = region.0.0 }) uid.0.0 gid.0.0 mode.0.0 size.0.0 name.0) name.1) c size.2 in
    let name_is = name_takes size.0.1 name.0 size_takes.0.rest_fits name.1 in
    let nothing = ended (change.CreateRegion (record { 0 = region.0.0 }) uid.0.0 gid.0.0 mode.0.0 size.0.0 name.0.0) c name.0.1 name.2 in
    subst (λ (d : Change). Spells 1 bytes d) nothing.1 ((region_takes.1, size_takes.1, record { user_fits = uid_takes.1; group_fits = gid_takes.1; mode_fits = mode_is.1; name_is_good = name_is.1 }), ap (λ (l : List ℕ). 1 ∷ l) (on region_takes.0 (on uid_takes.0 (on gid_takes.0 (on mode_is.0 (on size_takes.0 (on name_is.0 nothing.0)))))))

destroy_region-spelled : (bytes : List ℕ) (c : Change) → IsBytes bytes → destroy_region_at bytes ≡ Some c → Spells 2 bytes c
unfolding destroy_region_at
destroy_region-spelled bytes c fits is =
    let region = bound (number_at w64 bytes) (λ region. whole (change.DestroyRegion (record { 0 = region.0 })) region.1) c is in
    let region_takes = u64_takes bytes region.0 fits region.1 in
    let nothing = ended (change.DestroyRegion (record { 0 = region.0.0 })) c region.0.1 region.2 in
    subst (λ (d : Change). Spells 2 bytes d) nothing.1 (region_takes.1, ap (λ (l : List ℕ). 2 ∷ l) ((on region_takes.0 nothing.0) ∙ append-nil (u64 region.0.0)))

resize_region-spelled : (bytes : List ℕ) (c : Change) → IsBytes bytes → resize_region_at bytes ≡ Some c → Spells 3 bytes c
unfolding resize_region_at
resize_region-spelled bytes c fits is =
    let region = bound (number_at w64 bytes) (λ region. number_at w64 region.1 >>= λ size. whole (change.ResizeRegion (record { 0 = region.0 }) size.0) size.1) c is in
    let region_takes = u64_takes bytes region.0 fits region.1 in
    let size = bound (number_at w64 region.0.1) (λ size. whole (change.ResizeRegion (record { 0 = region.0.0 }) size.0) size.1) c region.2 in
    let size_takes = u64_takes region.0.1 size.0 region_takes.0.rest_fits size.1 in
    let nothing = ended (change.ResizeRegion (record { 0 = region.0.0 }) size.0.0) c size.0.1 size.2 in
    subst (λ (d : Change). Spells 3 bytes d) nothing.1 ((region_takes.1, size_takes.1), ap (λ (l : List ℕ). 3 ∷ l) (on region_takes.0 (on size_takes.0 nothing.0)))

-- who owns an item, its mode and its name, behind its numbers
record Owner (item region base size : ℕ) (bytes : List ℕ) (c : Change) : Type 0 where
  uid : ℕ
  gid : ℕ
  mode : ℕ
  name : List ℕ
  owned : IsOwned uid gid mode name
  text : bytes ≡ u32 uid ++ (u32 gid ++ (u16 mode ++ (name_bytes name ++ [])))
  is : change.Allocate (record { 0 = item }) (record { 0 = region }) base size uid gid mode name ≡ c

-- the reading of these
abbrev owner_at : ℕ → ℕ → ℕ → ℕ → List ℕ → Option Change
owner_at item region base size bytes =
    user_at bytes >>= λ uid. number_at w32 uid.1 >>= λ gid. mode_at gid.1 >>= λ mode. name_at mode.1 >>= λ name.
    whole (change.Allocate (record { 0 = item }) (record { 0 = region }) base size uid.0 gid.0 mode.0 name.0) name.1

owner-spelled : (item region base size : ℕ) (bytes : List ℕ) (c : Change) → IsBytes bytes → owner_at item region base size bytes ≡ Some c → Owner item region base size bytes c
owner-spelled item region base size bytes c fits is =
    let uid = bound (user_at bytes) (λ uid. number_at w32 uid.1 >>= λ gid. mode_at gid.1 >>= λ mode. name_at mode.1 >>= λ name. whole (change.Allocate (record { 0 = item }) (record { 0 = region }) base size uid.0 gid.0 mode.0 name.0) name.1) c is in
    let uid_takes = user_takes bytes uid.0 fits uid.1 in
    let gid = bound (number_at w32 uid.0.1) (λ gid. mode_at gid.1 >>= λ mode. name_at mode.1 >>= λ name. whole (change.Allocate (record { 0 = item }) (record { 0 = region }) base size uid.0.0 gid.0 mode.0 name.0) name.1) c uid.2 in
    let gid_takes = u32_takes uid.0.1 gid.0 uid_takes.0.rest_fits gid.1 in
    let mode = bound (mode_at gid.0.1) (λ mode. name_at mode.1 >>= λ name. whole (change.Allocate (record { 0 = item }) (record { 0 = region }) base size uid.0.0 gid.0.0 mode.0 name.0) name.1) c gid.2 in
    let mode_is = mode_takes gid.0.1 mode.0 gid_takes.0.rest_fits mode.1 in
    let name = bound (name_at mode.0.1) (λ name. whole (change.Allocate (record { 0 = item }) (record { 0 = region }) base size uid.0.0 gid.0.0 mode.0.0 name.0) name.1) c mode.2 in
    let name_is = name_takes mode.0.1 name.0 mode_is.0.rest_fits name.1 in
    let nothing = ended (change.Allocate (record { 0 = item }) (record { 0 = region }) base size uid.0.0 gid.0.0 mode.0.0 name.0.0) c name.0.1 name.2 in
    record {
      uid = uid.0.0;
      gid = gid.0.0;
      mode = mode.0.0;
      name = name.0.0;
      owned = record { user_fits = uid_takes.1; group_fits = gid_takes.1; mode_fits = mode_is.1; name_is_good = name_is.1 };
      text = on uid_takes.0 (on gid_takes.0 (on mode_is.0 (on name_is.0 nothing.0)));
      is = nothing.1;
    }

allocate-spelled : (bytes : List ℕ) (c : Change) → IsBytes bytes → allocate_at bytes ≡ Some c → Spells 4 bytes c
unfolding allocate_at
allocate-spelled bytes c fits is =
    let item = bound (number_at w64 bytes) (λ item. number_at w64 item.1 >>= λ region. number_at w64 region.1 >>= λ base. number_at w64 base.1 >>= λ size. owner_at item.0 region.0 base.0 size.0 size.1) c is in
    let item_takes = u64_takes bytes item.0 fits item.1 in
    let region = bound (number_at w64 item.0.1) (λ region. number_at w64 region.1 >>= λ base. number_at w64 base.1 >>= λ size. owner_at item.0.0 region.0 base.0 size.0 size.1) c item.2 in
    let region_takes = u64_takes item.0.1 region.0 item_takes.0.rest_fits region.1 in
    let base = bound (number_at w64 region.0.1) (λ base. number_at w64 base.1 >>= λ size. owner_at item.0.0 region.0.0 base.0 size.0 size.1) c region.2 in
    let base_takes = u64_takes region.0.1 base.0 region_takes.0.rest_fits base.1 in
    let size = bound (number_at w64 base.0.1) (λ size. owner_at item.0.0 region.0.0 base.0.0 size.0 size.1) c base.2 in
    let size_takes = u64_takes base.0.1 size.0 base_takes.0.rest_fits size.1 in
    let owner = owner-spelled item.0.0 region.0.0 base.0.0 size.0.0 size.0.1 c size_takes.0.rest_fits size.2 in
    subst (λ (d : Change). Spells 4 bytes d) owner.is (
      (item_takes.1, region_takes.1, base_takes.1, size_takes.1, owner.owned),
      ap (λ (l : List ℕ). 4 ∷ l) (on item_takes.0 (on region_takes.0 (on base_takes.0 (on size_takes.0 owner.text)))),
    )

deallocate-spelled : (bytes : List ℕ) (c : Change) → IsBytes bytes → deallocate_at bytes ≡ Some c → Spells 5 bytes c
unfolding deallocate_at
deallocate-spelled bytes c fits is =
    let item = bound (number_at w64 bytes) (λ item. whole (change.Deallocate (record { 0 = item.0 })) item.1) c is in
    let item_takes = u64_takes bytes item.0 fits item.1 in
    let nothing = ended (change.Deallocate (record { 0 = item.0.0 })) c item.0.1 item.2 in
    subst (λ (d : Change). Spells 5 bytes d) nothing.1 (item_takes.1, ap (λ (l : List ℕ). 5 ∷ l) ((on item_takes.0 nothing.0) ∙ append-nil (u64 item.0.0)))

set_item_mode-spelled : (bytes : List ℕ) (c : Change) → IsBytes bytes → set_item_mode_at bytes ≡ Some c → Spells 6 bytes c
unfolding set_item_mode_at
set_item_mode-spelled bytes c fits is =
    let item = bound (number_at w64 bytes) (λ item. mode_at item.1 >>= λ mode. whole (change.SetItemMode (record { 0 = item.0 }) mode.0) mode.1) c is in
    let item_takes = u64_takes bytes item.0 fits item.1 in
    let mode = bound (mode_at item.0.1) (λ mode. whole (change.SetItemMode (record { 0 = item.0.0 }) mode.0) mode.1) c item.2 in
    let mode_is = mode_takes item.0.1 mode.0 item_takes.0.rest_fits mode.1 in
    let nothing = ended (change.SetItemMode (record { 0 = item.0.0 }) mode.0.0) c mode.0.1 mode.2 in
    subst (λ (d : Change). Spells 6 bytes d) nothing.1 ((item_takes.1, mode_is.1), ap (λ (l : List ℕ). 6 ∷ l) (on item_takes.0 (on mode_is.0 nothing.0)))

set_region_mode-spelled : (bytes : List ℕ) (c : Change) → IsBytes bytes → set_region_mode_at bytes ≡ Some c → Spells 7 bytes c
unfolding set_region_mode_at
set_region_mode-spelled bytes c fits is =
    let region = bound (number_at w64 bytes) (λ region. mode_at region.1 >>= λ mode. whole (change.SetRegionMode (record { 0 = region.0 }) mode.0) mode.1) c is in
    let region_takes = u64_takes bytes region.0 fits region.1 in
    let mode = bound (mode_at region.0.1) (λ mode. whole (change.SetRegionMode (record { 0 = region.0.0 }) mode.0) mode.1) c region.2 in
    let mode_is = mode_takes region.0.1 mode.0 region_takes.0.rest_fits mode.1 in
    let nothing = ended (change.SetRegionMode (record { 0 = region.0.0 }) mode.0.0) c mode.0.1 mode.2 in
    subst (λ (d : Change). Spells 7 bytes d) nothing.1 ((region_takes.1, mode_is.1), ap (λ (l : List ℕ). 7 ∷ l) (on region_takes.0 (on mode_is.0 nothing.0)))

skip-spelled : (bytes : List ℕ) (c : Change) → IsBytes bytes → skip_at bytes ≡ Some c → Spells 8 bytes c
unfolding skip_at
skip-spelled bytes c fits is =
    let next_region = bound (number_at w64 bytes) (λ next_region. number_at w64 next_region.1 >>= λ next_item. whole (change.Skip next_region.0 next_item.0) next_item.1) c is in
    let next_region_takes = u64_takes bytes next_region.0 fits next_region.1 in
    let next_item = bound (number_at w64 next_region.0.1) (λ next_item. whole (change.Skip next_region.0.0 next_item.0) next_item.1) c next_region.2 in
    let next_item_takes = u64_takes next_region.0.1 next_item.0 next_region_takes.0.rest_fits next_item.1 in
    let nothing = ended (change.Skip next_region.0.0 next_item.0.0) c next_item.0.1 next_item.2 in
    subst (λ (d : Change). Spells 8 bytes d) nothing.1 ((next_region_takes.1, next_item_takes.1), ap (λ (l : List ℕ). 8 ∷ l) (on next_region_takes.0 (on next_item_takes.0 nothing.0)))

no_kind : (kind : ℕ) (bytes : List ℕ) (c : Change) → None ≡ Some c → Spells kind bytes c
no_kind kind bytes c is = absurd cc

-- the kind is the one that is tried, or one of those behind it
tried : (test : Bool) (k kind : ℕ) (bytes : List ℕ) (c : Change) (here later : Option Change) → (kind == k) ≡ test
    → (here ≡ Some c → Spells k bytes c) → (later ≡ Some c → Spells kind bytes c) → cond test here later ≡ Some c → Spells kind bytes c
tried true k kind bytes c here later same this others is =
    let kind_is : k ≡ kind = grind (arith, nat_tests, same) in
    subst (λ (n : ℕ). Spells n bytes c) kind_is (this is)
tried false k kind bytes c here later same this others is = others is

-- each kind in turn
of_kind-spelled : (kind : ℕ) (bytes : List ℕ) (c : Change) → IsBytes bytes → of_kind kind bytes ≡ Some c → Spells kind bytes c
of_kind-spelled kind bytes c fits =
    tried (kind == 1) 1 kind bytes c (create_region_at bytes) _ refl (create_region-spelled bytes c fits)
    (tried (kind == 2) 2 kind bytes c (destroy_region_at bytes) _ refl (destroy_region-spelled bytes c fits)
    (tried (kind == 3) 3 kind bytes c (resize_region_at bytes) _ refl (resize_region-spelled bytes c fits)
    (tried (kind == 4) 4 kind bytes c (allocate_at bytes) _ refl (allocate-spelled bytes c fits)
    (tried (kind == 5) 5 kind bytes c (deallocate_at bytes) _ refl (deallocate-spelled bytes c fits)
    (tried (kind == 6) 6 kind bytes c (set_item_mode_at bytes) _ refl (set_item_mode-spelled bytes c fits)
    (tried (kind == 7) 7 kind bytes c (set_region_mode_at bytes) _ refl (set_region_mode-spelled bytes c fits)
    (tried (kind == 8) 8 kind bytes c (skip_at bytes) None refl (skip-spelled bytes c fits) (no_kind kind bytes c))))))))

-- What is read is spelled so.
pub decoded-spelled : (bytes : List ℕ) (c : Change) → IsBytes bytes → decoded bytes ≡ Some c → HasBody c × (bytes ≡ body c)
decoded-spelled [] c fits is = absurd cc
decoded-spelled (kind ∷ bytes) c fits is = of_kind-spelled kind bytes c (is_bytes-rest kind bytes fits) is

-- what was found is spelled so
pub found_spelled : (o : Option Change) (bytes : List ℕ) → IsBytes bytes → o ≡ decoded bytes → IfSome o (λ c. HasBody c × (bytes ≡ body c))
found_spelled None bytes fits is = tt
found_spelled (Some c) bytes fits is = decoded-spelled bytes c fits (sym is)
