-- Records that were written are read again.
use Rattle.std.proofs.Common.{◌≡◌, ℕ, suc, zero, ◌+◌, ◌<◌, ◌≤◌, ◌^◌, ◌≢◌, Bool, true, false, List, [], ◌∷◌, ◌++◌, length, refl, ◌∙◌, ap, arith, rules, append_assoc, length-append}
use Rattle.std.specs.Prelude.{Some, Result, Ok, IsTrue, nat_lt, ◌==◌}
use Rattle.std.proofs.lemmas.List.Sums.{sum_by-cons}
use Rattle.std.proofs.lemmas.List.{take_at, drop_at}
use Rattle.std.proofs.lemmas.Bool.Decides.{nat_tests}
use Rattle.fam_model.specs.declared.rows.Rows.{Rows}
use Rattle.fam_base.specs.Name.{is_good_name}
use Rattle.fam_model.specs.declared.change.Change.{Change}
use Rattle.fam_model.specs.declared.change.Change.TheVariants as change
use Rattle.fam_model.specs.Directory.{after}
use Rattle.fam_model.specs.Journal.{body_length, record_length, place_after}
use Rattle.fam_model.specs.Lawful.{is_lawful_change}
use Rattle.meta_codec.specs.Body.{body, HasBody, u32}
use Rattle.meta_codec.proofs.OneSpelling.{u32_again, decoded-body, length-body}
use Rattle.meta_journal.specs.Layout.{record_bytes, records, records_end}
use Rattle.meta_journal.specs.Reading.{Contents, body_at, change_at, records_from, with_first}
use Rattle.meta_journal.specs.Image.{AreLawful}

-- a body is short
pub name_short : (name : List ℕ) → IsTrue (is_good_name name) → length name ≤ 64
name_short name good = grind (arith, nat_tests, good)

pub body_short : (c : Change) → HasBody c → length (body c) ≤ 120
body_short (change.CreateRegion region uid gid mode size name) (a, b, owned) = omega (arith, name_short name owned.name_is_good, length-append name [])
body_short (change.DestroyRegion region) fits = omega arith
body_short (change.ResizeRegion region size) fits = omega arith
body_short (change.Allocate item region base size uid gid mode name) (a, b, d, e, owned) = omega (arith, name_short name owned.name_is_good, length-append name [])
body_short (change.Deallocate item) fits = omega arith
body_short (change.SetItemMode item mode) fits = omega arith
body_short (change.SetRegionMode region mode) fits = omega arith
body_short (change.Skip next_region next_item) fits = omega arith

-- as long as it is counted
pub body_is_counted : (c : Change) → length (body c) ≡ body_length c
body_is_counted c = length-body c

-- the place behind records, by their bytes and by their lengths
pub end_is_place : (changes : List Change) → records_end changes ≡ place_after changes
end_is_place [] = refl
end_is_place (c ∷ cs) =
    omega (arith, end_is_place cs, body_is_counted c, length-append (1 ∷ record_bytes c) (records cs), sum_by-cons record_length c cs)

body_again : (bytes rest : List ℕ) → length bytes < 2 ^ 32 → 0 < length rest → body_at ((u32 (length bytes) ++ bytes) ++ rest) ≡ Some (bytes, rest)
unfolding body_at
body_again bytes rest fits behind =
    let room : nat_lt (length bytes) (length (bytes ++ rest)) ≡ true = grind (arith, nat_tests, length-append bytes rest) in
    rw (u32_again, room, take_at bytes rest (length bytes) refl, drop_at bytes rest (length bytes) refl) refl

true_is : (b : Bool) → IsTrue b → b ≡ true
true_is b holds = search rules

pub change_again : (rows : Rows) (c : Change) (rest : List ℕ) → IsTrue (is_lawful_change rows c) → HasBody c → 0 < length rest
    → change_at false rows (record_bytes c ++ rest) ≡ Some (c, rest)
unfolding change_at
change_again rows c rest lawful has_body behind =
    let fits : length (body c) < 2 ^ 32 = omega (arith, body_short c has_body) in
    rw (body_again (body c) rest fits behind, decoded-body c has_body, true_is (is_lawful_change rows c) lawful) refl

-- one record is read, and then the others
records_step : (most : ℕ) (rows : Rows) (place : ℕ) (c : Change) (rest : List ℕ) → IsTrue (is_lawful_change rows c) → HasBody c → 0 < length rest
    → records_from (suc most) false rows place (1 ∷ (record_bytes c ++ rest)) ≡ with_first c (records_from most false (after rows c) (place + record_length c) rest)
records_step most rows place c rest lawful has_body behind = rw (change_again rows c rest lawful has_body behind) refl

abbrev pub contents : List Change → ℕ → Result Contents ℕ
contents changes place = Ok (record { changes = changes; place = place })

-- what follows records of lawful changes is read as it is, with these changes in front
pub records_read : (changes : List Change) (most : ℕ) (rows : Rows) (place gate : ℕ) (rest : List ℕ) → gate ≢ 1 → AreLawful rows changes → length changes ≤ most
    → records_from most false rows place (records changes ++ gate ∷ rest) ≡ contents changes (place + length (records changes))
records_read [] zero rows place gate rest shut lawful enough = ap (contents []) (omega arith)
records_read [] (suc most) rows place gate rest shut lawful enough =
    let not_open : (gate == 1) ≡ false = grind (arith, nat_tests) in
    rw not_open (ap (contents []) (omega arith))
records_read (c ∷ cs) zero rows place gate rest shut lawful enough = absurd (omega arith)
records_read (c ∷ cs) (suc most) rows place gate rest shut (lawful, has_body, others) enough =
    let tail = records cs ++ gate ∷ rest in
    let behind : 0 < length tail = omega (arith, length-append (records cs) (gate ∷ rest)) in
    let whole : records (c ∷ cs) ++ gate ∷ rest ≡ 1 ∷ (record_bytes c ++ tail) = ap (λ (l : List ℕ). 1 ∷ l) (append_assoc (record_bytes c) (records cs) (gate ∷ rest)) in
    let size : place + record_length c + length (records cs) ≡ place + length (records (c ∷ cs)) = omega (arith, body_is_counted c, length-append (1 ∷ record_bytes c) (records cs)) in
    ap (λ (l : List ℕ). records_from (suc most) false rows place l) whole
    ∙ records_step most rows place c tail lawful has_body behind
    ∙ ap (with_first c) (records_read cs most (after rows c) (place + record_length c) gate rest shut others (omega arith))
    ∙ ap (contents (c ∷ cs)) size
