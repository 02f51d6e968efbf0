-- What a crash leaves while a fresh disk is made a journal.
use Rattle.std.proofs.Common.{◌≡◌, ◌≢◌, ℕ, ◌≤◌, min, true, inl, inr, List, [], ◌∷◌, ◌++◌, length, take, drop, refl, sym, ◌∙◌, ap, subst, arith}
use Rattle.std.specs.Prelude.{Ok, slice_index}
use Rattle.std.proofs.lemmas.Bool.{cases_eq}
use Rattle.std.proofs.lemmas.Bool.Decides.{nat_tests}
use Rattle.std.proofs.lemmas.List.{drop_all}
use Rattle.fam_disk.specs.Crash.{IsTorn, written}
use Rattle.fam_model.specs.Journal.{rows_of}
use Rattle.fam_model.specs.Rows.{common_rows}
use Rattle.meta_journal.specs.Found.{IsBlank}
use Rattle.meta_journal.specs.Image.{HasChanges, HasHeader, IsImage}
use Rattle.meta_journal.specs.Layout.{is_fresh}
use Rattle.meta_journal.specs.Opened.{empty_behind, empty_journal, HasRowsOf}
use Rattle.meta_journal.specs.Reading.{Contents, journal, no_changes, HasRows}
use Rattle.meta_journal.specs.declared.area.Area.TheVariants.{First}
use Rattle.meta_journal.specs.declared.doubt.Doubt.TheVariants.{Nothing}
use Rattle.meta_journal.proofs.Adding.{rows_read}

pub fresh_reads : (limit : ℕ) (c : List ℕ) → is_fresh c ≡ true → journal limit c ≡ Ok no_changes
fresh_reads limit c fresh = rw fresh refl

pub fresh_rows : (limit : ℕ) (c : List ℕ) → is_fresh c ≡ true → HasRows limit common_rows c
fresh_rows limit c fresh = (no_changes, fresh_reads limit c fresh, refl)

-- the rows of a fresh disk are the common ones
pub rows_of_fresh : (limit : ℕ) (bytes image : List ℕ) → is_fresh bytes ≡ true → HasRows limit common_rows image → HasRowsOf limit bytes image
rows_of_fresh limit bytes image fresh has contents reads =
    let same : Ok no_changes ≡ Ok contents = sym (fresh_reads limit bytes fresh) ∙ reads in
    let is : no_changes ≡ contents = cc in
    (has.0, has.1, has.2 ∙ ap (λ (k : Contents). rows_of k.changes) is)

pub blank_fresh : (c : List ℕ) → IsBlank c → is_fresh c ≡ true
blank_fresh c blank = grind (arith, nat_tests, blank.few, blank.other)

pub short_fresh : (c : List ℕ) → length c ≤ 16 → is_fresh c ≡ true
short_fresh c few = grind (arith, nat_tests)

-- clearing the first byte
pub clearing : (c d : List ℕ) → length c ≤ 16 → IsTorn 0 1 c d → length d ≤ 16
clearing c d few torn = omega (arith, torn.no_longer)

is_no_letter : (b : ℕ) → b ≡ 0 → b ≢ 70
is_no_letter b zero letter = omega arith

pub cleared : (c : List ℕ) → length c ≤ 16 → IsBlank (written 0 (0 ∷ []) c)
cleared [] few = record { some = omega arith; few = omega arith; other = is_no_letter 0 refl }
cleared (x ∷ c) few = record { some = omega arith; few = omega arith; other = is_no_letter 0 refl }

-- writing all behind the first byte
first_kept : (c d : List ℕ) → 1 ≤ length c → IsTorn 1 16 c d → slice_index d 0 ≡ slice_index c 0
first_kept [] d some torn = absurd (omega arith)
first_kept (x ∷ c) [] some torn = absurd (omega (arith, torn.no_shorter))
first_kept (x ∷ c) (y ∷ d) some torn =
    let one : min 1 (length (x ∷ c)) ≡ 1 = omega arith in
    let same : y ∷ [] ≡ x ∷ [] = ap (λ (n : ℕ). take n (y ∷ d)) (sym one) ∙ torn.front in
    cc

pub filling : (c d : List ℕ) → IsBlank c → IsTorn 1 16 c d → IsBlank d
filling c d blank torn =
    record {
      some = omega (arith, blank.some, torn.no_shorter);
      few = omega (arith, blank.few, torn.no_longer);
      other = λ letter. blank.other (sym (first_kept c d blank.some torn) ∙ letter);
    }

-- a first byte of any kind, and behind it a journal of no changes
abbrev pub IsFilled : List ℕ → Type 0
IsFilled c = (x : ℕ) × (c ≡ x ∷ empty_behind)

pub filled : (c : List ℕ) → IsBlank c → IsFilled (written 1 empty_behind c)
filled [] blank = absurd (omega (arith, blank.some))
filled (x ∷ c) blank = (x, ap (λ (l : List ℕ). x ∷ (empty_behind ++ l)) (drop_all 16 c (omega (arith, blank.few))))

-- writing the first byte
pub finishing : (c d : List ℕ) → IsFilled c → IsTorn 0 1 c d → IsFilled d
finishing c [] filled torn = absurd (omega (arith, torn.no_shorter, ap length filled.1))
finishing c (y ∷ d) filled torn = (y, ap (λ (l : List ℕ). y ∷ l) (torn.back ∙ ap (λ (l : List ℕ). drop 1 l) filled.1))

pub finished : (c : List ℕ) → IsFilled c → written 0 (70 ∷ []) c ≡ empty_journal
finished c filled = ap (λ (l : List ℕ). written 0 (70 ∷ []) l) filled.1

-- an empty journal

zero_is_other : (n : ℕ) → n ≡ 0 → n ≢ 1
zero_is_other n is one = omega arith

two_is_other : (n : ℕ) → n ≡ 2 → n ≢ 1
two_is_other n is one = omega arith

empty_header : HasHeader empty_journal
empty_header = record { magic = refl; gap = refl; rest = refl; version = two_is_other 2 refl }

empty_area : (limit : ℕ) → HasChanges limit First [] empty_journal
empty_area limit = record { front = refl; end = record { inside = omega arith; shut = zero_is_other 0 refl } }

pub empty_image : (limit : ℕ) → 17 ≤ limit → IsImage limit 16 First Nothing [] empty_journal
empty_image limit low = record { place = refl; room = omega arith; lawful = tt; header = empty_header; held = (refl, empty_area limit) }

pub filled_rows : (limit : ℕ) (c : List ℕ) → 17 ≤ limit → IsFilled c → HasRows limit common_rows c
filled_rows limit c low (x, is) =
    elim (cases_eq x 70) [
      | inl letter ↦
          let image = empty_image limit low in
          subst (λ (l : List ℕ). HasRows limit common_rows l) (sym (is ∙ ap (λ (b : ℕ). b ∷ empty_behind) letter))
          (rows_read limit First [] empty_journal image.room image.lawful image.header refl image.held.1)
      | inr other ↦
          fresh_rows limit c (ap (λ (l : List ℕ). is_fresh l) is ∙ other_fresh x other)
    ]
  where
    other_fresh : (x : ℕ) → x ≢ 70 → is_fresh (x ∷ empty_behind) ≡ true
    other_fresh x other = grind (arith, nat_tests)
