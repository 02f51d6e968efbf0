-- What is reserved for an append.
use Rattle.std.proofs.Common.{◌≡◌, ℕ, ◌+◌, ◌<◌, ◌≤◌, inr, true, false, List, length, refl, sym, ◌∙◌, ap, subst, arith}
use Rattle.std.specs.Prelude.{Option, Some, None, IsSome, IsTrue}
use Rattle.std.proofs.lemmas.Bool.Decides.{nat_tests}
use Rattle.fam_base.specs.declared.error.FamError.TheVariants.{JournalFull}
use Rattle.fam_disk.specs.declared.disk.Disk.{Ghosts}
use Rattle.fam_model.specs.declared.change.Change.{Change}
use Rattle.fam_model.specs.declared.rows.Rows.{Rows}
use Rattle.fam_model.specs.Journal.{record_length, rows_of, short_place}
use Rattle.fam_model.specs.Lawful.{is_lawful_change}
use Rattle.meta_codec.specs.Body.{HasBody}
use Rattle.meta_journal.specs.declared.journal.Journal.{Journal}
use Rattle.meta_journal.specs.declared.reserve.Reserve.{Reserve}
use Rattle.meta_journal.specs.Short.{short_bytes}
use Rattle.meta_journal.specs.State.{acknowledged, has_room, IsForm, IsRefusal, IsReserved, IsUntouched, Keeps}
use Rattle.meta_journal.proofs.Appending.{form_length}

module _ {D : Type 0} {disk : Ghosts D} (old new : Journal D disk) (same : IsUntouched old new) where
  same_changes : acknowledged new ≡ acknowledged old
  same_changes = rw (same.limit, same.area, same.used, same.same_disk) refl

  told_before : IsSome (disk.state new.disk).content → IsSome (disk.state old.disk).content
  told_before told = subst (λ d. IsSome (disk.state d).content) same.same_disk told

  kept_by : (rows : Rows) (change : Change) (form : Option (List ℕ)) (kept : Option Reserve) → new.reserve ≡ kept → Keeps kept change form
      → (IsSome (disk.state old.disk).content → rows_of (acknowledged old) ≡ rows) → (IsSome (disk.state old.disk).content → IsTrue (is_lawful_change rows change))
      → HasBody change → IsForm old.limit old.used rows change form → IsReserved new change rows
  kept_by rows change form None is keeps of_rows lawful body fits = absurd keeps
  kept_by rows change form (Some reserve) is keeps of_rows lawful body fits =
      record {
        reserve = reserve;
        is_there = is;
        of_change = keeps.0;
        of_rows = λ told. ap rows_of same_changes ∙ of_rows (told_before told);
        lawful = λ told. lawful (told_before told);
        has_body = body;
        form = subst (λ f. IsForm new.limit new.used rows change f) (sym keeps.1)
            (subst (λ n. IsForm n new.used rows change form) (sym same.limit) (subst (λ n. IsForm old.limit n rows change form) (sym same.used) fits));
      }

  pub reserves : (rows : Rows) (change : Change) (form : Option (List ℕ)) → Keeps new.reserve change form
      → (IsSome (disk.state old.disk).content → rows_of (acknowledged old) ≡ rows) → (IsSome (disk.state old.disk).content → IsTrue (is_lawful_change rows change))
      → HasBody change → IsForm old.limit old.used rows change form → IsReserved new change rows
  reserves rows change form keeps of_rows lawful body fits = kept_by rows change form new.reserve refl keeps of_rows lawful body fits

-- the numbers of a refusal
pub refused_full : (limit used : ℕ) (rows : Rows) (change : Change) (form : List ℕ) (size need : ℕ) → form ≡ short_bytes rows → size ≡ length form → need ≡ record_length change
    → has_room limit used change ≡ false → limit < 15 + size + need + 1 → IsRefusal limit used rows change (JournalFull (15 + size) need)
refused_full limit used rows change form size need is size_is need_is full beyond =
    let place : 15 + size ≡ short_place rows = omega (arith, size_is, form_length rows form is) in
    let past : limit < short_place rows + record_length change + 1 = omega (arith, place, need_is, beyond) in
    let no_room : has_room limit (short_place rows) change ≡ false = grind (arith, nat_tests) in
    inr (λ i. JournalFull (place i) (need_is i), full, no_room)

pub room_by_form : (limit : ℕ) (rows : Rows) (change : Change) (form : List ℕ) (size need : ℕ) → form ≡ short_bytes rows → size ≡ length form → need ≡ record_length change
    → 15 + size + need + 1 ≤ limit → has_room limit (short_place rows) change ≡ true
room_by_form limit rows change form size need is size_is need_is within =
    let place : 15 + size ≡ short_place rows = omega (arith, size_is, form_length rows form is) in
    let here : short_place rows + record_length change + 1 ≤ limit = omega (arith, place, need_is, within) in
    grind (arith, nat_tests)
