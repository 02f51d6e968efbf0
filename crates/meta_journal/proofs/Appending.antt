-- What a crash leaves while a change is appended, step after step.
use Rattle.std.proofs.Common.{◌≡◌, ℕ, ◌+◌, ◌≤◌, inl, inr, List, [], ◌∷◌, ◌++◌, length, refl, sym, ◌∙◌, ap, subst, arith, length-append}
use Rattle.std.specs.Prelude.{◌⊎◌, Option, Some, None, IsSome, IsTrue}
use Rattle.std.proofs.lemmas.Bool.{leb-true, leb-false}
use Rattle.fam_disk.proofs.Moments.{run_on, weaker}
use Rattle.fam_disk.specs.Crash.{DiskState, LeavesOnly}
use Rattle.fam_disk.specs.declared.disk.Disk.{Ghosts}
use Rattle.fam_model.specs.declared.change.Change.{Change}
use Rattle.fam_model.specs.declared.rows.Rows.{Rows}
use Rattle.fam_model.specs.Directory.{after}
use Rattle.fam_model.specs.Journal.{record_length, rows_of, short, short_place}
use Rattle.fam_model.specs.Lawful.{is_lawful_change}
use Rattle.fam_model.specs.Rows.{common_rows}
use Rattle.meta_codec.specs.Body.{HasBody}
use Rattle.meta_journal.specs.declared.doubt.Doubt.{Doubt}
use Rattle.meta_journal.specs.declared.doubt.Doubt.TheVariants.{Nothing, OfChange, OfArea}
use Rattle.meta_journal.specs.declared.journal.Journal.{Journal}
use Rattle.meta_journal.specs.declared.reserve.Reserve.{Reserve}
use Rattle.meta_journal.specs.Image.{IsAddable}
use Rattle.meta_journal.specs.Layout.{records}
use Rattle.meta_journal.specs.Reading.{HasRows}
use Rattle.meta_journal.specs.Short.{Restores, short_bytes}
use Rattle.meta_journal.specs.State.{acknowledged, IsSameJournal, HasRowsInDoubt, HasRowsOrAfter, MayHold, MayGoOn, changes_behind, place_behind, kept_changes, kept_place, IsForm, IsReserved}
use Rattle.meta_journal.proofs.Adding.{rows_from-push}
use Rattle.meta_journal.proofs.Records.{body_short, body_is_counted, end_is_place}

module _ (limit : ℕ) (changes : List Change) (doubt : Doubt) (change : Change) where
  abbrev May : List ℕ → Type 0
  May = MayHold limit changes doubt change

  pub settled_so_far : (old mid : DiskState) → LeavesOnly (HasRowsInDoubt limit changes doubt) old mid → LeavesOnly May old mid
  settled_so_far old mid run = weaker (HasRowsInDoubt limit changes doubt) May old mid run (λ image holds. inl holds)

  pub room_so_far : (old mid new : DiskState) (limit' : ℕ) (changes' : List Change) → limit' ≡ limit → rows_of changes' ≡ rows_of changes
      → LeavesOnly May old mid → LeavesOnly (HasRows limit' (rows_of changes')) mid new → LeavesOnly May old new
  room_so_far old mid new limit' changes' same_limit same_rows so_far run =
      run_on May old mid new so_far (weaker (HasRows limit' (rows_of changes')) May mid new run (λ image holds.
      inr (inl (subst (λ (n : ℕ). HasRows n (rows_of changes) image) same_limit (subst (λ (rows : Rows). HasRows limit' rows image) same_rows holds)))))

  pub added_so_far : (old mid new : DiskState) (limit' : ℕ) (changes' : List Change) → limit' ≡ limit → rows_of changes' ≡ rows_of changes
      → LeavesOnly May old mid → LeavesOnly (HasRowsOrAfter limit' changes' change) mid new → LeavesOnly May old new
  added_so_far old mid new limit' changes' same_limit same_rows so_far run =
      run_on May old mid new so_far (weaker (HasRowsOrAfter limit' changes' change) May mid new run (λ image holds.
      inr (subst (λ (n : ℕ). HasRows n (rows_of changes) image ⊎ HasRows n (after (rows_of changes) change) image) same_limit
      (subst (λ (rows : Rows). HasRows limit' rows image ⊎ HasRows limit' (after rows change) image) same_rows holds))))

  -- the same, where the change does not count yet
  abbrev Was : List ℕ → Type 0
  Was = HasRowsInDoubt limit changes doubt

  has_was : (image : List ℕ) → HasRows limit (rows_of changes) image → Was image
  has_was image holds = by_doubt doubt
    where
      by_doubt : (d : Doubt) → HasRowsInDoubt limit changes d image
      by_doubt Nothing = holds
      by_doubt (OfChange c) = inl holds
      by_doubt OfArea = holds

  pub rows_so_far : (old mid new : DiskState) (limit' : ℕ) (changes' : List Change) → limit' ≡ limit → rows_of changes' ≡ rows_of changes
      → LeavesOnly (HasRowsInDoubt limit changes doubt) old mid → LeavesOnly (HasRows limit' (rows_of changes')) mid new → LeavesOnly (HasRowsInDoubt limit changes doubt) old new
  rows_so_far old mid new limit' changes' same_limit same_rows so_far run =
      run_on Was old mid new so_far (weaker (HasRows limit' (rows_of changes')) Was mid new run (λ image holds.
      has_was image (subst (λ (n : ℕ). HasRows n (rows_of changes) image) same_limit (subst (λ (rows : Rows). HasRows limit' rows image) same_rows holds))))

-- what may be written may be written still
pub may_go_on : {D : Type 0} {disk : Ghosts D} (old new : Journal D disk) → IsSameJournal old new → acknowledged new ≡ acknowledged old
    → (IsSome (disk.state new.disk).content → IsSome (disk.state old.disk).content) → (form : Option (List ℕ)) → MayGoOn old form → MayGoOn new form
may_go_on old new same same_changes told None may = tt
may_go_on old new same same_changes told (Some form) may =
    record {
      near = omega (arith, may.near, same.limit, same.used);
      room = omega (arith, may.room, same.limit);
      is_form = λ here. may.is_form (told here) ∙ ap (λ (cs : List Change). short_bytes (rows_of cs)) (sym same_changes);
      restores = λ here. subst (λ (cs : List Change). Restores (rows_of cs) (short (rows_of cs))) (sym same_changes) (may.restores (told here));
      is_written = may.is_written;
    }

pub addable_still : (old new : List Change) (change : Change) → rows_of new ≡ rows_of old → IsAddable old change → IsAddable new change
addable_still old new change same addable = subst (λ (rows : Rows). IsTrue (is_lawful_change rows change) × HasBody change) (sym same) addable

-- The form that is written first

pub form_length : (rows : Rows) (form : List ℕ) → form ≡ short_bytes rows → 15 + length form ≡ short_place rows
form_length rows form is = omega (arith, ap length is, length-append (records (short rows)) (0 ∷ []), end_is_place (short rows))

pub place_is : (limit used : ℕ) (rows : Rows) (change : Change) (form : Option (List ℕ)) → IsForm limit used rows change form → place_behind form used ≡ kept_place limit used rows change
place_is limit used rows change None fits = rw fits refl
place_is limit used rows change (Some form) (full, fits, is, restores) = rw full (form_length rows form is)

pub changes_are : (limit used : ℕ) (changes : List Change) (rows : Rows) (change : Change) (form : Option (List ℕ)) → IsForm limit used rows change form
    → changes_behind form changes ≡ kept_changes limit used changes change
changes_are limit used changes rows change None fits = rw fits refl
changes_are limit used changes rows change (Some form) (full, fits, is, restores) = rw full refl

pub room_behind : (limit used : ℕ) (rows : Rows) (change : Change) (form : Option (List ℕ)) → IsForm limit used rows change form → place_behind form used + record_length change + 1 ≤ limit
room_behind limit used rows change None fits = leb-true _ _ fits
room_behind limit used rows change (Some form) (full, fits, is, restores) = omega (arith, leb-true _ _ fits, form_length rows form is)

pub rows_behind : (limit used : ℕ) (changes : List Change) (rows : Rows) (change : Change) (form : Option (List ℕ)) → rows_of changes ≡ rows → IsForm limit used rows change form
    → rows_of (changes_behind form changes) ≡ rows_of changes
rows_behind limit used changes rows change None of_rows fits = refl
rows_behind limit used changes rows change (Some form) of_rows (full, fits, is, restores) =
    ap (λ (r : Rows). rows_of (short r)) of_rows ∙ restores.same_rows ∙ sym of_rows

-- and then one change more
pub rows_then : (limit used : ℕ) (changes new : List Change) (rows : Rows) (change : Change) (form : Option (List ℕ)) → rows_of changes ≡ rows → IsForm limit used rows change form
    → new ≡ changes_behind form changes ++ change ∷ [] → rows_of new ≡ after (rows_of changes) change
rows_then limit used changes new rows change form of_rows is_form appended =
    ap rows_of appended ∙ rows_from-push common_rows (changes_behind form changes) change
    ∙ ap (λ (r : Rows). after r change) (rows_behind limit used changes rows change form of_rows is_form)

pub may_begin : {D : Type 0} {disk : Ghosts D} (journal : Journal D disk) (rows : Rows) (change : Change) → HasBody change
    → (IsSome (disk.state journal.disk).content → rows_of (acknowledged journal) ≡ rows)
    → (form : Option (List ℕ)) → IsForm journal.limit journal.used rows change form → MayGoOn journal form
may_begin journal rows change has_body of_rows None fits = tt
may_begin journal rows change has_body of_rows (Some form) (full, fits, is, restores) =
    record {
      near = omega (arith, leb-false _ _ full, body_short change has_body, body_is_counted change);
      room = omega (arith, leb-true _ _ fits, form_length rows form is);
      is_form = λ told. is ∙ ap short_bytes (sym (of_rows told));
      restores = λ told. subst (λ (r : Rows). Restores r (short r)) (sym (of_rows told)) restores;
      is_written = omega (arith, ap length is, length-append (records (short rows)) (0 ∷ []));
    }

-- what is reserved, as it is taken out
pub reserved_is : {D : Type 0} {disk : Ghosts D} (journal : Journal D disk) (rows : Rows) (change : Change) (reserve : Reserve) → journal.reserve ≡ Some reserve → IsReserved journal change rows
    → (reserve.record.change ≡ change) × IsForm journal.limit journal.used rows change reserve.short
reserved_is journal rows change reserve there reserved =
    let same : reserved.reserve ≡ reserve = some_same _ _ (sym reserved.is_there ∙ there) in (
      subst (λ (r : Reserve). r.record.change ≡ change) same reserved.of_change,
      subst (λ (r : Reserve). IsForm journal.limit journal.used rows change r.short) same reserved.form,
    )
  where
    some_same : (a b : Reserve) → Some a ≡ Some b → a ≡ b
    some_same a b is = cc is
