-- A fresh disk was made a journal.
use Rattle.std.proofs.Common.{◌≡◌, ℕ, ◌≤◌, Bool, true, false, List, [], refl, sym, ◌∙◌, ap}
use Rattle.std.specs.Prelude.{Some, Result, Ok, Err}
use Rattle.fam_disk.specs.Crash.{DiskState}
use Rattle.fam_disk.proofs.Moments.{weaker}
use Rattle.fam_model.specs.declared.rows.Rows.{Rows}
use Rattle.fam_model.specs.Rows.{common_rows}
use Rattle.meta_journal.specs.Found.{IsReady}
use Rattle.meta_journal.specs.Image.{IsImage}
use Rattle.meta_journal.specs.Layout.{is_fresh}
use Rattle.meta_journal.specs.Opened.{empty_journal, HasRowsOf, Makes, opened_bytes, Opens, OpensAs}
use Rattle.meta_journal.specs.Reading.{HasRows, no_changes}
use Rattle.meta_journal.specs.declared.area.Area.TheVariants.{First}
use Rattle.meta_journal.specs.declared.doubt.Doubt.TheVariants.{Nothing}
use Rattle.meta_journal.specs.declared.starting.OpenFault.TheVariants.{DiskFault}
use Rattle.meta_journal.proofs.Fresh.{blank_fresh, empty_image, fresh_reads, rows_of_fresh, short_fresh}
use Rattle.meta_journal.proofs.Opening.{synced_has}

pub ready_fresh : (clear : Bool) (bytes : List ℕ) → IsReady clear bytes → is_fresh bytes ≡ true
ready_fresh true bytes ready = short_fresh bytes ready
ready_fresh false bytes ready = blank_fresh bytes ready

weaker_opens : (P Q : List ℕ → Type 0) (old new : DiskState) → ((c : List ℕ) → P c → Q c) → Opens P old new → Opens Q old new
weaker_opens P Q old new leads opens =
    record {
      run = opens.run;
      from_start = λ synced. weaker P Q old new (opens.from_start synced) leads;
      from_sync = λ t later added m le ge image left. leads image (opens.from_sync t later added m le ge image left);
    }

module _ (limit : ℕ) (low : 17 ≤ limit) (clear : Bool) (bytes : List ℕ) (ready : IsReady clear bytes) (old new : DiskState) where
  made_opens : {T E : Type 0} (result : Result T E) → Makes old new result → Opens (HasRowsOf limit bytes) old new
  made_opens result makes =
      weaker_opens (HasRows limit common_rows) (HasRowsOf limit bytes) old new (λ image has. rows_of_fresh limit bytes image (ready_fresh clear bytes ready) has)
      (makes.opens limit low)

  pub fresh_failed : {T E : Type 0} (e : E) → Makes {T = T} old new (Err e) → OpensAs limit bytes old new (Err DiskFault)
  fresh_failed e makes = record { opens = made_opens (Err e) makes; answers = tt }

  pub fresh_started : {T E : Type 0} (x : T) (rows : Rows) → rows ≡ common_rows → Makes {E = E} old new (Ok x)
      → OpensAs limit bytes old new (Ok (record { area = First; used = 16; rows = rows }))
  fresh_started x rows common makes =
      let fresh = ready_fresh clear bytes ready in
      let same : opened_bytes bytes ≡ empty_journal = rw fresh refl in
      record {
        opens = made_opens (Ok x) makes;
        answers = record {
          contents = no_changes;
          reads = fresh_reads limit bytes fresh;
          place = refl;
          rows = sym common;
          images = synced_has (IsImage limit 16 First Nothing []) new empty_journal makes.content makes.synced (empty_image limit low);
          content = makes.content ∙ ap (λ (l : List ℕ). Some l) (sym same);
        };
      }
