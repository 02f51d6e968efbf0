-- What a journal has kept, and what a crash leaves of it.
use Rattle.std.proofs.Common.{◌≡◌, ℕ, ◌+◌, ◌<◌, ◌≤◌, Bool, true, false, List, refl, sym, ap, ◌∙◌, subst, inl, inr, arith}
use Rattle.std.specs.Prelude.{◌⊎◌, ◌≢◌, ◌↔◌, Option, Some, None, IsSome, IsTrue, Result, Ok, Err, OnOk, OnErr}
use Rattle.fam_base.specs.Causes.{HasCause, Rose}
use Rattle.fam_base.specs.declared.error.NoMemory.{NoMemory}
use Rattle.fam_disk.specs.Crash.{DiskState, Leaves, LeavesOnly}
use Rattle.fam_disk.specs.declared.disk.Disk.{Ghosts}
use Rattle.fam_disk.proofs.Moments.{started}
use Rattle.fam_model.specs.declared.change.Change.{Change}
use Rattle.fam_model.specs.declared.rows.Rows.{Rows}
use Rattle.fam_model.specs.Directory.{after}
use Rattle.fam_model.specs.Journal.{rows_of}
use Rattle.fam_model.specs.Lawful.{is_lawful_change}
use Rattle.fam_model.specs.Limits.{service_limits}
use Rattle.meta_journal.specs.Reading.{HasRows}
use Rattle.meta_journal.specs.State.{HasRowsInDoubt, HasRowsOrAfter, IsForm, IsRefusal, IsReserved, IsSameJournal, IsSound, IsUntouched, MayDoubt, MayHold, acknowledged, change_in_doubt, has_room}
use Rattle.meta_journal.specs.declared.doubt.Doubt.{Doubt}
use Rattle.meta_journal.specs.declared.doubt.Doubt.TheVariants.{Nothing, OfChange, OfArea}
use Rattle.meta_journal.specs.declared.journal.Journal.{Journal}
use Rattle.meta_journal.proofs.Records.{body_is_counted, body_short}
use Rattle.meta_journal.proofs.Settling.{reads_in_doubt}
use Rattle.meta_journal.proofs.Smallness.{small}
use Rattle.meta_codec.specs.Body.{HasBody}
use Rattle.std.proofs.lemmas.Bool.{leb-false}
use Rattle.fam_base.specs.declared.error.FamError.{FamError}
use Rattle.fam_base.specs.declared.error.FamError.TheVariants.{Memory, JournalFull}
use Rattle.fam_model.specs.Rows.{IsLawful}
use Rattle.fam_keeper.specs.declared.kept.Kept.{Kept}
use Rattle.fam_keeper.specs.declared.kept.Kept.TheVariants.{Served, Refused}
use Rattle.fam_keeper.specs.Keeping.{DoubtsAfter, HasFailed, HasKept, HasKeptIn, HasSome, IsAppended, IsInDoubt, IsSettled, LeavesIn, MayLeave, doubt_in, may_count}

-- a disk that tells images tells what it reads
abbrev pub Tells : DiskState → Type 0
Tells disk = (t : ℕ) (image : List ℕ) → disk.images t image → IsSome disk.content

-- what each image has, where the disk tells what it reads
pub mapped : (P Q : List ℕ → Type 0) (old new : DiskState) → Tells new → LeavesOnly P old new → (IsSome old.content → (image : List ℕ) → P image → Q image) → LeavesOnly Q old new
mapped P Q old new tells run leads =
    record {
      later = run.later;
      earlier = run.earlier;
      since = λ t ge le image left. leads (sym run.tells ∙ tells t image left) image (run.since t ge le image left);
      tells = run.tells;
    }

-- rows of changes are these rows
module _ (limit : ℕ) (rows acked : Rows) (is_limit : limit ≡ service_limits.journal) (same : acked ≡ rows) where
  as_rows : (image : List ℕ) → HasRows limit acked image → HasRows service_limits.journal rows image
  as_rows image has = subst (λ n. HasRows n rows image) is_limit (subst (λ r. HasRows limit r image) same has)

  as_after : (change : Change) (image : List ℕ) → HasRows limit (after acked change) image → HasRows service_limits.journal (after rows change) image
  as_after change image has = subst (λ n. HasRows n (after rows change) image) is_limit (subst (λ r. HasRows limit (after r change) image) same has)

pub in_doubt : (limit : ℕ) (rows : Rows) (changes : List Change) (doubt : Doubt) (image : List ℕ) → limit ≡ service_limits.journal → rows_of changes ≡ rows → HasRowsInDoubt limit changes doubt image →
    HasSome (IsInDoubt rows (change_in_doubt doubt)) image
in_doubt limit rows changes Nothing image is same has = (rows, inl refl, as_rows limit rows (rows_of changes) is same image has)
in_doubt limit rows changes OfArea image is same has = (rows, inl refl, as_rows limit rows (rows_of changes) is same image has)
in_doubt limit rows changes (OfChange change) image is same (inl has) = (rows, inl refl, as_rows limit rows (rows_of changes) is same image has)
in_doubt limit rows changes (OfChange change) image is same (inr has) = (after rows change, inr (change, refl, refl), as_after limit rows (rows_of changes) is same change image has)

pub may_hold : (limit : ℕ) (rows : Rows) (changes : List Change) (doubt : Doubt) (change : Change) (image : List ℕ) → limit ≡ service_limits.journal → rows_of changes ≡ rows → MayHold limit changes doubt change image →
    HasSome (MayLeave rows (change_in_doubt doubt) true change) image
may_hold limit rows changes doubt change image is same (inl has) = let d = in_doubt limit rows changes doubt image is same has in (d.0, inl d.1, d.2)
may_hold limit rows changes doubt change image is same (inr (inl has)) = (rows, inl (inl refl), as_rows limit rows (rows_of changes) is same image has)
may_hold limit rows changes doubt change image is same (inr (inr has)) = (after rows change, inr (refl, refl), as_after limit rows (rows_of changes) is same change image has)

module _ {D : Type 0} {disk : Ghosts D} where
  -- what a crash leaves now
  pub left_now : (journal : Journal D disk) (rows : Rows) → HasKept journal rows → Tells (disk.state journal.disk) →
      Leaves (disk.state journal.disk) (disk.state journal.disk).moment (HasSome (IsInDoubt rows (change_in_doubt journal.doubt)))
  left_now journal rows has tells image left =
      in_doubt journal.limit rows (acknowledged journal) journal.doubt image has.limit (has.rows_are (tells (disk.state journal.disk).moment image left))
      (reads_in_doubt journal.limit journal.used journal.area (acknowledged journal) journal.doubt image (has.sound image left))

  pub leaves_now : (journal : Journal D disk) (rows : Rows) → HasKept journal rows → Tells (disk.state journal.disk) →
      LeavesOnly (HasSome (IsInDoubt rows (change_in_doubt journal.doubt))) (disk.state journal.disk) (disk.state journal.disk)
  leaves_now journal rows has tells = started (HasSome (IsInDoubt rows (change_in_doubt journal.doubt))) (disk.state journal.disk) (left_now journal rows has tells)

  -- a journal that only took memory
  pub reserved_kept : (old mid : Journal D disk) (rows : Rows) → IsUntouched old mid → IsSound mid → acknowledged mid ≡ acknowledged old → HasKept old rows → HasKept mid rows
  reserved_kept old mid rows same sound changes has =
      record {
        sound = sound;
        limit = same.limit ∙ has.limit;
        rows_are = λ told. ap rows_of changes ∙ has.rows_are (subst (λ d. IsSome (disk.state d).content) same.same_disk told);
      }

  -- what was reserved for a change that fits is so for these rows
  pub reserved_for : (old new : Journal D disk) (change : Change) (rows others : Rows) → HasKept old rows → IsUntouched old new → acknowledged new ≡ acknowledged old → IsTrue (has_room old.limit old.used change) →
      IsTrue (is_lawful_change rows change) → IsReserved new change others → IsReserved new change rows
  reserved_for old new change rows others has same changes room lawful r =
      record {
        reserve = r.reserve;
        is_there = r.is_there;
        of_change = r.of_change;
        of_rows = λ told. ap rows_of changes ∙ has.rows_are (subst (λ d. IsSome (disk.state d).content) same.same_disk told);
        lawful = λ told. lawful;
        has_body = r.has_body;
        form = same_form r.reserve.short r.form;
      }
    where
      fits_still : has_room new.limit new.used change ≡ true
      fits_still = ap (λ n. has_room n new.used change) same.limit ∙ ap (λ n. has_room old.limit n change) same.used ∙ room

      true_false : true ≡ false → ⊥
      true_false e = cc

      same_form : (o : Option (List ℕ)) → IsForm new.limit new.used others change o → IsForm new.limit new.used rows change o
      same_form None form = form
      same_form (Some form) given = absurd (true_false (sym fits_still ∙ given.0))

  pub not_reserved : (rows : Rows) (change : Change) (old mid : Journal D disk) (e : NoMemory) → IsUntouched old mid → IsSound mid → acknowledged mid ≡ acknowledged old → HasKept old rows → Tells (disk.state old.disk) →
      IsAppended rows change old mid (Err e)
  not_reserved rows change old mid e same sound changes has tells =
      record {
        kept = reserved_kept old mid rows same sound changes has;
        leaves = subst (λ d. LeavesOnly (HasSome (MayLeave rows (change_in_doubt old.doubt) false change)) (disk.state old.disk) (disk.state d)) (sym same.same_disk)
            (started (HasSome (MayLeave rows (change_in_doubt old.doubt) false change)) (disk.state old.disk)
            (λ image left. let d = left_now old rows has tells image left in (d.0, inl d.1, d.2)));
        doubt = ap change_in_doubt same.doubt;
        cause = ap (λ d. (disk.state d).faults) same.same_disk;
      }

  -- a change that was appended
  pub appended : (rows : Rows) (change : Change) (old mid new : Journal D disk) → IsUntouched old mid → HasKept mid rows → Tells (disk.state new.disk) → IsSound new → new.limit ≡ mid.limit → new.doubt ≡ Nothing →
      (IsSome (disk.state mid.disk).content → rows_of (acknowledged new) ≡ after (rows_of (acknowledged mid)) change) →
      LeavesOnly (MayHold mid.limit (acknowledged mid) mid.doubt change) (disk.state mid.disk) (disk.state new.disk) → (disk.state mid.disk).faults ≤ (disk.state new.disk).faults →
      IsAppended rows change old new (Ok Served)
  appended rows change old mid new same has tells sound limit settled more run later =
      record {
        kept = record {
          sound = sound;
          limit = limit ∙ has.limit;
          rows_are = λ told. let was = sym run.tells ∙ told in more was ∙ ap (λ r. after r change) (has.rows_are was);
        };
        leaves = subst (λ d. LeavesOnly (HasSome (MayLeave rows (change_in_doubt old.doubt) true change)) (disk.state d) (disk.state new.disk)) same.same_disk
            (subst (λ d. LeavesOnly (HasSome (MayLeave rows (change_in_doubt d) true change)) (disk.state mid.disk) (disk.state new.disk)) same.doubt
            (mapped (MayHold mid.limit (acknowledged mid) mid.doubt change) (HasSome (MayLeave rows (change_in_doubt mid.doubt) true change)) (disk.state mid.disk) (disk.state new.disk) tells run
            (λ told image holds. may_hold mid.limit rows (acknowledged mid) mid.doubt change image has.limit (has.rows_are told) holds)));
        doubt = ap change_in_doubt settled;
        cause = subst (λ d. (disk.state d).faults ≤ (disk.state new.disk).faults) same.same_disk later;
      }

  -- a change that the disk refused
  pub refused : (rows : Rows) (change : Change) (old mid new : Journal D disk) (room doubt : Bool) → IsUntouched old mid → HasKept mid rows → Tells (disk.state new.disk) → IsSound new → new.limit ≡ mid.limit →
      rows_of (acknowledged new) ≡ rows_of (acknowledged mid) →
      LeavesOnly (MayHold mid.limit (acknowledged mid) mid.doubt change) (disk.state mid.disk) (disk.state new.disk) →
      ((new.doubt ≡ OfChange change) ⊎ LeavesOnly (HasRowsInDoubt mid.limit (acknowledged mid) mid.doubt) (disk.state mid.disk) (disk.state new.disk)) →
      MayDoubt mid.doubt room change new.doubt → (disk.state mid.disk).faults ≤ (disk.state new.disk).faults → Rose (disk.state mid.disk).faults (disk.state new.disk).faults →
      ((doubt ≡ true) ↔ (change_in_doubt new.doubt ≡ Some change)) → IsAppended rows change old new (Ok (Refused doubt))
  refused rows change old mid new room doubt same has tells sound limit still run not_yet may later rose tested =
      record {
        kept = record {
          sound = sound;
          limit = limit ∙ has.limit;
          rows_are = λ told. still ∙ has.rows_are (sym run.tells ∙ told);
        };
        leaves = subst (λ d. LeavesOnly (HasSome (MayLeave rows (change_in_doubt old.doubt) doubt change)) (disk.state d) (disk.state new.disk)) same.same_disk
            (subst (λ d. LeavesOnly (HasSome (MayLeave rows (change_in_doubt d) doubt change)) (disk.state mid.disk) (disk.state new.disk)) same.doubt (leaves doubt tested));
        doubt = subst (λ d. DoubtsAfter (change_in_doubt d) change (change_in_doubt new.doubt) (Ok (Refused doubt))) same.doubt (doubts doubt tested may);
        cause = (
          subst (λ d. (disk.state d).faults ≤ (disk.state new.disk).faults) same.same_disk later,
          subst (λ d. Rose (disk.state d).faults (disk.state new.disk).faults) same.same_disk rose,
        );
      }
    where
      not_so : false ≡ true → ⊥
      not_so e = cc

      leaves : (b : Bool) → ((b ≡ true) ↔ (change_in_doubt new.doubt ≡ Some change)) → LeavesOnly (HasSome (MayLeave rows (change_in_doubt mid.doubt) b change)) (disk.state mid.disk) (disk.state new.disk)
      leaves true test =
          mapped (MayHold mid.limit (acknowledged mid) mid.doubt change) (HasSome (MayLeave rows (change_in_doubt mid.doubt) true change)) (disk.state mid.disk) (disk.state new.disk) tells run
          (λ told image holds. may_hold mid.limit rows (acknowledged mid) mid.doubt change image has.limit (has.rows_are told) holds)
      leaves false test =
          elim not_yet [
            | inl is ↦ absurd (not_so (test.1 (ap change_in_doubt is)))
            | inr quiet ↦ mapped (HasRowsInDoubt mid.limit (acknowledged mid) mid.doubt) (HasSome (MayLeave rows (change_in_doubt mid.doubt) false change)) (disk.state mid.disk) (disk.state new.disk) tells quiet
                (λ told image holds. let d = in_doubt mid.limit rows (acknowledged mid) mid.doubt image has.limit (has.rows_are told) holds in (d.0, inl d.1, d.2))
          ]

      doubts : (b : Bool) → ((b ≡ true) ↔ (change_in_doubt new.doubt ≡ Some change)) → MayDoubt mid.doubt room change new.doubt → DoubtsAfter (change_in_doubt mid.doubt) change (change_in_doubt new.doubt) (Ok (Refused b))
      doubts true test now = test.0 refl
      doubts false test (inl kept) = (λ is. not_so (test.1 is), inl (ap change_in_doubt kept))
      doubts false test (inr (inl none)) = (λ is. not_so (test.1 is), inr (ap change_in_doubt none))
      doubts false test (inr (inr (inl this))) = absurd (not_so (test.1 (ap change_in_doubt this)))
      doubts false test (inr (inr (inr (area, full)))) = (λ is. not_so (test.1 is), inr (ap change_in_doubt area))

  pub untouched : (journal : Journal D disk) → IsUntouched journal journal
  untouched journal = record { same_disk = refl; limit = refl; area = refl; used = refl; doubt = refl }

  -- the same, from before memory was taken
  pub appended_on : (rows : Rows) (change : Change) (old mid new : Journal D disk) (kept : Kept) → IsUntouched old mid → IsAppended rows change mid new (Ok kept) → IsAppended rows change old new (Ok kept)
  appended_on rows change old mid new kept same a =
      record {
        kept = a.kept;
        leaves = subst (λ d. LeavesOnly (HasSome (MayLeave rows (change_in_doubt old.doubt) (may_count (Ok kept)) change)) (disk.state d) (disk.state new.disk)) same.same_disk
            (subst (λ d. LeavesOnly (HasSome (MayLeave rows (change_in_doubt d) (may_count (Ok kept)) change)) (disk.state mid.disk) (disk.state new.disk)) same.doubt a.leaves);
        doubt = subst (λ d. DoubtsAfter (change_in_doubt d) change (change_in_doubt new.doubt) (Ok kept)) same.doubt a.doubt;
        cause = subst (λ d. HasFailed (disk.state d).faults (disk.state new.disk).faults (Ok kept)) same.same_disk a.cause;
      }

  -- and of a keeper
  pub leaves_in : (o : Option (Journal D disk)) (rows : Rows) → ((d : D) → Tells (disk.state d)) → HasKeptIn o rows → LeavesIn (IsInDoubt rows (doubt_in o)) o o
  leaves_in None rows tells has = tt
  leaves_in (Some journal) rows tells has = leaves_now journal rows has (tells journal.disk)

  -- a doubt that was closed, or stayed
  pub settled : (rows : Rows) (stopped : Bool) (old new : Journal D disk) (ok : Bool) → HasKept old rows → Tells (disk.state new.disk) → IsSameJournal old new → IsSound new → acknowledged new ≡ acknowledged old →
      LeavesOnly (HasRowsInDoubt old.limit (acknowledged old) old.doubt) (disk.state old.disk) (disk.state new.disk) →
      ((new.doubt ≡ Nothing) ⊎ ((new.doubt ≡ old.doubt) × Rose (disk.state old.disk).faults (disk.state new.disk).faults)) → (disk.state old.disk).faults ≤ (disk.state new.disk).faults →
      IsSettled rows (record { journal = Some old; stopped = stopped }) (record { journal = Some new; stopped = stopped })
  settled rows stopped old new ok has tells same sound changes run doubt later =
      record {
        kept = record { sound = sound; limit = same.limit ∙ has.limit; rows_are = λ told. ap rows_of changes ∙ has.rows_are (sym run.tells ∙ told) };
        stopped = refl;
        leaves = mapped (HasRowsInDoubt old.limit (acknowledged old) old.doubt) (HasSome (IsInDoubt rows (change_in_doubt old.doubt))) (disk.state old.disk) (disk.state new.disk) tells run
            (λ told image holds. in_doubt old.limit rows (acknowledged old) old.doubt image has.limit (has.rows_are told) holds);
        doubt = elim doubt [ inl none ↦ inl (ap change_in_doubt none) | inr (still, rose) ↦ inr (ap change_in_doubt still, rose) ];
        cause = later;
      }

-- a journal of the service's limit is never full
pub never_full : (limit used : ℕ) (rows : Rows) (change : Change) (error : FamError) (told need : ℕ) → limit ≡ service_limits.journal → IsLawful rows → HasBody change → error ≡ JournalFull told need →
    IsRefusal limit used rows change error → ⊥
never_full limit used rows change error told need is lawful has_body full (inl memory) = let no : Memory ≡ JournalFull told need = sym memory ∙ full in cc
never_full limit used rows change error told need is lawful has_body full (inr (e, first, second)) =
    let low = small rows lawful in
    let few = body_short change has_body in
    let counted = body_is_counted change in
    let much = leb-false _ _ second in
    omega (arith, low, few, counted, much, is)

pub settled_doubt : (result : Result (Unit {0}) FamError) (before now : Doubt) (m n : ℕ) → OnOk result (now ≡ Nothing) → OnErr result (now ≡ before) → HasCause m n result → (now ≡ Nothing) ⊎ ((now ≡ before) × Rose m n)
settled_doubt (Ok _) before now m n ok err cause = inl ok
settled_doubt (Err e) before now m n ok err cause = inr (err, cause.failed)
