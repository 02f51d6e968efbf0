-- Opening a journal once a sync was served.
use Rattle.std.proofs.Common.{◌≡◌, ℕ, ◌<◌, ◌≤◌, Bool, true, false, List, [], ◌∷◌, ◌++◌, length, refl, sym, ◌∙◌, ap, subst, arith}
use Rattle.std.specs.Prelude.{Option, Some, None, Result, Ok, Err, option_map, if◌then◌else◌}
use Rattle.std.proofs.lemmas.Bool.Decides.{nat_tests}
use Rattle.std.proofs.lemmas.List.{append-nil}
use Rattle.fam_disk.specs.Crash.{DiskState, IsKept, IsSynced, IsTorn, Leaves, LeavesOnly, Passes, written}
use Rattle.fam_disk.proofs.Moments.{goes_on, now_after, started}
use Rattle.fam_model.specs.Rows.{common_rows}
use Rattle.meta_journal.specs.Found.{header_in}
use Rattle.meta_journal.specs.Image.{IsImage}
use Rattle.meta_journal.specs.Layout.{area_bytes, area_in_use, area_start, has_header, is_first_version, is_fresh}
use Rattle.meta_journal.specs.Opened.{AreBytes, HasRowsOf, IsRefused, IsSeen, IsStarted, Looks, opened_bytes, OpensAs, ReadsArea, StartsSynced}
use Rattle.meta_journal.specs.Reading.{area_contents, is_missing, journal}
use Rattle.meta_journal.specs.declared.area.Area.{Area}
use Rattle.meta_journal.specs.declared.doubt.Doubt.TheVariants.{Nothing}
use Rattle.meta_journal.specs.declared.header.Header.{Header}
use Rattle.meta_journal.specs.declared.starting.OpenFault.{OpenFault}
use Rattle.meta_journal.specs.declared.starting.OpenFault.TheVariants.{Memory, DiskFault, Damaged}
use Rattle.meta_journal.specs.declared.starting.Started.{Started}
use Rattle.meta_journal.proofs.Opening.{after_sync, Anything, before_sync, behind_look, looks_only, same_kept, synced_has}
use Rattle.meta_journal.proofs.Making.{one_step}
use Rattle.meta_journal.proofs.TakenUp.{either_reads, either_rows, image_of, is_read, IsEither, reads_as, Seen, Sums, sums, version_torn, version_written}

-- What a header says

abbrev header_of_bytes : List ℕ → Header
header_of_bytes bytes = record { is_first_version = is_first_version bytes; area = area_in_use bytes }

abbrev header_if : Bool → Header → Option Header
header_if test made = if test then Some made else None

some_is : (a b : Header) → Some a ≡ Some b → a ≡ b
some_is a b is = cc

none_is_not : (a : Header) → None ≡ Some a → ⊥
none_is_not a is = cc

header_some : (test : Bool) (made header : Header) (o : Option Header) → o ≡ header_if test made → o ≡ Some header → (test ≡ true) × (made ≡ header)
header_some true made header o is some = (refl, some_is made header (sym is ∙ some))
header_some false made header o is some = absurd (none_is_not header (sym is ∙ some))

header_none : (test : Bool) (made : Header) (o : Option Header) → o ≡ header_if test made → o ≡ None → test ≡ false
header_none true made o is none = absurd (none_is_not made (sym none ∙ is))
header_none false made o is none = refl

pub seen_of : (limit : ℕ) (header : Header) (len : ℕ) (bytes : List ℕ) → IsSeen limit header len bytes → area_start limit header.area < len → Seen limit header.area header.is_first_version bytes
seen_of limit header len bytes seen inside =
    let made : Header = header_of_bytes bytes in
    let parts = header_some (has_header bytes) made header (header_in bytes) refl seen.header_is in
    record {
      old = seen.old;
      header = parts.0;
      area_is = ap (λ (h : Header). h.area) parts.1;
      version = ap (λ (h : Header). h.is_first_version) parts.1;
      there = grind (arith, nat_tests, inside, seen.len_is);
    }

-- the journal is damaged at its header
pub no_header : (limit : ℕ) (bytes : List ℕ) → is_fresh bytes ≡ false → header_in bytes ≡ None → journal limit bytes ≡ Err 0
no_header limit bytes old none =
    let test : has_header bytes ≡ false = header_none (has_header bytes) (header_of_bytes bytes) (header_in bytes) refl none in
    rw (old, test) refl

-- its area does not begin on the disk
pub no_area : (limit : ℕ) (header : Header) (len : ℕ) (bytes : List ℕ) → IsSeen limit header len bytes → len ≤ area_start limit header.area → journal limit bytes ≡ Err 8
no_area limit header len bytes seen short =
    let parts = header_some (has_header bytes) (header_of_bytes bytes) header (header_in bytes) refl seen.header_is in
    let area_is : area_in_use bytes ≡ header.area = ap (λ (h : Header). h.area) parts.1 in
    let missing : is_missing limit header.area bytes ≡ true = grind (arith, nat_tests, short, seen.len_is) in
    rw (seen.old, parts.0, area_is, missing) refl

-- the bytes themselves have the rows
pub own_rows : (limit : ℕ) (bytes : List ℕ) → HasRowsOf limit bytes bytes
own_rows limit bytes contents reads = (contents, reads, refl)

module _ (limit : ℕ) (header : Header) (bytes : List ℕ) (low : 17 ≤ limit) (seen : Seen limit header.area header.is_first_version bytes) (there : area_start limit header.area < length bytes)
    (old mid : DiskState) (reads : old.content ≡ Some bytes) (synced : IsSynced old) (looks : Looks old mid) where
  abbrev P : List ℕ → Type 0
  P = HasRowsOf limit bytes

  read_only : LeavesOnly P old mid
  read_only = looks_only P old mid looks (synced_has P old bytes reads synced (own_rows limit bytes))

  mid_has : (Q : List ℕ → Type 0) → Q bytes → Leaves mid mid.moment Q
  mid_has Q has image left =
      now_after IsKept old mid Q Q looks.crash (λ d. refl) (synced_has Q old bytes reads synced has) (same_kept Q) image left

  why : (fault : OpenFault) → ReadsArea limit header bytes (Err fault) → IsRefused limit bytes fault
  why Memory read = tt
  why DiskFault read = tt
  why (Damaged place) read = reads_as limit header.area header.is_first_version bytes seen ∙ read

  pub area_refused : (fault : OpenFault) → ReadsArea limit header bytes (Err fault) → StartsSynced limit bytes old mid (Err fault)
  area_refused fault read = record { only = read_only; later = []; syncs = looks.syncs ∙ sym (append-nil old.syncs); answers = why fault read }

  either : (started : Started) (s : Sums common_rows (area_contents header.is_first_version (area_bytes limit header.area bytes)) (record { rows = started.rows; place = started.used }))
      → AreBytes (area_bytes limit header.area bytes) → IsEither limit started.used header.area header.is_first_version s.contents bytes
  either started s fits =
      record {
        seen = seen;
        reads = s.is;
        read = is_read limit header.area header.is_first_version bytes s.contents low there fits s.is;
        place = s.place;
      }

  module _ (started : Started) (read : ReadsArea limit header bytes (Ok started)) where
    s : Sums common_rows (area_contents header.is_first_version (area_bytes limit header.area bytes)) (record { rows = started.rows; place = started.used })
    s = sums common_rows (area_contents header.is_first_version (area_bytes limit header.area bytes)) (record { rows = started.rows; place = started.used }) read.2

    is_either : IsEither limit started.used header.area header.is_first_version s.contents bytes
    is_either = either started s read.1

    abbrev Image : List ℕ → Type 0
    Image = IsImage limit s.contents.place header.area Nothing s.contents.changes

    as_started : (new : DiskState) → Leaves new new.moment Image → new.content ≡ Some (opened_bytes bytes) → IsStarted limit bytes new started
    as_started new images content =
        record {
          contents = s.contents;
          reads = either_reads limit started.used header.area header.is_first_version s.contents bytes is_either;
          place = s.place;
          rows = s.rows_are;
          images = subst (λ (a : Area). Leaves new new.moment (IsImage limit started.used a Nothing s.contents.changes)) (sym read.0)
              (subst (λ (used : ℕ). Leaves new new.moment (IsImage limit used header.area Nothing s.contents.changes)) s.place images);
          content = content;
        }

    pub second_started : header.is_first_version ≡ false → StartsSynced limit bytes old mid (Ok started)
    second_started second =
        let seen' : Seen limit header.area false bytes = subst (λ (b : Bool). Seen limit header.area b bytes) second seen in
        let same : opened_bytes bytes ≡ bytes = rw (seen.old, seen'.version) refl in
        record {
          only = read_only;
          later = [];
          syncs = looks.syncs ∙ sym (append-nil old.syncs);
          answers = as_started mid (mid_has Image (image_of limit header.area s.contents bytes seen' is_either.read))
              (looks.content ∙ reads ∙ ap (λ (l : List ℕ). Some l) (sym same));
        }

    module _ (first : header.is_first_version ≡ true) (new : DiskState) (crash : Passes (IsTorn 4 1) mid new) where
      first_either : IsEither limit started.used header.area true s.contents bytes
      first_either = subst (λ (b : Bool). IsEither limit started.used header.area b s.contents bytes) first is_either

      torn_rows : (d : List ℕ) → IsTorn 4 1 bytes d → P d
      torn_rows d torn =
          either_rows limit s.contents bytes d (either_reads limit started.used header.area header.is_first_version s.contents bytes is_either)
          (version_torn limit started.used header.area s.contents bytes d low first_either torn)

      version_only : LeavesOnly P old new
      version_only =
          goes_on (IsTorn 4 1) P (λ c. bytes ≡ c) old mid new read_only crash (mid_has (λ c. bytes ≡ c) refl)
          (λ d c same torn. torn_rows c (subst (λ (l : List ℕ). IsTorn 4 1 l c) (sym same) torn))

      pub version_failed : new.syncs ≡ mid.syncs → StartsSynced limit bytes old new (Err DiskFault)
      version_failed same =
          record { only = version_only; later = []; syncs = same ∙ looks.syncs ∙ sym (append-nil old.syncs); answers = tt }

      pub first_started : new.syncs ≡ mid.syncs ++ new.moment ∷ [] → IsSynced new → new.content ≡ option_map (written 4 (2 ∷ [])) mid.content → StartsSynced limit bytes old new (Ok started)
      first_started more now content =
          let told : mid.content ≡ Some bytes = looks.content ∙ reads in
          let same : opened_bytes bytes ≡ written 4 (2 ∷ []) bytes = rw (seen.old, first_either.seen.version) refl in
          let is : new.content ≡ Some (written 4 (2 ∷ []) bytes) = content ∙ ap (option_map (written 4 (2 ∷ []))) told in
          record {
            only = version_only;
            later = new.moment ∷ [];
            syncs = more ∙ ap (λ (l : List ℕ). l ++ new.moment ∷ []) looks.syncs;
            answers = as_started new
                (synced_has Image new (written 4 (2 ∷ []) bytes) is now (version_written limit started.used header.area s.contents bytes low first_either))
                (is ∙ ap (λ (l : List ℕ). Some l) (sym same));
          }

-- Before and after the sync

abbrev Q : ℕ → List ℕ → List ℕ → Type 0
Q limit bytes = HasRowsOf limit bytes

own_only : (limit : ℕ) (bytes : List ℕ) (old new : DiskState) → old.content ≡ Some bytes → Passes IsKept old new → IsSynced old → LeavesOnly (Q limit bytes) old new
own_only limit bytes old new reads crash synced =
    let here = synced_has (Q limit bytes) old bytes reads synced (own_rows limit bytes) in
    goes_on IsKept (Q limit bytes) (Q limit bytes) old old new (started (Q limit bytes) old here) crash here (same_kept (Q limit bytes))

-- nothing was served but looks
pub refused_before : (limit : ℕ) (bytes : List ℕ) (old new : DiskState) (fault : OpenFault) → old.content ≡ Some bytes → Passes IsKept old new → new.syncs ≡ old.syncs
    → IsRefused limit bytes fault → OpensAs limit bytes old new (Err fault)
refused_before limit bytes old new fault reads crash same refused =
    record {
      opens = before_sync (Q limit bytes) old new (one_step IsKept old new crash) same (own_only limit bytes old new reads crash);
      answers = refused;
    }

-- nothing at all
pub refused_at_once : (limit : ℕ) (bytes : List ℕ) (old : DiskState) (fault : OpenFault) → old.content ≡ Some bytes → IsRefused limit bytes fault → OpensAs limit bytes old old (Err fault)
refused_at_once limit bytes old fault reads refused =
    record {
      opens =
          before_sync (Q limit bytes) old old (started Anything old (λ image left. tt)) refl
          (λ synced. started (Q limit bytes) old (synced_has (Q limit bytes) old bytes reads synced (own_rows limit bytes)));
      answers = refused;
    }

pub synced_opens : (limit : ℕ) (bytes : List ℕ) (old mid new : DiskState) (result : Result Started OpenFault) → old.content ≡ Some bytes → Passes IsKept old mid
    → mid.syncs ≡ old.syncs ++ mid.moment ∷ [] → StartsSynced limit bytes mid new result → OpensAs limit bytes old new result
synced_opens limit bytes old mid new result reads crash first starts =
    record {
      opens = after_sync (Q limit bytes) old mid new starts.later (one_step IsKept old mid crash) first starts.syncs starts.only (own_only limit bytes old mid reads crash);
      answers = starts.answers;
    }

-- a look first
pub opens_behind : (limit : ℕ) (bytes : List ℕ) (old mid new : DiskState) (result : Result Started OpenFault) → old.content ≡ Some bytes → Looks old mid
    → OpensAs limit bytes mid new result → OpensAs limit bytes old new result
opens_behind limit bytes old mid new result reads looks opens =
    record {
      opens = behind_look (Q limit bytes) old mid new looks opens.opens (λ synced. synced_has (Q limit bytes) old bytes reads synced (own_rows limit bytes));
      answers = opens.answers;
    }
