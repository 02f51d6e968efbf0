-- A journal that was opened, and a run over it.
use Rattle.std.proofs.Common.{◌≡◌, ℕ, ◌+◌, ◌-◌, ◌^◌, ◌<◌, ◌≤◌, Bool, true, false, List, [], ◌∷◌, refl, sym, ap, ◌∙◌, subst, arith, inl, inr}
use Rattle.std.specs.Option.{option_map}
use Rattle.std.specs.Prelude.{◌⊎◌, Option, Some, None, IfSome, IsSome, Result, Ok, Err, is_some}
use Rattle.fam_disk.specs.Crash.{DiskState, Leaves, LeavesOnly, IsSynced}
use Rattle.fam_disk.specs.declared.disk.Disk.{Ghosts}
use Rattle.fam_disk.proofs.Moments.{weaker}
use Rattle.fam_keeper.specs.Keeping.{HasKept, HasKeptIn, HasSome, LeavesIn, LeavesRows, doubt_in, faults_in, faults_of}
use Rattle.fam_keeper.specs.declared.keeper.Keeper.{Keeper}
use Rattle.fam_model.specs.declared.change.Change.{Change}
use Rattle.fam_model.specs.declared.event.Event.{Event}
use Rattle.fam_model.specs.declared.rows.Rows.{Rows}
use Rattle.fam_model.specs.declared.script.Script.{Script}
use Rattle.fam_model.specs.declared.state.State.{State}
use Rattle.fam_model.specs.Directory.{after}
use Rattle.fam_model.specs.Earned.{disk_faults}
use Rattle.fam_model.specs.Grammar.{IsLawfulScript}
use Rattle.fam_model.specs.Headline.{opening}
use Rattle.fam_model.specs.Journal.{rows_of}
use Rattle.fam_model.specs.Limits.{service_limits}
use Rattle.fam_model.specs.Rows.{IsLawful}
use Rattle.fam_schedule.specs.Schedule.{IsScheduled}
use Rattle.fam_schedule.proofs.RunEnds.{run_ends}
use Rattle.fam_schedule.proofs.Whole.{scheduled_is_run}
use Rattle.fam_steps.specs.Crash.{IsFresh, IsKeptHistory, IsLeft, IsLeftAtEnd, IsUnserved}
use Rattle.fam_steps.specs.Crash as steps
use Rattle.fam_steps.specs.Steps.{Course}
use Rattle.meta_journal.specs.Opened.{HasRowsOf, Opens}
use Rattle.meta_journal.specs.OpenedJournal.{IsOpened}
use Rattle.meta_journal.specs.Reading.{Contents, HasRows, journal}
use Rattle.meta_journal.specs.State.{IsSound, acknowledged, change_in_doubt}
use Rattle.meta_journal.specs.declared.doubt.Doubt.TheVariants.{Nothing}
use Rattle.meta_journal.specs.declared.journal.Journal.{Journal}
use Rattle.famrun.specs.OverDisk.{IsBehind, IsOneMore, IsOpenedFrom, IsPlayed, Looks, MayBeLeft, MayRemain, ReadsRows, RunsOver}

-- opening

weaker_opens : (P Q : List ℕ → Type 0) (old new : DiskState) → Opens P old new → ((image : List ℕ) → P image → Q image) → Opens Q old new
weaker_opens P Q old new opens leads =
    record {
      run = opens.run;
      from_start = λ synced. weaker P Q old new (opens.from_start synced) leads;
      from_sync = λ t later is m ge le image left. leads image (opens.from_sync t later is m ge le image left);
    }

some_of : {A : Type 0} (o : Option A) → IsSome o → (x : A) × (o ≡ Some x)
some_of None is = cc
some_of (Some x) is = (x, refl)

pub if_some_is : {A : Type 0} (o : Option A) (P : A → Type 0) (x : A) → o ≡ Some x → IfSome o P → P x
if_some_is o P x is h = let here : IfSome (Some x) P = subst (λ p. IfSome p P) is h in here

module _ {D : Type 0} {disk : Ghosts D} (old : D) (opened : Journal D disk) (rows : Rows) (is_opened : IfSome (disk.state old).content (λ bytes. IsOpened service_limits.journal bytes opened rows)) where
  reads_rows : ReadsRows (disk.state old) rows
  reads_rows bytes is = let o = if_some_is (disk.state old).content (λ b. IsOpened service_limits.journal b opened rows) bytes is is_opened in (o.contents, o.reads, o.rows_are)

  pub opened_from : IsLawful rows → IfSome (disk.state old).content (λ bytes. Opens (HasRowsOf service_limits.journal bytes) (disk.state old) (disk.state opened.disk)) →
      (disk.state old).faults ≤ (disk.state opened.disk).faults → IsOpenedFrom disk.state rows old opened.disk
  opened_from lawful opens later =
      record {
        lawful = lawful;
        reads = reads_rows;
        opens = λ told.
            let bytes = some_of (disk.state old).content told in
            let o = if_some_is (disk.state old).content (λ b. IsOpened service_limits.journal b opened rows) bytes.0 bytes.1 is_opened in
            weaker_opens (HasRowsOf service_limits.journal bytes.0) (HasRows service_limits.journal rows) (disk.state old) (disk.state opened.disk)
            (if_some_is (disk.state old).content (λ b. Opens (HasRowsOf service_limits.journal b) (disk.state old) (disk.state opened.disk)) bytes.0 bytes.1 opens)
            (λ image has. subst (λ r. HasRows service_limits.journal r image) o.rows_are (has o.contents o.reads));
        later = later;
      }

  -- it may keep changes
  pub fresh : IsSound opened → opened.limit ≡ service_limits.journal → opened.doubt ≡ Nothing → is_some (disk.state opened.disk).content ≡ is_some (disk.state old).content →
      IsFresh (record { journal = Some opened; stopped = false }) rows
  fresh sound limit settled tells =
      record {
        kept = record {
          sound = sound;
          limit = limit;
          rows_are = λ told.
              let bytes = some_of (disk.state old).content (sym tells ∙ told) in
              let o = if_some_is (disk.state old).content (λ b. IsOpened service_limits.journal b opened rows) bytes.0 bytes.1 is_opened in
              ap rows_of o.changes ∙ o.rows_are;
        };
        goes_on = refl;
        settled = rw settled refl;
      }

-- a keeper of a journal that was opened

pub keeper_is : {D : Type 0} {disk : Ghosts D} (keeper : Keeper D disk) (opened : Journal D disk) → keeper.journal ≡ Some opened → keeper.stopped ≡ false → keeper ≡ record { journal = Some opened; stopped = false }
keeper_is keeper opened there level = λ i. record { journal = there i; stopped = level i }

pub fresh_keeper : {D : Type 0} {disk : Ghosts D} (keeper : Keeper D disk) (opened : Journal D disk) (rows : Rows) → keeper.journal ≡ Some opened → keeper.stopped ≡ false → HasKept opened rows → opened.doubt ≡ Nothing → IsFresh keeper rows
fresh_keeper keeper opened rows there level kept settled =
    record {
      kept = subst (λ j. HasKeptIn j rows) (sym there) kept;
      goes_on = level;
      settled = ap doubt_in there ∙ ap change_in_doubt settled;
    }

-- it has a disk still behind a run
pub has_disk : {D : Type 0} {disk : Ghosts D} (start : State) (first : Keeper D disk) (history : List Event) (now : Keeper D disk) (opened : Journal D disk) (given : Option D) →
    IsKeptHistory start first history now → first.journal ≡ Some opened → given ≡ option_map (λ journal. journal.disk) now.journal → given ≡ None → ⊥
has_disk {D} {disk} start first history now opened given kept began closes none = by_journal now.journal refl
  where
    some_none : (x : D) → Some x ≡ None → ⊥
    some_none x e = cc

    by_journal : (o : Option (Journal D disk)) → now.journal ≡ o → ⊥
    by_journal None gone =
        subst (LeavesIn (steps.MayBeLeft start (record { history = history; state = kept.state }) now.stopped) (Some opened)) gone
        (subst (λ j. LeavesIn (steps.MayBeLeft start (record { history = history; state = kept.state }) now.stopped) j now.journal) began kept.run.leaves)
    by_journal (Some other) there = some_none other.disk (sym (closes ∙ ap (option_map (λ journal. journal.disk)) there) ∙ none)

-- runs

-- a history that the schedule gives is a run, and has ended where it is whole
pub played : (seed : ℕ) (rows : Rows) (script : Script) (history : List Event) (whole : Bool) (before now : ℕ) → IsLawfulScript script → IsScheduled rows script seed history whole →
    (now < 2 ^ 64 - 1 → disk_faults (history ∷ []) + before ≤ now) → IsPlayed seed rows script history whole before now
played seed rows script history whole before now lawful s faults =
    record {
      run = scheduled_is_run rows script seed history whole before now s faults;
      scheduled = s;
      ended = λ e. run_ends rows script seed history lawful (subst (IsScheduled rows script seed history) e s);
    }

-- the disk behind a run
pub ran_over : {D : Type 0} {disk : Ghosts D} (seed : ℕ) (script : Script) (rows : Rows) (history : List Event) (whole : Bool) (old : D) (opened : Journal D disk) (now : Keeper D disk) (given : Option D) (new : D) →
    IsLawfulScript script → IsOpenedFrom disk.state rows old opened.disk → IsScheduled rows script seed history whole → IsKeptHistory (opening rows script) (record { journal = Some opened; stopped = false }) history now →
    (whole ≡ true → now.stopped ≡ false) → given ≡ Some new → given ≡ option_map (λ journal. journal.disk) now.journal → RunsOver disk.state seed script rows history whole old new
ran_over {D} {disk} seed script rows history whole old opened now given new lawful opens scheduled kept goes is closes = by_journal now.journal refl
  where
    true_false : true ≡ false → ⊥
    true_false e = cc

    none_some : (x : D) → None ≡ Some x → ⊥
    none_some x e = cc

    same_some : (x y : D) → Some x ≡ Some y → x ≡ y
    same_some x y e = cc

    not_whole : (b : Bool) → now.stopped ≡ true → (b ≡ true → now.stopped ≡ false) → b ≡ false
    not_whole false stopped goes = refl
    not_whole true stopped goes = absurd (true_false (sym stopped ∙ goes refl))

    more : (left : Rows) → IsUnserved now.stopped kept.state.rows left → (whole ≡ false) × IsOneMore (opening rows script) history left
    more left u = (not_whole whole u.0 goes, (kept.state, kept.run.ran, u.1, u.2))

    behind : whole ≡ true → (left : Rows) → (left ≡ kept.state.rows) ⊎ IsUnserved now.stopped kept.state.rows left → IsBehind (opening rows script) history left
    behind all left (inl same) = (kept.state, kept.run.ran, same)
    behind all left (inr u) = absurd (true_false (sym u.0 ∙ goes all))

    by_journal : (o : Option (Journal D disk)) → now.journal ≡ o → RunsOver disk.state seed script rows history whole old new
    by_journal None none = absurd (none_some new (sym (ap (option_map (λ journal. journal.disk)) none) ∙ sym closes ∙ is))
    by_journal (Some last_journal) there =
        let disk_is : last_journal.disk ≡ new = same_some last_journal.disk new (sym (ap (option_map (λ j. j.disk)) there) ∙ sym closes ∙ is) in
        let faults : faults_of now ≡ (disk.state new).faults = ap faults_in there ∙ ap (λ d. (disk.state d).faults) disk_is in
        let course : Course = record { history = history; state = kept.state } in
        let run : LeavesOnly (HasSome (steps.MayBeLeft (opening rows script) course now.stopped)) (disk.state opened.disk) (disk.state last_journal.disk) =
        subst (LeavesIn (steps.MayBeLeft (opening rows script) course now.stopped) (Some opened)) there kept.run.leaves in
        let last : LeavesOnly (HasSome (λ left. IsLeftAtEnd (opening rows script) history left ⊎ IsUnserved now.stopped kept.state.rows left)) (disk.state last_journal.disk) (disk.state last_journal.disk) =
        subst (λ j. LeavesIn (λ left. IsLeftAtEnd (opening rows script) history left ⊎ IsUnserved now.stopped kept.state.rows left) j j) there kept.last in
        subst (RunsOver disk.state seed script rows history whole old) disk_is
        (record {
          opened = opened.disk;
          opens = opens;
          played = played seed rows script history whole (disk.state old).faults (disk.state last_journal.disk).faults lawful scheduled
              (λ low. let later = opens.later in let same = ap (λ d. (disk.state d).faults) disk_is in let n = kept.run.faults (omega (arith, faults, same, low)) in omega (arith, later, n, faults, same));
          leaves = weaker (HasSome (steps.MayBeLeft (opening rows script) course now.stopped)) (HasSome (MayBeLeft (opening rows script) history whole)) (disk.state opened.disk) (disk.state last_journal.disk) run
              (λ image has. (has.0, elim has.1 [ inl l ↦ inl l | inr u ↦ inr (more has.0 u) ], has.2));
          remains = λ image left.
              let has = last.since (disk.state last_journal.disk).moment (omega arith) (omega arith) image left in
              (has.0, elim has.1 [ inl l ↦ inl l | inr u ↦ inr (more has.0 u) ], has.2);
          settled = λ all low few.
              let later = opens.later in
              let same = ap (λ d. (disk.state d).faults) disk_is in
              let level : LeavesOnly (HasSome (λ left. (left ≡ kept.state.rows) ⊎ IsUnserved now.stopped kept.state.rows left)) (disk.state last_journal.disk) (disk.state last_journal.disk) =
              subst (λ j. LeavesIn (λ left. (left ≡ kept.state.rows) ⊎ IsUnserved now.stopped kept.state.rows left) j j) there
              (kept.settled (omega (arith, faults, same, low)) (omega (arith, faults, same, later, few))) in
              λ image left.
              let has = level.since (disk.state last_journal.disk).moment (omega arith) (omega arith) image left in
              (has.0, behind all has.0 has.1, has.2);
        })

-- a run is also one so far
pub so_far : {D : Type 0} (state : D → DiskState) (seed : ℕ) (script : Script) (rows : Rows) (history : List Event) (whole : Bool) (old new : D) → RunsOver state seed script rows history whole old new →
    RunsOver state seed script rows history false old new
so_far state seed script rows history whole old new r =
    record {
      opened = r.opened;
      opens = r.opens;
      played = record {
        run = r.played.run;
        scheduled = record { end = r.played.scheduled.end; leads = r.played.scheduled.leads; stops = λ e. absurd (false_true e) };
        ended = λ e. absurd (false_true e);
      };
      leaves = weaker (HasSome (MayBeLeft (opening rows script) history whole)) (HasSome (MayBeLeft (opening rows script) history false)) (state r.opened) (state new) r.leaves
          (λ image has. (has.0, elim has.1 [ inl l ↦ inl l | inr m ↦ inr (refl, m.1) ], has.2));
      remains = λ image left. let has = r.remains image left in (has.0, elim has.1 [ inl l ↦ inl l | inr m ↦ inr (refl, m.1) ], has.2);
      settled = λ e. absurd (false_true e);
    }
  where
    false_true : false ≡ true → ⊥
    false_true e = cc
