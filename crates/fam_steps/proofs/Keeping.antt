-- What a keeper has, and what a crash has left, behind one event more.
use Rattle.std.proofs.Common.{◌≡◌, ℕ, ◌+◌, ◌-◌, ◌^◌, ◌<◌, ◌≤◌, Bool, true, false, List, [], ◌∷◌, ◌++◌, refl, sym, ap, ◌∙◌, arith, subst, inl, inr, append_assoc, append-nil}
use Rattle.std.specs.Prelude.{◌⊎◌, ◌≢◌, min, fold, Option, Some, None, Result, Ok, Err, is_some, if◌then◌else◌}
use Rattle.std.proofs.lemmas.List.Sums.{fold-append}
use Rattle.fam_base.specs.Causes.{Rose}
use Rattle.fam_base.specs.declared.error.FamError.TheVariants as error
use Rattle.fam_base.specs.declared.error.NoMemory.{NoMemory}
use Rattle.fam_disk.specs.Crash.{DiskState, LeavesOnly}
use Rattle.fam_disk.specs.declared.disk.Disk.{Ghosts}
use Rattle.fam_disk.proofs.Moments.{run_on, weaker}
use Rattle.fam_keeper.specs.Keeping.{DoubtsAfter, HasFailed, HasKeptIn, HasSome, IsInDoubt, IsSettled, IsTaken, Keeps, HasKeptOrMore, LeavesIn, LeavesRows, MayLeave, doubt_in, doubt_of, faults_in, faults_of, may_count, rows_behind}
use Rattle.fam_keeper.specs.declared.keeper.Keeper.{Keeper}
use Rattle.fam_keeper.specs.declared.kept.Kept.{Kept}
use Rattle.fam_keeper.specs.declared.kept.Kept.TheVariants.{Served, Refused}
use Rattle.fam_model.specs.declared.call.Call.TheVariants as call
use Rattle.fam_model.specs.declared.call.MetaCall.{MetaCall}
use Rattle.fam_model.specs.declared.change.Change.{Change}
use Rattle.fam_model.specs.declared.event.Event.{Event}
use Rattle.fam_model.specs.declared.event.What.{What}
use Rattle.fam_model.specs.declared.event.What.TheVariants as what
use Rattle.fam_model.specs.declared.reply.Reply.{Reply}
use Rattle.fam_model.specs.declared.rows.Rows.{Rows}
use Rattle.fam_model.specs.declared.state.State.{State}
use Rattle.fam_model.specs.Directory.{after}
use Rattle.fam_model.specs.Earned.{disk_faults, is_disk_fault}
use Rattle.fam_model.specs.History.{change_in, change_served, state_after}
use Rattle.fam_model.specs.Limits.{service_limits}
use Rattle.fam_model.specs.Step.{step}
use Rattle.fam_model.specs.Turn.{call_made}
use Rattle.fam_schedule.specs.Schedule.{Comes, IsDiskRefusal}
use Rattle.fam_schedule.proofs.Refusable.{refusal_may_come}
use Rattle.meta_journal.specs.Reading.{HasRows}
use Rattle.meta_journal.specs.declared.journal.Journal.{Journal}
use Rattle.fam_steps.specs.Steps.{Course, IsDue, Makes, MakesDue, Ran, come, least_change, refused_what}
use Rattle.fam_steps.specs.Crash.{IsDoubted, IsFinished, IsFresh, IsKeptDue, IsKeptHistory, IsKeptRun, IsLeftAtEnd, IsMade, IsLeft, IsLeftBefore, IsUnserved, KeepsOn, MayBeLeft, doubted, doubted_by}
use Rattle.fam_steps.proofs.Course.{goes_on}
use Rattle.fam_steps.proofs.Serving.{rows_by, step_rows}

-- what a crash leaves on one disk

pub runs_on : {D : Type 0} {disk : Ghosts D} (P : Rows → Type 0) (a b c : Option (Journal D disk)) → LeavesIn P a b → LeavesIn P b c → LeavesIn P a c
runs_on P None None None first second = tt
runs_on P None None (Some c) first second = second
runs_on P None (Some b) c first second = absurd first
runs_on P (Some a) None c first second = absurd first
runs_on P (Some a) (Some b) None first second = second
runs_on {D} {disk} P (Some a) (Some b) (Some c) first second = run_on (HasSome P) (disk.state a.disk) (disk.state b.disk) (disk.state c.disk) first second

pub weaker_rows : {D : Type 0} {disk : Ghosts D} (P Q : Rows → Type 0) (a b : Option (Journal D disk)) → ((rows : Rows) → P rows → Q rows) → LeavesIn P a b → LeavesIn Q a b
weaker_rows P Q None None leads run = tt
weaker_rows P Q None (Some b) leads run = run
weaker_rows P Q (Some a) None leads run = run
weaker_rows {D} {disk} P Q (Some a) (Some b) leads run =
    weaker (HasSome P) (HasSome Q) (disk.state a.disk) (disk.state b.disk) run (λ image has. (has.0, leads has.0 has.1, has.2))

-- a longer history

left_longer : (state : State) (rest : List Event) (event : Event) (left : Rows) → IsLeftBefore state rest left → IsLeftBefore state (rest ++ event ∷ []) left
left_longer state [] event left is = inl is
left_longer state (e ∷ rest) event left is = is

longer : (start : State) (history : List Event) (event : Event) (left : Rows) → IsLeft start history left → IsLeft start (history ++ event ∷ []) left
longer start history event left l =
    record {
      front = l.front;
      rest = l.rest ++ event ∷ [];
      parts = ap (λ xs. xs ++ event ∷ []) l.parts ∙ append_assoc l.front l.rest (event ∷ []);
      state = l.state;
      reached = l.reached;
      left_is = left_longer l.state l.rest event left l.left_is;
    }

doubted_longer : (start : State) (history : List Event) (event : Event) (rows now : Rows) (change : Change) → now ≡ rows → IsDoubted start history rows change → IsDoubted start (history ++ event ∷ []) now change
doubted_longer start history event rows now change same d =
    record {
      front = d.front;
      event = d.event;
      rest = d.rest ++ event ∷ [];
      parts = ap (λ xs. xs ++ event ∷ []) d.parts ∙ append_assoc d.front (d.event ∷ d.rest) (event ∷ []);
      state = d.state;
      reached = d.reached;
      doubts = d.doubts;
      same = d.same ∙ sym same;
    }

-- the rows with a change in doubt
left_in_doubt : (start : State) (history : List Event) (rows left : Rows) (change : Change) → IsDoubted start history rows change → left ≡ after rows change → IsLeft start history left
left_in_doubt start history rows left change d is =
    record {
      front = d.front;
      rest = d.event ∷ d.rest;
      parts = d.parts;
      state = d.state;
      reached = d.reached;
      left_is = inr (change, d.doubts, is ∙ ap (λ r. after r change) (sym d.same));
    }

-- the rows at the end
left_at_end : (start : State) (course : Course) (left : Rows) → Ran start course → left ≡ course.state.rows → IsLeft start course.history left
left_at_end start course left ran is =
    record { front = course.history; rest = []; parts = sym (append-nil course.history); state = course.state; reached = ran; left_is = is }

-- those before the last event, with the change that it left in doubt
left_by_last : (start : State) (old : Course) (event : Event) (left : Rows) (change : Change) → Ran start old → doubted old.state event ≡ Some change → left ≡ after old.state.rows change →
    IsLeft start (old.history ++ event ∷ []) left
left_by_last start old event left change ran doubts is =
    record { front = old.history; rest = event ∷ []; parts = refl; state = old.state; reached = ran; left_is = inr (change, doubts, is) }

-- what may be left of a service

module _ {D : Type 0} {disk : Ghosts D} (start : State) (first : Keeper D disk) (old : Course) (before : Keeper D disk) (run : IsKeptRun start first old before) where
  -- rows that are left before a change is kept
  pub left_before : before.stopped ≡ false → (left : Rows) → IsInDoubt old.state.rows (doubt_of before) left → IsLeft start old.history left
  left_before level left (inl is) = left_at_end start old left run.ran is
  left_before level left (inr (change, doubts, is)) = left_in_doubt start old.history old.state.rows left change (run.doubt level change doubts) is

-- faults

abbrev pub counts : ℕ → Event → ℕ
counts n event = n + (if is_disk_fault event.what then 1 else 0)

pub faults_longer : (history : List Event) (event : Event) (b : Bool) → is_disk_fault event.what ≡ b → disk_faults ((history ++ event ∷ []) ∷ []) ≡ disk_faults (history ∷ []) + (if b then 1 else 0)
faults_longer history event b e =
    let all : fold counts 0 (history ++ event ∷ []) ≡ fold counts (fold counts 0 history) (event ∷ []) = fold-append counts 0 history (event ∷ []) in
    let last : fold counts (fold counts 0 history) (event ∷ []) ≡ fold counts 0 history + (if b then 1 else 0) = ap (λ x. fold counts 0 history + (if x then 1 else 0)) e in
    omega (arith, all, last)

-- nothing was done

pub stays_kept : {D : Type 0} {disk : Ghosts D} (old new : Course) (keeper : Keeper D disk) → new ≡ old → KeepsOn old keeper new keeper
stays_kept old new keeper same start first run = subst (λ c. IsKeptRun start first c keeper) (sym same) run

-- an event that serves no change

pub quiet_on : {D : Type 0} {disk : Ghosts D} (old new : Course) (event : Event) (keeper : Keeper D disk) → Makes old event new → change_served old.state event ≡ None → is_disk_fault event.what ≡ false →
    KeepsOn old keeper new keeper
quiet_on old new event keeper makes quiet calm start first run =
    let rows : new.state.rows ≡ old.state.rows = step_rows old.state event new.state makes.steps ∙ ap (rows_by old.state.rows) quiet in
    let faults : disk_faults (new.history ∷ []) ≡ disk_faults (old.history ∷ []) + 0 = ap (λ h. disk_faults (h ∷ [])) makes.kept ∙ faults_longer old.history event false calm in
    record {
      ran = goes_on old new event makes start run.ran;
      kept = subst (Keeps keeper) (sym rows) run.kept;
      leaves = weaker_rows (MayBeLeft start old keeper.stopped) (MayBeLeft start new keeper.stopped) first.journal keeper.journal
          (λ left is. elim is [
            | inl l ↦ inl (subst (λ h. IsLeft start h left) (sym makes.kept) (longer start old.history event left l))
            | inr u ↦ inr (u.0, u.1, u.2 ∙ ap (λ r. after r u.1) (sym rows))
          ]) run.leaves;
      doubt = λ level change doubts. subst (λ h. IsDoubted start h new.state.rows change) (sym makes.kept)
          (doubted_longer start old.history event old.state.rows new.state.rows change rows (run.doubt level change doubts));
      later = run.later;
      faults = λ low. let n = run.faults low in omega (arith, faults);
    }

-- an event that would serve a change

-- it is a call on the directory
pub record OfCall (state : State) (due : Event) : Type 0 where
  pub asked : MetaCall
  pub given : Reply
  pub is : due.what ≡ what.Meta asked given

pub serves_call : (state : State) (pe : ℕ) (w : What) (change : Change) → change_in state pe w ≡ Some change → (asked : MetaCall) × (given : Reply) × (w ≡ what.Meta asked given)
serves_call state pe (what.Meta asked given) change h = (asked, given, refl)
serves_call state pe (what.Issue asked given) change h = cc
serves_call state pe (what.Piece piece given) change h = cc
serves_call state pe (what.Answer given) change h = cc
serves_call state pe (what.OpenContext context) change h = cc
serves_call state pe (what.CloseContext context given) change h = cc
serves_call state pe (what.Fence context) change h = cc
serves_call state pe (what.Quiet context given) change h = cc
serves_call state pe (what.Wait context named given) change h = cc
serves_call state pe what.Arrive change h = cc
serves_call state pe what.Leave change h = cc
serves_call state pe what.Crash change h = cc
serves_call state pe (what.Lose piece) change h = cc
serves_call state pe (what.Refused asked e doubt) change h = cc

-- the refusal serves nothing, and says that the disk failed
refused_serves : (state : State) (pe : ℕ) (w : What) (doubt : Bool) (change : Change) → change_in state pe w ≡ Some change → change_in state pe (refused_what w doubt) ≡ None
refused_serves state pe w doubt change h =
    let c = serves_call state pe w change h in
    ap (λ v. change_in state pe (refused_what v doubt)) c.2

refused_fault : (state : State) (pe : ℕ) (w : What) (doubt : Bool) (change : Change) → change_in state pe w ≡ Some change → is_disk_fault (refused_what w doubt) ≡ true
refused_fault state pe w doubt change h = let c = serves_call state pe w change h in ap (λ v. is_disk_fault (refused_what v doubt)) c.2

-- it leaves the change in doubt where it says so
refused_doubts : (state : State) (due : Event) (change : Change) → IsDue state due → change_served state due ≡ Some change → doubted state (come due (Refused true)) ≡ Some change
refused_doubts state due change is h =
    let c = serves_call state due.pe.0 due.what change h in
    ap (λ v. doubted_by state due.pe.0 (refused_what v true)) c.2
    ∙ ap (λ v. least_change state due.pe.0 (call_made v)) (sym c.2)
    ∙ is.least change h

rose_more : (before now : ℕ) → Rose before now → now < 2 ^ 64 - 1 → before + 1 ≤ now
rose_more before now rose low = omega (arith, rose, low)

same_change : (a b : Change) → Some a ≡ Some b → a ≡ b
same_change a b h = cc

none_some : (a : Change) → None ≡ Some a → ⊥
none_some a h = cc

module _ {D : Type 0} {disk : Ghosts D} (old new : Course) (due : Event) (before now : Keeper D disk) (change : Change) (is_due : IsDue old.state due) (serves : change_served old.state due ≡ Some change) (level : before.stopped ≡ false) where
  -- the change was kept, and served
  pub served_on : Makes old due new → IsTaken old.state.rows change before now (Ok Served) → KeepsOn old before new now
  served_on makes taken start first run =
      let rows : new.state.rows ≡ after old.state.rows change = step_rows old.state due new.state makes.steps ∙ ap (rows_by old.state.rows) serves in
      let ran_new = goes_on old new due makes start run.ran in
      let faults : disk_faults (new.history ∷ []) ≡ disk_faults (old.history ∷ []) + 0 = ap (λ h. disk_faults (h ∷ [])) makes.kept ∙ faults_longer old.history due false is_due.calm in
      let cause : faults_of before ≤ faults_of now = taken.cause in
      let stays : (left : Rows) → IsLeft start old.history left → MayBeLeft start new now.stopped left =
      λ left l. inl (subst (λ h. IsLeft start h left) (sym makes.kept) (longer start old.history due left l)) in
      record {
        ran = ran_new;
        kept = subst (λ s. HasKeptOrMore now.journal s new.state.rows) (sym taken.goes_on) (subst (HasKeptIn now.journal) (sym rows) taken.kept);
        leaves = runs_on (MayBeLeft start new now.stopped) first.journal before.journal now.journal
            (weaker_rows (MayBeLeft start old before.stopped) (MayBeLeft start new now.stopped) first.journal before.journal
            (λ left is. elim is [
              | inl l ↦ stays left l
              | inr u ↦ absurd (true_false (sym u.0 ∙ level))
            ]) run.leaves)
            (weaker_rows (MayLeave old.state.rows (doubt_of before) true change) (MayBeLeft start new now.stopped) before.journal now.journal
            (λ left is. elim is [
              | inl l ↦ stays left (left_before start first old before run level left l)
              | inr n ↦ inl (left_at_end start new left ran_new (n.1 ∙ sym rows))
            ]) taken.leaves);
        doubt = λ goes other doubts. absurd (none_some other (sym taken.doubt ∙ doubts));
        later = omega (arith, run.later, cause);
        faults = λ low. let n = run.faults (omega (arith, cause, low)) in omega (arith, faults, cause);
      }
    where
      true_false : true ≡ false → ⊥
      true_false e = cc

  -- the disk refused it
  pub refused_on : (doubt : Bool) → Makes old (come due (Refused doubt)) new → IsTaken old.state.rows change before now (Ok (Refused doubt)) → KeepsOn old before new now
  refused_on doubt makes taken start first run =
      let event = come due (Refused doubt) in
      let nothing : change_served old.state event ≡ None = refused_serves old.state due.pe.0 due.what doubt change serves in
      let rows : new.state.rows ≡ old.state.rows = step_rows old.state event new.state makes.steps ∙ ap (rows_by old.state.rows) nothing in
      let faults : disk_faults (new.history ∷ []) ≡ disk_faults (old.history ∷ []) + 1 =
      ap (λ h. disk_faults (h ∷ [])) makes.kept ∙ faults_longer old.history event true (refused_fault old.state due.pe.0 due.what doubt change serves) in
      let rose : Rose (faults_of before) (faults_of now) = taken.cause.1 in
      let cause : faults_of before ≤ faults_of now = taken.cause.0 in
      let stays : (left : Rows) → IsLeft start old.history left → MayBeLeft start new now.stopped left =
      λ left l. inl (subst (λ h. IsLeft start h left) (sym makes.kept) (longer start old.history event left l)) in
      record {
        ran = goes_on old new event makes start run.ran;
        kept = subst (λ s. HasKeptOrMore now.journal s new.state.rows) (sym taken.goes_on) (subst (HasKeptIn now.journal) (sym rows) taken.kept);
        leaves = runs_on (MayBeLeft start new now.stopped) first.journal before.journal now.journal
            (weaker_rows (MayBeLeft start old before.stopped) (MayBeLeft start new now.stopped) first.journal before.journal
            (λ left is. elim is [
              | inl l ↦ stays left l
              | inr u ↦ absurd (true_false (sym u.0 ∙ level))
            ]) run.leaves)
            (weaker_rows (MayLeave old.state.rows (doubt_of before) doubt change) (MayBeLeft start new now.stopped) before.journal now.journal
            (λ left is. elim is [
              | inl l ↦ stays left (left_before start first old before run level left l)
              | inr n ↦ inl (subst (λ h. IsLeft start h left) (sym makes.kept)
                  (left_by_last start old event left change run.ran (ap (λ d. doubted old.state (come due (Refused d))) n.0 ∙ refused_doubts old.state due change is_due serves) n.1))
            ]) taken.leaves);
        doubt = λ goes other doubts. subst (λ h. IsDoubted start h new.state.rows other) (sym makes.kept) (by_doubt doubt refl other doubts taken.doubt rows);
        later = omega (arith, run.later, cause);
        faults = λ low.
            let more = rose_more (faults_of before) (faults_of now) rose low in
            let n = run.faults (omega (arith, more, low)) in omega (arith, faults, more);
      }
    where
      true_false : true ≡ false → ⊥
      true_false e = cc

      by_doubt : (d : Bool) → d ≡ doubt → (other : Change) → doubt_of now ≡ Some other → DoubtsAfter (doubt_of before) change (doubt_of now) (Ok (Refused d)) → new.state.rows ≡ old.state.rows →
          IsDoubted start (old.history ++ come due (Refused doubt) ∷ []) new.state.rows other
      by_doubt true same other doubts after_it rows =
          let is : change ≡ other = same_change change other (sym after_it ∙ doubts) in
          record {
            front = old.history;
            event = come due (Refused doubt);
            rest = [];
            parts = refl;
            state = old.state;
            reached = run.ran;
            doubts = ap (λ d. doubted old.state (come due (Refused d))) (sym same) ∙ refused_doubts old.state due change is_due serves ∙ ap Some is;
            same = sym rows;
          }
      by_doubt false same other doubts (apart, after_it) rows =
          elim after_it [
            | inl kept ↦ doubted_longer start old.history (come due (Refused doubt)) old.state.rows new.state.rows other rows (run.doubt level other (sym kept ∙ doubts))
            | inr none ↦ absurd (none_some other (sym none ∙ doubts))
          ]

-- memory was wanting

module _ {D : Type 0} {disk : Ghosts D} (old : Course) (before now : Keeper D disk) (change : Change) (level : before.stopped ≡ false) where
  -- before the change was kept
  pub unkept_on : (e : NoMemory) → IsTaken old.state.rows change before now (Err e) → KeepsOn old before old now
  unkept_on e taken start first run =
      record {
        ran = run.ran;
        kept = subst (λ s. HasKeptOrMore now.journal s old.state.rows) (sym taken.goes_on) taken.kept;
        leaves = runs_on (MayBeLeft start old now.stopped) first.journal before.journal now.journal
            (weaker_rows (MayBeLeft start old before.stopped) (MayBeLeft start old now.stopped) first.journal before.journal
            (λ left is. elim is [
              | inl l ↦ inl l
              | inr u ↦ absurd (true_false (sym u.0 ∙ level))
            ]) run.leaves)
            (weaker_rows (MayLeave old.state.rows (doubt_of before) false change) (MayBeLeft start old now.stopped) before.journal now.journal
            (λ left is. elim is [
              | inl l ↦ inl (left_before start first old before run level left l)
              | inr n ↦ absurd (true_false (sym n.0))
            ]) taken.leaves);
        doubt = λ goes other doubts. run.doubt level other (sym taken.doubt ∙ doubts);
        later = omega (arith, run.later, taken.cause);
        faults = λ low. let n = run.faults (omega (arith, taken.cause, low)) in omega (arith, taken.cause, n);
      }
    where
      true_false : true ≡ false → ⊥
      true_false e = cc

later_by : (before now : ℕ) (kept : Kept) → HasFailed before now (Ok kept) → before ≤ now
later_by before now Served failed = failed
later_by before now (Refused doubt) failed = failed.0

module _ {D : Type 0} {disk : Ghosts D} (old : Course) (before mid now : Keeper D disk) (change : Change) (level : before.stopped ≡ false) where
  -- behind the change that was kept: nothing more is kept then
  pub stopped_on : (kept : Kept) → IsTaken old.state.rows change before mid (Ok kept) → now.journal ≡ mid.journal → now.stopped ≡ true → KeepsOn old before old now
  stopped_on kept taken same stopped start first run =
      let later : faults_of before ≤ faults_of mid = later_by (faults_of before) (faults_of mid) kept taken.cause in
      let faults : faults_of now ≡ faults_of mid = ap faults_in same in
      record {
        ran = run.ran;
        kept = subst (λ s. HasKeptOrMore now.journal s old.state.rows) (sym stopped)
            (subst (λ j. HasKeptOrMore j true old.state.rows) (sym same) (by_kept kept taken.kept taken.doubt));
        leaves = runs_on (MayBeLeft start old now.stopped) first.journal before.journal now.journal
            (weaker_rows (MayBeLeft start old before.stopped) (MayBeLeft start old now.stopped) first.journal before.journal
            (λ left is. elim is [
              | inl l ↦ inl l
              | inr u ↦ absurd (true_false (sym u.0 ∙ level))
            ]) run.leaves)
            (subst (LeavesIn (MayBeLeft start old now.stopped) before.journal) (sym same)
            (weaker_rows (MayLeave old.state.rows (doubt_of before) (may_count (Ok kept)) change) (MayBeLeft start old now.stopped) before.journal mid.journal
            (λ left is. elim is [
              | inl l ↦ inl (left_before start first old before run level left l)
              | inr n ↦ inr (stopped, change, n.1)
            ]) taken.leaves));
        doubt = λ goes. absurd (true_false (sym stopped ∙ goes));
        later = omega (arith, run.later, later, faults);
        faults = λ low. let n = run.faults (omega (arith, later, faults, low)) in omega (arith, later, faults, n);
      }
    where
      true_false : true ≡ false → ⊥
      true_false e = cc

      by_kept : (k : Kept) → HasKeptIn mid.journal (rows_behind old.state.rows change (Ok k)) → DoubtsAfter (doubt_of before) change (doubt_of mid) (Ok k) → HasKeptOrMore mid.journal true old.state.rows
      by_kept Served has settled = inr (change, has, settled)
      by_kept (Refused doubt) has settled = inl has

-- the doubt was closed

module _ {D : Type 0} {disk : Ghosts D} (old : Course) (before now : Keeper D disk) (settles : (rows : Rows) → HasKeptIn before.journal rows → IsSettled rows before now) where
  doubt_of_before : (rows : Rows) → IsSettled rows before now → (change : Change) → doubt_of now ≡ Some change → doubt_of before ≡ Some change
  doubt_of_before rows settled change doubts = elim settled.doubt [
    | inl none ↦ absurd (none_some change (sym none ∙ doubts))
    | inr same ↦ sym same.0 ∙ doubts
  ]

  -- the run of a keeper that goes on
  level_settled : (start : State) (first : Keeper D disk) (run : IsKeptRun start first old before) → before.stopped ≡ false → IsSettled old.state.rows before now → IsKeptRun start first old now
  level_settled start first run level settled =
      let stays : now.stopped ≡ false = settled.stopped ∙ level in
      record {
        ran = run.ran;
        kept = subst (λ s. HasKeptOrMore now.journal s old.state.rows) (sym stays) settled.kept;
        leaves = runs_on (MayBeLeft start old now.stopped) first.journal before.journal now.journal
            (subst (λ s. LeavesIn (MayBeLeft start old s) first.journal before.journal) (sym settled.stopped) run.leaves)
            (weaker_rows (IsInDoubt old.state.rows (doubt_of before)) (MayBeLeft start old now.stopped) before.journal now.journal
            (λ left is. inl (left_before start first old before run level left is)) settled.leaves);
        doubt = λ goes change doubts. run.doubt level change (doubt_of_before old.state.rows settled change doubts);
        later = omega (arith, run.later, settled.cause);
        faults = λ low. let n = run.faults (omega (arith, settled.cause, low)) in omega (arith, settled.cause, n);
      }

  -- and of one that was stopped
  stopped_settled : (start : State) (first : Keeper D disk) (run : IsKeptRun start first old before) → before.stopped ≡ true → HasKeptOrMore before.journal true old.state.rows → IsKeptRun start first old now
  stopped_settled start first run stopped (inl has) =
      let settled = settles old.state.rows has in
      let stays : now.stopped ≡ true = settled.stopped ∙ stopped in
      record {
        ran = run.ran;
        kept = subst (λ s. HasKeptOrMore now.journal s old.state.rows) (sym stays) (inl settled.kept);
        leaves = runs_on (MayBeLeft start old now.stopped) first.journal before.journal now.journal
            (subst (λ s. LeavesIn (MayBeLeft start old s) first.journal before.journal) (sym settled.stopped) run.leaves)
            (weaker_rows (IsInDoubt old.state.rows (doubt_of before)) (MayBeLeft start old now.stopped) before.journal now.journal
            (λ left is. elim is [
              | inl same ↦ inl (left_at_end start old left run.ran same)
              | inr d ↦ inr (stays, d.0, d.2)
            ]) settled.leaves);
        doubt = λ goes. absurd (true_false (sym stays ∙ goes));
        later = omega (arith, run.later, settled.cause);
        faults = λ low. let n = run.faults (omega (arith, settled.cause, low)) in omega (arith, settled.cause, n);
      }
    where
      true_false : true ≡ false → ⊥
      true_false e = cc
  stopped_settled start first run stopped (inr (change, has, none)) =
      let settled = settles (after old.state.rows change) has in
      let stays : now.stopped ≡ true = settled.stopped ∙ stopped in
      let still : doubt_of now ≡ None = elim settled.doubt [ inl is ↦ is | inr same ↦ same.0 ∙ none ] in
      record {
        ran = run.ran;
        kept = subst (λ s. HasKeptOrMore now.journal s old.state.rows) (sym stays) (inr (change, settled.kept, still));
        leaves = runs_on (MayBeLeft start old now.stopped) first.journal before.journal now.journal
            (subst (λ s. LeavesIn (MayBeLeft start old s) first.journal before.journal) (sym settled.stopped) run.leaves)
            (weaker_rows (IsInDoubt (after old.state.rows change) (doubt_of before)) (MayBeLeft start old now.stopped) before.journal now.journal
            (λ left is. elim is [
              | inl same ↦ inr (stays, change, same)
              | inr d ↦ absurd (none_some d.0 (sym none ∙ d.1))
            ]) settled.leaves);
        doubt = λ goes. absurd (true_false (sym stays ∙ goes));
        later = omega (arith, run.later, settled.cause);
        faults = λ low. let n = run.faults (omega (arith, settled.cause, low)) in omega (arith, settled.cause, n);
      }
    where
      true_false : true ≡ false → ⊥
      true_false e = cc

  pub settled_on : KeepsOn old before old now
  settled_on start first run = by_stop before.stopped refl
    where
      by_stop : (b : Bool) → before.stopped ≡ b → IsKeptRun start first old now
      by_stop false level = level_settled start first run level (settles old.state.rows (subst (λ s. HasKeptOrMore before.journal s old.state.rows) level run.kept))
      by_stop true stopped = stopped_settled start first run stopped (subst (λ s. HasKeptOrMore before.journal s old.state.rows) stopped run.kept)

-- a keeper before a run

pub first_run : {D : Type 0} {disk : Ghosts D} (start : State) (keeper : Keeper D disk) → IsFresh keeper start.rows → LeavesRows (IsInDoubt start.rows (doubt_of keeper)) keeper keeper →
    IsKeptRun start keeper (record { history = []; state = start }) keeper
first_run start keeper fresh leaves =
    let course : Course = record { history = []; state = start } in
    let none : disk_faults ([] ∷ []) ≡ 0 = refl in
    record {
      ran = refl;
      kept = subst (λ s. HasKeptOrMore keeper.journal s start.rows) (sym fresh.goes_on) fresh.kept;
      leaves = weaker_rows (IsInDoubt start.rows (doubt_of keeper)) (MayBeLeft start course keeper.stopped) keeper.journal keeper.journal
          (λ left is. elim is [
            | inl same ↦ inl (left_at_end start course left refl same)
            | inr d ↦ absurd (none_some d.0 (sym fresh.settled ∙ d.1))
          ]) leaves;
      doubt = λ goes change doubts. absurd (none_some change (sym fresh.settled ∙ doubts));
      later = omega arith;
      faults = λ low. omega (arith, none);
    }

-- what a crash leaves at the end

pub last_left : {D : Type 0} {disk : Ghosts D} (start : State) (first now : Keeper D disk) (course : Course) → IsKeptRun start first course now →
    ((rows : Rows) → HasKeptIn now.journal rows → LeavesRows (IsInDoubt rows (doubt_of now)) now now) →
    LeavesRows (λ left. IsLeftAtEnd start course.history left ⊎ IsUnserved now.stopped course.state.rows left) now now
last_left start first now course run leaves = by_stop now.stopped refl
  where
    true_false : true ≡ false → ⊥
    true_false e = cc

    at_end : (left : Rows) → (left ≡ course.state.rows) ⊎ ((change : Change) × IsDoubted start course.history course.state.rows change × (left ≡ after course.state.rows change)) → IsLeftAtEnd start course.history left
    at_end left is = record { state = course.state; reached = run.ran; left_is = is }

    by_more : now.stopped ≡ true → HasKeptOrMore now.journal true course.state.rows → LeavesRows (λ left. IsLeftAtEnd start course.history left ⊎ IsUnserved now.stopped course.state.rows left) now now
    by_more stopped (inl has) =
        weaker_rows (IsInDoubt course.state.rows (doubt_of now)) (λ left. IsLeftAtEnd start course.history left ⊎ IsUnserved now.stopped course.state.rows left) now.journal now.journal
        (λ left is. elim is [
          | inl same ↦ inl (at_end left (inl same))
          | inr d ↦ inr (stopped, d.0, d.2)
        ]) (leaves course.state.rows has)
    by_more stopped (inr (change, has, none)) =
        weaker_rows (IsInDoubt (after course.state.rows change) (doubt_of now)) (λ left. IsLeftAtEnd start course.history left ⊎ IsUnserved now.stopped course.state.rows left) now.journal now.journal
        (λ left is. elim is [
          | inl same ↦ inr (stopped, change, same)
          | inr d ↦ absurd (none_some d.0 (sym none ∙ d.1))
        ]) (leaves (after course.state.rows change) has)

    by_stop : (b : Bool) → now.stopped ≡ b → LeavesRows (λ left. IsLeftAtEnd start course.history left ⊎ IsUnserved now.stopped course.state.rows left) now now
    by_stop false level =
        let has = subst (λ s. HasKeptOrMore now.journal s course.state.rows) level run.kept in
        weaker_rows (IsInDoubt course.state.rows (doubt_of now)) (λ left. IsLeftAtEnd start course.history left ⊎ IsUnserved now.stopped course.state.rows left) now.journal now.journal
        (λ left is. elim is [
          | inl same ↦ inl (at_end left (inl same))
          | inr d ↦ inl (at_end left (inr (d.0, run.doubt level d.0 d.1, d.2)))
        ]) (leaves course.state.rows has)
    by_stop true stopped = by_more stopped (subst (λ s. HasKeptOrMore now.journal s course.state.rows) stopped run.kept)

-- the rows of a keeper, whether it was stopped or not
pub some_kept : {D : Type 0} {disk : Ghosts D} (journal : Option (Journal D disk)) (stopped : Bool) (rows : Rows) → HasKeptOrMore journal stopped rows → (kept : Rows) × HasKeptIn journal kept
some_kept journal false rows has = (rows, has)
some_kept journal true rows (inl has) = (rows, has)
some_kept journal true rows (inr (change, has, none)) = (after rows change, has)

-- a keeper that keeps nothing is fresh
pub nothing_fresh : {D : Type 0} {disk : Ghosts D} (keeper : Keeper D disk) (rows : Rows) → keeper.journal ≡ None → keeper.stopped ≡ false → IsFresh keeper rows
nothing_fresh keeper rows none level = record { kept = subst (λ j. HasKeptIn j rows) (sym none) tt; goes_on = level; settled = ap doubt_in none }

-- the end of a history

-- where the disk failed no oftener than the history tells, nothing is in doubt once the journal is settled
nothing_in_doubt : {D : Type 0} {disk : Ghosts D} (start : State) (first before now : Keeper D disk) (course : Course) → IsKeptRun start first course before →
    ((rows : Rows) → HasKeptIn before.journal rows → IsSettled rows before now) → faults_of now < 2 ^ 64 - 1 → faults_of now ≤ disk_faults (course.history ∷ []) + faults_of first → doubt_of now ≡ None
nothing_in_doubt start first before now course run settles low few =
    let has = some_kept before.journal before.stopped course.state.rows run.kept in
    let settled = settles has.0 has.1 in
    elim settled.doubt [
      | inl none ↦ none
      | inr same ↦
          let cause = settled.cause in
          let more = rose_more (faults_of before) (faults_of now) same.1 low in
          let counted = run.faults (omega (arith, cause, low)) in
          let no : ⊥ = omega (arith, more, counted, few) in
          absurd no
    ]

settled_left : {D : Type 0} {disk : Ghosts D} (now : Keeper D disk) (rows : Rows) → Keeps now rows → doubt_of now ≡ None →
    ((kept : Rows) → HasKeptIn now.journal kept → LeavesRows (IsInDoubt kept (doubt_of now)) now now) → LeavesRows (λ left. (left ≡ rows) ⊎ IsUnserved now.stopped rows left) now now
settled_left now rows kept settled leaves = by_stop now.stopped refl
  where
    these : (those : Rows) → HasKeptIn now.journal those → LeavesRows (λ left. left ≡ those) now now
    these those has =
        weaker_rows (IsInDoubt those (doubt_of now)) (λ left. left ≡ those) now.journal now.journal
        (λ left is. elim is [
          | inl same ↦ same
          | inr d ↦ absurd (none_some d.0 (sym settled ∙ d.1))
        ]) (leaves those has)

    by_more : now.stopped ≡ true → HasKeptOrMore now.journal true rows → LeavesRows (λ left. (left ≡ rows) ⊎ IsUnserved now.stopped rows left) now now
    by_more stopped (inl has) =
        weaker_rows (λ left. left ≡ rows) (λ left. (left ≡ rows) ⊎ IsUnserved now.stopped rows left) now.journal now.journal (λ left same. inl same) (these rows has)
    by_more stopped (inr (change, has, none)) =
        weaker_rows (λ left. left ≡ after rows change) (λ left. (left ≡ rows) ⊎ IsUnserved now.stopped rows left) now.journal now.journal
        (λ left same. inr (stopped, change, same)) (these (after rows change) has)

    by_stop : (b : Bool) → now.stopped ≡ b → LeavesRows (λ left. (left ≡ rows) ⊎ IsUnserved now.stopped rows left) now now
    by_stop false level =
        weaker_rows (λ left. left ≡ rows) (λ left. (left ≡ rows) ⊎ IsUnserved now.stopped rows left) now.journal now.journal (λ left same. inl same)
        (these rows (subst (λ s. HasKeptOrMore now.journal s rows) level kept))
    by_stop true stopped = by_more stopped (subst (λ s. HasKeptOrMore now.journal s rows) stopped kept)

-- a run whose journal was settled
pub kept_history : {D : Type 0} {disk : Ghosts D} (start : State) (first before now : Keeper D disk) (course : Course) → IsKeptRun start first course before →
    ((rows : Rows) → HasKeptIn before.journal rows → IsSettled rows before now) →
    ((rows : Rows) → HasKeptIn now.journal rows → LeavesRows (IsInDoubt rows (doubt_of now)) now now) → IsKeptHistory start first course.history now
kept_history start first before now course run settles leaves =
    let ended = settled_on course before now settles start first run in
    record {
      state = course.state;
      run = ended;
      last = last_left start first now course ended leaves;
      settled = λ low few. settled_left now course.state.rows ended.kept (nothing_in_doubt start first before now course run settles low few) leaves;
    }

-- nothing was made
pub no_history : {D : Type 0} {disk : Ghosts D} (start : State) (first before now : Keeper D disk) → IsFresh first start.rows → LeavesRows (IsInDoubt start.rows (doubt_of first)) first first → before ≡ first →
    ((rows : Rows) → HasKeptIn before.journal rows → IsSettled rows before now) →
    ((rows : Rows) → HasKeptIn now.journal rows → LeavesRows (IsInDoubt rows (doubt_of now)) now now) → IsKeptHistory start first [] now
no_history start first before now fresh at_first same settles leaves =
    kept_history start first before now (record { history = []; state = start })
    (subst (IsKeptRun start first (record { history = []; state = start })) (sym same) (first_run start first fresh at_first)) settles leaves

-- what the keeper has behind an event

pub quiet_kept : {D : Type 0} {disk : Ghosts D} (old new : Course) (event : Event) (keeper : Keeper D disk) → Makes old event new → change_served old.state event ≡ None → Keeps keeper old.state.rows → Keeps keeper new.state.rows
quiet_kept old new event keeper makes quiet kept =
    subst (Keeps keeper) (sym (step_rows old.state event new.state makes.steps ∙ ap (rows_by old.state.rows) quiet)) kept

module _ {D : Type 0} {disk : Ghosts D} (old new : Course) (due : Event) (before now : Keeper D disk) (change : Change) (is_due : IsDue old.state due) (serves : change_served old.state due ≡ Some change) (level : before.stopped ≡ false) where
  -- the rows that were kept are those of the service
  pub rows_made : (kept : Kept) → Makes old (come due kept) new → new.state.rows ≡ rows_behind old.state.rows change (Ok kept)
  rows_made Served makes = step_rows old.state due new.state makes.steps ∙ ap (rows_by old.state.rows) serves
  rows_made (Refused doubt) makes =
      step_rows old.state (come due (Refused doubt)) new.state makes.steps
      ∙ ap (rows_by old.state.rows) (refused_serves old.state due.pe.0 due.what doubt change serves)

  pub made_kept : (kept : Kept) → Makes old (come due kept) new → IsTaken old.state.rows change before now (Ok kept) → Keeps now new.state.rows
  made_kept kept makes taken =
      subst (λ s. HasKeptOrMore now.journal s new.state.rows) (sym taken.goes_on) (subst (HasKeptIn now.journal) (sym (rows_made kept makes)) taken.kept)

  pub made_on : (kept : Kept) → Makes old (come due kept) new → IsTaken old.state.rows change before now (Ok kept) → KeepsOn old before new now
  made_on Served makes taken = served_on old new due before now change is_due serves level makes taken
  made_on (Refused doubt) makes taken = refused_on old new due before now change is_due serves level doubt makes taken

-- what it has where memory was wanting

pub unkept_kept : {D : Type 0} {disk : Ghosts D} (rows : Rows) (change : Change) (before now : Keeper D disk) (e : NoMemory) → IsTaken rows change before now (Err e) → Keeps now rows
unkept_kept rows change before now e taken = subst (λ s. HasKeptOrMore now.journal s rows) (sym taken.goes_on) taken.kept

pub stopped_kept : {D : Type 0} {disk : Ghosts D} (rows : Rows) (change : Change) (before mid now : Keeper D disk) (kept : Kept) → IsTaken rows change before mid (Ok kept) → now.journal ≡ mid.journal → now.stopped ≡ true → Keeps now rows
stopped_kept rows change before mid now kept taken same stopped =
    subst (λ s. HasKeptOrMore now.journal s rows) (sym stopped) (subst (λ j. HasKeptOrMore j true rows) (sym same) (by_kept kept taken.kept taken.doubt))
  where
    by_kept : (k : Kept) → HasKeptIn mid.journal (rows_behind rows change (Ok k)) → DoubtsAfter (doubt_of before) change (doubt_of mid) (Ok k) → HasKeptOrMore mid.journal true rows
    by_kept Served has settled = inr (change, has, settled)
    by_kept (Refused doubt) has settled = inl has

-- what comes

pub come_refused : (state : State) (due : Event) (change : Change) (doubt : Bool) → change_served state due ≡ Some change → IsDiskRefusal state due (come due (Refused doubt))
come_refused state due change doubt h =
    let c = serves_call state due.pe.0 due.what change h in
    record {
      asked = c.0;
      given = c.1;
      doubt = doubt;
      asks = c.2;
      changes = ap is_some h;
      is = ap (λ v. record due { what = refused_what v doubt }) c.2;
    }

pub come_comes : (state : State) (due : Event) (change : Change) (kept : Kept) → change_served state due ≡ Some change → Comes state due (come due kept)
come_comes state due change Served h = inl refl
come_comes state due change (Refused doubt) h = inr (come_refused state due change doubt h)

some_of : {A : Type 0} (o : Option A) → is_some o ≡ true → (x : A) × (o ≡ Some x)
some_of None h = cc
some_of (Some x) h = (x, refl)

pub come_steps : (state : State) (due : Event) (change : Change) (kept : Kept) → IsDue state due → change_served state due ≡ Some change → is_some (step service_limits state (come due kept)) ≡ true
come_steps state due change Served is h = is.comes
come_steps state due change (Refused doubt) is h =
    let next = some_of (step service_limits state due) is.comes in
    refusal_may_come service_limits state next.0 due (come due (Refused doubt)) next.1 (come_refused state due change doubt h)

-- making what is due

-- a keeper that is stopped behind an event that was not made
pub stopped_quiet : {D : Type 0} {disk : Ghosts D} (old : Course) (before now : Keeper D disk) → now.journal ≡ before.journal → now.stopped ≡ true → KeepsOn old before old now
stopped_quiet old before now same stopped start first run =
    let faults : faults_of now ≡ faults_of before = ap faults_in same in
    record {
      ran = run.ran;
      kept = subst (λ s. HasKeptOrMore now.journal s old.state.rows) (sym stopped) (subst (λ j. HasKeptOrMore j true old.state.rows) (sym same) (more before.stopped run.kept));
      leaves = subst (LeavesIn (MayBeLeft start old now.stopped) first.journal) (sym same)
          (weaker_rows (MayBeLeft start old before.stopped) (MayBeLeft start old now.stopped) first.journal before.journal
          (λ left is. elim is [
            | inl l ↦ inl l
            | inr u ↦ inr (stopped, u.1, u.2)
          ]) run.leaves);
      doubt = λ goes. absurd (true_false (sym stopped ∙ goes));
      later = omega (arith, run.later, faults);
      faults = λ low. let n = run.faults (omega (arith, faults, low)) in omega (arith, faults, n);
    }
  where
    true_false : true ≡ false → ⊥
    true_false e = cc

    more : (b : Bool) → HasKeptOrMore before.journal b old.state.rows → HasKeptOrMore before.journal true old.state.rows
    more false has = inl has
    more true has = has

quiet_stopped_kept : {D : Type 0} {disk : Ghosts D} (rows : Rows) (before now : Keeper D disk) → now.journal ≡ before.journal → now.stopped ≡ true → Keeps before rows → Keeps now rows
quiet_stopped_kept rows before now same stopped kept =
    subst (λ s. HasKeptOrMore now.journal s rows) (sym stopped) (subst (λ j. HasKeptOrMore j true rows) (sym same) (more before.stopped kept))
  where
    more : (b : Bool) → HasKeptOrMore before.journal b rows → HasKeptOrMore before.journal true rows
    more false has = inl has
    more true has = has

pub due_comes : {D : Type 0} {disk : Ghosts D} (state : State) (due : Event) (before now : Keeper D disk) (kept : Kept) → IsDue state due → IsKeptDue state due before now (Ok kept) →
    is_some (step service_limits state (come due kept)) ≡ true
due_comes state due before now kept is (inl (quiet, served, same)) = ap (λ k. is_some (step service_limits state (come due k))) served ∙ is.comes
due_comes state due before now kept is (inr (change, serves, level, taken)) = come_steps state due change kept is serves

-- nothing was kept, or memory was wanting before it was
pub not_kept : {D : Type 0} {disk : Ghosts D} (old : Course) (due : Event) (before now : Keeper D disk) (e : NoMemory) → Keeps before old.state.rows → IsKeptDue old.state due before now (Err e) → IsMade old due before old now (Err e)
not_kept old due before now e kept (inl same) =
    record {
      made = refl;
      legal = λ start ran. ran;
      kept = subst (λ k. Keeps k old.state.rows) (sym same) kept;
      keeps = λ start first run. subst (IsKeptRun start first old) (sym same) run;
    }
not_kept old due before now e kept (inr (change, level, taken)) =
    record {
      made = refl;
      legal = λ start ran. ran;
      kept = unkept_kept old.state.rows change before now e taken;
      keeps = unkept_on old before now change level e taken;
    }

-- what came was added, or not
pub finished : {D : Type 0} {disk : Ghosts D} (old new : Course) (due : Event) (before mid now : Keeper D disk) (kept : Kept) (result : Result Kept NoMemory) → IsDue old.state due → Keeps before old.state.rows →
    IsKeptDue old.state due before mid (Ok kept) → IsFinished old (come due kept) kept mid new now result → IsMade old due before new now result
finished old new due before mid now kept (Ok told) is keeps (inl (quiet, served, same)) (told_is, makes, still) =
    let due_made : Makes old due new = subst (λ k. Makes old (come due k) new) served makes in
    let here : now ≡ before = still ∙ same in
    record {
      made = subst (λ k. MakesDue old due (come due k) new) (sym (told_is ∙ served)) (record { comes = inl refl; makes = due_made });
      legal = goes_on old new due due_made;
      kept = subst (λ k. Keeps k new.state.rows) (sym here) (quiet_kept old new due before due_made quiet keeps);
      keeps = λ start first run. subst (IsKeptRun start first new) (sym here) (quiet_on old new due before due_made quiet is.calm start first run);
    }
finished old new due before mid now kept (Ok told) is keeps (inr (change, serves, level, taken)) (told_is, makes, still) =
    let here = subst (λ k. IsTaken old.state.rows change before k (Ok kept)) (sym still) taken in
    record {
      made = subst (λ k. MakesDue old due (come due k) new) (sym told_is) (record { comes = come_comes old.state due change kept serves; makes = makes });
      legal = goes_on old new (come due kept) makes;
      kept = made_kept old new due before now change is serves level kept makes here;
      keeps = made_on old new due before now change is serves level kept makes here;
    }
finished old new due before mid now kept (Err e) is keeps (inl (quiet, served, same)) (still, journal, stopped) =
    let journal_is : now.journal ≡ before.journal = journal ∙ ap (λ k. k.journal) same in
    record {
      made = still;
      legal = λ start ran. subst (Ran start) (sym still) ran;
      kept = subst (λ c. Keeps now c.state.rows) (sym still) (quiet_stopped_kept old.state.rows before now journal_is stopped keeps);
      keeps = λ start first run. subst (λ c. IsKeptRun start first c now) (sym still) (stopped_quiet old before now journal_is stopped start first run);
    }
finished old new due before mid now kept (Err e) is keeps (inr (change, serves, level, taken)) (still, journal, stopped) =
    record {
      made = still;
      legal = λ start ran. subst (Ran start) (sym still) ran;
      kept = subst (λ c. Keeps now c.state.rows) (sym still) (stopped_kept old.state.rows change before mid now kept taken journal stopped);
      keeps = λ start first run. subst (λ c. IsKeptRun start first c now) (sym still) (stopped_on old before mid now change level kept taken journal stopped start first run);
    }
