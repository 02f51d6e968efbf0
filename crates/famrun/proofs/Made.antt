-- Every ending of `make` and of `trial` is one that their contract allows.
use Rattle.std.proofs.Common.{◌≡◌, ℕ, ◌+◌, ◌<◌, ◌≤◌, Bool, true, false, List, [], ◌∷◌, refl, sym, ap, ◌∙◌, arith, inl, inr, ◌⊎◌, length, subst, get_or}
use Rattle.std.specs.Global.{Global}
use Rattle.std.specs.Prelude.{Result, Ok, Err, IfOk, Vec, Option, Some, None, IfSome, IfNone, MatchOption, codes, ◌≢◌, ◌^◌, nat_lt, ◌||◌, not, slice_index_or}
use Rattle.std.specs.Fmt.{decimal}
use Rattle.std.proofs.lemmas.Fmt.{decimal_injective}
use Rattle.fam_base.specs.Causes.{Rose}
use Rattle.fam_io.specs.State.{SinkState}
use Rattle.famrun.specs.declared.ending.Ending.{Ending}
use Rattle.famrun.specs.declared.ending.Ending.TheVariants as ending
use Rattle.famrun.specs.declared.wanted.Wanted.{Wanted}
use Rattle.famrun.specs.Ending.{Tells, status_of}
use Rattle.std.proofs.lemmas.List.{length-map}
use Rattle.std.proofs.lemmas.List.FromFn.{length-range_with_len}
use Rattle.std.specs.Cmp.Lexicographic.{pointwise, same_text, other_text}
use Rattle.std.specs.Prelude.{nat_eq}
use Rattle.fam_base.specs.declared.error.NoMemory.{NoMemory}
use Rattle.fam_core.specs.declared.simulation.Played.{Played}
use Rattle.fam_core.specs.Playing.{IsPlayedOut}
use Rattle.fam_model.specs.declared.event.Event.{Event}
use Rattle.fam_model.specs.declared.report.ReplyLine.{ReplyLine}
use Rattle.fam_model.specs.declared.rows.Rows.{Rows}
use Rattle.fam_model.specs.declared.script.Script.{Script}
use Rattle.fam_model.specs.declared.state.State.{State}
use Rattle.fam_model.specs.Grammar.{IsLawfulScript}
use Rattle.fam_model.specs.Lists.{numbers_below}
use Rattle.fam_model.specs.ReportText.{reply_lines}
use Rattle.fam_model.specs.Rows.{common_rows}
use Rattle.fam_schedule.specs.Schedule.{IsScheduled}
use Rattle.fam_trial.specs.Generator.{made_program, made_script, words_of_program}
use Rattle.fam_trial.specs.Trial.{trial_line}
use Rattle.famrun.proofs.OverDisk.{played}
use Rattle.fam_disk.specs.declared.disk.Disk.{Ghosts}
use Rattle.fam_keeper.specs.Keeping.{LeavesIn, faults_in, faults_of}
use Rattle.fam_keeper.specs.declared.keeper.Keeper.{Keeper}
use Rattle.fam_model.specs.Earned.{disk_faults}
use Rattle.fam_steps.specs.Crash.{IsKeptRun, MayBeLeft}
use Rattle.fam_steps.specs.Steps.{Course}
use Rattle.meta_journal.specs.declared.journal.Journal.{Journal}
use Rattle.famrun.specs.Making.{HasMade, IsMade, IsTrial, MadeOutcome, MakeEnds, TrialEnds, most_programs, most_calls, wanted_in}

-- words

-- four items
pub four_items : {A : Type 0} → (xs : List A) (x y z w : A) → 4 ≤ length xs → length xs < 5 → x ≡ slice_index_or xs 0 x → y ≡ slice_index_or xs 1 y → z ≡ slice_index_or xs 2 z → w ≡ slice_index_or xs 3 w →
    xs ≡ x ∷ y ∷ z ∷ w ∷ []
four_items [] x y z w least below a b c d = absurd (omega arith)
four_items (p ∷ []) x y z w least below a b c d = absurd (omega arith)
four_items (p ∷ q ∷ []) x y z w least below a b c d = absurd (omega arith)
four_items (p ∷ q ∷ r ∷ []) x y z w least below a b c d = absurd (omega arith)
four_items (p ∷ q ∷ r ∷ s ∷ []) x y z w least below a b c d =
    ap (λ v. v ∷ q ∷ r ∷ s ∷ []) (sym a) ∙ ap (λ v. x ∷ v ∷ r ∷ s ∷ []) (sym b) ∙ ap (λ v. x ∷ y ∷ v ∷ s ∷ []) (sym c) ∙ ap (λ v. x ∷ y ∷ z ∷ v ∷ []) (sym d)
four_items (p ∷ q ∷ r ∷ s ∷ t ∷ rest) x y z w least below a b c d = absurd (omega arith)

-- what is known of a word that was read as a number
abbrev pub IsRead : List ℕ → Option ℕ → Type 0
IsRead word found = IfSome found (λ n. (n < 2 ^ 64) × (word ≡ decimal n)) × IfNone found ((n : ℕ) → n < 2 ^ 64 → word ≢ decimal n)

-- the numbers are in range
in_range : (p c : ℕ) → not (nat_lt p 1 || nat_lt most_programs p || nat_lt most_calls c) ≡ true → (1 ≤ p) × (p ≤ most_programs) × (c ≤ most_calls)
in_range p c h = (grind arith, grind arith, grind arith)

out_of_range : (p c : ℕ) → not (nat_lt p 1 || nat_lt most_programs p || nat_lt most_calls c) ≡ false → 1 ≤ p → p ≤ most_programs → c ≤ most_calls → ⊥
out_of_range p c h some few short = grind arith

same_words : (n a b c x y z : List ℕ) → n ∷ a ∷ b ∷ c ∷ [] ≡ n ∷ x ∷ y ∷ z ∷ [] → (a ≡ x) × (b ≡ y) × (c ≡ z)
same_words n a b c x y z e = (ap (λ ws. get_or ws 1 a) e, ap (λ ws. get_or ws 2 b) e, ap (λ ws. get_or ws 3 c) e)

low : (n k : ℕ) → n ≤ k → k < 2 ^ 64 → n < 2 ^ 64
low n k le lt = omega (arith, le, lt)

-- the words ask for one script
pub same_wanted : (name : List ℕ) (words : List (List ℕ)) (a b : Wanted) → HasMade name words a → HasMade name words b → a ≡ b
same_wanted name words a b h g =
    let same = same_words name (decimal a.seed) (decimal a.programs) (decimal a.calls) (decimal b.seed) (decimal b.programs) (decimal b.calls) (sym h.words_are ∙ g.words_are) in
    let seeds : a.seed ≡ b.seed = decimal_injective a.seed b.seed h.seed g.seed same.0 in
    let programs : a.programs ≡ b.programs = decimal_injective a.programs b.programs (low a.programs most_programs h.programs (omega arith)) (low b.programs most_programs g.programs (omega arith)) same.1 in
    let calls : a.calls ≡ b.calls = decimal_injective a.calls b.calls (low a.calls most_calls h.calls (omega arith)) (low b.calls most_calls g.calls (omega arith)) same.2 in
    λ i. record { seed = seeds i; programs = programs i; calls = calls i }

-- the first word is another one
pub not_named : (name : List ℕ) (words : List (List ℕ)) (first text s p c : List ℕ) → words ≡ first ∷ s ∷ p ∷ c ∷ [] → text ≡ first → false ≡ pointwise nat_eq text name → ¬ IsMade name words
not_named name words first text s p c four same is made =
    other_text text name is (same ∙ ap (λ ws. get_or ws 0 name) (sym four ∙ made.1.words_are))

-- what was found of three numbers
pub made_told : (name : List ℕ) (words : List (List ℕ)) (s p c : List ℕ) (seed programs calls : Option ℕ) (found : Option Wanted) → words ≡ name ∷ s ∷ p ∷ c ∷ [] →
    IsRead s seed → IsRead p programs → IsRead c calls → found ≡ wanted_in seed programs calls → MatchOption found (¬ IsMade name words) (HasMade name words)
made_told name words s p c None programs calls found four rs rp rc is =
    subst (λ f. MatchOption f (¬ IsMade name words) (HasMade name words)) (sym is)
    (λ made. rs.1 made.0.seed made.1.seed (same_words name s p c (decimal made.0.seed) (decimal made.0.programs) (decimal made.0.calls) (sym four ∙ made.1.words_are)).0)
made_told name words s p c (Some n) None calls found four rs rp rc is =
    subst (λ f. MatchOption f (¬ IsMade name words) (HasMade name words)) (sym is)
    (λ made. rp.1 made.0.programs (low made.0.programs most_programs made.1.programs (omega arith)) (same_words name s p c (decimal made.0.seed) (decimal made.0.programs) (decimal made.0.calls) (sym four ∙ made.1.words_are)).1)
made_told name words s p c (Some n) (Some m) None found four rs rp rc is =
    subst (λ f. MatchOption f (¬ IsMade name words) (HasMade name words)) (sym is)
    (λ made. rc.1 made.0.calls (low made.0.calls most_calls made.1.calls (omega arith)) (same_words name s p c (decimal made.0.seed) (decimal made.0.programs) (decimal made.0.calls) (sym four ∙ made.1.words_are)).2)
made_told name words s p c (Some n) (Some m) (Some k) found four rs rp rc is = by_range (not (nat_lt m 1 || nat_lt most_programs m || nat_lt most_calls k)) refl
  where
    by_range : (b : Bool) → not (nat_lt m 1 || nat_lt most_programs m || nat_lt most_calls k) ≡ b → MatchOption found (¬ IsMade name words) (HasMade name words)
    by_range true e =
        let range = in_range m k e in
        let here : found ≡ Some (record { seed = n; programs = m; calls = k }) = is ∙ rw e refl in
        subst (λ f. MatchOption f (¬ IsMade name words) (HasMade name words)) (sym here)
        (record {
          seed = rs.0.0;
          some = range.0;
          programs = range.1;
          calls = range.2;
          words_are = four ∙ ap (λ w. name ∷ w ∷ p ∷ c ∷ []) rs.0.1 ∙ ap (λ w. name ∷ decimal n ∷ w ∷ c ∷ []) rp.0.1 ∙ ap (λ w. name ∷ decimal n ∷ decimal m ∷ w ∷ []) rc.0.1;
        })
    by_range false e =
        let none : found ≡ None = is ∙ rw e refl in
        subst (λ f. MatchOption f (¬ IsMade name words) (HasMade name words)) (sym none)
        (λ made.
        let same = same_words name s p c (decimal made.0.seed) (decimal made.0.programs) (decimal made.0.calls) (sym four ∙ made.1.words_are) in
        let ms : m ≡ made.0.programs = decimal_injective m made.0.programs rp.0.0 (low made.0.programs most_programs made.1.programs (omega arith)) (sym rp.0.1 ∙ same.1) in
        let ks : k ≡ made.0.calls = decimal_injective k made.0.calls rc.0.0 (low made.0.calls most_calls made.1.calls (omega arith)) (sym rc.0.1 ∙ same.2) in
        let some = made.1.some in
        let few = made.1.programs in
        let short = made.1.calls in
        out_of_range m k e (omega (arith, ms, some)) (omega (arith, ms, few)) (omega (arith, ks, short)))

-- endings

-- the statuses of these commands
abbrev pub IsOne : SinkState → SinkState → ℕ → Type 0
IsOne before after status = (status ≡ 0) ⊎ ((status ≡ 5) × Rose before.faults after.faults) ⊎ (status ≡ 9)

pub make_one : (wanted : Wanted) (before after : SinkState) (e : Ending) → MakeEnds wanted before after e → IsOne before after (status_of e)
make_one wanted before after ending.Told ends = inl refl
make_one wanted before after ending.WriteFault ends = inr (inl (refl, ends.1))
make_one wanted before after ending.NoMemory ends = inr (inr refl)
make_one wanted before after ending.BadWords ends = absurd ends
make_one wanted before after (ending.BadLine n) ends = absurd ends
make_one wanted before after (ending.Illegal line rule) ends = absurd ends
make_one wanted before after ending.ReadFault ends = absurd ends
make_one wanted before after ending.TooLong ends = absurd ends
make_one wanted before after ending.DiskFault ends = absurd ends
make_one wanted before after (ending.Damaged place) ends = absurd ends

pub trial_one : (wanted : Wanted) (before after : SinkState) (e : Ending) → TrialEnds wanted before after e → IsOne before after (status_of e)
trial_one wanted before after ending.Told ends = inl refl
trial_one wanted before after ending.WriteFault (line, trial, front, rose) = inr (inl (refl, rose))
trial_one wanted before after ending.NoMemory ends = inr (inr refl)
trial_one wanted before after ending.BadWords ends = absurd ends
trial_one wanted before after (ending.BadLine n) ends = absurd ends
trial_one wanted before after (ending.Illegal line rule) ends = absurd ends
trial_one wanted before after ending.ReadFault ends = absurd ends
trial_one wanted before after ending.TooLong ends = absurd ends
trial_one wanted before after ending.DiskFault ends = absurd ends
trial_one wanted before after (ending.Damaged place) ends = absurd ends

-- the words were refused
pub made_refused : (name : List ℕ) (Ends : Wanted → SinkState → SinkState → Ending → Type 0) (words : List (List ℕ)) (before after : SinkState) (status : ℕ) → ¬ IsMade name words → status ≡ 2 →
    Tells before after (codes "bad words\n") → MadeOutcome name Ends words before after status
made_refused name Ends words before after status other two told =
    record {
      bad_words = (λ e. other, λ e. two);
      refused = λ e. told;
      ends = λ wanted made. absurd (other (wanted, made));
      complete = λ made. absurd (other made);
    }

-- the words were those of the command
pub made_out : (name : List ℕ) (Ends : Wanted → SinkState → SinkState → Ending → Type 0) (words : List (List ℕ)) (wanted : Wanted) (before after : SinkState) (status : ℕ) (e : Ending) →
    HasMade name words wanted → status ≡ status_of e → Ends wanted before after e → IsOne before after (status_of e) → MadeOutcome name Ends words before after status
made_out name Ends words wanted before after status e made is ends one =
    record {
      bad_words = (λ two. absurd (not_two one (sym is ∙ two)), λ other. absurd (other (wanted, made)));
      refused = λ other. absurd (other (wanted, made));
      ends = λ w m. (e, is, subst (λ x. Ends x before after e) (same_wanted name words wanted w made m) ends);
      complete = λ m calm. subst (λ n. (n ≡ 0) ⊎ (n ≡ 9)) (sym is) (calm_one calm one);
    }
  where
    not_two : IsOne before after (status_of e) → status_of e ≡ 2 → ⊥
    not_two (inl zero) two = omega (arith, zero, two)
    not_two (inr (inl (five, rose))) two = omega (arith, five, two)
    not_two (inr (inr nine)) two = omega (arith, nine, two)

    calm_one : ¬ Rose before.faults after.faults → IsOne before after (status_of e) → (status_of e ≡ 0) ⊎ (status_of e ≡ 9)
    calm_one calm (inl zero) = inl zero
    calm_one calm (inr (inl (five, rose))) = absurd (calm rose)
    calm_one calm (inr (inr nine)) = inr nine

-- the line of a run

if_ok : {A E : Type 0} {P Q : A → Type 0} (r : Result A E) → ((x : A) → P x → Q x) → IfOk r P → IfOk r Q
if_ok (Ok x) h p = h x p
if_ok (Err e) h p = p

program_count_is : (wanted : Wanted) → length (made_script wanted.seed wanted.programs wanted.calls).programs ≡ wanted.programs
program_count_is wanted =
    length-map (numbers_below wanted.programs) (λ pe. made_program pe (words_of_program wanted.seed wanted.calls pe)) ∙ length-range_with_len 0 wanted.programs

-- without a journal the disk refuses nothing
pub no_faults : {D : Type 0} {disk : Ghosts D} (start : State) (first now : Keeper D disk) (course : Course) → first.journal ≡ None → IsKeptRun start first course now → disk_faults (course.history ∷ []) ≡ 0
no_faults {D} {disk} start first now course none run =
    let gone : faults_of now ≡ 0 = still first.journal now.journal none run.leaves in
    let zero : faults_of first ≡ 0 = ap faults_in none in
    let few : disk_faults (course.history ∷ []) + faults_of first ≤ faults_of now = run.faults (omega (arith, gone)) in
    omega (arith, few, gone)
  where
    still : (a b : Option (Journal D disk)) → a ≡ None → LeavesIn (MayBeLeft start course now.stopped) a b → faults_in b ≡ 0
    still None None e leaves = refl
    still None (Some j) e leaves = absurd leaves
    still (Some i) b e leaves = cc

trial_of : (wanted : Wanted) (rows : Rows) (run : Played) (line : List ℕ) → rows ≡ common_rows → IsLawfulScript (made_script wanted.seed wanted.programs wanted.calls) →
    disk_faults (run.service.history ∷ []) ≡ 0 → IsPlayedOut rows (made_script wanted.seed wanted.programs wanted.calls) wanted.seed run → run.whole ≡ true →
    (run.replies.items ≡ reply_lines wanted.programs run.service.history → line ≡ trial_line wanted.seed wanted.programs wanted.calls run.service.history run.service.state) → IsTrial wanted line
trial_of wanted rows run line fresh lawful unrefused out whole told =
    let script = made_script wanted.seed wanted.programs wanted.calls in
    let here : IsPlayedOut common_rows script wanted.seed run = subst (λ r. IsPlayedOut r script wanted.seed run) fresh out in
    record {
      history = run.service.history;
      state = run.service.state;
      played = played wanted.seed common_rows script run.service.history true 0 0 lawful (subst (IsScheduled common_rows script wanted.seed run.service.history) whole here.scheduled)
          (λ low. omega (arith, unrefused));
      reached = here.state whole;
      is = told (here.replies whole ∙ ap (λ n. reply_lines n run.service.history) (program_count_is wanted));
    }

pub trial_told : (wanted : Wanted) (rows : Rows) (script : Script) (run : Played) (history : List Event) (replies : List ReplyLine) (state : State) (line : Result (Vec ℕ Global) NoMemory) →
    rows ≡ common_rows → script ≡ made_script wanted.seed wanted.programs wanted.calls → IsLawfulScript script → disk_faults (run.service.history ∷ []) ≡ 0 → IsPlayedOut rows script wanted.seed run → run.whole ≡ true →
    history ≡ run.service.history → replies ≡ run.replies.items → state ≡ run.service.state →
    IfOk line (λ text. replies ≡ reply_lines wanted.programs history → text.items ≡ trial_line wanted.seed wanted.programs wanted.calls history state) →
    IfOk line (λ text. IsTrial wanted text.items)
trial_told wanted rows script run history replies state line fresh same lawful unrefused out whole h r s told =
    if_ok line
    (λ text of. trial_of wanted rows run text.items fresh (subst IsLawfulScript same lawful) unrefused (subst (λ t. IsPlayedOut rows t wanted.seed run) same out) whole
    (λ lines. of (r ∙ lines ∙ ap (reply_lines wanted.programs) (sym h)) ∙ ap (λ x. trial_line wanted.seed wanted.programs wanted.calls x state) h
    ∙ ap (trial_line wanted.seed wanted.programs wanted.calls run.service.history) s)) told
