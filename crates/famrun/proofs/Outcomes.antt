-- Every ending of a simulation is one that its contract allows.
use Rattle.std.proofs.Common.{◌≡◌, ℕ, ◌+◌, ◌<◌, ◌≤◌, List, [], ◌∷◌, ◌++◌, refl, sym, ap, ◌∙◌, arith, inl, inr, ◌⊎◌, length, length-append, append-nil, subst}
use Rattle.std.specs.Prelude.{Option, Some, None, IfSome, codes, ◌≢◌, Ok, Err}
use Rattle.std.specs.Fmt.{decimal}
use Rattle.std.proofs.lemmas.Fmt.{decimal_injective}
use Rattle.std.specs.Io.KnownBytes.{Consumes, IsAtEnd}
use Rattle.std.proofs.KnownBytes.{Consumes-nil, Appends-nil}
use Rattle.fam_io.specs.State.{SourceState, SinkState, Moves, MovesUpTo, MovesExactly}
use Rattle.fam_model.specs.declared.event.Event.{Event}
use Rattle.fam_model.specs.declared.script.Script.{Script}
use Rattle.fam_model.specs.Grammar.{IsScript}
use Rattle.fam_model.specs.Limits.{service_limits}
use Rattle.fam_model.specs.declared.rows.Rows.{Rows}
use Rattle.fam_disk.specs.Crash.{DiskState}
use Rattle.meta_journal.specs.Reading.{journal}
use Rattle.famrun.specs.OverDisk.{ReadsRows}
use Rattle.famrun.specs.declared.ending.Ending.{Ending}
use Rattle.famrun.specs.declared.ending.Ending.TheVariants as ending
use Rattle.famrun.specs.Ending.{IsDamagedOrNot, IsRunOrNot, IsSim, HasSeed, ReadsScript, ReadsBadLine, SimEnds, SimOutcome, IsCalm, Tells, input_limit, status_of}

-- the words were refused
pub refused : {D : Type 0} (state : D → DiskState) (words : List (List ℕ)) (source : SourceState) (before after : SinkState) (disk : D) (status : ℕ) (history : List Event) → ¬ IsSim words → status ≡ 2 → history ≡ [] →
    Tells before after (codes "bad words\n") → SimOutcome state words source source before after disk disk status history
refused state words source before after disk status history other two nothing told =
    record {
      bad_words = (λ e. other, λ e. two);
      refused = λ e. (refl, nothing, refl, told);
      ends = λ sim. absurd (other sim);
      most = ([], omega arith, record { given = Consumes-nil source.left; kept = Appends-nil source.taken });
      complete = λ sim. absurd (other sim);
      damaged = λ sim. absurd (other sim);
      no_script = λ sim. absurd (other sim);
      too_long = λ sim. absurd (other sim);
    }

-- what was consumed is a front of what was left
pub consumed : (left bytes : List ℕ) (rest : Option (List ℕ)) → Consumes (Some left) rest bytes → length bytes ≤ length left
consumed left bytes None h = absurd h
consumed left bytes (Some ys) h = omega (arith, length-append bytes ys, ap length h)

-- and all of it at the end
pub all_read : (left bytes : List ℕ) (rest : Option (List ℕ)) → Consumes (Some left) rest bytes → IsAtEnd rest → left ≡ bytes
all_read left bytes None h end = absurd h
all_read left bytes (Some ys) h end = h ∙ ap (λ xs. bytes ++ xs) end ∙ append-nil bytes

-- what holds of the value, if there is one
pub if_some : {A : Type 0} → (o : Option A) (P : A → Type 0) → ((x : A) → o ≡ Some x → P x) → IfSome o P
if_some None P h = tt
if_some (Some x) P h = h x refl

-- a simulation never says that the words are bad
not_two : {D : Type 0} (state : D → DiskState) (seed : ℕ) (from to : SourceState) (before after : SinkState) (old new : D) (history : List Event) (e : Ending) →
    SimEnds state seed from to before after old new history e → status_of e ≢ 2
not_two state seed from to before after old new history ending.Told ends two = let t = two in omega (arith, t)
not_two state seed from to before after old new history ending.BadWords ends two = ends
not_two state seed from to before after old new history (ending.BadLine n) ends two = let t = two in omega (arith, t)
not_two state seed from to before after old new history (ending.Illegal line rule) ends two = ends
not_two state seed from to before after old new history ending.ReadFault ends two = let t = two in omega (arith, t)
not_two state seed from to before after old new history ending.WriteFault ends two = let t = two in omega (arith, t)
not_two state seed from to before after old new history ending.DiskFault ends two = let t = two in omega (arith, t)
not_two state seed from to before after old new history (ending.Damaged place) ends two = let t = two in omega (arith, t)
not_two state seed from to before after old new history ending.NoMemory ends two = let t = two in omega (arith, t)
not_two state seed from to before after old new history ending.TooLong ends two = let t = two in omega (arith, t)

module _ {D : Type 0} (state : D → DiskState) (seed : ℕ) (from to : SourceState) (before after : SinkState) (old new : D) (history : List Event) (left : List ℕ) (told : from.left ≡ Some left) where
  abbrev Ends : Ending → Type 0
  Ends e = SimEnds state seed from to before after old new history e

  moved : (bytes : List ℕ) → Moves from to bytes → Consumes (Some left) to.left bytes
  moved bytes moves = subst (λ o. Consumes o to.left bytes) told moves.given

  -- a script that was read is all that was left
  script_is : (script : Script) → ReadsScript from to script → IsScript left script × (length left ≤ input_limit)
  script_is script reads =
      let all = all_read left reads.bytes to.left (moved reads.bytes reads.read) reads.end in
      let within = reads.within in
      (subst (λ bytes. IsScript bytes script) (sym all) reads.is_script, subst (λ bytes. length bytes ≤ input_limit) (sym all) within)

  bad_line_is : (n : ℕ) → ReadsBadLine from to n → ((script : Script) → ¬ IsScript left script) × (length left ≤ input_limit)
  bad_line_is n reads =
      let all = all_read left reads.bytes to.left (moved reads.bytes reads.read) reads.end in
      (subst (λ bytes. (script : Script) → ¬ IsScript bytes script) (sym all) reads.is_bad.no_script, subst (λ bytes. length bytes ≤ input_limit) (sym all) reads.within)

  too_many : MovesExactly from to (input_limit + 1) → input_limit < length left
  too_many (bytes, long, moves) = let far : length bytes ≤ length left = consumed left bytes to.left (moved bytes moves) in omega (arith, far, long)

  complete : (e : Ending) → Ends e → IsCalm from to before after → length left ≤ input_limit → (script : Script) → IsScript left script →
      IsRunOrNot (state old) (state new) (status_of e)
  complete ending.Told ends calm short script is = inl refl
  complete ending.BadWords ends calm short script is = absurd ends
  complete (ending.BadLine n) (reads, rest, same, line) calm short script is = absurd ((bad_line_is n reads).0 script is)
  complete (ending.Illegal line rule) ends calm short script is = absurd ends
  complete ending.ReadFault (rose, rest, same, line) calm short script is = absurd (calm.0 rose)
  complete ending.WriteFault (played, rows, runs, front, rose) calm short script is = absurd (calm.1 rose)
  complete ending.DiskFault (unopened, rose, line) calm short script is = inr (inr (inl (refl, rose)))
  complete (ending.Damaged place) (unopened, at, line) calm short script is = inr (inr (inr (refl, (place, at))))
  complete ending.NoMemory ends calm short script is = inr (inl refl)
  complete ending.TooLong (moves, rest, same, line) calm short script is = absurd (omega (arith, too_many moves, short))

  -- a journal that is damaged has no rows
  no_rows : (rows : Rows) (read : List ℕ) (place : ℕ) → (state old).content ≡ Some read → journal service_limits.journal read ≡ Err place → ReadsRows (state old) rows → ⊥
  no_rows rows read place content damaged reads =
      let has = reads read content in
      let no : Ok has.0 ≡ Err place = sym has.1 ∙ damaged in cc

  damaged : (e : Ending) → Ends e → IsCalm from to before after → length left ≤ input_limit → (script : Script) → IsScript left script → (read : List ℕ) (place : ℕ) →
      (state old).content ≡ Some read → journal service_limits.journal read ≡ Err place → IsDamagedOrNot (state old) (state new) (status_of e)
  damaged ending.Told (script', rows, runs, rest) calm short script is read place content broken = absurd (no_rows rows read place content broken runs.runs.opens.reads)
  damaged ending.BadWords ends calm short script is read place content broken = absurd ends
  damaged (ending.BadLine n) (reads, rest, same, line) calm short script is read place content broken = absurd ((bad_line_is n reads).0 script is)
  damaged (ending.Illegal line rule) ends calm short script is read place content broken = absurd ends
  damaged ending.ReadFault (rose, rest, same, line) calm short script is read place content broken = absurd (calm.0 rose)
  damaged ending.WriteFault (played, rows, runs, front, rose) calm short script is read place content broken = absurd (calm.1 rose)
  damaged ending.DiskFault (unopened, rose, line) calm short script is read place content broken = inr (inr (refl, rose))
  damaged (ending.Damaged at) ends calm short script is read place content broken = inl refl
  damaged ending.NoMemory ends calm short script is read place content broken = inr (inl refl)
  damaged ending.TooLong (moves, rest, same, line) calm short script is read place content broken = absurd (omega (arith, too_many moves, short))

  no_script : (e : Ending) → Ends e → IsCalm from to before after → length left ≤ input_limit → ((script : Script) → ¬ IsScript left script) →
      (status_of e ≡ 3) ⊎ (status_of e ≡ 9)
  no_script ending.Told (script, rows, runs, rest) calm short other = absurd (other script (script_is script runs.reads).0)
  no_script ending.BadWords ends calm short other = absurd ends
  no_script (ending.BadLine n) ends calm short other = inl refl
  no_script (ending.Illegal line rule) ends calm short other = absurd ends
  no_script ending.ReadFault (rose, rest, same, line) calm short other = absurd (calm.0 rose)
  no_script ending.WriteFault (played, rows, runs, front, rose) calm short other = absurd (calm.1 rose)
  no_script ending.DiskFault (unopened, rose, line) calm short other = absurd (other unopened.script (script_is unopened.script unopened.reads).0)
  no_script (ending.Damaged place) (unopened, at, line) calm short other = absurd (other unopened.script (script_is unopened.script unopened.reads).0)
  no_script ending.NoMemory ends calm short other = inr refl
  no_script ending.TooLong (moves, rest, same, line) calm short other = absurd (omega (arith, too_many moves, short))

  too_long : (e : Ending) → Ends e → IsCalm from to before after → input_limit < length left → (status_of e ≡ 10) ⊎ (status_of e ≡ 9)
  too_long ending.Told (script, rows, runs, rest) calm long = let short = (script_is script runs.reads).1 in absurd (omega (arith, short, long))
  too_long ending.BadWords ends calm long = absurd ends
  too_long (ending.BadLine n) (reads, rest, same, line) calm long = let short = (bad_line_is n reads).1 in absurd (omega (arith, short, long))
  too_long (ending.Illegal line rule) ends calm long = absurd ends
  too_long ending.ReadFault (rose, rest, same, line) calm long = absurd (calm.0 rose)
  too_long ending.WriteFault (played, rows, runs, front, rose) calm long = absurd (calm.1 rose)
  too_long ending.DiskFault (unopened, rose, line) calm long = let short = (script_is unopened.script unopened.reads).1 in absurd (omega (arith, short, long))
  too_long (ending.Damaged place) (unopened, at, line) calm long = let short = (script_is unopened.script unopened.reads).1 in absurd (omega (arith, short, long))
  too_long ending.NoMemory ends calm long = inr refl
  too_long ending.TooLong ends calm long = inl refl

-- the words have one seed
same_words : (a b : List ℕ) → codes "sim" ∷ a ∷ [] ≡ codes "sim" ∷ b ∷ [] → a ≡ b
same_words a b e = cc

same_seed : (words : List (List ℕ)) (n m : ℕ) → HasSeed words n → HasSeed words m → n ≡ m
same_seed words n m a b = decimal_injective n m a.low b.low (same_words (decimal n) (decimal m) (sym a.words_are ∙ b.words_are))

-- the words were those of `sim`
pub played_out : {D : Type 0} (state : D → DiskState) (words : List (List ℕ)) (seed : ℕ) (from to : SourceState) (before after : SinkState) (old new : D) (status : ℕ) (history : List Event) (e : Ending) →
    HasSeed words seed → status ≡ status_of e → SimEnds state seed from to before after old new history e → MovesUpTo from to (input_limit + 1) →
    SimOutcome state words from to before after old new status history
played_out state words seed from to before after old new status history e sim is ends most =
    record {
      bad_words = (λ two. absurd (not_two state seed from to before after old new history e ends (sym is ∙ two)), λ other. absurd (other (seed, sim)));
      refused = λ other. absurd (other (seed, sim));
      ends = λ s. (e, is, subst (λ n. SimEnds state n from to before after old new history e) (same_seed words seed s.0 sim s.1) ends);
      most = most;
      complete = λ s calm. if_some from.left (λ bytes. length bytes ≤ input_limit → (script : Script) → IsScript bytes script → IsRunOrNot (state old) (state new) status)
          (λ left told short script text. subst (IsRunOrNot (state old) (state new)) (sym is) (complete state seed from to before after old new history left told e ends calm short script text));
      damaged = λ s calm. if_some from.left
          (λ bytes. length bytes ≤ input_limit → (script : Script) → IsScript bytes script → (read : List ℕ) (place : ℕ) → (state old).content ≡ Some read → journal service_limits.journal read ≡ Err place →
          IsDamagedOrNot (state old) (state new) status)
          (λ left told short script text read place content broken.
          subst (IsDamagedOrNot (state old) (state new)) (sym is) (damaged state seed from to before after old new history left told e ends calm short script text read place content broken));
      no_script = λ s calm. if_some from.left (λ bytes. length bytes ≤ input_limit → ((script : Script) → ¬ IsScript bytes script) → (status ≡ 3) ⊎ (status ≡ 9))
          (λ left told short other. subst (λ n. (n ≡ 3) ⊎ (n ≡ 9)) (sym is) (no_script state seed from to before after old new history left told e ends calm short other));
      too_long = λ s calm. if_some from.left (λ bytes. input_limit < length bytes → (status ≡ 10) ⊎ (status ≡ 9))
          (λ left told long. subst (λ n. (n ≡ 10) ⊎ (n ≡ 9)) (sym is) (too_long state seed from to before after old new history left told e ends calm long));
    }
