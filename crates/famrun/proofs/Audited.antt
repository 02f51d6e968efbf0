-- Every ending of an audit is one that its contract allows.
use Rattle.std.proofs.Common.{◌≡◌, ℕ, ◌+◌, ◌<◌, ◌≤◌, List, [], ◌∷◌, ◌++◌, refl, sym, ap, ◌∙◌, arith, inl, inr, ◌⊎◌, length, subst}
use Rattle.std.specs.Prelude.{Option, Some, None, IfSome, codes}
use Rattle.std.specs.Io.KnownBytes.{Consumes}
use Rattle.std.proofs.KnownBytes.{Consumes-nil, Appends-nil}
use Rattle.fam_io.specs.State.{SourceState, SinkState, Moves, MovesUpTo, MovesExactly}
use Rattle.fam_audit.specs.declared.verdict.Verdict.{Verdict}
use Rattle.fam_audit.specs.declared.verdict.Verdict.TheVariants as verdicts
use Rattle.famrun.specs.declared.ending.Ending.{Ending}
use Rattle.famrun.specs.declared.ending.Ending.TheVariants as ending
use Rattle.famrun.specs.Ending.{IsCalm, IsTold, ReadsInput, Tells, input_limit, status_of}
use Rattle.famrun.specs.Auditing.{AuditEnds, AuditOutcome, IsAudit, IsAudited, TellsVerdict, Unjudged}
use Rattle.famrun.proofs.Outcomes.{all_read, consumed, if_some}

-- a verdict that was told
pub verdict_ends : (from to : SourceState) (before after : SinkState) (given : Verdict) (e : Ending) → IsAudited from to given → TellsVerdict given before after e → AuditEnds from to before after e
verdict_ends from to before after (verdicts.Legal events) ending.Told is told = (events, is, told)
verdict_ends from to before after (verdicts.Legal events) ending.WriteFault is (front, rose) = (events, is, front, rose)
verdict_ends from to before after (verdicts.Legal events) ending.NoMemory is told = told
verdict_ends from to before after (verdicts.Legal events) ending.BadWords is told = absurd told
verdict_ends from to before after (verdicts.Legal events) (ending.BadLine n) is told = absurd told
verdict_ends from to before after (verdicts.Legal events) (ending.Illegal line rule) is told = absurd told
verdict_ends from to before after (verdicts.Legal events) ending.ReadFault is told = absurd told
verdict_ends from to before after (verdicts.Legal events) ending.TooLong is told = absurd told
verdict_ends from to before after (verdicts.Legal events) ending.DiskFault is told = absurd told
verdict_ends from to before after (verdicts.Legal events) (ending.Damaged place) is told = absurd told
verdict_ends from to before after (verdicts.Illegal line rule) ending.Told is told = absurd told
verdict_ends from to before after (verdicts.Illegal line rule) ending.WriteFault is told = absurd told
verdict_ends from to before after (verdicts.Illegal line rule) ending.NoMemory is told = told
verdict_ends from to before after (verdicts.Illegal line rule) ending.BadWords is told = absurd told
verdict_ends from to before after (verdicts.Illegal line rule) (ending.BadLine n) is told = absurd told
verdict_ends from to before after (verdicts.Illegal line rule) (ending.Illegal l r) is (same_line, same_rule, told) =
    subst (λ k. AuditEnds from to before after (ending.Illegal k r)) (sym same_line)
    (subst (λ k. AuditEnds from to before after (ending.Illegal line k)) (sym same_rule) (is, told))
verdict_ends from to before after (verdicts.Illegal line rule) ending.ReadFault is told = absurd told
verdict_ends from to before after (verdicts.Illegal line rule) ending.TooLong is told = absurd told
verdict_ends from to before after (verdicts.Illegal line rule) ending.DiskFault is told = absurd told
verdict_ends from to before after (verdicts.Illegal line rule) (ending.Damaged place) is told = absurd told

-- that nothing was judged was told
pub unjudged_ends : (from to : SourceState) (before after : SinkState) (why e : Ending) → Unjudged from to why → IsTold why before after e → AuditEnds from to before after e
unjudged_ends from to before after (ending.BadLine n) ending.Told not told = absurd told
unjudged_ends from to before after (ending.BadLine n) ending.BadWords not told = absurd told
unjudged_ends from to before after (ending.BadLine n) (ending.BadLine m) not (same, told) =
    subst (λ k. AuditEnds from to before after (ending.BadLine k)) (sym same) (not, told)
unjudged_ends from to before after (ending.BadLine n) (ending.Illegal line rule) not told = absurd told
unjudged_ends from to before after (ending.BadLine n) ending.ReadFault not told = absurd told
unjudged_ends from to before after (ending.BadLine n) ending.WriteFault not told = absurd told
unjudged_ends from to before after (ending.BadLine n) ending.NoMemory not told = told
unjudged_ends from to before after (ending.BadLine n) ending.TooLong not told = absurd told
unjudged_ends from to before after (ending.BadLine n) ending.DiskFault not told = absurd told
unjudged_ends from to before after (ending.BadLine n) (ending.Damaged place) not told = absurd told
unjudged_ends from to before after ending.ReadFault ending.Told not told = absurd told
unjudged_ends from to before after ending.ReadFault ending.BadWords not told = absurd told
unjudged_ends from to before after ending.ReadFault (ending.BadLine m) not told = absurd told
unjudged_ends from to before after ending.ReadFault (ending.Illegal line rule) not told = absurd told
unjudged_ends from to before after ending.ReadFault ending.ReadFault not told = (not, told)
unjudged_ends from to before after ending.ReadFault ending.WriteFault not told = absurd told
unjudged_ends from to before after ending.ReadFault ending.NoMemory not told = told
unjudged_ends from to before after ending.ReadFault ending.TooLong not told = absurd told
unjudged_ends from to before after ending.ReadFault ending.DiskFault not told = absurd told
unjudged_ends from to before after ending.ReadFault (ending.Damaged place) not told = absurd told
unjudged_ends from to before after ending.TooLong ending.Told not told = absurd told
unjudged_ends from to before after ending.TooLong ending.BadWords not told = absurd told
unjudged_ends from to before after ending.TooLong (ending.BadLine m) not told = absurd told
unjudged_ends from to before after ending.TooLong (ending.Illegal line rule) not told = absurd told
unjudged_ends from to before after ending.TooLong ending.ReadFault not told = absurd told
unjudged_ends from to before after ending.TooLong ending.WriteFault not told = absurd told
unjudged_ends from to before after ending.TooLong ending.NoMemory not told = told
unjudged_ends from to before after ending.TooLong ending.TooLong not told = (not, told)
unjudged_ends from to before after ending.TooLong ending.DiskFault not told = absurd told
unjudged_ends from to before after ending.TooLong (ending.Damaged place) not told = absurd told
unjudged_ends from to before after ending.NoMemory ending.Told not told = absurd told
unjudged_ends from to before after ending.NoMemory ending.BadWords not told = absurd told
unjudged_ends from to before after ending.NoMemory (ending.BadLine m) not told = absurd told
unjudged_ends from to before after ending.NoMemory (ending.Illegal line rule) not told = absurd told
unjudged_ends from to before after ending.NoMemory ending.ReadFault not told = absurd told
unjudged_ends from to before after ending.NoMemory ending.WriteFault not told = absurd told
unjudged_ends from to before after ending.NoMemory ending.NoMemory not told = told
unjudged_ends from to before after ending.NoMemory ending.TooLong not told = absurd told
unjudged_ends from to before after ending.NoMemory ending.DiskFault not told = absurd told
unjudged_ends from to before after ending.NoMemory (ending.Damaged place) not told = absurd told
unjudged_ends from to before after ending.Told e not told = absurd not
unjudged_ends from to before after ending.BadWords e not told = absurd not
unjudged_ends from to before after (ending.Illegal line rule) e not told = absurd not
unjudged_ends from to before after ending.WriteFault e not told = absurd not
unjudged_ends from to before after ending.DiskFault e not told = absurd not
unjudged_ends from to before after (ending.Damaged place) e not told = absurd not

-- the words were refused
pub audit_refused : (words : List (List ℕ)) (source : SourceState) (before after : SinkState) (status : ℕ) → ¬ IsAudit words → status ≡ 2 → Tells before after (codes "bad words\n") →
    AuditOutcome words source source before after status
audit_refused words source before after status other two told =
    record {
      bad_words = (λ e. other, λ e. two);
      refused = λ e. (refl, told);
      ends = λ is. absurd (other is);
      most = ([], omega arith, record { given = Consumes-nil source.left; kept = Appends-nil source.taken });
      complete = λ is. absurd (other is);
      too_long = λ is. absurd (other is);
    }

module _ (from to : SourceState) (before after : SinkState) (left : List ℕ) (told : from.left ≡ Some left) where
  moved : (bytes : List ℕ) → Moves from to bytes → Consumes (Some left) to.left bytes
  moved bytes moves = subst (λ o. Consumes o to.left bytes) told moves.given

  too_many : MovesExactly from to (input_limit + 1) → input_limit < length left
  too_many (bytes, long, moves) = let far : length bytes ≤ length left = consumed left bytes to.left (moved bytes moves) in omega (arith, far, long)

  -- what was read was not too much
  short : (bytes : List ℕ) → ReadsInput from to bytes → length left ≤ input_limit
  short bytes reads =
      let all : left ≡ bytes = all_read left bytes to.left (moved bytes reads.read) reads.end in
      let within = reads.within in
      subst (λ bs. length bs ≤ input_limit) (sym all) within

  complete : (e : Ending) → AuditEnds from to before after e → IsCalm from to before after → length left ≤ input_limit →
      (status_of e ≡ 0) ⊎ (status_of e ≡ 3) ⊎ (status_of e ≡ 8) ⊎ (status_of e ≡ 9)
  complete ending.Told ends calm low = inl refl
  complete ending.BadWords ends calm low = absurd ends
  complete (ending.BadLine n) ends calm low = inr (inl refl)
  complete (ending.Illegal line rule) ends calm low = inr (inr (inl refl))
  complete ending.ReadFault (rose, line) calm low = absurd (calm.0 rose)
  complete ending.WriteFault (events, is, front, rose) calm low = absurd (calm.1 rose)
  complete ending.NoMemory ends calm low = inr (inr (inr refl))
  complete ending.TooLong (moves, line) calm low = absurd (omega (arith, too_many moves, low))
  complete ending.DiskFault ends calm low = absurd ends
  complete (ending.Damaged place) ends calm low = absurd ends

  too_long : (e : Ending) → AuditEnds from to before after e → IsCalm from to before after → input_limit < length left → (status_of e ≡ 10) ⊎ (status_of e ≡ 9)
  too_long ending.Told (events, (bytes, reads, judged), line) calm long = let low = short bytes reads in absurd (omega (arith, low, long))
  too_long ending.BadWords ends calm long = absurd ends
  too_long (ending.BadLine n) ((bytes, reads, bad), line) calm long = let low = short bytes reads in absurd (omega (arith, low, long))
  too_long (ending.Illegal line rule) ((bytes, reads, judged), text) calm long = let low = short bytes reads in absurd (omega (arith, low, long))
  too_long ending.ReadFault (rose, line) calm long = absurd (calm.0 rose)
  too_long ending.WriteFault (events, is, front, rose) calm long = absurd (calm.1 rose)
  too_long ending.NoMemory ends calm long = inr refl
  too_long ending.TooLong ends calm long = inl refl
  too_long ending.DiskFault ends calm long = absurd ends
  too_long (ending.Damaged place) ends calm long = absurd ends

not_two : (from to : SourceState) (before after : SinkState) (e : Ending) → AuditEnds from to before after e → status_of e ≡ 2 → ⊥
not_two from to before after ending.Told ends two = let t = two in omega (arith, t)
not_two from to before after ending.BadWords ends two = ends
not_two from to before after (ending.BadLine n) ends two = let t = two in omega (arith, t)
not_two from to before after (ending.Illegal line rule) ends two = let t = two in omega (arith, t)
not_two from to before after ending.ReadFault ends two = let t = two in omega (arith, t)
not_two from to before after ending.WriteFault ends two = let t = two in omega (arith, t)
not_two from to before after ending.NoMemory ends two = let t = two in omega (arith, t)
not_two from to before after ending.TooLong ends two = let t = two in omega (arith, t)
not_two from to before after ending.DiskFault ends two = ends
not_two from to before after (ending.Damaged place) ends two = ends

-- the words were those of `audit`
pub audited_out : (words : List (List ℕ)) (from to : SourceState) (before after : SinkState) (status : ℕ) (e : Ending) → IsAudit words → status ≡ status_of e →
    AuditEnds from to before after e → MovesUpTo from to (input_limit + 1) → AuditOutcome words from to before after status
audited_out words from to before after status e audit is ends most =
    record {
      bad_words = (λ two. absurd (not_two from to before after e ends (sym is ∙ two)), λ other. absurd (other audit));
      refused = λ other. absurd (other audit);
      ends = λ a. (e, is, ends);
      most = most;
      complete = λ a calm. if_some from.left (λ bytes. length bytes ≤ input_limit → (status ≡ 0) ⊎ (status ≡ 3) ⊎ (status ≡ 8) ⊎ (status ≡ 9))
          (λ left told low. subst (λ n. (n ≡ 0) ⊎ (n ≡ 3) ⊎ (n ≡ 8) ⊎ (n ≡ 9)) (sym is) (complete from to before after left told e ends calm low));
      too_long = λ a calm. if_some from.left (λ bytes. input_limit < length bytes → (status ≡ 10) ⊎ (status ≡ 9))
          (λ left told long. subst (λ n. (n ≡ 10) ⊎ (n ≡ 9)) (sym is) (too_long from to before after left told e ends calm long));
    }
