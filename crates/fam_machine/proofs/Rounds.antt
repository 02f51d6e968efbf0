-- Programs and the rounds of the barrier.
use Rattle.std.proofs.Common.{◌≡◌, ℕ, ◌+◌, ◌<◌, ◌≤◌, List, [], ◌∷◌, Option, Some, None, Bool, true, false, sym, ap, subst, ◌∙◌, refl, arith}
use Rattle.std.specs.Prelude.{◌&&◌, ◌||◌, ◌==◌, nat_lt, not, if◌then◌else◌, All}
use Rattle.std.specs.List.{list_all, list_any}
use Rattle.std.proofs.lemmas.Bool.{false≢true}
use Rattle.std.proofs.lemmas.Bool.Decides.{nat_tests}
use Rattle.std.proofs.lemmas.List.Elements.{All-cons, All-nil, All-head, All-tail}
use Rattle.std.proofs.lemmas.Option.{same_Some}
use Rattle.fam_base.specs.declared.naming.Who.{Who}
use Rattle.fam_model.specs.declared.rows.Rows.{Rows}
use Rattle.fam_model.specs.declared.state.Started.TheVariants as started
use Rattle.fam_model.specs.declared.state.Standing.TheVariants as standing
use Rattle.fam_model.specs.declared.state.ProgramState.{ProgramState}
use Rattle.fam_model.specs.EndStep.{may_arrive, arrive_step, leave_step, crash_step, has_pending}
use Rattle.fam_model.specs.Limits.{number_end, nobody}
use Rattle.fam_model.specs.Lists.{is_some_and}
use Rattle.fam_model.specs.Programs.{is_member, is_running, has_arrived, is_complete, round_after, counted}
use Rattle.fam_model.specs.Turn.{is_next}
use Rattle.fam_machine.specs.Sound.{HoldsSound, IsOnTime, IsSoundProgram}
use Rattle.fam_machine.proofs.Lists.{both_true, when_some}
use Rattle.fam_machine.proofs.Programs.{IsNext}

-- call numbers

-- a call that takes the next number has one more behind it
pub next_bound : (p : ProgramState) (call : ℕ) → is_next p call ≡ true → p.next_call < number_end
next_bound p call e =
    let parts = both_true (call == p.next_call) (nat_lt call number_end) e in
    let same : call ≡ p.next_call = grind (arith, nat_tests, parts.0) in
    let less : call < number_end = grind (arith, nat_tests, parts.1) in
    subst (λ n. n < number_end) same less

-- steps

-- a program that makes a step stays on time
pub on_time_next : (rows : Rows) (round n : ℕ) (p q : ProgramState) → IsOnTime round p → IsNext rows n p q → q.next_call ≤ number_end → IsOnTime round q
on_time_next rows round n p q on_time is_next bound =
    let member : is_member q ≡ is_member p = λ i. is_next.is_local i && is_running (is_next.standing i) in
    let here : has_arrived round q ≡ has_arrived round p = ap (λ o. is_some_and o (λ at. at == round)) is_next.arrived in
    record {
      bound = bound;
      arrived = λ at e. on_time.arrived at (sym is_next.arrived ∙ e);
      passed = λ m. let before = on_time.passed (sym member ∙ m) in let next = is_next.next in omega arith;
      here = λ m h. let before = on_time.here (sym member ∙ m) (sym here ∙ h) in let next = is_next.next in omega arith;
    }

-- a program that made a step is sound
pub program_next : (old new : Rows) (round n : ℕ) (p q : ProgramState) → IsSoundProgram old round p → IsNext new n p q → q.next_call ≤ number_end → IsSoundProgram new round q
program_next old new round n p q sound is_next bound =
    record {
      user = subst (λ (w : Who). w.uid < nobody) (sym is_next.who) sound.user;
      holds = is_next.holds;
      on_time = on_time_next new round n p q sound.on_time is_next bound;
    }

-- rounds

-- each program is on time
abbrev pub AreOnTime : ℕ → List ProgramState → Type 0
AreOnTime round programs = All (IsOnTime round) programs

arrived_above : (round : ℕ) (p : ProgramState) (o : Option ℕ) → p.arrived ≡ o → IsOnTime round p → is_some_and o (λ at. at == round + 1) ≡ true → ⊥
arrived_above round p None e on_time t = false≢true t
arrived_above round p (Some at) e on_time t =
    let same : at ≡ round + 1 = grind (arith, nat_tests) in let early = on_time.arrived at e in omega arith

member_arrived : (member arrived : Bool) → (not member || arrived) ≡ true → member ≡ true → arrived ≡ true
member_arrived true true e t = refl
member_arrived true false e t = absurd (false≢true e)
member_arrived false arrived e t = absurd (false≢true t)

-- a program stays on time where a round ends in which all members have arrived
later : (round : ℕ) (p : ProgramState) → IsOnTime round p → (not (is_member p) || has_arrived round p) ≡ true → IsOnTime (round + 1) p
later round p on_time e =
    record {
      bound = on_time.bound;
      arrived = λ at f. let early = on_time.arrived at f in omega arith;
      passed = λ m. let here = on_time.here m (member_arrived (is_member p) (has_arrived round p) e m) in omega arith;
      here = λ m h. absurd (arrived_above round p p.arrived refl on_time h);
    }

all_later : (round : ℕ) (programs : List ProgramState) → AreOnTime round programs → list_all (λ p. not (is_member p) || has_arrived round p) programs ≡ true → AreOnTime (round + 1) programs
all_later round [] all e = All-nil (IsOnTime (round + 1))
all_later round (p ∷ programs) all e =
    let tests = both_true (not (is_member p) || has_arrived round p) _ e in
    All-cons (IsOnTime (round + 1)) p programs (later round p (All-head (IsOnTime round) p programs all) tests.0)
    (all_later round programs (All-tail (IsOnTime round) p programs all) tests.1)

rounded : (round : ℕ) (programs : List ProgramState) (complete : Bool) → is_complete round programs ≡ complete → AreOnTime round programs → AreOnTime (if complete then round + 1 else round) programs
rounded round programs true e all = all_later round programs all (both_true (list_any (λ p. is_member p && has_arrived round p) programs) (list_all (λ p. not (is_member p) || has_arrived round p) programs) e).1
rounded round programs false e all = all

-- programs are on time in the round that follows
pub on_time_after : (round : ℕ) (programs : List ProgramState) → AreOnTime round programs → AreOnTime (round_after round programs) programs
on_time_after round programs all = rounded round programs (is_complete round programs) refl all

early_or : (round : ℕ) (p : ProgramState) (rest test : Bool) → (is_member p && has_arrived round p) ≡ test → IsOnTime round p → (rest ≡ true → round < number_end) → (test || rest) ≡ true → round < number_end
early_or round p rest true t on_time behind e =
    let tests = both_true (is_member p) (has_arrived round p) t in
    let here = on_time.here tests.0 tests.1 in
    let bound = on_time.bound in
    omega arith
early_or round p rest false t on_time behind e = behind e

early : (round : ℕ) (programs : List ProgramState) → AreOnTime round programs → list_any (λ p. is_member p && has_arrived round p) programs ≡ true → round < number_end
early round [] all e = absurd (false≢true e)
early round (p ∷ programs) all e =
    early_or round p (list_any (λ p. is_member p && has_arrived round p) programs) (is_member p && has_arrived round p) refl
    (All-head (IsOnTime round) p programs all) (early round programs (All-tail (IsOnTime round) p programs all)) e

-- the number of a round that ends can still rise
pub round_bound : (round : ℕ) (programs : List ProgramState) → AreOnTime round programs → is_complete round programs ≡ true → round < number_end
round_bound round programs all e = early round programs all (both_true (list_any (λ p. is_member p && has_arrived round p) programs) (list_all (λ p. not (is_member p) || has_arrived round p) programs) e).0

-- the end of a program

-- a program that has arrived is on time
pub arrive_on_time : (round : ℕ) (p q : ProgramState) → IsOnTime round p → p.next_call < number_end → arrive_step round p ≡ Some q → IsOnTime round q
arrive_on_time round p q on_time less e =
    let may = when_some (may_arrive round p) _ q e in
    let member = (both_true (is_member p) (not (has_arrived round p)) may.0).0 in
    let passed = on_time.passed member in
    subst (IsOnTime round) may.1
    (record {
      bound = omega arith;
      arrived = λ at f. let same = same_Some round at f in omega arith;
      passed = λ m. omega arith;
      here = λ m h. omega arith;
    })

-- a program that is no member any more is on time
ended_on_time : (round : ℕ) (p q : ProgramState) → IsOnTime round p → q.arrived ≡ p.arrived → is_member q ≡ false → q.next_call ≤ number_end → IsOnTime round q
ended_on_time round p q on_time same ended bound =
    record {
      bound = bound;
      arrived = λ at e. on_time.arrived at (sym same ∙ e);
      passed = λ m. absurd (false≢true (sym ended ∙ m));
      here = λ m h. absurd (false≢true (sym ended ∙ m));
    }

not_running : (is_local : Bool) → (is_local && false) ≡ false
not_running true = refl
not_running false = refl

pub leave_on_time : (round : ℕ) (p q : ProgramState) → IsOnTime round p → p.next_call < number_end → leave_step p ≡ Some q → IsOnTime round q
leave_on_time round p q on_time less e =
    let left : ProgramState = record (counted p) { standing = standing.Left } in
    subst (IsOnTime round) (when_some (not (has_pending p)) left q e).1 (ended_on_time round p left on_time refl (not_running p.is_local) (omega arith))

pub crash_on_time : (round : ℕ) (p q : ProgramState) → IsOnTime round p → p.next_call < number_end → crash_step p ≡ Some q → IsOnTime round q
crash_on_time round p q on_time less e =
    let crashed : ProgramState = record (counted p) { standing = standing.Crashed; started = started.Nothing } in
    subst (IsOnTime round) (same_Some crashed q e) (ended_on_time round p crashed on_time refl (not_running p.is_local) (omega arith))

-- what these leave of what a program holds
pub record Keeps (rows : Rows) (p q : ProgramState) : Type 0 where
  pub who : q.who ≡ p.who
  pub holds : HoldsSound rows q

pub arrive_keeps : (rows : Rows) (round : ℕ) (p q : ProgramState) → HoldsSound rows p → arrive_step round p ≡ Some q → Keeps rows p q
arrive_keeps rows round p q holds e =
    subst (Keeps rows p) (when_some (may_arrive round p) _ q e).1 (record { who = refl; holds = record { slots = holds.slots; operations = holds.operations } })

pub leave_keeps : (rows : Rows) (p q : ProgramState) → HoldsSound rows p → leave_step p ≡ Some q → Keeps rows p q
leave_keeps rows p q holds e =
    subst (Keeps rows p) (when_some (not (has_pending p)) _ q e).1 (record { who = refl; holds = record { slots = holds.slots; operations = holds.operations } })

pub crash_keeps : (rows : Rows) (p q : ProgramState) → HoldsSound rows p → crash_step p ≡ Some q → Keeps rows p q
crash_keeps rows p q holds e =
    subst (Keeps rows p) (same_Some _ q e) (record { who = refl; holds = record { slots = holds.slots; operations = holds.operations } })
