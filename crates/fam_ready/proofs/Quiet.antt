-- Events by which no other piece may come than before.
use Rattle.std.proofs.Common.{◌≡◌, ℕ, ◌+◌, ◌≤◌, Bool, true, false, List, [], ◌∷◌, refl, sym, ap, ◌∙◌, arith, subst, inl, inr, le_refl, map}
use Rattle.std.specs.Prelude.{◌&&◌, ◌==◌, ◌⊎◌, not, Option, Some, None, is_some, slice_get, slice_set}
use Rattle.std.specs.Option.{option_map}
use Rattle.std.proofs.lemmas.List.{map-set}
use Rattle.std.proofs.lemmas.Option.{slice_get-map}
use Rattle.fam_base.specs.declared.error.FamError.{FamError}
use Rattle.fam_model.specs.declared.call.Call.{Call}
use Rattle.fam_model.specs.declared.piece.Operation.{Operation}
use Rattle.fam_model.specs.declared.reply.Reply.{Reply}
use Rattle.fam_model.specs.declared.reply.Reply.TheVariants as reply
use Rattle.fam_model.specs.declared.rows.Rows.{Rows}
use Rattle.fam_model.specs.declared.state.Context.{Context}
use Rattle.fam_model.specs.declared.state.ProgramState.{ProgramState}
use Rattle.fam_model.specs.declared.state.Standing.TheVariants as standing
use Rattle.fam_model.specs.declared.state.Started.{Started}
use Rattle.fam_model.specs.declared.state.Started.TheVariants as begun
use Rattle.fam_model.specs.ContextStep.{answer_step, open_step, fence_step, quiet_step, close_step, wait_step, new_context, with_nothing_started}
use Rattle.fam_model.specs.EndStep.{arrive_step, leave_step, crash_step, may_arrive, has_pending}
use Rattle.fam_model.specs.Limits.{Limits}
use Rattle.fam_model.specs.Lists.{◌>>=◌, when, place_of}
use Rattle.fam_model.specs.Operations.{has_left, is_pending, result, report, reported, as_reported}
use Rattle.fam_model.specs.Programs.{is_open, open_context, with_context, with_operation, operation_of, call_number, Placed, placed, with_placed, unreported_copy, counted, has_passed}
use Rattle.fam_model.specs.RefusedStep.{refused_step, would_serve, may_refuse}
use Rattle.fam_model.specs.Same.{same_reply}
use Rattle.fam_program.proofs.Issuing.{set_same}
use Rattle.fam_schedule.proofs.Changes.{found}
use Rattle.fam_schedule.proofs.Options.{bind_some, when_some}
use Rattle.fam_schedule.proofs.Steps.{is_placed, numbered, opened_at, waited, set_none}
use Rattle.fam_ready.proofs.Coming.{first_true, second_true}
use Rattle.fam_ready.proofs.Same.{plain, AreAlike}
use Rattle.fam_ready.proofs.Turns.{IsTold, IsOpened, IsQuiet, Stays, Turns, IsAsBefore, counted_turns, replaced}

more : (n : ℕ) → n ≤ n + 1
more n = omega arith

not_true : (b : Bool) → not b ≡ true → b ≡ false
not_true false e = refl
not_true true e = cc

-- lists

reported_alike : (xs : List Operation) → AreAlike xs (map as_reported xs)
reported_alike [] = refl
reported_alike (x ∷ xs) = ap (λ os. plain x ∷ os) (reported_alike xs)

same_element : (xs : List Operation) (k : ℕ) (x : Operation) → slice_get xs k ≡ Some x → slice_set (map plain xs) k (plain x) ≡ map plain xs
same_element xs k x there = set_same (map plain xs) k (plain x) (plain x) (slice_get-map plain xs k ∙ ap (option_map plain) there) refl

set_alike : (xs : List Operation) (k : ℕ) (x y : Operation) → slice_get xs k ≡ Some x → plain y ≡ plain x → AreAlike xs (slice_set xs k y)
set_alike xs k x y there same = map-set plain xs k y ∙ ap (slice_set (map plain xs) k) same ∙ same_element xs k x there

-- an operation told
told_alike : (x : Context) (u : ℕ) (o : Operation) → operation_of x u ≡ Some o → o.call ≡ u → AreAlike x.operations (with_operation x (as_reported o)).operations
told_alike x u o there number =
    let r = replaced x u o (as_reported o) there number in
    ap (map plain) r.2 ∙ set_alike x.operations r.0 o (as_reported o) r.1 refl

-- each kind of event

quietly : (p q : ProgramState) (c : ℕ) (x y : Context) → slice_get p.contexts c ≡ Some x → p.next_call ≤ q.next_call → q.contexts ≡ slice_set p.contexts c y →
    IsQuiet x y → IsAsBefore p q
quietly p q c x y there h same how = inr (record { number = h; place = c; was = x; now = y; there = there; contexts = same; how = how })

stays_as : (p q : ProgramState) → p.next_call ≤ q.next_call → q.contexts ≡ p.contexts → IsAsBefore p q
stays_as p q h same = inl (record { number = h; contexts = same })

pub answer_turns : (s : Started) (round : ℕ) (p q : ProgramState) (given : Reply) → answer_step s round p given ≡ Some q → IsAsBefore p q
answer_turns begun.Nothing round p q given h = cc
answer_turns (begun.Operation u) round p q given h =
    let new : Placed → ProgramState = λ at. with_nothing_started (with_placed p at (as_reported at.operation)) in
    let test : Placed → Bool = λ at. not (has_left at.operation) && same_reply given (result at.operation) in
    let b = bind_some (placed p u) (λ at. when (test at) (new at)) q h in
    let w = when_some (test b.0) (new b.0) q b.2 in
    let at = is_placed p u b.0 b.1 in
    subst (IsAsBefore p) w.1
    (quietly p (new b.0) b.0.number b.0.context (with_operation b.0.context (as_reported b.0.operation)) at.there (le_refl p.next_call) refl
    (inl (record { operations = told_alike b.0.context u b.0.operation at.operation at.number; epoch = le_refl b.0.context.epoch; closed = inl refl })))
answer_turns (begun.Barrier u) round p q given h =
    let w = when_some (has_passed round p && same_reply given reply.Passed) (with_nothing_started p) q h in
    subst (IsAsBefore p) w.1 (stays_as p (with_nothing_started p) (le_refl p.next_call) refl)

not_open : (p : ProgramState) (c : ℕ) (x : Context) → slice_get p.contexts c ≡ Some x → is_open p c ≡ false → x.is_open ≡ false
not_open p c x there h = by_open x.is_open refl
  where
    by_open : (b : Bool) → x.is_open ≡ b → x.is_open ≡ false
    by_open false e = e
    by_open true e = let yes : is_open p c ≡ true = rw there (rw e refl) in let no : true ≡ false = sym yes ∙ h in cc

pub open_turns : (p q : ProgramState) (c : ℕ) → open_step p c ≡ Some q → IsAsBefore p q
open_turns p q c h =
    let w = when_some (not (is_open p c)) (with_context (counted p) c new_context) q h in
    subst (IsAsBefore p) w.1 (opened_by (slice_get p.contexts c) refl (not_true (is_open p c) w.0))
  where
    opened_by : (o : Option Context) → slice_get p.contexts c ≡ o → is_open p c ≡ false → IsAsBefore p (with_context (counted p) c new_context)
    opened_by (Some x) e closed =
        quietly p (with_context (counted p) c new_context) c x new_context e (more p.next_call) refl
        (inr (record { was = not_open p c x e closed; operations = refl }))
    opened_by None e closed =
        stays_as p (with_context (counted p) c new_context) (more p.next_call) (set_none p.contexts c new_context e)

pub fence_turns : (p q : ProgramState) (c : ℕ) → fence_step p c ≡ Some q → IsAsBefore p q
fence_turns p q c h =
    let y : Context → Context = λ context. record context { epoch = context.epoch + 1 } in
    let b = bind_some (open_context p c) (λ context. Some (with_context (counted p) c (y context))) q h in
    let same : with_context (counted p) c (y b.0) ≡ q = cc in
    subst (IsAsBefore p) same
    (quietly p (with_context (counted p) c (y b.0)) c b.0 (y b.0) (opened_at p c b.0 b.1) (more p.next_call) refl
    (inl (record { operations = refl; epoch = more b.0.epoch; closed = inl refl })))

pub quiet_turns : (p q : ProgramState) (c : ℕ) (given : Reply) → quiet_step p c given ≡ Some q → IsAsBefore p q
quiet_turns p q c given h =
    let test : Context → Bool = λ context. not (is_pending context) && same_reply given (report context) in
    let b = bind_some (open_context p c) (λ context. when (test context) (with_context (counted p) c (reported context))) q h in
    let w = when_some (test b.0) (with_context (counted p) c (reported b.0)) q b.2 in
    subst (IsAsBefore p) w.1
    (quietly p (with_context (counted p) c (reported b.0)) c b.0 (reported b.0) (opened_at p c b.0 b.1) (more p.next_call) refl
    (inl (record { operations = reported_alike b.0.operations; epoch = le_refl b.0.epoch; closed = inl refl })))

pub close_turns : (p q : ProgramState) (c : ℕ) (given : Reply) → close_step p c given ≡ Some q → IsAsBefore p q
close_turns p q c given h =
    let y : Context → Context = λ context. record (reported context) { is_open = false } in
    let test : Context → Bool = λ context. not (c == 0) && not (is_pending context) && same_reply given (report context) in
    let b = bind_some (open_context p c) (λ context. when (test context) (with_context (counted p) c (y context))) q h in
    let w = when_some (test b.0) (with_context (counted p) c (y b.0)) q b.2 in
    let idle : is_pending b.0 ≡ false = middle (not (c == 0)) (is_pending b.0) (same_reply given (report b.0)) w.0 in
    subst (IsAsBefore p) w.1
    (quietly p (with_context (counted p) c (y b.0)) c b.0 (y b.0) (opened_at p c b.0 b.1) (more p.next_call) refl
    (inl (record { operations = reported_alike b.0.operations; epoch = le_refl b.0.epoch; closed = inr idle })))
  where
    middle : (a b c : Bool) → (a && not b && c) ≡ true → b ≡ false
    middle true false c e = refl
    middle true true c e = cc
    middle false b c e = cc

pub wait_turns : (p q : ProgramState) (c named : ℕ) (given : Reply) → wait_step p c named given ≡ Some q → IsAsBefore p q
wait_turns p q c named given h =
    let new : Context → Operation → ProgramState = λ context operation. with_context (counted p) c (with_operation context (as_reported operation)) in
    let test : Operation → Bool = λ operation. not (has_left operation) && same_reply given (result operation) in
    let b = bind_some (slice_get p.contexts c) (λ context. unreported_copy p c named >>= λ operation. when (test operation) (new context operation)) q h in
    let d = bind_some (unreported_copy p c named) (λ operation. when (test operation) (new b.0 operation)) q b.2 in
    let w = when_some (test d.0) (new b.0 d.0) q d.2 in
    let is = waited p c named b.0 d.0 b.1 d.1 in
    subst (IsAsBefore p) w.1
    (quietly p (new b.0 d.0) c b.0 (with_operation b.0 (as_reported d.0)) b.1 (more p.next_call) refl
    (inl (record { operations = told_alike b.0 named d.0 is (numbered b.0 named d.0 is); epoch = le_refl b.0.epoch; closed = inl refl })))

pub arrive_turns : (round : ℕ) (p q : ProgramState) → arrive_step round p ≡ Some q → IsAsBefore p q
arrive_turns round p q h =
    let is : ProgramState = record (counted p) { arrived = Some round; started = begun.Barrier p.next_call } in
    let w = when_some (may_arrive round p) is q h in
    subst (IsAsBefore p) w.1 (stays_as p is (more p.next_call) refl)

pub leave_turns : (p q : ProgramState) → leave_step p ≡ Some q → IsAsBefore p q
leave_turns p q h =
    let is : ProgramState = record (counted p) { standing = standing.Left } in
    let w = when_some (not (has_pending p)) is q h in
    subst (IsAsBefore p) w.1 (stays_as p is (more p.next_call) refl)

pub crash_turns : (p q : ProgramState) → crash_step p ≡ Some q → IsAsBefore p q
crash_turns p q h =
    let is : ProgramState = record (counted p) { standing = standing.Crashed; started = begun.Nothing } in
    let same : is ≡ q = cc in
    subst (IsAsBefore p) same (stays_as p is (more p.next_call) refl)

pub refused_turns : (limits : Limits) (rows : Rows) (round : ℕ) (p q : ProgramState) (asked : Call) (error : FamError) (doubt : Bool) →
    refused_step limits rows round p asked error doubt ≡ Some q → IsAsBefore p q
refused_turns limits rows round p q asked error doubt h =
    let w = when_some (would_serve rows round p asked && may_refuse limits asked error doubt) (counted p) q h in inl (counted_turns p q w.1)
