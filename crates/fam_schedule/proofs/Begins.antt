-- The first event of a call may come, where no piece is left.
use Rattle.std.proofs.Common.{◌≡◌, ℕ, Bool, true, false, List, [], ◌∷◌, ◌++◌, refl, sym, ap, ◌∙◌}
use Rattle.std.specs.Prelude.{◌==◌, ◌&&◌, not, Option, Some, None, is_some, slice_get, if◌then◌else◌}
use Rattle.std.specs.List.{list_any}
use Rattle.std.specs.Option.{option_map}
use Rattle.fam_base.specs.declared.error.FamError.{FamError}
use Rattle.fam_base.specs.declared.error.FamError.TheVariants.{BadHandle, Unsupported, Exists, Budget}
use Rattle.fam_base.specs.declared.naming.Descriptor.{Descriptor}
use Rattle.fam_model.specs.declared.call.Call.{Call}
use Rattle.fam_model.specs.declared.call.Call.TheVariants as call
use Rattle.fam_model.specs.declared.call.DataOp.{DataOp}
use Rattle.fam_model.specs.declared.call.MetaCall.{MetaCall}
use Rattle.fam_model.specs.declared.event.What.{What}
use Rattle.fam_model.specs.declared.event.What.TheVariants as what
use Rattle.fam_model.specs.declared.piece.Operation.{Operation}
use Rattle.fam_model.specs.declared.reply.Reply.TheVariants as reply
use Rattle.fam_model.specs.declared.state.Context.{Context}
use Rattle.fam_model.specs.declared.state.ProgramState.{ProgramState}
use Rattle.fam_model.specs.declared.script.Program.{Program as Text}
use Rattle.fam_model.specs.declared.script.Script.{Script}
use Rattle.fam_model.specs.declared.state.Standing.TheVariants as standing
use Rattle.fam_model.specs.declared.state.Started.TheVariants as begun
use Rattle.fam_model.specs.declared.state.State.{State}
use Rattle.fam_model.specs.ContextStep.{open_step, fence_step, quiet_step, close_step, wait_step, new_context}
use Rattle.fam_model.specs.Directory.{error_or}
use Rattle.fam_model.specs.EndStep.{arrive_step, leave_step, may_arrive, has_pending}
use Rattle.fam_model.specs.Issue.{issue_refusal, targets, plan_refusals, is_over_budget}
use Rattle.fam_model.specs.IssueStep.{issue_step, issue_with, accepted, with_issued}
use Rattle.fam_model.specs.Limits.{service_limits}
use Rattle.fam_model.specs.Lists.{◌>>=◌, when}
use Rattle.fam_model.specs.MetaStep.{meta_step, may_reply}
use Rattle.fam_model.specs.Operations.{has_left, is_pending, result, report, reported, as_reported}
use Rattle.fam_model.specs.Pieces.{pieces}
use Rattle.fam_model.specs.Programs.{program_of, is_open, open_context, with_context, with_operation, operation_of, call_number, unreported_copy, counted, filled, request_of, is_running}
use Rattle.fam_model.specs.Same.{same_reply}
use Rattle.fam_model.specs.Shape.{is_shaped}
use Rattle.fam_model.specs.Step.{effect, step}
use Rattle.fam_model.specs.Text.{next_call}
use Rattle.fam_model.specs.Turn.{is_in_turn, is_next, is_idle, call_made}
use Rattle.fam_schedule.specs.Schedule.{Run, begins, due_reply, first_event, event_after, event_of, program_event, replies_to}
use Rattle.fam_schedule.proofs.Comes.{first_makes}
use Rattle.fam_schedule.proofs.Finding.{any_at_place}
use Rattle.fam_schedule.proofs.Going.{reply_same, case_none, there_is, has_reply, some_is}
use Rattle.fam_schedule.proofs.Steps.{opened_at, waited}
use Rattle.fam_schedule.proofs.Changes.{found}
use Rattle.fam_model.specs.Lists.{place_of}

-- the program may take such an event
abbrev pub Takes : State → ℕ → ProgramState → What → Type 0
Takes state pe p made = is_some (effect service_limits state pe p p.next_call made) ≡ true

-- the first event of a call, which the program may take
abbrev pub Goes : State → ℕ → ProgramState → Call → Type 0
Goes state pe p asked = (made : What) × (first_event state.service state.rows p asked ≡ Some made) × Takes state pe p made

pub some_map : {A B : Type 0} (f : A → B) (o : Option A) → is_some o ≡ true → is_some (option_map f o) ≡ true
some_map f None h = cc
some_map f (Some x) h = refl

pub some_when : {A : Type 0} (b : Bool) (x : A) → b ≡ true → is_some (when b x) ≡ true
some_when b x e = rw e refl

pub some_bind : {A B : Type 0} (o : Option A) (x : A) (f : A → Option B) → o ≡ Some x → is_some (f x) ≡ true → is_some (o >>= f) ≡ true
some_bind o x f e h = rw e h

pub bind_is : {A B : Type 0} (o : Option A) (x : A) (f : A → Option B) (y : B) → o ≡ Some x → f x ≡ Some y → (o >>= f) ≡ Some y
bind_is o x f y e h = rw e h

pub both_true : (a b : Bool) → a ≡ true → b ≡ true → (a && b) ≡ true
both_true a b e f = rw (e, f) refl

pub not_true : (b : Bool) → b ≡ false → not b ≡ true
not_true b e = rw e refl

pub from_not : (b : Bool) → not b ≡ false → b ≡ true
from_not true e = refl
from_not false e = cc

-- a call that is refused at once
pub refused_goes : (state : State) (pe : ℕ) (p : ProgramState) (asked : Call) (error : FamError) → issue_refusal state.service p asked ≡ Some error → Goes state pe p asked
refused_goes state pe p asked error e = (
  what.Issue asked (reply.Error error),
  rw e refl,
  some_map _ (issue_step state.service p asked (reply.Error error))
      (ap is_some (ap (λ o. issue_with o state.service p asked (reply.Error error)) e) ∙ some_when (same_reply (reply.Error error) (reply.Error error)) (counted p) (reply_same (reply.Error error))),
)

-- a call that is not refused, with its first event
goes_with : (state : State) (pe : ℕ) (p : ProgramState) (asked : Call) (made : What) → issue_refusal state.service p asked ≡ None → begins state.rows p asked ≡ Some made →
    Takes state pe p made → Goes state pe p asked
goes_with state pe p asked made e f takes = (made, rw e f, takes)

-- what is not pending

pub any_false : {A : Type 0} (test : A → Bool) (xs : List A) (k : ℕ) (x : A) → list_any test xs ≡ false → slice_get xs k ≡ Some x → test x ≡ false
any_false test xs k x h there = by_test (test x) refl
  where
    by_test : (b : Bool) → test x ≡ b → test x ≡ false
    by_test false e = e
    by_test true e = let no : true ≡ false = sym (any_at_place test xs k x there e) ∙ h in cc

pub not_pending : (p : ProgramState) (c : ℕ) (context : Context) → has_pending p ≡ false → slice_get p.contexts c ≡ Some context → is_pending context ≡ false
not_pending p c context h there = any_false is_pending p.contexts c context h there

not_left : (context : Context) (call : ℕ) (operation : Operation) → is_pending context ≡ false → operation_of context call ≡ Some operation → has_left operation ≡ false
not_left context call operation h f =
    let place = found context.operations call (place_of call_number call context.operations) operation refl f in
    any_false has_left context.operations place.0 operation h place.2

-- each call

pub opened : (p : ProgramState) (c : ℕ) → not (is_open p c) ≡ false → (context : Context) × (open_context p c ≡ Some context)
opened p c e = some_is (open_context p c) (from_not (is_open p c) e)

pub meta_goes : (state : State) (pe : ℕ) (p : ProgramState) (asked : MetaCall) → issue_refusal state.service p (call.Meta asked) ≡ None → Goes state pe p (call.Meta asked)
meta_goes state pe p asked none =
    let a = case_none (not (is_some (request_of p asked))) BadHandle [] none in
    let request = some_is (request_of p asked) (from_not (is_some (request_of p asked)) a.0) in
    let given = has_reply state.rows p.who request.0 in
    goes_with state pe p (call.Meta asked) (what.Meta asked given.0) none
    (bind_is (request_of p asked) request.0 (λ r. due_reply state.rows p.who r >>= λ g. Some (what.Meta asked g)) (what.Meta asked given.0) request.1
    (bind_is (due_reply state.rows p.who request.0) given.0 (λ g. Some (what.Meta asked g)) (what.Meta asked given.0) given.1 refl))
    (some_map _ (meta_step state.rows p asked given.0)
    (some_bind (request_of p asked) request.0 (λ r. when (may_reply state.rows p.who r given.0) (filled (counted p) asked given.0)) request.1
    (some_when (may_reply state.rows p.who request.0 given.0) (filled (counted p) asked given.0) given.2)))

pub data_goes : (state : State) (pe : ℕ) (p : ProgramState) (c : ℕ) (op : DataOp) (blocking : Bool) → issue_refusal state.service p (call.Data c op blocking) ≡ None →
    Goes state pe p (call.Data c op blocking)
data_goes state pe p c op blocking none =
    let asked = call.Data c op blocking in
    let later : Descriptor × Descriptor → List (Bool × FamError) =
    λ items. plan_refusals op items.0 items.1 ++ (is_over_budget state.service p op items.0 items.1, Budget) ∷ [] in
    let a = case_none (not (is_open p c)) BadHandle (error_or BadHandle (targets p op) later) none in
    let context = opened p c a.0 in
    let items = there_is BadHandle (targets p op) later a.1 in
    let next_of : Context → Descriptor × Descriptor → ProgramState = λ x i. with_issued p c x op blocking (pieces state.service op i.0 i.1) in
    let some_next : is_some (accepted state.service p asked) ≡ true =
    some_bind (open_context p c) context.0 (λ x. targets p op >>= λ i. Some (next_of x i)) context.1
    (some_bind (targets p op) items.0 (λ i. Some (next_of context.0 i)) items.1 refl) in
    let next = some_is (accepted state.service p asked) some_next in
    goes_with state pe p asked (what.Issue asked reply.Issued) none refl
    (some_map _ (issue_step state.service p asked reply.Issued)
    (ap is_some (ap (λ o. issue_with o state.service p asked reply.Issued) none)
    ∙ some_bind (accepted state.service p asked) next.0 (λ q. when (same_reply reply.Issued reply.Issued) q) next.1 (some_when (same_reply reply.Issued reply.Issued) next.0 (reply_same reply.Issued))))

pub open_goes : (state : State) (pe : ℕ) (p : ProgramState) (c : ℕ) → issue_refusal state.service p (call.OpenContext c) ≡ None → Goes state pe p (call.OpenContext c)
open_goes state pe p c none =
    let a = case_none (is_open p c) Exists [] none in
    goes_with state pe p (call.OpenContext c) (what.OpenContext c) none refl
    (some_map _ (open_step p c) (some_when (not (is_open p c)) (with_context (counted p) c new_context) (not_true (is_open p c) a.0)))

pub fence_goes : (state : State) (pe : ℕ) (p : ProgramState) (c : ℕ) → issue_refusal state.service p (call.Fence c) ≡ None → Goes state pe p (call.Fence c)
fence_goes state pe p c none =
    let a = case_none (not (is_open p c)) BadHandle [] none in
    let context = opened p c a.0 in
    goes_with state pe p (call.Fence c) (what.Fence c) none refl (some_map _ (fence_step p c) (rw context.1 refl))

quiet_goes : (state : State) (pe : ℕ) (p : ProgramState) (c : ℕ) → has_pending p ≡ false → issue_refusal state.service p (call.Quiet c) ≡ None → Goes state pe p (call.Quiet c)
quiet_goes state pe p c quiet none =
    let a = case_none (not (is_open p c)) BadHandle [] none in
    let context = opened p c a.0 in
    let over : is_pending context.0 ≡ false = not_pending p c context.0 quiet (opened_at p c context.0 context.1) in
    let test = both_true (not (is_pending context.0)) (same_reply (report context.0) (report context.0)) (not_true (is_pending context.0) over) (reply_same (report context.0)) in
    goes_with state pe p (call.Quiet c) (what.Quiet c (report context.0)) none
    (bind_is (open_context p c) context.0 (λ x. Some (what.Quiet c (report x))) (what.Quiet c (report context.0)) context.1 refl)
    (some_map _ (quiet_step p c (report context.0))
    (some_bind (open_context p c) context.0 (λ x. when (not (is_pending x) && same_reply (report context.0) (report x)) (with_context (counted p) c (reported x))) context.1
    (some_when (not (is_pending context.0) && same_reply (report context.0) (report context.0)) (with_context (counted p) c (reported context.0)) test)))

close_goes : (state : State) (pe : ℕ) (p : ProgramState) (c : ℕ) → has_pending p ≡ false → issue_refusal state.service p (call.CloseContext c) ≡ None → Goes state pe p (call.CloseContext c)
close_goes state pe p c quiet none =
    let a = case_none (c == 0) Unsupported ((not (is_open p c), BadHandle) ∷ []) none in
    let b = case_none (not (is_open p c)) BadHandle [] a.1 in
    let context = opened p c b.0 in
    let over : is_pending context.0 ≡ false = not_pending p c context.0 quiet (opened_at p c context.0 context.1) in
    let y : Context → Context = λ x. record (reported x) { is_open = false } in
    let test = both_true (not (c == 0) && not (is_pending context.0)) (same_reply (report context.0) (report context.0))
    (both_true (not (c == 0)) (not (is_pending context.0)) (not_true (c == 0) a.0) (not_true (is_pending context.0) over)) (reply_same (report context.0)) in
    goes_with state pe p (call.CloseContext c) (what.CloseContext c (report context.0)) none
    (bind_is (open_context p c) context.0 (λ x. Some (what.CloseContext c (report x))) (what.CloseContext c (report context.0)) context.1 refl)
    (some_map _ (close_step p c (report context.0))
    (some_bind (open_context p c) context.0 (λ x. when (not (c == 0) && not (is_pending x) && same_reply (report context.0) (report x)) (with_context (counted p) c (y x))) context.1
    (some_when (not (c == 0) && not (is_pending context.0) && same_reply (report context.0) (report context.0)) (with_context (counted p) c (y context.0)) test)))

wait_goes : (state : State) (pe : ℕ) (p : ProgramState) (c named : ℕ) → has_pending p ≡ false → issue_refusal state.service p (call.CopyWait c named) ≡ None → Goes state pe p (call.CopyWait c named)
wait_goes state pe p c named quiet none =
    let a = case_none (not (is_open p c)) BadHandle ((not (is_some (unreported_copy p c named)), BadHandle) ∷ []) none in
    let b = case_none (not (is_some (unreported_copy p c named))) BadHandle [] a.1 in
    let context = opened p c a.0 in
    let there = opened_at p c context.0 context.1 in
    let copy = some_is (unreported_copy p c named) (from_not (is_some (unreported_copy p c named)) b.0) in
    let over : has_left copy.0 ≡ false = not_left context.0 named copy.0 (not_pending p c context.0 quiet there) (waited p c named context.0 copy.0 there copy.1) in
    let test : Operation → Bool = λ o. not (has_left o) && same_reply (result copy.0) (result o) in
    let new : Context → Operation → ProgramState = λ x o. with_context (counted p) c (with_operation x (as_reported o)) in
    goes_with state pe p (call.CopyWait c named) (what.Wait c named (result copy.0)) none
    (bind_is (unreported_copy p c named) copy.0 (λ o. Some (what.Wait c named (result o))) (what.Wait c named (result copy.0)) copy.1 refl)
    (some_map _ (wait_step p c named (result copy.0))
    (some_bind (slice_get p.contexts c) context.0 (λ x. unreported_copy p c named >>= λ o. when (test o) (new x o)) there
    (some_bind (unreported_copy p c named) copy.0 (λ o. when (test o) (new context.0 o)) copy.1
    (some_when (test copy.0) (new context.0 copy.0) (both_true (not (has_left copy.0)) (same_reply (result copy.0) (result copy.0)) (not_true (has_left copy.0) over) (reply_same (result copy.0)))))))

barrier_goes : (state : State) (pe : ℕ) (p : ProgramState) → may_arrive state.round p ≡ true → Goes state pe p call.Barrier
barrier_goes state pe p may =
    goes_with state pe p call.Barrier what.Arrive refl refl
    (some_map _ (arrive_step state.round p) (some_when (may_arrive state.round p) (record (counted p) { arrived = Some state.round; started = begun.Barrier p.next_call }) may))

leave_goes : (state : State) (pe : ℕ) (p : ProgramState) → has_pending p ≡ false → Goes state pe p call.Leave
leave_goes state pe p quiet =
    goes_with state pe p call.Leave what.Leave refl refl
    (some_map _ (leave_step p) (some_when (not (has_pending p)) (record (counted p) { standing = standing.Left }) (not_true (has_pending p) quiet)))

pub crash_goes : (state : State) (pe : ℕ) (p : ProgramState) → Goes state pe p call.Crash
crash_goes state pe p = goes_with state pe p call.Crash what.Crash refl refl refl

served_goes : (state : State) (pe : ℕ) (p : ProgramState) (asked : Call) → has_pending p ≡ false → may_arrive state.round p ≡ true → issue_refusal state.service p asked ≡ None → Goes state pe p asked
served_goes state pe p (call.Meta a) quiet may none = meta_goes state pe p a none
served_goes state pe p (call.Data c op blocking) quiet may none = data_goes state pe p c op blocking none
served_goes state pe p (call.OpenContext c) quiet may none = open_goes state pe p c none
served_goes state pe p (call.CloseContext c) quiet may none = close_goes state pe p c quiet none
served_goes state pe p (call.CopyWait c named) quiet may none = wait_goes state pe p c named quiet none
served_goes state pe p (call.Fence c) quiet may none = fence_goes state pe p c none
served_goes state pe p (call.Quiet c) quiet may none = quiet_goes state pe p c quiet none
served_goes state pe p call.Barrier quiet may none = barrier_goes state pe p may
served_goes state pe p call.Leave quiet may none = leave_goes state pe p quiet
served_goes state pe p call.Crash quiet may none = crash_goes state pe p

goes_by : (o : Option FamError) (state : State) (pe : ℕ) (p : ProgramState) (asked : Call) → issue_refusal state.service p asked ≡ o → has_pending p ≡ false → may_arrive state.round p ≡ true → Goes state pe p asked
goes_by (Some error) state pe p asked e quiet may = refused_goes state pe p asked error e
goes_by None state pe p asked e quiet may = served_goes state pe p asked quiet may e

-- a program that has nothing pending and may arrive can take the first event of any call
pub goes : (state : State) (pe : ℕ) (p : ProgramState) (asked : Call) → has_pending p ≡ false → may_arrive state.round p ≡ true → Goes state pe p asked
goes state pe p asked quiet may = goes_by (issue_refusal state.service p asked) state pe p asked refl quiet may

-- and it stands in turn

in_turn_by : (p : ProgramState) (asked : Call) (made : What) → call_made made ≡ Some asked → is_running p.standing ≡ true → is_next p p.next_call ≡ true → is_idle p.started ≡ true → is_shaped asked ≡ true →
    is_in_turn p p.next_call made ≡ true
in_turn_by p asked (what.Meta a given) e r n i s = let same : call.Meta a ≡ asked = cc in rw (r, n, i) (ap is_shaped same ∙ s)
in_turn_by p asked (what.Issue a given) e r n i s = let same : a ≡ asked = cc in rw (r, n, i) (ap is_shaped same ∙ s)
in_turn_by p asked (what.Piece j given) e r n i s = refl
in_turn_by p asked (what.Answer given) e r n i s = cc
in_turn_by p asked (what.OpenContext c) e r n i s = let same : call.OpenContext c ≡ asked = cc in rw (r, n, i) (ap is_shaped same ∙ s)
in_turn_by p asked (what.CloseContext c given) e r n i s = let same : call.CloseContext c ≡ asked = cc in rw (r, n, i) (ap is_shaped same ∙ s)
in_turn_by p asked (what.Fence c) e r n i s = let same : call.Fence c ≡ asked = cc in rw (r, n, i) (ap is_shaped same ∙ s)
in_turn_by p asked (what.Quiet c given) e r n i s = let same : call.Quiet c ≡ asked = cc in rw (r, n, i) (ap is_shaped same ∙ s)
in_turn_by p asked (what.Wait c named given) e r n i s = let same : call.CopyWait c named ≡ asked = cc in rw (r, n, i) (ap is_shaped same ∙ s)
in_turn_by p asked what.Arrive e r n i s = rw (r, n, i) refl
in_turn_by p asked what.Leave e r n i s = rw (r, n, i) refl
in_turn_by p asked what.Crash e r n i s = rw (r, n) refl
in_turn_by p asked (what.Lose j) e r n i s = refl
in_turn_by p asked (what.Refused a error doubt) e r n i s = let same : a ≡ asked = cc in rw (r, n, i) (ap is_shaped same ∙ s)

pub if_true : {A : Type 0} (b : Bool) (o : Option A) → b ≡ true → (if b then o else None) ≡ o
if_true b o e = rw e refl

-- a running program with nothing started whose next call is this one has an event that may come
pub has_event : (script : Script) (run : Run) (pe : ℕ) (p : ProgramState) (text : Text) (asked : Call) → program_of run.now pe ≡ Some p → slice_get script.programs pe ≡ Some text →
    p.started ≡ begun.Nothing → next_call text (replies_to run.before pe) ≡ Some asked → is_running p.standing ≡ true → is_next p p.next_call ≡ true → is_shaped asked ≡ true →
    has_pending p ≡ false → may_arrive run.now.round p ≡ true → is_some (program_event script run pe) ≡ true
has_event script run pe p text asked there text_there idle due running number shaped quiet may =
    let g = goes run.now pe p asked quiet may in
    let event = event_of pe p.next_call g.0 in
    let made = (first_makes run.now.service run.now.rows p asked g.0 g.1).0 in
    let idle_test : is_idle p.started ≡ true = ap is_idle idle in
    let turn = in_turn_by p asked g.0 made running number idle_test shaped in
    let takes : step service_limits run.now event ≡ effect service_limits run.now pe p p.next_call g.0 =
    bind_to (program_of run.now pe) p (λ q. if is_in_turn q p.next_call g.0 then effect service_limits run.now pe q p.next_call g.0 else None) there
    ∙ if_true (is_in_turn p p.next_call g.0) (effect service_limits run.now pe p p.next_call g.0) turn in
    let may_come : is_some (step service_limits run.now event) ≡ true = ap is_some takes ∙ g.2 in
    let chosen : event_after script run pe p begun.Nothing ≡ Some event =
    bind_is (slice_get script.programs pe) text
    (λ program. next_call program (replies_to run.before pe) >>= λ a. first_event run.now.service run.now.rows p a >>= λ first. Some (event_of pe p.next_call first)) event text_there
    (bind_is (next_call text (replies_to run.before pe)) asked (λ a. first_event run.now.service run.now.rows p a >>= λ first. Some (event_of pe p.next_call first)) event due
    (bind_is (first_event run.now.service run.now.rows p asked) g.0 (λ first. Some (event_of pe p.next_call first)) event g.1 refl)) in
    let chosen_by : event_after script run pe p p.started ≡ Some event = ap (event_after script run pe p) idle ∙ chosen in
    some_bind (program_of run.now pe) p (λ q. event_after script run pe q q.started >>= λ e. when (is_some (step service_limits run.now e)) e) there
    (some_bind (event_after script run pe p p.started) event (λ e. when (is_some (step service_limits run.now e)) e) chosen_by (some_when (is_some (step service_limits run.now event)) event may_come))
  where
    bind_to : {A B : Type 0} (o : Option A) (x : A) (f : A → Option B) → o ≡ Some x → (o >>= f) ≡ f x
    bind_to o x f e = rw e refl
