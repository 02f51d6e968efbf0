-- Which events a schedule gives.
use Rattle.std.proofs.Common.{◌≡◌, ℕ, Bool, true, false, List, refl, sym, ap, ◌∙◌, inl, inr, subst}
use Rattle.std.specs.Prelude.{◌%◌, ◌==◌, length, slice_get, Option, Some, None, is_some, if◌then◌else◌, ◌⊎◌}
use Rattle.std.specs.Option.{option_map, option_map_or}
use Rattle.rand_pcg.specs.Lcg.{Lcg}
use Rattle.rand_pcg.specs.Pcg.{pcg32}
use Rattle.fam_base.specs.declared.error.FamError.{FamError}
use Rattle.fam_base.specs.declared.error.FamError.TheVariants as error
use Rattle.fam_model.specs.declared.call.Call.{Call}
use Rattle.fam_model.specs.declared.call.Call.TheVariants as call
use Rattle.fam_model.specs.declared.event.Event.{Event}
use Rattle.fam_model.specs.declared.event.What.{What}
use Rattle.fam_model.specs.declared.event.What.TheVariants as what
use Rattle.fam_model.specs.declared.piece.MarkedPiece.{MarkedPiece}
use Rattle.fam_model.specs.declared.piece.PlanKind.{PlanKind}
use Rattle.fam_model.specs.declared.piece.PlanKind.TheVariants as plan
use Rattle.fam_model.specs.declared.piece.PlanPiece.{PlanPiece}
use Rattle.fam_model.specs.declared.reply.PieceAnswer.TheVariants as given
use Rattle.fam_model.specs.declared.rows.ItemRow.{ItemRow}
use Rattle.fam_model.specs.declared.script.Program.{Program as Text}
use Rattle.fam_model.specs.declared.state.Started.{Started}
use Rattle.fam_model.specs.declared.state.Started.TheVariants as begun
use Rattle.fam_model.specs.Directory.{Memory}
use Rattle.fam_model.specs.Earned.{error_of}
use Rattle.fam_model.specs.Rows.{item_of, item_owner}
use Rattle.fam_model.specs.Text.{next_call}
use Rattle.fam_base.specs.Permission.{is_allowed}
use Rattle.fam_base.specs.declared.naming.Who.{Who}
use Rattle.fam_model.specs.declared.reply.Reply.TheVariants as reply
use Rattle.fam_model.specs.declared.rows.Rows.{Rows}
use Rattle.fam_model.specs.declared.script.Script.{Script}
use Rattle.fam_model.specs.declared.service.Service.{Service}
use Rattle.fam_model.specs.declared.state.ProgramState.{ProgramState}
use Rattle.fam_model.specs.Issue.{issue_refusal}
use Rattle.fam_model.specs.Limits.{service_limits}
use Rattle.fam_model.specs.Lists.{◌>>=◌, when}
use Rattle.fam_model.specs.Operations.{result, report}
use Rattle.fam_model.specs.PieceStep.{due_answer, served_answer, bytes_found}
use Rattle.fam_model.specs.Programs.{Placed, placed, program_of, open_context, unreported_copy, request_of}
use Rattle.fam_model.specs.Step.{step}
use Rattle.fam_model.specs.Turn.{call_made}
use Rattle.fam_schedule.specs.Schedule.{Run, Step, Actor, Program, Stripe, PieceName, event_of, event_after, program_event, begins, first_event, due_reply, replies_to, actors, acts, drawn, next_step, taken, with_words, piece_event, loss, is_orphan, ready_on}
use Rattle.fam_schedule.proofs.Options.{bind_some, when_some}

-- the next event of a program
pub record OfProgram (script : Script) (run : Run) (event : Event) : Type 0 where
  pub pe : ℕ
  pub p : ProgramState
  pub there : program_of run.now pe ≡ Some p
  pub next : event_after script run pe p p.started ≡ Some event

-- a piece that is answered as it is due
pub record OfPiece (run : Run) (event : Event) : Type 0 where
  pub name : PieceName
  pub p : ProgramState
  pub at : Placed
  pub left : MarkedPiece
  pub is : event ≡ event_of name.pe name.call (what.Piece name.piece (due_answer run.now.rows run.now.memory p.who at.operation.kind left.piece))

-- a piece that is lost
pub record OfLoss (event : Event) : Type 0 where
  pub name : PieceName
  pub is : event ≡ loss name

-- an event that is due under a schedule
abbrev pub IsDue : Script → Run → Event → Type 0
IsDue script run event = OfProgram script run event ⊎ (OfPiece run event ⊎ OfLoss event)

abbrev the_event : Step → Event
the_event s = s.0

with_words_some : (words : Lcg) (o : Option Event) (s : Step) → with_words words o ≡ Some s → o ≡ Some s.0
with_words_some words None s h = cc
with_words_some words (Some e) s h = let same : Some e ≡ Some s.0 = ap (option_map the_event) h in same

of_piece : (run : Run) (name : PieceName) (event : Event) → piece_event run.now name ≡ Some event → OfPiece run event
of_piece run name event h =
    let made : ProgramState → Placed → MarkedPiece → Event =
    λ p at left. event_of name.pe name.call (what.Piece name.piece (due_answer run.now.rows run.now.memory p.who at.operation.kind left.piece)) in
    let b = bind_some (program_of run.now name.pe)
    (λ p. placed p name.call >>= λ at. slice_get at.operation.pieces name.piece >>= λ left. Some (made p at left)) event h in
    let c = bind_some (placed b.0 name.call) (λ at. slice_get at.operation.pieces name.piece >>= λ left. Some (made b.0 at left)) event b.2 in
    let d = bind_some (slice_get c.0.operation.pieces name.piece) (λ left. Some (made b.0 c.0 left)) event c.2 in
    record { name = name; p = b.0; at = c.0; left = d.0; is = cc }

-- what becomes of a piece that was taken
of_taken : (orphan odd : Bool) (run : Run) (name : PieceName) (words later : Lcg) (s : Step) →
    (if orphan
    then (if odd then Some (loss name, later) else with_words later (piece_event run.now name))
    else with_words words (piece_event run.now name)) ≡ Some s → OfPiece run s.0 ⊎ OfLoss s.0
of_taken true true run name words later s h = let same : Some (loss name) ≡ Some s.0 = ap (option_map the_event) h in inr (record { name = name; is = cc })
of_taken true false run name words later s h = inl (of_piece run name s.0 (with_words_some later (piece_event run.now name) s h))
of_taken false odd run name words later s h = inl (of_piece run name s.0 (with_words_some words (piece_event run.now name) s h))

of_program : (script : Script) (run : Run) (pe : ℕ) (event : Event) → program_event script run pe ≡ Some event → OfProgram script run event
of_program script run pe event h =
    let b = bind_some (program_of run.now pe)
    (λ p. event_after script run pe p p.started >>= λ e. when (is_some (step service_limits run.now e)) e) event h in
    let c = bind_some (event_after script run pe b.0 b.0.started) (λ e. when (is_some (step service_limits run.now e)) e) event b.2 in
    let w = when_some (is_some (step service_limits run.now c.0)) c.0 event c.2 in
    record { pe = pe; p = b.0; there = b.1; next = c.1 ∙ ap Some w.1 }

of_actor : (script : Script) (run : Run) (actor : Actor) (words : Lcg) (s : Step) → acts script run actor words ≡ Some s → IsDue script run s.0
of_actor script run (Program pe) words s h = inl (of_program script run pe s.0 (with_words_some words (program_event script run pe) s h))
of_actor script run (Stripe stripe) words s h =
    let ready = ready_on run.now stripe in
    let choice = drawn (length ready) words in
    let b = bind_some (slice_get ready choice.0) (λ name. taken run.now name choice.1) s h in
    inr (of_taken (is_orphan run.now b.0) ((pcg32 choice.1).0 % 2 == 1) run b.0 choice.1 (pcg32 choice.1).1 s b.2)

-- the event that comes next is the next one of a program, or of a piece
pub comes_next : (script : Script) (run : Run) (s : Step) → next_step script run ≡ Some s → IsDue script run s.0
comes_next script run s h =
    let choice = drawn (length (actors script run)) run.words in
    let b = bind_some (slice_get (actors script run) choice.0) (λ actor. acts script run actor choice.1) s h in
    of_actor script run b.0 choice.1 s b.2

-- errors

-- an error that says nothing of room or of a disk
abbrev pub is_harmless : FamError → Bool
is_harmless (error.HistoryFull used need) = false
is_harmless (error.JournalFull used need) = false
is_harmless error.DiskFault = false
is_harmless _ = true

-- what happened tells no other error
abbrev pub is_tame : What → Bool
is_tame (what.Refused asked e doubt) = false
is_tame made = option_map_or is_harmless (error_of made) true

due_by : (allowed : Bool) (kind : PlanKind) (bytes : List ℕ) (j : ℕ) →
    is_tame (what.Piece j (if allowed then served_answer kind bytes else given.Refused error.NoPermission)) ≡ true
due_by true plan.Get bytes j = refl
due_by true plan.Fetch bytes j = refl
due_by true plan.Put bytes j = refl
due_by true plan.Copy bytes j = refl
due_by false kind bytes j = refl

due_of : (row : Option ItemRow) (allowed : ItemRow → Bool) (kind : PlanKind) (bytes : List ℕ) (j : ℕ) →
    is_tame (what.Piece j (elim row [
      | None ↦ given.Refused error.Absent
      | Some r ↦ if allowed r then served_answer kind bytes else given.Refused error.NoPermission
    ])) ≡ true
due_of None allowed kind bytes j = refl
due_of (Some r) allowed kind bytes j = due_by (allowed r) kind bytes j

due_tame : (rows : Rows) (memory : Memory) (who : Who) (kind : PlanKind) (piece : PlanPiece) (j : ℕ) → is_tame (what.Piece j (due_answer rows memory who kind piece)) ≡ true
unfolding due_answer
due_tame rows memory who kind piece j = due_of (item_of rows piece.item.0) (λ row. is_allowed (item_owner row) row.mode who piece.need) kind (bytes_found memory piece) j

-- the first event of a call makes that call, and tells no such error

abbrev pub Makes : What → Call → Type 0
Makes made asked = (call_made made ≡ Some asked) × (is_tame made ≡ true)

makes_as : (first made : What) (asked : Call) → Some first ≡ Some made → Makes first asked → Makes made asked
makes_as first made asked h m = let same : first ≡ made = cc in subst (λ w. Makes w asked) same m

begins_makes : (rows : Rows) (p : ProgramState) (asked : Call) (made : What) → begins rows p asked ≡ Some made → Makes made asked
begins_makes rows p (call.Meta a) made h =
    let b = bind_some (request_of p a) (λ request. due_reply rows p.who request >>= λ told. Some (what.Meta a told)) made h in
    let c = bind_some (due_reply rows p.who b.0) (λ told. Some (what.Meta a told)) made b.2 in
    makes_as (what.Meta a c.0) made (call.Meta a) c.2 (refl, refl)
begins_makes rows p (call.Data c op blocking) made h = makes_as (what.Issue (call.Data c op blocking) reply.Issued) made (call.Data c op blocking) h (refl, refl)
begins_makes rows p (call.OpenContext c) made h = makes_as (what.OpenContext c) made (call.OpenContext c) h (refl, refl)
begins_makes rows p (call.CloseContext c) made h =
    let b = bind_some (open_context p c) (λ context. Some (what.CloseContext c (report context))) made h in
    makes_as (what.CloseContext c (report b.0)) made (call.CloseContext c) b.2 (refl, refl)
begins_makes rows p (call.CopyWait c named) made h =
    let b = bind_some (unreported_copy p c named) (λ operation. Some (what.Wait c named (result operation))) made h in
    makes_as (what.Wait c named (result b.0)) made (call.CopyWait c named) b.2 (refl, refl)
begins_makes rows p (call.Fence c) made h = makes_as (what.Fence c) made (call.Fence c) h (refl, refl)
begins_makes rows p (call.Quiet c) made h =
    let b = bind_some (open_context p c) (λ context. Some (what.Quiet c (report context))) made h in
    makes_as (what.Quiet c (report b.0)) made (call.Quiet c) b.2 (refl, refl)
begins_makes rows p call.Barrier made h = makes_as what.Arrive made call.Barrier h (refl, refl)
begins_makes rows p call.Leave made h = makes_as what.Leave made call.Leave h (refl, refl)
begins_makes rows p call.Crash made h = makes_as what.Crash made call.Crash h (refl, refl)

first_makes_by : (refusal : Option FamError) (rows : Rows) (p : ProgramState) (asked : Call) (made : What) →
    option_map_or (λ e. Some (what.Issue asked (reply.Error e))) refusal (begins rows p asked) ≡ Some made → Makes made asked
first_makes_by None rows p asked made h = begins_makes rows p asked made h
first_makes_by (Some e) rows p asked made h = makes_as (what.Issue asked (reply.Error e)) made asked h (refl, refl)

pub first_makes : (service : Service) (rows : Rows) (p : ProgramState) (asked : Call) (made : What) → first_event service rows p asked ≡ Some made → Makes made asked
first_makes service rows p asked made h = first_makes_by (issue_refusal service p asked) rows p asked made h

-- no event of a schedule tells such an error

after_tame : (script : Script) (run : Run) (pe : ℕ) (p : ProgramState) (s : Started) (event : Event) → event_after script run pe p s ≡ Some event → is_tame event.what ≡ true
after_tame script run pe p begun.Nothing event h =
    let last : Text → Call → What → Option Event = λ program asked first. Some (event_of pe p.next_call first) in
    let b = bind_some (slice_get script.programs pe)
    (λ program. next_call program (replies_to run.before pe) >>= λ asked. first_event run.now.service run.now.rows p asked >>= last program asked) event h in
    let c = bind_some (next_call b.0 (replies_to run.before pe)) (λ asked. first_event run.now.service run.now.rows p asked >>= last b.0 asked) event b.2 in
    let d = bind_some (first_event run.now.service run.now.rows p c.0) (last b.0 c.0) event c.2 in
    let same : event_of pe p.next_call d.0 ≡ event = cc in
    ap (λ e. is_tame e.what) (sym same) ∙ (first_makes run.now.service run.now.rows p c.0 d.0 d.1).1
after_tame script run pe p (begun.Operation c) event h =
    let b = bind_some (placed p c) (λ at. Some (event_of pe c (what.Answer (result at.operation)))) event h in
    let same : event_of pe c (what.Answer (result b.0.operation)) ≡ event = cc in
    ap (λ e. is_tame e.what) (sym same)
after_tame script run pe p (begun.Barrier c) event h =
    let same : event_of pe c (what.Answer reply.Passed) ≡ event = cc in
    ap (λ e. is_tame e.what) (sym same)

pub comes_tame : (script : Script) (run : Run) (event : Event) → IsDue script run event → is_tame event.what ≡ true
comes_tame script run event (inl o) = after_tame script run o.pe o.p o.p.started event o.next
comes_tame script run event (inr (inl o)) =
    ap (λ e. is_tame e.what) o.is ∙ due_tame run.now.rows run.now.memory o.p.who o.at.operation.kind o.left.piece o.name.piece
comes_tame script run event (inr (inr o)) = ap (λ e. is_tame e.what) o.is
