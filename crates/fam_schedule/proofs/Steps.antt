-- Each step of the machine keeps the operations of its program well made.
use Rattle.std.proofs.Common.{◌≡◌, ℕ, ◌+◌, ◌<◌, ◌≤◌, Bool, true, false, List, [], ◌∷◌, ◌++◌, refl, sym, ap, ◌∙◌, arith, subst, le_refl, inl, inr, get_or}
use Rattle.std.specs.Prelude.{◌==◌, ◌&&◌, ◌⊎◌, not, Option, Some, None, slice_get, slice_set, length, if◌then◌else◌}
use Rattle.std.proofs.lemmas.Bool.{eqb-true, cases_lt}
use Rattle.std.proofs.lemmas.List.{set_past}
use Rattle.std.proofs.lemmas.List.Quantifiers.{position-Some}
use Rattle.std.proofs.lemmas.Option.{get_or_from_slice_get, slice_get-get_or}
use Rattle.fam_base.specs.declared.naming.Descriptor.{Descriptor}
use Rattle.fam_base.specs.declared.error.FamError.{FamError}
use Rattle.fam_model.specs.declared.call.Call.{Call}
use Rattle.fam_model.specs.declared.call.Call.TheVariants as call
use Rattle.fam_model.specs.declared.call.MetaCall.{MetaCall}
use Rattle.fam_model.specs.declared.call.MetaCall.TheVariants as meta
use Rattle.fam_model.specs.declared.change.Change.{Change}
use Rattle.fam_model.specs.declared.event.Event.{Event}
use Rattle.fam_model.specs.declared.event.What.{What}
use Rattle.fam_model.specs.declared.event.What.TheVariants as what
use Rattle.fam_model.specs.declared.piece.MarkedPiece.{MarkedPiece}
use Rattle.fam_model.specs.declared.piece.Operation.{Operation}
use Rattle.fam_model.specs.declared.reply.PieceAnswer.{PieceAnswer}
use Rattle.fam_model.specs.declared.reply.Reply.{Reply}
use Rattle.fam_model.specs.declared.reply.Reply.TheVariants as reply
use Rattle.fam_model.specs.declared.rows.Rows.{Rows}
use Rattle.fam_model.specs.declared.service.Service.{Service}
use Rattle.fam_model.specs.declared.state.Context.{Context}
use Rattle.fam_model.specs.declared.state.ProgramState.{ProgramState}
use Rattle.fam_model.specs.declared.state.Standing.TheVariants as standing
use Rattle.fam_model.specs.declared.state.Started.{Started}
use Rattle.fam_model.specs.declared.state.Started.TheVariants as begun
use Rattle.fam_model.specs.declared.state.State.{State}
use Rattle.fam_model.specs.ContextStep.{answer_step, open_step, fence_step, quiet_step, close_step, wait_step, new_context, with_nothing_started}
use Rattle.fam_model.specs.Directory.{Memory}
use Rattle.fam_model.specs.EndStep.{arrive_step, leave_step, crash_step, may_arrive, has_pending}
use Rattle.fam_model.specs.Issue.{issue_refusal, targets}
use Rattle.fam_model.specs.IssueStep.{issue_step, issue_with, accepted, with_issued, new_operation}
use Rattle.fam_model.specs.Limits.{Limits}
use Rattle.fam_model.specs.Lists.{◌>>=◌, when, place_of}
use Rattle.fam_model.specs.MetaStep.{meta_step, may_reply, served_change, changed}
use Rattle.fam_model.specs.Operations.{has_left, is_pending, is_left, may_come, is_copy, is_unreported, result, report, reported, as_reported}
use Rattle.fam_model.specs.Pieces.{pieces, stripe_count}
use Rattle.fam_model.specs.PieceStep.{piece_step, lose_step, memory_by_piece, may_answer, due_answer, with_answer, without_piece, bytes_found}
use Rattle.fam_model.specs.Programs.{program_of, with_program, with_member, is_open, open_context, with_context, with_operation, operation_of, context_of, call_number, Placed, placed, with_placed, unreported_copy, counted, filled, fill_region, fill_item, request_of, has_passed, has_crashed}
use Rattle.fam_model.specs.RefusedStep.{refused_step, would_serve, may_refuse}
use Rattle.fam_model.specs.Same.{same_reply}
use Rattle.fam_model.specs.Step.{step, effect}
use Rattle.fam_model.specs.Turn.{is_in_turn}
use Rattle.fam_schedule.specs.Made.{IsMade, AreMade}
use Rattle.fam_schedule.proofs.Options.{bind_some, when_some, map_some, if_some}
use Rattle.fam_schedule.proofs.Changes.{Grows, grows_made, grows_same, grows_with, keeps_same, keeps_none, keeps_reported, keeps_operation, found, set_at}
use Rattle.fam_schedule.proofs.Issued.{is_lawful, issued_made, grows_issued}
use Rattle.fam_schedule.proofs.Keeps.{made_answered, made_lost, made_reported}

-- what is found

-- the parts of an operation that is placed
pub record IsPlaced (p : ProgramState) (call : ℕ) (at : Placed) : Type 0 where
  pub there : slice_get p.contexts at.number ≡ Some at.context
  pub operation : operation_of at.context call ≡ Some at.operation
  pub number : at.operation.call ≡ call

pub numbered : (context : Context) (call : ℕ) (operation : Operation) → operation_of context call ≡ Some operation → operation.call ≡ call
numbered context call operation h =
    let place = found context.operations call (place_of call_number call context.operations) operation refl h in
    let passes = (position-Some (λ o. call_number o == call) context.operations place.0 operation place.1).1 in
    eqb-true operation.call call (subst (λ o. (call_number o == call) ≡ true) (get_or_from_slice_get context.operations place.0 operation operation place.2) passes)

pub is_placed : (p : ProgramState) (call : ℕ) (at : Placed) → placed p call ≡ Some at → IsPlaced p call at
is_placed p call at h =
    let made : ℕ → Context → Operation → Placed = λ c context operation. record { number = c; context = context; operation = operation } in
    let b = bind_some (context_of p call) (λ c. slice_get p.contexts c >>= λ context. operation_of context call >>= λ operation. Some (made c context operation)) at h in
    let d = bind_some (slice_get p.contexts b.0) (λ context. operation_of context call >>= λ operation. Some (made b.0 context operation)) at b.2 in
    let e = bind_some (operation_of d.0 call) (λ operation. Some (made b.0 d.0 operation)) at d.2 in
    let same : made b.0 d.0 e.0 ≡ at = cc in
    subst (IsPlaced p call) same (record { there = d.1; operation = e.1; number = numbered d.0 call e.0 e.1 })

pub opened_at : (p : ProgramState) (c : ℕ) (context : Context) → open_context p c ≡ Some context → slice_get p.contexts c ≡ Some context
opened_at p c context h =
    let b = bind_some (slice_get p.contexts c) (λ x. when x.is_open x) context h in
    let w = when_some b.0.is_open b.0 context b.2 in
    b.1 ∙ ap Some w.1

more : (n : ℕ) → n ≤ n + 1
more n = omega arith

-- a place that is not there is not set
pub set_none : {A : Type 0} (xs : List A) (c : ℕ) (y : A) → slice_get xs c ≡ None → slice_set xs c y ≡ xs
set_none xs c y h = by_length (cases_lt c (length xs))
  where
    by_length : (c < length xs) ⊎ (length xs ≤ c) → slice_set xs c y ≡ xs
    by_length (inl low) = let there : slice_get xs c ≡ Some (get_or xs c y) = slice_get-get_or xs c y low in let no : None ≡ Some (get_or xs c y) = sym h ∙ there in cc
    by_length (inr high) = set_past xs c y high

-- each kind of event

-- what holds once a step leads there
abbrev pub Leads : ℕ → ProgramState → ProgramState → Type 0
Leads stripes p next = Grows stripes p next

leads_as : (stripes : ℕ) (p next last : ProgramState) → next ≡ last → Grows stripes p next → Grows stripes p last
leads_as stripes p next last same g = subst (Grows stripes p) same g

fill_region_contexts : (p : ProgramState) (slot : ℕ) (r : Reply) → ((fill_region p slot r).contexts ≡ p.contexts) × ((fill_region p slot r).next_call ≡ p.next_call)
fill_region_contexts p slot reply.Done = (refl, refl)
fill_region_contexts p slot reply.Issued = (refl, refl)
fill_region_contexts p slot (reply.Bytes b) = (refl, refl)
fill_region_contexts p slot (reply.Region r) = (refl, refl)
fill_region_contexts p slot (reply.Item d) = (refl, refl)
fill_region_contexts p slot (reply.RegionStat i) = (refl, refl)
fill_region_contexts p slot (reply.ItemStat i) = (refl, refl)
fill_region_contexts p slot (reply.Value v) = (refl, refl)
fill_region_contexts p slot (reply.Report r) = (refl, refl)
fill_region_contexts p slot reply.Passed = (refl, refl)
fill_region_contexts p slot reply.Left = (refl, refl)
fill_region_contexts p slot reply.Crashed = (refl, refl)
fill_region_contexts p slot (reply.Error e) = (refl, refl)

fill_item_contexts : (p : ProgramState) (slot : ℕ) (r : Reply) → ((fill_item p slot r).contexts ≡ p.contexts) × ((fill_item p slot r).next_call ≡ p.next_call)
fill_item_contexts p slot reply.Done = (refl, refl)
fill_item_contexts p slot reply.Issued = (refl, refl)
fill_item_contexts p slot (reply.Bytes b) = (refl, refl)
fill_item_contexts p slot (reply.Region r) = (refl, refl)
fill_item_contexts p slot (reply.Item d) = (refl, refl)
fill_item_contexts p slot (reply.RegionStat i) = (refl, refl)
fill_item_contexts p slot (reply.ItemStat i) = (refl, refl)
fill_item_contexts p slot (reply.Value v) = (refl, refl)
fill_item_contexts p slot (reply.Report r) = (refl, refl)
fill_item_contexts p slot reply.Passed = (refl, refl)
fill_item_contexts p slot reply.Left = (refl, refl)
fill_item_contexts p slot reply.Crashed = (refl, refl)
fill_item_contexts p slot (reply.Error e) = (refl, refl)

pub filled_contexts : (p : ProgramState) (asked : MetaCall) (r : Reply) → ((filled p asked r).contexts ≡ p.contexts) × ((filled p asked r).next_call ≡ p.next_call)
filled_contexts p (meta.CreateRegion slot name size mode) r = fill_region_contexts p slot r
filled_contexts p (meta.DestroyRegion slot) r = (refl, refl)
filled_contexts p (meta.ResizeRegion slot size) r = (refl, refl)
filled_contexts p (meta.SetRegionMode slot mode) r = (refl, refl)
filled_contexts p (meta.LookupRegion slot name) r = fill_region_contexts p slot r
filled_contexts p (meta.StatRegion slot) r = (refl, refl)
filled_contexts p (meta.Allocate slot name size mode region) r = fill_item_contexts p slot r
filled_contexts p (meta.Deallocate slot) r = (refl, refl)
filled_contexts p (meta.SetItemMode slot mode) r = (refl, refl)
filled_contexts p (meta.Lookup slot name region) r = fill_item_contexts p slot r
filled_contexts p (meta.Stat slot) r = (refl, refl)

meta_leads : (stripes : ℕ) (rows : Rows) (p next : ProgramState) (asked : MetaCall) (given : Reply) → meta_step rows p asked given ≡ Some next → Grows stripes p next
meta_leads stripes rows p next asked given h =
    let b = bind_some (request_of p asked) (λ request. when (may_reply rows p.who request given) (filled (counted p) asked given)) next h in
    let w = when_some (may_reply rows p.who b.0 given) (filled (counted p) asked given) next b.2 in
    let same = filled_contexts (counted p) asked given in
    let number : (filled (counted p) asked given).next_call ≡ p.next_call + 1 = same.1 in
    leads_as stripes p (filled (counted p) asked given) next w.1 (grows_same stripes p (filled (counted p) asked given) same.0 (omega arith))

accepted_leads : (service : Service) (p next : ProgramState) (asked : Call) → is_lawful service ≡ true → accepted service p asked ≡ Some next → Grows (stripe_count service) p next
accepted_leads service p next (call.Data c op blocking) lawful h =
    let next_of : Context → Descriptor × Descriptor → ProgramState =
    λ context items. with_issued p c context op blocking (pieces service op items.0 items.1) in
    let b = bind_some (open_context p c) (λ context. targets p op >>= λ items. Some (next_of context items)) next h in
    let d = bind_some (targets p op) (λ items. Some (next_of b.0 items)) next b.2 in
    let same : next_of b.0 d.0 ≡ next = cc in
    let x = b.0 in
    let new = new_operation p.next_call x.epoch op blocking (pieces service op d.0.0 d.0.1) in
    let y : Context = record x { operations = x.operations ++ new ∷ [] } in
    let low : p.next_call < p.next_call + 1 = omega arith in
    leads_as (stripe_count service) p (next_of x d.0) next same
    (grows_issued (stripe_count service) p (next_of x d.0) c x y new (opened_at p c x b.1) refl refl
    (issued_made service (p.next_call + 1) p.next_call x.epoch op blocking d.0.0 d.0.1 lawful low) refl (more p.next_call))
accepted_leads service p next (call.Meta a) lawful h = cc
accepted_leads service p next (call.OpenContext c) lawful h = cc
accepted_leads service p next (call.CloseContext c) lawful h = cc
accepted_leads service p next (call.CopyWait c n) lawful h = cc
accepted_leads service p next (call.Fence c) lawful h = cc
accepted_leads service p next (call.Quiet c) lawful h = cc
accepted_leads service p next call.Barrier lawful h = cc
accepted_leads service p next call.Leave lawful h = cc
accepted_leads service p next call.Crash lawful h = cc

counted_leads : (stripes : ℕ) (p next : ProgramState) → counted p ≡ next → Grows stripes p next
counted_leads stripes p next same = leads_as stripes p (counted p) next same (grows_same stripes p (counted p) refl (more p.next_call))

issue_leads : (refusal : Option FamError) (service : Service) (p next : ProgramState) (asked : Call) (given : Reply) → is_lawful service ≡ true →
    issue_with refusal service p asked given ≡ Some next → Grows (stripe_count service) p next
issue_leads (Some error) service p next asked given lawful h =
    let w = when_some (same_reply given (reply.Error error)) (counted p) next h in counted_leads (stripe_count service) p next w.1
issue_leads None service p next asked given lawful h =
    let b = bind_some (accepted service p asked) (λ q. when (same_reply given reply.Issued) q) next h in
    let w = when_some (same_reply given reply.Issued) b.0 next b.2 in
    leads_as (stripe_count service) p b.0 next w.1 (accepted_leads service p b.0 asked lawful b.1)

-- an operation changed where it is placed
placed_leads : (stripes : ℕ) (p next : ProgramState) (call : ℕ) (at : Placed) (new : Operation) → placed p call ≡ Some at → new.call ≡ at.operation.call →
    ((n : ℕ) → IsMade stripes n at.operation → IsMade stripes n new) → next.contexts ≡ slice_set p.contexts at.number (with_operation at.context new) →
    next.next_call ≡ p.next_call → Grows stripes p next
placed_leads stripes p next call at new h same_call keeps contexts number =
    let is = is_placed p call at h in
    grows_with stripes p next at.number at.context (with_operation at.context new) is.there
    (keeps_operation stripes at.context call at.operation new is.operation is.number same_call keeps) contexts (omega arith)

piece_leads : (stripes : ℕ) (limits : Limits) (rows : Rows) (memory : Memory) (p next : ProgramState) (c j : ℕ) (given : PieceAnswer) →
    piece_step limits rows memory p c j given ≡ Some next → Grows stripes p next
piece_leads stripes limits rows memory p next c j given h =
    let new : Placed → MarkedPiece → Operation = λ at left. with_answer at.operation j left.piece given (bytes_found memory left.piece) in
    let test : Placed → MarkedPiece → Bool =
    λ at left. may_come at.context at.operation j && may_answer limits (due_answer rows memory p.who at.operation.kind left.piece) given in
    let b = bind_some (placed p c) (λ at. slice_get at.operation.pieces j >>= λ left. when (test at left) (with_placed p at (new at left))) next h in
    let d = bind_some (slice_get b.0.operation.pieces j) (λ left. when (test b.0 left) (with_placed p b.0 (new b.0 left))) next b.2 in
    let w = when_some (test b.0 d.0) (with_placed p b.0 (new b.0 d.0)) next d.2 in
    leads_as stripes p (with_placed p b.0 (new b.0 d.0)) next w.1
    (placed_leads stripes p (with_placed p b.0 (new b.0 d.0)) c b.0 (new b.0 d.0) b.1 refl
    (λ n made. made_answered stripes n b.0.operation j d.0 given (bytes_found memory d.0.piece) made d.1) refl refl)

lose_leads : (stripes : ℕ) (p next : ProgramState) (c j : ℕ) → lose_step p c j ≡ Some next → Grows stripes p next
lose_leads stripes p next c j h =
    let new : Placed → MarkedPiece → Operation = λ at left. without_piece at.operation j left.piece in
    let test : MarkedPiece → Bool = λ left. has_crashed p.standing && is_left left in
    let b = bind_some (placed p c) (λ at. slice_get at.operation.pieces j >>= λ left. when (test left) (with_placed p at (new at left))) next h in
    let d = bind_some (slice_get b.0.operation.pieces j) (λ left. when (test left) (with_placed p b.0 (new b.0 left))) next b.2 in
    let w = when_some (test d.0) (with_placed p b.0 (new b.0 d.0)) next d.2 in
    leads_as stripes p (with_placed p b.0 (new b.0 d.0)) next w.1
    (placed_leads stripes p (with_placed p b.0 (new b.0 d.0)) c b.0 (new b.0 d.0) b.1 refl (λ n made. made_lost stripes n b.0.operation j d.0 made d.1) refl refl)

answer_leads : (stripes : ℕ) (s : Started) (round : ℕ) (p next : ProgramState) (given : Reply) → answer_step s round p given ≡ Some next → Grows stripes p next
answer_leads stripes begun.Nothing round p next given h = cc
answer_leads stripes (begun.Operation c) round p next given h =
    let new : Placed → ProgramState = λ at. with_nothing_started (with_placed p at (as_reported at.operation)) in
    let test : Placed → Bool = λ at. not (has_left at.operation) && same_reply given (result at.operation) in
    let b = bind_some (placed p c) (λ at. when (test at) (new at)) next h in
    let w = when_some (test b.0) (new b.0) next b.2 in
    leads_as stripes p (new b.0) next w.1
    (placed_leads stripes p (new b.0) c b.0 (as_reported b.0.operation) b.1 refl (λ n made. made_reported stripes n b.0.operation made) refl refl)
answer_leads stripes (begun.Barrier c) round p next given h =
    let w = when_some (has_passed round p && same_reply given reply.Passed) (with_nothing_started p) next h in
    leads_as stripes p (with_nothing_started p) next w.1 (grows_same stripes p (with_nothing_started p) refl (le_refl p.next_call))

open_leads : (stripes : ℕ) (p next : ProgramState) (c : ℕ) → open_step p c ≡ Some next → Grows stripes p next
open_leads stripes p next c h =
    let w = when_some (not (is_open p c)) (with_context (counted p) c new_context) next h in
    leads_as stripes p (with_context (counted p) c new_context) next w.1 (opened_by (slice_get p.contexts c) refl)
  where
    opened_by : (o : Option Context) → slice_get p.contexts c ≡ o → Grows stripes p (with_context (counted p) c new_context)
    opened_by (Some x) e =
        grows_with stripes p (with_context (counted p) c new_context) c x new_context e (keeps_none stripes x new_context refl) refl (more p.next_call)
    opened_by None e =
        grows_same stripes p (with_context (counted p) c new_context) (set_none p.contexts c new_context e) (more p.next_call)

fence_leads : (stripes : ℕ) (p next : ProgramState) (c : ℕ) → fence_step p c ≡ Some next → Grows stripes p next
fence_leads stripes p next c h =
    let y : Context → Context = λ context. record context { epoch = context.epoch + 1 } in
    let b = bind_some (open_context p c) (λ context. Some (with_context (counted p) c (y context))) next h in
    let same : with_context (counted p) c (y b.0) ≡ next = cc in
    leads_as stripes p (with_context (counted p) c (y b.0)) next same
    (grows_with stripes p (with_context (counted p) c (y b.0)) c b.0 (y b.0) (opened_at p c b.0 b.1) (keeps_same stripes b.0 (y b.0) refl) refl (more p.next_call))

quiet_leads : (stripes : ℕ) (p next : ProgramState) (c : ℕ) (given : Reply) → quiet_step p c given ≡ Some next → Grows stripes p next
quiet_leads stripes p next c given h =
    let test : Context → Bool = λ context. not (is_pending context) && same_reply given (report context) in
    let b = bind_some (open_context p c) (λ context. when (test context) (with_context (counted p) c (reported context))) next h in
    let w = when_some (test b.0) (with_context (counted p) c (reported b.0)) next b.2 in
    leads_as stripes p (with_context (counted p) c (reported b.0)) next w.1
    (grows_with stripes p (with_context (counted p) c (reported b.0)) c b.0 (reported b.0) (opened_at p c b.0 b.1) (keeps_reported stripes b.0 (reported b.0) refl) refl (more p.next_call))

close_leads : (stripes : ℕ) (p next : ProgramState) (c : ℕ) (given : Reply) → close_step p c given ≡ Some next → Grows stripes p next
close_leads stripes p next c given h =
    let y : Context → Context = λ context. record (reported context) { is_open = false } in
    let test : Context → Bool = λ context. not (c == 0) && not (is_pending context) && same_reply given (report context) in
    let b = bind_some (open_context p c) (λ context. when (test context) (with_context (counted p) c (y context))) next h in
    let w = when_some (test b.0) (with_context (counted p) c (y b.0)) next b.2 in
    leads_as stripes p (with_context (counted p) c (y b.0)) next w.1
    (grows_with stripes p (with_context (counted p) c (y b.0)) c b.0 (y b.0) (opened_at p c b.0 b.1) (keeps_reported stripes b.0 (y b.0) refl) refl (more p.next_call))

-- the copy that is waited for
pub waited : (p : ProgramState) (c named : ℕ) (context : Context) (operation : Operation) → slice_get p.contexts c ≡ Some context → unreported_copy p c named ≡ Some operation →
    operation_of context named ≡ Some operation
waited p c named context operation there h =
    let test : Operation → Bool = λ o. is_copy o.kind && is_unreported o in
    let b = bind_some (slice_get p.contexts c) (λ x. operation_of x named >>= λ o. when (test o) o) operation h in
    let d = bind_some (operation_of b.0 named) (λ o. when (test o) o) operation b.2 in
    let w = when_some (test d.0) d.0 operation d.2 in
    let same : Some b.0 ≡ Some context = sym b.1 ∙ there in
    let is : b.0 ≡ context = cc in
    ap (λ x. operation_of x named) (sym is) ∙ d.1 ∙ ap Some w.1

wait_leads : (stripes : ℕ) (p next : ProgramState) (c named : ℕ) (given : Reply) → wait_step p c named given ≡ Some next → Grows stripes p next
wait_leads stripes p next c named given h =
    let new : Context → Operation → ProgramState = λ context operation. with_context (counted p) c (with_operation context (as_reported operation)) in
    let test : Operation → Bool = λ operation. not (has_left operation) && same_reply given (result operation) in
    let b = bind_some (slice_get p.contexts c) (λ context. unreported_copy p c named >>= λ operation. when (test operation) (new context operation)) next h in
    let d = bind_some (unreported_copy p c named) (λ operation. when (test operation) (new b.0 operation)) next b.2 in
    let w = when_some (test d.0) (new b.0 d.0) next d.2 in
    let is = waited p c named b.0 d.0 b.1 d.1 in
    leads_as stripes p (new b.0 d.0) next w.1
    (grows_with stripes p (new b.0 d.0) c b.0 (with_operation b.0 (as_reported d.0)) b.1
    (keeps_operation stripes b.0 named d.0 (as_reported d.0) is (numbered b.0 named d.0 is) refl (λ n made. made_reported stripes n d.0 made)) refl (more p.next_call))

arrive_leads : (stripes round : ℕ) (p next : ProgramState) → arrive_step round p ≡ Some next → Grows stripes p next
arrive_leads stripes round p next h =
    let is : ProgramState = record (counted p) { arrived = Some round; started = begun.Barrier p.next_call } in
    let w = when_some (may_arrive round p) is next h in
    leads_as stripes p is next w.1 (grows_same stripes p is refl (more p.next_call))

leave_leads : (stripes : ℕ) (p next : ProgramState) → leave_step p ≡ Some next → Grows stripes p next
leave_leads stripes p next h =
    let is : ProgramState = record (counted p) { standing = standing.Left } in
    let w = when_some (not (has_pending p)) is next h in
    leads_as stripes p is next w.1 (grows_same stripes p is refl (more p.next_call))

crash_leads : (stripes : ℕ) (p next : ProgramState) → crash_step p ≡ Some next → Grows stripes p next
crash_leads stripes p next h =
    let is : ProgramState = record (counted p) { standing = standing.Crashed; started = begun.Nothing } in
    let same : is ≡ next = cc in
    leads_as stripes p is next same (grows_same stripes p is refl (more p.next_call))

refused_leads : (stripes : ℕ) (limits : Limits) (rows : Rows) (round : ℕ) (p next : ProgramState) (asked : Call) (error : FamError) (doubt : Bool) →
    refused_step limits rows round p asked error doubt ≡ Some next → Grows stripes p next
refused_leads stripes limits rows round p next asked error doubt h =
    let w = when_some (would_serve rows round p asked && may_refuse limits asked error doubt) (counted p) next h in counted_leads stripes p next w.1

-- any event

-- the state has this program changed, which has grown
pub record GrowsAt (stripes : ℕ) (state : State) (pe : ℕ) (p : ProgramState) (next : State) : Type 0 where
  pub is : ProgramState
  pub programs : next.programs ≡ slice_set state.programs pe is
  pub service : next.service ≡ state.service
  pub grows : Grows stripes p is

grows_at : (stripes : ℕ) (state base next : State) (pe : ℕ) (p q : ProgramState) → (base.programs ≡ state.programs) × (base.service ≡ state.service) →
    with_program base pe q ≡ next → Grows stripes p q → GrowsAt stripes state pe p next
grows_at stripes state base next pe p q same e g =
    record {
      is = q;
      programs = ap (λ s. s.programs) (sym e) ∙ ap (λ ps. slice_set ps pe q) same.0;
      service = ap (λ s. s.service) (sym e) ∙ same.1;
      grows = g;
    }

grows_member : (stripes : ℕ) (state next : State) (pe : ℕ) (p q : ProgramState) → with_member state pe q ≡ next → Grows stripes p q → GrowsAt stripes state pe p next
grows_member stripes state next pe p q e g = record { is = q; programs = ap (λ s. s.programs) (sym e); service = ap (λ s. s.service) (sym e); grows = g }

pub changed_programs : (state : State) (c : Option Change) → ((changed state c).programs ≡ state.programs) × ((changed state c).service ≡ state.service)
changed_programs state None = (refl, refl)
changed_programs state (Some c) = (refl, refl)

effect_grows : (limits : Limits) (state next : State) (pe : ℕ) (p : ProgramState) (c : ℕ) (what : What) → is_lawful state.service ≡ true →
    effect limits state pe p c what ≡ Some next → GrowsAt (stripe_count state.service) state pe p next
effect_grows limits state next pe p c (what.Meta asked given) lawful h =
    let base = changed state (served_change state.rows p asked given) in
    let m = map_some (with_program base pe) (meta_step state.rows p asked given) next h in
    grows_at (stripe_count state.service) state base next pe p m.0 (changed_programs state (served_change state.rows p asked given)) m.2
    (meta_leads (stripe_count state.service) state.rows p m.0 asked given m.1)
effect_grows limits state next pe p c (what.Issue asked given) lawful h =
    let m = map_some (with_program state pe) (issue_step state.service p asked given) next h in
    grows_at (stripe_count state.service) state state next pe p m.0 (refl, refl) m.2 (issue_leads (issue_refusal state.service p asked) state.service p m.0 asked given lawful m.1)
effect_grows limits state next pe p c (what.Piece j given) lawful h =
    let base = record state { memory = memory_by_piece state.memory p c j given } in
    let m = map_some (with_program base pe) (piece_step limits state.rows state.memory p c j given) next h in
    grows_at (stripe_count state.service) state base next pe p m.0 (refl, refl) m.2 (piece_leads (stripe_count state.service) limits state.rows state.memory p m.0 c j given m.1)
effect_grows limits state next pe p c (what.Answer given) lawful h =
    let m = map_some (with_program state pe) (answer_step p.started state.round p given) next h in
    grows_at (stripe_count state.service) state state next pe p m.0 (refl, refl) m.2 (answer_leads (stripe_count state.service) p.started state.round p m.0 given m.1)
effect_grows limits state next pe p c (what.OpenContext k) lawful h =
    let m = map_some (with_program state pe) (open_step p k) next h in
    grows_at (stripe_count state.service) state state next pe p m.0 (refl, refl) m.2 (open_leads (stripe_count state.service) p m.0 k m.1)
effect_grows limits state next pe p c (what.CloseContext k given) lawful h =
    let m = map_some (with_program state pe) (close_step p k given) next h in
    grows_at (stripe_count state.service) state state next pe p m.0 (refl, refl) m.2 (close_leads (stripe_count state.service) p m.0 k given m.1)
effect_grows limits state next pe p c (what.Fence k) lawful h =
    let m = map_some (with_program state pe) (fence_step p k) next h in
    grows_at (stripe_count state.service) state state next pe p m.0 (refl, refl) m.2 (fence_leads (stripe_count state.service) p m.0 k m.1)
effect_grows limits state next pe p c (what.Quiet k given) lawful h =
    let m = map_some (with_program state pe) (quiet_step p k given) next h in
    grows_at (stripe_count state.service) state state next pe p m.0 (refl, refl) m.2 (quiet_leads (stripe_count state.service) p m.0 k given m.1)
effect_grows limits state next pe p c (what.Wait k named given) lawful h =
    let m = map_some (with_program state pe) (wait_step p k named given) next h in
    grows_at (stripe_count state.service) state state next pe p m.0 (refl, refl) m.2 (wait_leads (stripe_count state.service) p m.0 k named given m.1)
effect_grows limits state next pe p c what.Arrive lawful h =
    let m = map_some (with_member state pe) (arrive_step state.round p) next h in
    grows_member (stripe_count state.service) state next pe p m.0 m.2 (arrive_leads (stripe_count state.service) state.round p m.0 m.1)
effect_grows limits state next pe p c what.Leave lawful h =
    let m = map_some (with_member state pe) (leave_step p) next h in
    grows_member (stripe_count state.service) state next pe p m.0 m.2 (leave_leads (stripe_count state.service) p m.0 m.1)
effect_grows limits state next pe p c what.Crash lawful h =
    let m = map_some (with_member state pe) (crash_step p) next h in
    grows_member (stripe_count state.service) state next pe p m.0 m.2 (crash_leads (stripe_count state.service) p m.0 m.1)
effect_grows limits state next pe p c (what.Lose j) lawful h =
    let m = map_some (with_program state pe) (lose_step p c j) next h in
    grows_at (stripe_count state.service) state state next pe p m.0 (refl, refl) m.2 (lose_leads (stripe_count state.service) p m.0 c j m.1)
effect_grows limits state next pe p c (what.Refused asked error doubt) lawful h =
    let m = map_some (with_program state pe) (refused_step limits state.rows state.round p asked error doubt) next h in
    grows_at (stripe_count state.service) state state next pe p m.0 (refl, refl) m.2
    (refused_leads (stripe_count state.service) limits state.rows state.round p m.0 asked error doubt m.1)

-- all programs

-- the operations of all programs are well made
abbrev pub AllMade : State → Type 0
AllMade state = (pe : ℕ) (p : ProgramState) → program_of state pe ≡ Some p → AreMade (stripe_count state.service) p

-- the event has changed its program, which has grown
pub record StepGrows (state : State) (event : Event) (next : State) : Type 0 where
  pub was : ProgramState
  pub there : program_of state event.pe.0 ≡ Some was
  pub after : GrowsAt (stripe_count state.service) state event.pe.0 was next

pub step_grows : (limits : Limits) (state next : State) (event : Event) → is_lawful state.service ≡ true → step limits state event ≡ Some next → StepGrows state event next
step_grows limits state next event lawful h =
    let b = bind_some (program_of state event.pe.0)
    (λ p. if is_in_turn p event.call event.what then effect limits state event.pe.0 p event.call event.what else None) next h in
    let c = if_some (is_in_turn b.0 event.call event.what) (effect limits state event.pe.0 b.0 event.call event.what) next b.2 in
    record { was = b.0; there = b.1; after = effect_grows limits state next event.pe.0 b.0 event.call event.what lawful c.1 }

same_some : {A : Type 0} (x y : A) → Some x ≡ Some y → x ≡ y
same_some x y e = cc

one_made : (state next : State) (event : Event) (pe : ℕ) (p : ProgramState) (g : StepGrows state event next) → AllMade state → program_of next pe ≡ Some p →
    ((pe ≡ event.pe.0) × (p ≡ g.after.is)) ⊎ (program_of state pe ≡ Some p) → AreMade (stripe_count state.service) p
one_made state next event pe p g all there (inl (place, is)) =
    subst (AreMade (stripe_count state.service)) (sym is) (grows_made (stripe_count state.service) g.was g.after.is g.after.grows (all event.pe.0 g.was g.there))
one_made state next event pe p g all there (inr other) = all pe p other

-- a step keeps the operations of all programs well made
pub step_made : (limits : Limits) (state next : State) (event : Event) → is_lawful state.service ≡ true → step limits state event ≡ Some next → AllMade state → AllMade next
step_made limits state next event lawful h all pe p there =
    let g = step_grows limits state next event lawful h in
    let made = one_made state next event pe p g all there
    (set_at (pe == event.pe.0) state.programs event.pe.0 pe g.was g.after.is p refl g.there (ap (λ ps. slice_get ps pe) (sym g.after.programs) ∙ there)) in
    subst (λ service. AreMade (stripe_count service) p) (sym g.after.service) made

pub step_service : (limits : Limits) (state next : State) (event : Event) → is_lawful state.service ≡ true → step limits state event ≡ Some next → next.service ≡ state.service
step_service limits state next event lawful h = (step_grows limits state next event lawful h).after.service
