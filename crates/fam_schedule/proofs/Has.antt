-- The operation of a call that is started is there until it is answered.
use Rattle.std.proofs.Common.{◌≡◌, ℕ, ◌+◌, Bool, true, false, List, [], ◌∷◌, ◌++◌, refl, sym, ap, ◌∙◌, arith, subst, length-append}
use Rattle.std.specs.Prelude.{◌==◌, ◌&&◌, ◌≢◌, Some, slice_get, slice_set, length}
use Rattle.std.proofs.lemmas.Bool.{eqb-true}
use Rattle.std.proofs.Math.Seq.{get_or-append_seam}
use Rattle.std.proofs.lemmas.Option.{slice_get-get_or}
use Rattle.fam_base.specs.declared.naming.Descriptor.{Descriptor}
use Rattle.fam_model.specs.declared.call.Call.TheVariants as call
use Rattle.fam_model.specs.declared.call.DataOp.{DataOp}
use Rattle.fam_model.specs.declared.piece.MarkedPiece.{MarkedPiece}
use Rattle.fam_model.specs.declared.piece.Operation.{Operation}
use Rattle.fam_model.specs.declared.reply.PieceAnswer.{PieceAnswer}
use Rattle.fam_model.specs.declared.rows.Rows.{Rows}
use Rattle.fam_model.specs.declared.service.Service.{Service}
use Rattle.fam_model.specs.declared.state.Context.{Context}
use Rattle.fam_model.specs.declared.state.ProgramState.{ProgramState}
use Rattle.fam_model.specs.Directory.{Memory}
use Rattle.fam_model.specs.Issue.{targets}
use Rattle.fam_model.specs.IssueStep.{accepted, with_issued, new_operation}
use Rattle.fam_model.specs.Limits.{Limits}
use Rattle.fam_model.specs.Lists.{◌>>=◌, when, place_of}
use Rattle.fam_model.specs.Operations.{is_left, may_come}
use Rattle.fam_model.specs.Pieces.{pieces}
use Rattle.fam_model.specs.PieceStep.{piece_step, lose_step, may_answer, due_answer, with_answer, without_piece, bytes_found}
use Rattle.fam_model.specs.Programs.{open_context, with_operation, operation_of, call_number, Placed, placed, with_placed, has_crashed}
use Rattle.fam_schedule.specs.Made.{StandsAt}
use Rattle.fam_schedule.proofs.Options.{bind_some, when_some}
use Rattle.fam_schedule.proofs.Changes.{found}
use Rattle.fam_schedule.proofs.Places.{get_set_same, get_set_other}
use Rattle.fam_schedule.proofs.Steps.{IsPlaced, is_placed, opened_at}

-- some operation is of the call
pub record HasCall (p : ProgramState) (call : ℕ) : Type 0 where
  pub context : ℕ
  pub place : ℕ
  pub operation : Operation
  pub stands : StandsAt p context place operation
  pub is_call : operation.call ≡ call

has_as : (p q : ProgramState) (call : ℕ) → p ≡ q → HasCall p call → HasCall q call
has_as p q call same h = subst (λ x. HasCall x call) same h

-- an operation that is issued is there

last_at : {A : Type 0} (xs : List A) (y : A) → slice_get (xs ++ y ∷ []) (length xs) ≡ Some y
last_at xs y =
    let longer : length (xs ++ y ∷ []) ≡ length xs + length (y ∷ []) = length-append xs (y ∷ []) in
    let one : length (y ∷ []) ≡ 1 = refl in
    slice_get-get_or (xs ++ y ∷ []) (length xs) y (omega arith) ∙ ap Some (get_or-append_seam xs y [] y)

pub issued_has : (service : Service) (p next : ProgramState) (c : ℕ) (op : DataOp) (blocking : Bool) → accepted service p (call.Data c op blocking) ≡ Some next → HasCall next p.next_call
issued_has service p next c op blocking h =
    let next_of : Context → Descriptor × Descriptor → ProgramState =
    λ context items. with_issued p c context op blocking (pieces service op items.0 items.1) in
    let b = bind_some (open_context p c) (λ context. targets p op >>= λ items. Some (next_of context items)) next h in
    let d = bind_some (targets p op) (λ items. Some (next_of b.0 items)) next b.2 in
    let same : next_of b.0 d.0 ≡ next = cc in
    let x = b.0 in
    let new = new_operation p.next_call x.epoch op blocking (pieces service op d.0.0 d.0.1) in
    let y : Context = record x { operations = x.operations ++ new ∷ [] } in
    has_as (next_of x d.0) next p.next_call same
    (record {
      context = c;
      place = length x.operations;
      operation = new;
      stands = record { context = y; there = get_set_same p.contexts c x y (opened_at p c x b.1); at = last_at x.operations new };
      is_call = refl;
    })

-- a change of an operation leaves all calls

same_some : {A : Type 0} (x y : A) → Some x ≡ Some y → x ≡ y
same_some x y e = cc

-- an operation of the same call stands there
abbrev StillAt : Context → ℕ → ℕ → Type 0
StillAt context k call = (o : Operation) × (slice_get context.operations k ≡ Some o) × (o.call ≡ call)

kept_by : (same : Bool) (xs : List Operation) (i k : ℕ) (old new o : Operation) → (k == i) ≡ same → slice_get xs i ≡ Some old → new.call ≡ old.call → slice_get xs k ≡ Some o →
    (q : Operation) × (slice_get (slice_set xs i new) k ≡ Some q) × (q.call ≡ o.call)
kept_by true xs i k old new o e there call at =
    let place : k ≡ i = eqb-true k i e in
    let is : o ≡ old = same_some o old (sym at ∙ ap (slice_get xs) place ∙ there) in
    (new, ap (slice_get (slice_set xs i new)) place ∙ get_set_same xs i old new there, call ∙ ap (λ q. q.call) (sym is))
kept_by false xs i k old new o e there call at =
    let apart : k ≢ i = grind arith in
    (o, get_set_other xs i k o new at apart, refl)

operation_kept : (x : Context) (call : ℕ) (old new : Operation) (k : ℕ) (o : Operation) → operation_of x call ≡ Some old → old.call ≡ call → new.call ≡ old.call →
    slice_get x.operations k ≡ Some o → StillAt (with_operation x new) k o.call
operation_kept x call old new k o found_old old_call new_call at =
    let place = found x.operations call (place_of call_number call x.operations) old refl found_old in
    let number : new.call ≡ call = new_call ∙ old_call in
    let there : place_of call_number new.call x.operations ≡ Some place.0 = subst (λ n. place_of call_number n x.operations ≡ Some place.0) (sym number) place.1 in
    let shown : (with_operation x new).operations ≡ slice_set x.operations place.0 new = rw there (rw place.2 refl) in
    let q = kept_by (k == place.0) x.operations place.0 k old new o refl place.2 new_call at in
    (q.0, ap (λ os. slice_get os k) shown ∙ q.1, q.2)

placed_has : (p next : ProgramState) (call n : ℕ) (at : Placed) (new : Operation) → placed p call ≡ Some at → new.call ≡ at.operation.call →
    next.contexts ≡ slice_set p.contexts at.number (with_operation at.context new) → HasCall p n → HasCall next n
placed_has p next call n at new h same_call contexts has = by_context (has.context == at.number) refl
  where
    is : IsPlaced p call at
    is = is_placed p call at h

    by_context : (same : Bool) → (has.context == at.number) ≡ same → HasCall next n
    by_context true e =
        let place : has.context ≡ at.number = eqb-true has.context at.number e in
        let there_is : has.stands.context ≡ at.context =
        same_some has.stands.context at.context (sym has.stands.there ∙ ap (slice_get p.contexts) place ∙ is.there) in
        let o_at : slice_get at.context.operations has.place ≡ Some has.operation = ap (λ x. slice_get x.operations has.place) (sym there_is) ∙ has.stands.at in
        let q = operation_kept at.context call at.operation new has.place has.operation is.operation is.number same_call o_at in
        record {
          context = at.number;
          place = has.place;
          operation = q.0;
          stands = record {
            context = with_operation at.context new;
            there = ap (λ cs. slice_get cs at.number) contexts ∙ get_set_same p.contexts at.number at.context (with_operation at.context new) is.there;
            at = q.1;
          };
          is_call = q.2 ∙ has.is_call;
        }
    by_context false e =
        let apart : has.context ≢ at.number = grind arith in
        record {
          context = has.context;
          place = has.place;
          operation = has.operation;
          stands = record {
            context = has.stands.context;
            there = ap (λ cs. slice_get cs has.context) contexts
                ∙ get_set_other p.contexts at.number has.context has.stands.context (with_operation at.context new) has.stands.there apart;
            at = has.stands.at;
          };
          is_call = has.is_call;
        }

pub piece_has : (limits : Limits) (rows : Rows) (memory : Memory) (p next : ProgramState) (c j n : ℕ) (given : PieceAnswer) →
    piece_step limits rows memory p c j given ≡ Some next → HasCall p n → HasCall next n
piece_has limits rows memory p next c j n given h has =
    let new : Placed → MarkedPiece → Operation = λ at left. with_answer at.operation j left.piece given (bytes_found memory left.piece) in
    let test : Placed → MarkedPiece → Bool =
    λ at left. may_come at.context at.operation j && may_answer limits (due_answer rows memory p.who at.operation.kind left.piece) given in
    let b = bind_some (placed p c) (λ at. slice_get at.operation.pieces j >>= λ left. when (test at left) (with_placed p at (new at left))) next h in
    let d = bind_some (slice_get b.0.operation.pieces j) (λ left. when (test b.0 left) (with_placed p b.0 (new b.0 left))) next b.2 in
    let w = when_some (test b.0 d.0) (with_placed p b.0 (new b.0 d.0)) next d.2 in
    has_as (with_placed p b.0 (new b.0 d.0)) next n w.1 (placed_has p (with_placed p b.0 (new b.0 d.0)) c n b.0 (new b.0 d.0) b.1 refl refl has)

pub lose_has : (p next : ProgramState) (c j n : ℕ) → lose_step p c j ≡ Some next → HasCall p n → HasCall next n
lose_has p next c j n h has =
    let new : Placed → MarkedPiece → Operation = λ at left. without_piece at.operation j left.piece in
    let test : MarkedPiece → Bool = λ left. has_crashed p.standing && is_left left in
    let b = bind_some (placed p c) (λ at. slice_get at.operation.pieces j >>= λ left. when (test left) (with_placed p at (new at left))) next h in
    let d = bind_some (slice_get b.0.operation.pieces j) (λ left. when (test left) (with_placed p b.0 (new b.0 left))) next b.2 in
    let w = when_some (test d.0) (with_placed p b.0 (new b.0 d.0)) next d.2 in
    has_as (with_placed p b.0 (new b.0 d.0)) next n w.1 (placed_has p (with_placed p b.0 (new b.0 d.0)) c n b.0 (new b.0 d.0) b.1 refl refl has)
