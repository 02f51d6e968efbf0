-- Operations of a program, and what their contexts tell of them.
use Rattle.std.proofs.Common.{◌≡◌, ℕ, Bool, true, false, not, ◌&&◌, ◌==◌, refl, sym, ap, ◌∙◌}
use Rattle.std.specs.Prelude.{Option, Some, None, is_some, slice_get}
use Rattle.std.specs.Option.{option_map}
use Rattle.std.proofs.lemmas.Bool.{false≢true}
use Rattle.std.proofs.lemmas.List.Folds.{list_any_at}
use Rattle.std.proofs.lemmas.List.Quantifiers.{position-Some}
use Rattle.std.proofs.lemmas.Option.{get_or_from_slice_get}
use Rattle.fam_context.specs.Effects as effects
use Rattle.fam_context.proofs.Places.{place_number}
use Rattle.fam_model.specs.declared.piece.Operation.{Operation}
use Rattle.fam_model.specs.declared.reply.Reply.{Reply}
use Rattle.fam_model.specs.declared.state.Context.{Context}
use Rattle.fam_model.specs.declared.state.ProgramState.{ProgramState}
use Rattle.fam_model.specs.declared.state.Started.TheVariants as begun
use Rattle.fam_model.specs.Lists.{◌>>=◌, when, is_some_and, place_of}
use Rattle.fam_model.specs.Operations.{has_left, result, is_copy, is_unreported}
use Rattle.fam_model.specs.Programs.{Placed, call_number, context_of, has_operation, operation_of, open_context, unreported_copy}
use Rattle.fam_program.specs.Held.{IsIssued, IsWithin, IsProgram}
use Rattle.fam_program.specs.Reports as reports
use Rattle.fam_program.proofs.Options.{all_get}
use Rattle.fam_program.proofs.Parts.{found_in}
use Rattle.fam_program.proofs.Telling.{none_left}
use Rattle.fam_schedule.proofs.Going.{some_is}
use Rattle.fam_schedule.proofs.Options.{bind_some, when_some}
use Rattle.fam_schedule.proofs.Steps.{opened_at, waited}
use Rattle.fam_turns.specs.Turns.{is_copying, may_finish}

-- an operation that is found is there
found_has : (context : Context) (call : ℕ) (operation : Operation) → operation_of context call ≡ Some operation → has_operation context call ≡ true
found_has context call operation e =
    let place = bind_some (place_of call_number call context.operations) (λ k. slice_get context.operations k) operation e in
    let test : Operation → Bool = λ x. call_number x == call in
    let found = position-Some test context.operations place.0 operation place.1 in
    list_any_at test context.operations place.0 operation found.0 found.1

found_number : (context : Context) (call : ℕ) (operation : Operation) → operation_of context call ≡ Some operation → operation.call ≡ call
found_number context call operation e =
    let place = bind_some (place_of call_number call context.operations) (λ k. slice_get context.operations k) operation e in
    place_number call_number call context.operations place.0 operation place.1 place.2

-- the context that has the operation of a call
pub holder_has : (p : ProgramState) (call c : ℕ) (context : Context) → context_of p call ≡ Some c → slice_get p.contexts c ≡ Some context → has_operation context call ≡ true
holder_has p call c context e there =
    let found = position-Some (λ x. has_operation x call) p.contexts c context e in
    let is = get_or_from_slice_get p.contexts c context context there in
    ap (λ x. has_operation x call) (sym is) ∙ found.1

-- an operation that was not told
told_left : (context : Context) (call : ℕ) (operation : Operation) → operation_of context call ≡ Some operation → operation.reported ≡ false → reports.no_left (effects.left_of context call) ≡ not (has_left operation)
told_left context call operation e untold =
    ap (λ (x : Option Operation). reports.no_left (option_map effects.left_count (x >>= λ q. when (not q.reported) q))) e
    ∙ ap (λ (b : Bool). reports.no_left (option_map effects.left_count (when (not b) operation))) untold
    ∙ none_left operation.pieces

-- copies

-- a copy that was not reported, in its context
copy_in : (p : ProgramState) (c named : ℕ) (context : Context) → is_some (unreported_copy p c named) ≡ true → slice_get p.contexts c ≡ Some context →
    (operation : Operation) × (unreported_copy p c named ≡ Some operation) × (operation_of context named ≡ Some operation)
copy_in p c named context some there =
    let copy = some_is (unreported_copy p c named) some in
    (copy.0, copy.1, waited p c named context copy.0 there copy.1)

pub copy_has : (p : ProgramState) (c named : ℕ) (context : Context) → is_some (unreported_copy p c named) ≡ true → slice_get p.contexts c ≡ Some context → has_operation context named ≡ true
copy_has p c named context some there =
    let copy = copy_in p c named context some there in found_has context named copy.0 copy.2

pub copy_result : (p : ProgramState) (c named : ℕ) (context : Context) (given : Reply) → is_some (unreported_copy p c named) ≡ true → slice_get p.contexts c ≡ Some context →
    option_map result (operation_of context named) ≡ Some given → Some given ≡ option_map result (unreported_copy p c named)
copy_result p c named context given some there told =
    let copy = copy_in p c named context some there in
    sym told ∙ ap (option_map result) copy.2 ∙ sym (ap (option_map result) copy.1)

-- a copy that was not reported was not told
untold_copy : (copies blocks told : Bool) → copies && (not blocks && not told) ≡ true → told ≡ false
untold_copy true false false h = refl
untold_copy true true told h = absurd (false≢true h)
untold_copy true false true h = absurd (false≢true h)
untold_copy false blocks told h = absurd (false≢true h)

pub copying_is : (p : ProgramState) (c named : ℕ) (context : Context) → is_some (unreported_copy p c named) ≡ true → open_context p c ≡ Some context →
    not (reports.no_left (effects.left_of context named)) ≡ is_copying p c named
copying_is p c named context some is_there =
    let there = opened_at p c context is_there in
    let copy = copy_in p c named context some there in
    let test : Operation → Bool = λ q. is_copy q.kind && is_unreported q in
    let first = bind_some (slice_get p.contexts c) (λ x. operation_of x named >>= λ q. when (test q) q) copy.0 copy.1 in
    let second = bind_some (operation_of first.0 named) (λ q. when (test q) q) copy.0 first.2 in
    let passed = when_some (test second.0) second.0 copy.0 second.2 in
    let untold : copy.0.reported ≡ false = untold_copy (is_copy copy.0.kind) copy.0.blocking copy.0.reported (ap test (sym passed.1) ∙ passed.0) in
    ap not (told_left context named copy.0 copy.2 untold)
    ∙ not_not (has_left copy.0)
    ∙ sym (ap (λ (o : Option Context). is_some o && is_some_and (unreported_copy p c named) has_left) is_there
    ∙ ap (λ (o : Option Operation). is_some_and o has_left) copy.1)
  where
    not_not : (b : Bool) → not (not b) ≡ b
    not_not true = refl
    not_not false = refl

-- what is started

untold_by : (a b : Bool) → (a && not b) ≡ true → b ≡ false
untold_by true true h = absurd (false≢true h)
untold_by true false h = refl
untold_by false b h = absurd (false≢true h)

-- the started operation has a piece left, as its context tells
pub finish_is : (p : ProgramState) (call c : ℕ) (context : Context) → IsProgram p → p.started ≡ begun.Operation call → context_of p call ≡ Some c → slice_get p.contexts c ≡ Some context →
    reports.no_left (effects.left_of context call) ≡ may_finish p call
finish_is p call c context h begins found there = of_operation (operation_of context call) refl
  where
    within : IsWithin p.next_call p.started context
    within = all_get (IsWithin p.next_call p.started) p.contexts c context h.within there

    in_place : (o : Option Operation) → operation_of context call ≡ o → may_finish p call ≡ is_some_and o (λ operation. not (has_left operation))
    in_place o e =
        ap (λ (k : Option ℕ). is_some_and (k >>= λ n. slice_get p.contexts n >>= λ x. operation_of x call >>= λ operation. Some (at n x operation)) left) found
        ∙ ap (λ (k : Option Context). is_some_and (k >>= λ x. operation_of x call >>= λ operation. Some (at c x operation)) left) there
        ∙ ap (λ (k : Option Operation). is_some_and (k >>= λ operation. Some (at c context operation)) left) e
        ∙ of_found o
      where
        at : ℕ → Context → Operation → Placed
        at n x operation = record { number = n; context = x; operation = operation }

        left : Placed → Bool
        left found_at = not (has_left found_at.operation)

        of_found : (k : Option Operation) → is_some_and (k >>= λ operation. Some (at c context operation)) left ≡ is_some_and k (λ operation. not (has_left operation))
        of_found None = refl
        of_found (Some operation) = refl

    of_operation : (o : Option Operation) → operation_of context call ≡ o → reports.no_left (effects.left_of context call) ≡ may_finish p call
    of_operation None e =
        ap (λ (x : Option Operation). reports.no_left (option_map effects.left_count (x >>= λ q. when (not q.reported) q))) e
        ∙ sym (in_place None e)
    of_operation (Some operation) e =
        let issued : IsIssued p.next_call p.started operation = found_in (IsIssued p.next_call p.started) context call operation within.operations e in
        let same : p.started ≡ begun.Operation operation.call = begins ∙ ap (λ (n : ℕ). begun.Operation n) (sym (found_number context call operation e)) in
        let untold : operation.reported ≡ false = untold_by operation.blocking operation.reported (issued.begins same) in
        told_left context call operation e untold ∙ sym (in_place (Some operation) e)
