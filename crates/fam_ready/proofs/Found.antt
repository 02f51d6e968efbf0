-- The operation of a call as the code finds it, and what is said of it then.
use Rattle.std.proofs.Common.{◌≡◌, ℕ, ◌+◌, ◌<◌, ◌≤◌, ◌^◌, List, refl, sym, ap, ◌∙◌, arith, subst, length, get_or}
use Rattle.std.specs.Prelude.{◌==◌, Result, Ok, Err, OnOk, Some, slice_get}
use Rattle.std.proofs.lemmas.List.Quantifiers.{position-Some}
use Rattle.fam_base.specs.declared.error.NoMemory.{NoMemory}
use Rattle.fam_context.specs.declared.tracked.Tracked.{Tracked}
use Rattle.fam_context.specs.Order.{IsOrdered}
use Rattle.fam_model.specs.declared.event.Event.{Event}
use Rattle.fam_model.specs.declared.piece.Operation.{Operation}
use Rattle.fam_model.specs.declared.state.ProgramState.{ProgramState}
use Rattle.fam_model.specs.Limits.{service_limits}
use Rattle.fam_model.specs.Lists.{place_of}
use Rattle.fam_model.specs.Programs.{call_number, context_of, operation_of, Placed, placed}
use Rattle.fam_schedule.specs.Schedule.{PieceName}
use Rattle.fam_ready.specs.Ready.{KeepsReady}
use Rattle.fam_ready.specs.Telling.{AsksAgain, Covers, Follows, FollowsIssue, FollowsPiece, Tells, is_between, is_call, is_either, is_piece}
use Rattle.fam_ready.proofs.Answering.{tells_both}
use Rattle.fam_ready.proofs.Coming.{same_some}
use Rattle.fam_ready.proofs.Following.{follows_ready}
use Rattle.fam_ready.proofs.Order.{copy_turns, few_pieces, operation_ordered, read_there}

-- the call's operation at place k of context c
pub record Finds (p : ProgramState) (u c k : ℕ) (t : Tracked) (xs : List Operation) (o : Operation) : Type 0 where
  pub holder : Some c ≡ context_of p u
  pub there : Some t.context ≡ slice_get p.contexts c
  pub place : Some k ≡ place_of call_number u t.context.operations
  pub same : xs ≡ t.context.operations
  pub read : o ≡ get_or xs k o
  pub ordered : IsOrdered t

at_place : (p : ProgramState) (u c k : ℕ) (t : Tracked) (xs : List Operation) (o : Operation) → Finds p u c k t xs o → slice_get t.context.operations k ≡ Some o
at_place p u c k t xs o f =
    let within : k < length t.context.operations = (position-Some (λ q. call_number q == u) t.context.operations k o (sym f.place)).0 in
    read_there xs t.context.operations k (length t.context.operations) o f.same f.read within (omega arith)

pub found_there : (p : ProgramState) (u c k : ℕ) (t : Tracked) (xs : List Operation) (o : Operation) → Finds p u c k t xs o → operation_of t.context o.call ≡ Some o
found_there p u c k t xs o f = operation_ordered t k o f.ordered (at_place p u c k t xs o f)

pub found_few : (p : ProgramState) (u c k : ℕ) (t : Tracked) (xs : List Operation) (o : Operation) → Finds p u c k t xs o → length o.pieces < 2 ^ 32
found_few p u c k t xs o f = few_pieces t k o f.ordered (at_place p u c k t xs o f)

-- it is the one of the definitions
found_placed : (p : ProgramState) (u c k : ℕ) (t : Tracked) (xs : List Operation) (o : Operation) → Finds p u c k t xs o →
    placed p u ≡ Some (record { number = c; context = t.context; operation = o })
found_placed p u c k t xs o f =
    let place : place_of call_number u t.context.operations ≡ Some k = sym f.place in
    let one : operation_of t.context u ≡ Some o = rw place (at_place p u c k t xs o f) in
    let holder : context_of p u ≡ Some c = sym f.holder in
    let there : slice_get p.contexts c ≡ Some t.context = sym f.there in
    rw (holder, there, one) refl

pub follows_issue_by : (p : ProgramState) (u c k pe : ℕ) (t : Tracked) (xs : List Operation) (o : Operation) (old new : List (List PieceName)) (result : Result (Unit {0}) NoMemory) →
    Finds p u c k t xs o → OnOk result (Tells t.context pe (is_call o.call) old new) → OnOk result (FollowsIssue p pe u old new)
follows_issue_by p u c k pe t xs o old new (Err error) f tells = tt
follows_issue_by p u c k pe t xs o old new (Ok done) f tells =
    λ at there.
    let here : Placed = record { number = c; context = t.context; operation = o } in
    let is : here ≡ at = same_some here at (sym (found_placed p u c k t xs o f) ∙ there) in
    subst (λ (a : Placed). Tells a.context pe (is_call a.operation.call) old new) is tells

pub follows_piece_by : (p : ProgramState) (u c k pe j from to : ℕ) (t : Tracked) (xs : List Operation) (o : Operation) (old one two new : List (List PieceName)) (result : Result (Unit {0}) NoMemory) →
    Finds p u c k t xs o → Tells t.context pe (is_piece o.call j) old one → Tells t.context pe (is_piece o.call (j + 1)) one two → Covers o.epoch t.context from to →
    OnOk result (Tells t.context pe (is_between t.context from to) two new) → OnOk result (FollowsPiece p pe u j old new)
follows_piece_by p u c k pe j from to t xs o old one two new (Err error) f first second covers third = tt
follows_piece_by p u c k pe j from to t xs o old one two new (Ok done) f first second covers third =
    λ at there.
    let here : Placed = record { number = c; context = t.context; operation = o } in
    let is : here ≡ at = same_some here at (sym (found_placed p u c k t xs o f) ∙ there) in
    subst (λ (a : Placed). AsksAgain a pe j old new) is (record {
      from = from;
      to = to;
      covers = covers;
      turns = copy_turns t k o f.ordered (at_place p u c k t xs o f);
      tells = tells_both t.context pe (is_either (is_piece o.call j) (is_piece o.call (j + 1))) (is_between t.context from to) old two new
          (tells_both t.context pe (is_piece o.call j) (is_piece o.call (j + 1)) old one two first second) third;
    })

pub keeps_by : (event : Event) (p : ProgramState) (old new : List (List PieceName)) (result : Result (Unit {0}) NoMemory) →
    OnOk result (Follows event.what p event.pe.0 event.call old new) → OnOk result (KeepsReady event p old new)
keeps_by event p old new (Err error) follows = tt
keeps_by event p old new (Ok done) follows = λ before after ready tidy h there. follows_ready service_limits before after event p old new ready tidy h there follows
