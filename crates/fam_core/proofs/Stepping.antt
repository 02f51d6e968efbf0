-- The event that comes next has a step.
use Rattle.std.proofs.Common.{◌≡◌, ℕ, Bool, true, false, refl, sym, ap, ◌∙◌, subst}
use Rattle.std.specs.Prelude.{◌&&◌, ◌==◌, ◌%◌, Option, Some, None, is_some, length, nat_lt, slice_get, if◌then◌else◌}
use Rattle.std.specs.Option.{option_map}
use Rattle.rand_pcg.specs.Lcg.{Lcg}
use Rattle.rand_pcg.specs.Pcg.{pcg32}
use Rattle.fam_model.specs.declared.event.Event.{Event}
use Rattle.fam_model.specs.declared.event.What.TheVariants as what
use Rattle.fam_model.specs.declared.piece.MarkedPiece.{MarkedPiece}
use Rattle.fam_model.specs.declared.script.Script.{Script}
use Rattle.fam_model.specs.declared.state.ProgramState.{ProgramState}
use Rattle.fam_model.specs.declared.state.State.{State}
use Rattle.fam_model.specs.Limits.{service_limits}
use Rattle.fam_model.specs.Lists.{◌>>=◌, when, is_some_and}
use Rattle.fam_model.specs.Operations.{is_left, may_come, is_past_fences, has_its_bytes}
use Rattle.fam_model.specs.PieceStep.{bytes_found, due_answer, lose_step, may_answer, memory_by_piece, piece_step, with_answer, without_piece}
use Rattle.fam_model.specs.Programs.{Placed, has_crashed, placed, program_of, with_placed, with_program}
use Rattle.fam_model.specs.Step.{effect, step}
use Rattle.fam_model.specs.Turn.{is_in_turn}
use Rattle.fam_schedule.specs.Schedule.{Run, Actor, Program, Stripe, PieceName, Step, actors, acts, drawn, event_after, event_of, is_orphan, is_ready, loss, next_step, piece_event, program_event, ready_on, taken, with_words}
use Rattle.fam_schedule.proofs.Options.{bind_some, when_some}
use Rattle.fam_schedule.proofs.Begins.{some_bind, some_map, some_when}
use Rattle.fam_schedule.proofs.Finding.{any_at_place}
use Rattle.ready_lists.specs.Lists.{may_come_on, same_name}
use Rattle.ready_lists.proofs.Order.{same_name-refl}
use Rattle.ready_lists.proofs.Ready.{has_name-ready_on}
use Rattle.std.proofs.lemmas.Bool.{false≢true}
use Rattle.fam_steps.specs.Steps.{IsNotEnabled, event_for}
use Rattle.fam_steps.specs.declared.step.Step.{Step as Asked}
use Rattle.fam_steps.proofs.Pieces.{may_due}
use Rattle.fam_steps.proofs.Shapes.{shape_of}
use Rattle.fam_core.proofs.Leading.{the_step}

-- the event has a step
abbrev pub Goes : State → Event → Type 0
Goes state event = is_some (step service_limits state event) ≡ true

-- a piece that may come

-- where a named piece stands
record Named (state : State) (name : PieceName) : Type 0 where
  pub p : ProgramState
  pub there : program_of state name.pe ≡ Some p
  pub at : Placed
  pub is_at : placed p name.call ≡ Some at
  pub comes : may_come at.context at.operation name.piece ≡ true

first_true : (a b : Bool) → (a && b) ≡ true → a ≡ true
first_true true b e = refl
first_true false b e = cc

second_true : (a b : Bool) → (a && b) ≡ true → b ≡ true
second_true true b e = e
second_true false b e = cc

both_true : (a b : Bool) → a ≡ true → b ≡ true → (a && b) ≡ true
both_true a b e f = rw (e, f) refl

is_some_get : {A : Type 0} (o : Option A) (test : A → Bool) → is_some_and o test ≡ true → (x : A) × (o ≡ Some x) × (test x ≡ true)
is_some_get None test h = cc
is_some_get (Some x) test h = (x, refl, h)

named : (state : State) (stripe k : ℕ) (name : PieceName) → slice_get (ready_on state stripe) k ≡ Some name → Named state name
named state stripe k name there =
    let may : may_come_on state stripe name ≡ true =
    sym (has_name-ready_on state stripe name) ∙ any_at_place (same_name name) (ready_on state stripe) k name there (same_name-refl name) in
    let p = is_some_get (program_of state name.pe) (λ p. nat_lt name.call p.next_call && is_some_and (placed p name.call) (λ at. is_ready stripe at name.piece)) may in
    let at = is_some_get (placed p.0 name.call) (λ at. is_ready stripe at name.piece) (second_true (nat_lt name.call p.0.next_call) (is_some_and (placed p.0 name.call) (λ at. is_ready stripe at name.piece)) p.2) in
    record {
      p = p.0;
      there = p.1;
      at = at.0;
      is_at = at.1;
      comes = first_true (may_come at.0.context at.0.operation name.piece) (is_some_and (slice_get at.0.operation.pieces name.piece) (λ marked. marked.piece.place.stripe == stripe)) at.2;
    }

left_of : (at : Placed) (j : ℕ) → may_come at.context at.operation j ≡ true → (left : MarkedPiece) × (slice_get at.operation.pieces j ≡ Some left) × (is_left left ≡ true)
unfolding may_come
left_of at j comes =
    is_some_get (slice_get at.operation.pieces j) is_left
    (first_true (is_some_and (slice_get at.operation.pieces j) is_left) (is_past_fences at.context at.operation)
    (first_true (is_some_and (slice_get at.operation.pieces j) is_left && is_past_fences at.context at.operation) (has_its_bytes at.operation j) comes))

bind_to : {A B : Type 0} (o : Option A) (x : A) (f : A → Option B) → o ≡ Some x → (o >>= f) ≡ f x
bind_to o x f e = rw e refl

piece_goes : (state : State) (name : PieceName) (event : Event) → Named state name → piece_event state name ≡ Some event → Goes state event
piece_goes state name event n is =
    let left = left_of n.at name.piece n.comes in
    let due = due_answer state.rows state.memory n.p.who n.at.operation.kind left.0.piece in
    let made = event_of name.pe name.call (what.Piece name.piece due) in
    let made_is : piece_event state name ≡ Some made =
    bind_to (program_of state name.pe) n.p (λ p. placed p name.call >>= λ at. slice_get at.operation.pieces name.piece >>= λ l. Some (event_of name.pe name.call (what.Piece name.piece (due_answer state.rows state.memory p.who at.operation.kind l.piece)))) n.there
    ∙ bind_to (placed n.p name.call) n.at (λ at. slice_get at.operation.pieces name.piece >>= λ l. Some (event_of name.pe name.call (what.Piece name.piece (due_answer state.rows state.memory n.p.who at.operation.kind l.piece)))) n.is_at
    ∙ bind_to (slice_get n.at.operation.pieces name.piece) left.0 (λ l. Some (event_of name.pe name.call (what.Piece name.piece (due_answer state.rows state.memory n.p.who n.at.operation.kind l.piece)))) left.1 in
    let same : made ≡ event = some_same made event (sym made_is ∙ is) in
    let test : Placed → MarkedPiece → Bool = λ at l. may_come at.context at.operation name.piece && may_answer service_limits (due_answer state.rows state.memory n.p.who at.operation.kind l.piece) due in
    let next : Placed → MarkedPiece → ProgramState = λ at l. with_placed n.p at (with_answer at.operation name.piece l.piece due (bytes_found state.memory l.piece)) in
    let stepped : is_some (piece_step service_limits state.rows state.memory n.p name.call name.piece due) ≡ true =
    some_bind (placed n.p name.call) n.at (λ at. slice_get at.operation.pieces name.piece >>= λ l. when (test at l) (next at l)) n.is_at
    (some_bind (slice_get n.at.operation.pieces name.piece) left.0 (λ l. when (test n.at l) (next n.at l)) left.1
    (some_when (test n.at left.0) (next n.at left.0)
    (both_true (may_come n.at.context n.at.operation name.piece) (may_answer service_limits due due) n.comes (may_due service_limits state.rows state.memory n.p.who n.at.operation.kind left.0.piece)))) in
    subst (Goes state) same
    (some_bind (program_of state name.pe) n.p (λ p. if is_in_turn p name.call made.what then effect service_limits state name.pe p name.call made.what else None) n.there
    (some_map (with_program (record state { memory = memory_by_piece state.memory n.p name.call name.piece due }) name.pe)
    (piece_step service_limits state.rows state.memory n.p name.call name.piece due) stepped))
  where
    some_same : (x y : Event) → Some x ≡ Some y → x ≡ y
    some_same x y e = cc

loss_goes : (state : State) (name : PieceName) → Named state name → is_orphan state name ≡ true → Goes state (loss name)
loss_goes state name n orphan =
    let left = left_of n.at name.piece n.comes in
    let crashed : has_crashed n.p.standing ≡ true = sym (ap (λ o. is_some_and o (λ p. has_crashed p.standing)) n.there) ∙ orphan in
    let test : MarkedPiece → Bool = λ l. has_crashed n.p.standing && is_left l in
    let next : Placed → MarkedPiece → ProgramState = λ at l. with_placed n.p at (without_piece at.operation name.piece l.piece) in
    let stepped : is_some (lose_step n.p name.call name.piece) ≡ true =
    some_bind (placed n.p name.call) n.at (λ at. slice_get at.operation.pieces name.piece >>= λ l. when (test l) (next at l)) n.is_at
    (some_bind (slice_get n.at.operation.pieces name.piece) left.0 (λ l. when (test l) (next n.at l)) left.1
    (some_when (test left.0) (next n.at left.0) (both_true (has_crashed n.p.standing) (is_left left.0) crashed left.2))) in
    some_bind (program_of state name.pe) n.p (λ p. if is_in_turn p name.call (what.Lose name.piece) then effect service_limits state name.pe p name.call (what.Lose name.piece) else None) n.there
    (some_map (with_program state name.pe) (lose_step n.p name.call name.piece) stepped)

-- the step of an actor

abbrev the_event : Step → Event
the_event s = s.0

with_words_some : (words : Lcg) (o : Option Event) (s : Step) → with_words words o ≡ Some s → o ≡ Some s.0
with_words_some words None s h = cc
with_words_some words (Some e) s h = let same : Some e ≡ Some s.0 = ap (option_map the_event) h in same

taken_goes : (orphan odd : Bool) (state : State) (name : PieceName) (words later : Lcg) (s : Step) → Named state name → is_orphan state name ≡ orphan →
    (if orphan
    then (if odd then Some (the_step (loss name) later) else with_words later (piece_event state name))
    else with_words words (piece_event state name)) ≡ Some s → Goes state s.0
taken_goes true true state name words later s n orphan h =
    let same : Some (loss name) ≡ Some s.0 = ap (option_map the_event) h in
    let is : loss name ≡ s.0 = cc in
    subst (Goes state) is (loss_goes state name n orphan)
taken_goes true false state name words later s n orphan h = piece_goes state name s.0 n (with_words_some later (piece_event state name) s h)
taken_goes false odd state name words later s n orphan h = piece_goes state name s.0 n (with_words_some words (piece_event state name) s h)

program_goes : (script : Script) (run : Run) (pe : ℕ) (event : Event) → program_event script run pe ≡ Some event → Goes run.now event
program_goes script run pe event h =
    let b = bind_some (program_of run.now pe) (λ p. event_after script run pe p p.started >>= λ e. when (is_some (step service_limits run.now e)) e) event h in
    let c = bind_some (event_after script run pe b.0 b.0.started) (λ e. when (is_some (step service_limits run.now e)) e) event b.2 in
    let w = when_some (is_some (step service_limits run.now c.0)) c.0 event c.2 in
    subst (Goes run.now) w.1 w.0

actor_goes : (script : Script) (run : Run) (actor : Actor) (words : Lcg) (s : Step) → acts script run actor words ≡ Some s → Goes run.now s.0
actor_goes script run (Program pe) words s h = program_goes script run pe s.0 (with_words_some words (program_event script run pe) s h)
actor_goes script run (Stripe stripe) words s h =
    let ready = ready_on run.now stripe in
    let choice = drawn (length ready) words in
    let b = bind_some (slice_get ready choice.0) (λ name. taken run.now name choice.1) s h in
    taken_goes (is_orphan run.now b.0) ((pcg32 choice.1).0 % 2 == 1) run.now b.0 choice.1 (pcg32 choice.1).1 s (named run.now stripe choice.0 b.0 b.1) refl b.2

-- the event that comes next has a step
pub next_goes : (script : Script) (run : Run) (s : Step) → next_step script run ≡ Some s → Goes run.now s.0
next_goes script run s h =
    let choice = drawn (length (actors script run)) run.words in
    let b = bind_some (slice_get (actors script run) choice.0) (λ actor. acts script run actor choice.1) s h in
    actor_goes script run b.0 choice.1 s b.2

-- what comes next is not what a step is for that is not enabled
pub not_enabled : (script : Script) (run : Run) (wanted : Asked) (later : Lcg) → next_step script run ≡ with_words later (event_for run.now wanted) → IsNotEnabled run.now wanted → next_step script run ≡ None
not_enabled script run wanted later chooses not = by_event (event_for run.now wanted) refl
  where
    by_event : (o : Option Event) → event_for run.now wanted ≡ o → next_step script run ≡ None
    by_event None e = chooses ∙ ap (with_words later) e
    by_event (Some event) e =
        let next : next_step script run ≡ Some (the_step event later) = chooses ∙ ap (with_words later) e in
        let goes : is_some (step service_limits run.now event) ≡ true = next_goes script run (the_step event later) next in
        let none : step service_limits run.now event ≡ None = not event (shape_of run.now wanted event e) in
        absurd (false≢true (sym (ap is_some none) ∙ goes))
