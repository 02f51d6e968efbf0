-- What holds of the operations of a program goes on to hold.
use Rattle.std.proofs.Common.{◌≡◌, ℕ, ◌+◌, ◌<◌, ◌≤◌, Bool, List, [], length, ap, sym, subst, ◌∙◌, arith}
use Rattle.std.specs.Prelude.{All, Some, slice_get, slice_set}
use Rattle.std.proofs.lemmas.List.{length-set}
use Rattle.std.proofs.lemmas.List.Elements.{All-weaker, All-set, All-nil}
use Rattle.fam_context.specs.declared.tracked.Tracked.{Tracked}
use Rattle.fam_context.specs.Effects.{fenced}
use Rattle.fam_context.specs.Order.{tracked}
use Rattle.fam_model.specs.declared.piece.Operation.{Operation}
use Rattle.fam_model.specs.declared.state.Context.{Context}
use Rattle.fam_model.specs.declared.state.Started.{Started}
use Rattle.fam_model.specs.declared.state.Started.TheVariants as started
use Rattle.fam_model.specs.declared.state.ProgramState.{ProgramState}
use Rattle.fam_model.specs.ContextStep.{new_context}
use Rattle.fam_model.specs.Limits.{number_end}
use Rattle.fam_model.specs.Operations.{is_copy}
use Rattle.fam_model.specs.Programs.{call_number, with_operation}
use Rattle.fam_program.specs.Held.{IsIssued, IsWithin, IsProgram, contexts_of}
use Rattle.fam_program.proofs.Contexts.{context_set, context_there}
use Rattle.fam_program.proofs.Options.{all_get, all_changed}

issued_on : (n m : ℕ) (before after : Started) → n ≤ m → ((call : ℕ) → call < n → after ≡ started.Operation call → before ≡ started.Operation call) → (operation : Operation) → IsIssued n before operation → IsIssued m after operation
issued_on n m before after up on operation h =
    record { below = omega (arith, h.below); copies = h.copies; begins = λ e. h.begins (on operation.call h.below e) }

pub within_on : (n m : ℕ) (before after : Started) → n ≤ m → ((call : ℕ) → call < n → after ≡ started.Operation call → before ≡ started.Operation call) → (context : Context) → IsWithin n before context → IsWithin m after context
within_on n m before after up on context h =
    record {
      epoch = omega (arith, h.epoch);
      operations = All-weaker (IsIssued n before) (IsIssued m after) (issued_on n m before after up on) context.operations h.operations;
    }

-- all contexts, with a later call
pub all_within : (n m : ℕ) (before after : Started) → n ≤ m → ((call : ℕ) → call < n → after ≡ started.Operation call → before ≡ started.Operation call) → (contexts : List Context) → All (IsWithin n before) contexts → All (IsWithin m after) contexts
all_within n m before after up on contexts h =
    All-weaker (IsWithin n before) (IsWithin m after) (within_on n m before after up on) contexts h

-- a context that is new
pub new_within : (n : ℕ) (begun : Started) → IsWithin n begun new_context
new_within n begun = record { epoch = omega arith; operations = All-nil (IsIssued n begun) }

-- a program with other contexts, a later call, and something else started
abbrev pub moved_on : ProgramState → ℕ → List Context → Started → ProgramState
moved_on p n contexts begun = record p { contexts = contexts; next_call = n; started = begun }

pub program_on : (p : ProgramState) (n : ℕ) (contexts : List Context) (begun : Started) → IsProgram p → n ≤ number_end → length contexts ≡ length p.contexts → All (IsWithin n begun) contexts → IsProgram (moved_on p n contexts begun)
program_on p n contexts begun h up l w =
    record {
      regions = h.regions;
      items = h.items;
      places = l ∙ h.places;
      calls = h.calls;
      bytes = h.bytes;
      parts = h.parts;
      numbers = up;
      within = w;
    }

-- the contexts of a program, once one of them is another
pub contexts_on : (p : ProgramState) (n : ℕ) (begun : Started) (ts : List Tracked) (c : ℕ) (t : Tracked) → IsProgram p → p.contexts ≡ contexts_of ts → p.next_call ≤ n → ((call : ℕ) → call < p.next_call → begun ≡ started.Operation call → p.started ≡ started.Operation call) → IsWithin n begun t.context → All (IsWithin n begun) (contexts_of (slice_set ts c t))
contexts_on p n begun ts c t h e up on w =
    let before : All (IsWithin n begun) (contexts_of ts) = subst (All (IsWithin n begun)) e (all_within p.next_call n p.started begun up on p.contexts h.within) in
    subst (All (IsWithin n begun)) (sym (context_set ts c t)) (All-set (IsWithin n begun) (contexts_of ts) c t.context w before)

pub length_on : (p : ProgramState) (ts : List Tracked) (c : ℕ) (t : Tracked) → p.contexts ≡ contexts_of ts → length (contexts_of (slice_set ts c t)) ≡ length p.contexts
length_on p ts c t e =
    ap length (context_set ts c t) ∙ length-set (contexts_of ts) c t.context ∙ ap length (sym e)

-- a program, once one of its contexts is another
pub program_set : (p : ProgramState) (n : ℕ) (begun : Started) (ts : List Tracked) (c : ℕ) (t : Tracked) → IsProgram p → p.contexts ≡ contexts_of ts → p.next_call ≤ n → n ≤ number_end → ((call : ℕ) → call < p.next_call → begun ≡ started.Operation call → p.started ≡ started.Operation call) → IsWithin n begun t.context → IsProgram (moved_on p n (contexts_of (slice_set ts c t)) begun)
program_set p n begun ts c t h e up end on w =
    program_on p n (contexts_of (slice_set ts c t)) begun h end (length_on p ts c t e) (contexts_on p n begun ts c t h e up on w)

-- what holds of a context of a program
pub context_within : (p : ProgramState) (ts : List Tracked) (c : ℕ) (t : Tracked) → IsProgram p → p.contexts ≡ contexts_of ts → slice_get ts c ≡ Some t → IsWithin p.next_call p.started t.context
context_within p ts c t h e g =
    all_get (IsWithin p.next_call p.started) p.contexts c t.context h.within (ap (λ (cs : List Context). slice_get cs c) e ∙ context_there ts c t g)

-- a fence is a call
pub fenced_within : (n : ℕ) (begun : Started) (before after : Tracked) → IsWithin n begun before.context → after ≡ fenced before → IsWithin (n + 1) begun after.context
fenced_within n begun before after h e =
    let on : (call : ℕ) → call < n → begun ≡ started.Operation call → begun ≡ started.Operation call = λ call below same. same in
    let later = within_on n (n + 1) begun begun (omega arith) on before.context h in
    let new : IsWithin (n + 1) begun (fenced before).context = record { epoch = omega (arith, h.epoch); operations = later.operations } in
    subst (λ (t : Tracked). IsWithin (n + 1) begun t.context) (sym e) new

-- what an operation goes by here
abbrev pub head_of : Operation → ℕ × Bool × Bool × Bool
head_of operation = (operation.call, is_copy operation.kind, operation.blocking, operation.reported)

-- an operation that is the same but for its pieces
pub issued_same : (n : ℕ) (begun : Started) (before after : Operation) → head_of after ≡ head_of before → IsIssued n begun before → IsIssued n begun after
issued_same n begun before after e h =
    let call : after.call ≡ before.call = ap (λ (x : ℕ × Bool × Bool × Bool). x.0) e in
    let copy : is_copy after.kind ≡ is_copy before.kind = ap (λ (x : ℕ × Bool × Bool × Bool). x.1) e in
    let blocking : after.blocking ≡ before.blocking = ap (λ (x : ℕ × Bool × Bool × Bool). x.2) e in
    let told : after.reported ≡ before.reported = ap (λ (x : ℕ × Bool × Bool × Bool). x.3) e in
    record {
      below = rw call h.below;
      copies = rw (copy, blocking) h.copies;
      begins = λ same. rw (blocking, told) (h.begins (same ∙ ap (λ (k : ℕ). started.Operation k) call));
    }

-- a context, once an operation of it is another
pub operation_within : (n : ℕ) (begun : Started) (context : Context) (operation : Operation) → IsWithin n begun context → IsIssued n begun operation → IsWithin n begun (with_operation context operation)
operation_within n begun context operation h new =
    record {
      epoch = h.epoch;
      operations = all_changed (IsIssued n begun) call_number operation.call (λ _. operation) context.operations h.operations (λ _. new);
    }

pub new_within_as : (n : ℕ) (begun : Started) (t : Tracked) → t ≡ tracked new_context [] → IsWithin n begun t.context
new_within_as n begun t e = subst (λ (s : Tracked). IsWithin n begun s.context) (sym e) (new_within n begun)
