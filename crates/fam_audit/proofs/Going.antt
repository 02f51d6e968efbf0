-- Where an audit stands after an event that it took.
use Rattle.std.proofs.Common.{◌≡◌, ℕ, zero, suc, ◌<◌, ◌≤◌, Bool, true, false, List, [], ◌∷◌, ◌++◌, length, refl, sym, ap, ◌∙◌, subst, append-nil, arith, eqb-true}
use Rattle.std.specs.Prelude.{◌==◌, ◌≢◌, Option, Some, None, is_some, slice_get, slice_set, if◌then◌else◌}
use Rattle.std.specs.Option.{option_map_or, option_to_list}
use Rattle.std.proofs.lemmas.List.{length-set}
use Rattle.std.proofs.lemmas.Option.{slice_get_past, slice_get_within}
use Rattle.fam_model.specs.declared.call.Call.{Call}
use Rattle.fam_model.specs.declared.event.Event.{Event}
use Rattle.fam_model.specs.declared.reply.Reply.{Reply}
use Rattle.fam_model.specs.declared.script.Program.{Program as Text}
use Rattle.fam_model.specs.declared.script.Script.{Script}
use Rattle.fam_model.specs.declared.state.ProgramState.{ProgramState}
use Rattle.fam_model.specs.declared.state.State.{State}
use Rattle.fam_model.specs.Limits.{service_limits}
use Rattle.fam_model.specs.Lists.{◌>>=◌}
use Rattle.fam_model.specs.Programs.{program_of}
use Rattle.fam_model.specs.Step.{effect, step}
use Rattle.fam_model.specs.Text.{next_call, is_call}
use Rattle.fam_model.specs.Turn.{call_made, is_in_turn}
use Rattle.fam_schedule.specs.Schedule.{replies_to}
use Rattle.fam_schedule.proofs.Follows.{tells_skip}
use Rattle.fam_schedule.proofs.Moves.{Moved, Moves, step_moves}
use Rattle.fam_schedule.proofs.Options.{bind_some, if_some}
use Rattle.fam_schedule.proofs.Places.{get_set_same, get_set_other}
use Rattle.fam_schedule.proofs.Rests.{step_rests}
use Rattle.fam_schedule.proofs.Runs.{TellsOne, apart_not_mine, differ}
use Rattle.fam_audit.specs.declared.auditor.Auditor.{Auditor}
use Rattle.fam_audit.specs.declared.turn.Turn.{Turn}
use Rattle.fam_audit.specs.Auditing.{AreLocal, Follows, Stands, asked_by, is_next, run_at}
use Rattle.fam_audit.specs.Turns.{AreHeard, Heard, IsTurn, told_to}
use Rattle.fam_audit.specs.Verdict.{goes_on}
use Rattle.fam_audit.proofs.Owning.{Hears, Owns, owns, hears_skip, not_told}

some_same : {A : Type 0} (x y : A) → Some x ≡ Some y → x ≡ y
some_same x y e = cc

-- the call of an event is the next one

pub due_call : (script : Script) (before : List Event) (event : Event) (asked : Call) (text : Text) → slice_get script.programs event.pe.0 ≡ Some text → call_made event.what ≡ Some asked →
    goes_on script before event ≡ true → is_call (next_call text (replies_to before event.pe.0)) asked ≡ true
due_call script before event asked text there made goes =
    let due : Option Call = slice_get script.programs event.pe.0 >>= λ program. next_call program (replies_to before event.pe.0) in
    sym (ap (λ (o : Option Call). option_map_or (λ a. is_call due a) o true) made
    ∙ ap (λ (o : Option Text). is_call (o >>= λ program. next_call program (replies_to before event.pe.0)) asked) there) ∙ goes

-- the effect of an event that has a next state
goes_at : (state next : State) (event : Event) (p : ProgramState) → program_of state event.pe.0 ≡ Some p → step service_limits state event ≡ Some next →
    is_some (effect service_limits state event.pe.0 p event.call event.what) ≡ true
goes_at state next event p there steps =
    let b = bind_some (program_of state event.pe.0)
    (λ q. if is_in_turn q event.call event.what then effect service_limits state event.pe.0 q event.call event.what else None) next steps in
    let c = if_some (is_in_turn b.0 event.call event.what) (effect service_limits state event.pe.0 b.0 event.call event.what) next b.2 in
    let same : b.0 ≡ p = some_same b.0 p (sym b.1 ∙ there) in
    subst (λ q. is_some (effect service_limits state event.pe.0 q event.call event.what) ≡ true) same (ap is_some c.1)

-- the program whose event it is
own_program : (script : Script) (before : List Event) (state next : State) (event : Event) (text : Text) → slice_get script.programs event.pe.0 ≡ Some text → Follows script before state →
    step service_limits state event ≡ Some next → goes_on script before event ≡ true → (moves : Moves state event next) → Owns text event.pe.0 moves.is before event
own_program script before state next event text there follows steps goes moves =
    let one = follows.tells event.pe.0 text there in
    let was_is : moves.was ≡ one.p = some_same moves.was one.p (sym moves.there ∙ one.there) in
    let moved : Moved one.p event.what moves.is = subst (λ q. Moved q event.what moves.is) was_is moves.moved in
    let turn : is_in_turn one.p event.call event.what ≡ true = subst (λ q. is_in_turn q event.call event.what ≡ true) was_is moves.turn in
    owns state text event.pe.0 one.p moves.is before event.call event.what one.tells turn (goes_at state next event one.p one.there steps)
    (λ asked made. due_call script before event asked text there made goes) moved

-- each program, and its replies

own_tells : (script : Script) (before : List Event) (state next : State) (event : Event) (text : Text) → slice_get script.programs event.pe.0 ≡ Some text → Follows script before state →
    step service_limits state event ≡ Some next → goes_on script before event ≡ true → TellsOne text (run_at (before ++ event ∷ []) next) event.pe.0
own_tells script before state next event text there follows steps goes =
    let moves = step_moves service_limits state next event steps in
    record {
      p = moves.is;
      there = ap (λ ps. slice_get ps event.pe.0) moves.programs ∙ get_set_same state.programs event.pe.0 moves.was moves.is moves.there;
      tells = (own_program script before state next event text there follows steps goes moves).tells;
    }

own_hears : (script : Script) (before : List Event) (state next : State) (event : Event) (text : Text) → slice_get script.programs event.pe.0 ≡ Some text → Follows script before state →
    step service_limits state event ≡ Some next → goes_on script before event ≡ true → Hears event.pe.0 before event
own_hears script before state next event text there follows steps goes =
    (own_program script before state next event text there follows steps goes (step_moves service_limits state next event steps)).hears

other_tells : (script : Script) (before : List Event) (state next : State) (event : Event) (pe : ℕ) (text : Text) → slice_get script.programs pe ≡ Some text → Follows script before state →
    step service_limits state event ≡ Some next → (event.pe.0 == pe) ≡ false → TellsOne text (run_at (before ++ event ∷ []) next) pe
other_tells script before state next event pe text there follows steps apart =
    let moves = step_moves service_limits state next event steps in
    let one = follows.tells pe text there in
    record {
      p = one.p;
      there = ap (λ ps. slice_get ps pe) moves.programs ∙ get_set_other state.programs event.pe.0 pe one.p moves.is one.there (differ event.pe.0 pe apart);
      tells = tells_skip text pe one.p.next_call one.p.started before event (apart_not_mine event pe apart) one.tells;
    }

other_hears : (script : Script) (before : List Event) (state : State) (event : Event) (pe : ℕ) (text : Text) → slice_get script.programs pe ≡ Some text → Follows script before state →
    (event.pe.0 == pe) ≡ false → Hears pe before event
other_hears script before state event pe text there follows apart =
    let one = follows.tells pe text there in
    hears_skip text pe one.p.next_call one.p.started before event one.tells (apart_not_mine event pe apart) (not_told pe event apart)

tells_by : (mine : Bool) (script : Script) (before : List Event) (state next : State) (event : Event) (pe : ℕ) (text : Text) → (event.pe.0 == pe) ≡ mine → slice_get script.programs pe ≡ Some text →
    Follows script before state → step service_limits state event ≡ Some next → goes_on script before event ≡ true → TellsOne text (run_at (before ++ event ∷ []) next) pe
tells_by true script before state next event pe text e there follows steps goes =
    let same : event.pe.0 ≡ pe = eqb-true event.pe.0 pe e in
    let here : slice_get script.programs event.pe.0 ≡ Some text = subst (λ k. slice_get script.programs k ≡ Some text) (sym same) there in
    subst (λ k. TellsOne text (run_at (before ++ event ∷ []) next) k) same (own_tells script before state next event text here follows steps goes)
tells_by false script before state next event pe text e there follows steps goes = other_tells script before state next event pe text there follows steps e

hears_by : (mine : Bool) (script : Script) (before : List Event) (state next : State) (event : Event) (pe : ℕ) (text : Text) → (event.pe.0 == pe) ≡ mine → slice_get script.programs pe ≡ Some text →
    Follows script before state → step service_limits state event ≡ Some next → goes_on script before event ≡ true → Hears pe before event
hears_by true script before state next event pe text e there follows steps goes =
    let same : event.pe.0 ≡ pe = eqb-true event.pe.0 pe e in
    let here : slice_get script.programs event.pe.0 ≡ Some text = subst (λ k. slice_get script.programs k ≡ Some text) (sym same) there in
    subst (λ k. Hears k before event) same (own_hears script before state next event text here follows steps goes)
hears_by false script before state next event pe text e there follows steps goes = other_hears script before state event pe text there follows e

pub hears : (script : Script) (before : List Event) (state next : State) (event : Event) (pe : ℕ) (text : Text) → slice_get script.programs pe ≡ Some text →
    Follows script before state → step service_limits state event ≡ Some next → goes_on script before event ≡ true → Hears pe before event
hears script before state next event pe text there follows steps goes = hears_by (event.pe.0 == pe) script before state next event pe text refl there follows steps goes

-- all programs stay local

-- an element that is there
pub element : {A : Type 0} (xs : List A) (k : ℕ) → k < length xs → (x : A) × (slice_get xs k ≡ Some x)
element [] k low = let no : ⊥ = omega arith in absurd no
element (x ∷ xs) zero low = (x, refl)
element (x ∷ xs) (suc k) low = element xs k (omega arith)

-- an element of a list in which another one was changed
get_old : {A : Type 0} (xs : List A) (k j : ℕ) (x y : A) → slice_get (slice_set xs k y) j ≡ Some x → j ≢ k → slice_get xs j ≡ Some x
get_old xs k j x y there apart =
    let low : j < length (slice_set xs k y) = slice_get_within (slice_set xs k y) j x there in
    let same : length (slice_set xs k y) ≡ length xs = length-set xs k y in
    let old = element xs j (omega arith) in
    let is : old.0 ≡ x = some_same old.0 x (sym (get_set_other xs k j old.0 y old.1 apart) ∙ there) in
    old.1 ∙ ap Some is

own_local : (state next : State) (event : Event) (q : ProgramState) → AreLocal state → step service_limits state event ≡ Some next → program_of next event.pe.0 ≡ Some q → q.is_local ≡ true
own_local state next event q local steps there =
    let rests = step_rests service_limits state next event steps in
    let now : program_of next event.pe.0 ≡ Some rests.after.is =
    ap (λ ps. slice_get ps event.pe.0) rests.after.programs ∙ get_set_same state.programs event.pe.0 rests.was rests.after.is rests.there in
    let is : q ≡ rests.after.is = some_same q rests.after.is (sym there ∙ now) in
    ap (λ p. p.is_local) is ∙ rests.after.rests.is_local ∙ local event.pe.0 rests.was rests.there

local_by : (mine : Bool) (state next : State) (event : Event) (pe : ℕ) (q : ProgramState) → (event.pe.0 == pe) ≡ mine → AreLocal state → step service_limits state event ≡ Some next →
    program_of next pe ≡ Some q → q.is_local ≡ true
local_by true state next event pe q e local steps there =
    let same : event.pe.0 ≡ pe = eqb-true event.pe.0 pe e in
    own_local state next event q local steps (subst (λ k. program_of next k ≡ Some q) (sym same) there)
local_by false state next event pe q e local steps there =
    let moves = step_moves service_limits state next event steps in
    local pe q (get_old state.programs event.pe.0 pe q moves.is (sym (ap (λ ps. slice_get ps pe) moves.programs) ∙ there) (differ event.pe.0 pe e))

-- the events so far with one more

pub follows_next : (script : Script) (before : List Event) (state next : State) (event : Event) → Follows script before state → step service_limits state event ≡ Some next →
    goes_on script before event ≡ true → Follows script (before ++ event ∷ []) next
follows_next script before state next event follows steps goes =
    let moves = step_moves service_limits state next event steps in
    record {
      programs = ap length moves.programs ∙ length-set state.programs event.pe.0 moves.is ∙ follows.programs;
      tells = λ pe text there. tells_by (event.pe.0 == pe) script before state next event pe text refl there follows steps goes;
      local = λ pe q there. local_by (event.pe.0 == pe) state next event pe q refl follows.local steps there;
    }

heard_turn : (text : Text) (pe : ℕ) (told : Option Reply) (replies later : List Reply) (old new : Turn) → later ≡ replies ++ option_to_list told → Heard pe told old new →
    IsTurn text pe replies old → IsTurn text pe later new
heard_turn text pe None replies later old new grown same is =
    subst (IsTurn text pe later) (sym same) (subst (λ rs. IsTurn text pe rs old) (sym (grown ∙ append-nil replies)) is)
heard_turn text pe (Some given) replies later old new grown heard is =
    subst (λ rs. IsTurn text pe rs new) (sym grown) (heard text replies is)

pub stands_next : (script : Script) (before : List Event) (old new : Auditor) (event : Event) → Stands script before old → step service_limits old.machine event ≡ Some new.machine →
    goes_on script before event ≡ true → AreHeard event old.turns new.turns → Stands script (before ++ event ∷ []) new
stands_next script before old new event stands steps goes heard =
    record {
      follows = follows_next script before old.machine new.machine event stands.follows steps goes;
      count = heard.count ∙ stands.count;
      turns = λ pe turn text at there.
          let low : pe < length new.turns = slice_get_within new.turns pe turn at in
          let same : length new.turns ≡ length old.turns = heard.count in
          let was = element old.turns pe (omega arith) in
          heard_turn text pe (told_to pe event) (replies_to before pe) (replies_to (before ++ event ∷ []) pe) was.0 turn
          (hears script before old.machine new.machine event pe text there stands.follows steps goes)
          (heard.each pe was.0 turn was.1 at) (stands.turns pe was.0 text was.1 there);
    }

-- what the code asks

pub missing : {A : Type 0} (xs : List A) (k : ℕ) → slice_get xs k ≡ None → length xs ≤ k
missing [] k none = omega arith
missing (x ∷ xs) zero none = cc
missing (x ∷ xs) (suc k) none = let rest = missing xs k none in omega (arith, rest)

asked_there : (script : Script) (before : List Event) (auditor : Auditor) (pe : ℕ) (text : Option Text) → slice_get script.programs pe ≡ text → Stands script before auditor →
    asked_by auditor.turns pe ≡ (text >>= λ program. next_call program (replies_to before pe))
asked_there script before auditor pe None none stands =
    let past : length script.programs ≤ pe = missing script.programs pe none in
    let same : length auditor.turns ≡ length script.programs = stands.count in
    ap (λ (o : Option Turn). o >>= λ turn. turn.asked) (slice_get_past auditor.turns pe (omega arith))
asked_there script before auditor pe (Some text) there stands =
    let low : pe < length script.programs = slice_get_within script.programs pe text there in
    let same : length auditor.turns ≡ length script.programs = stands.count in
    let turn = element auditor.turns pe (omega arith) in
    ap (λ (o : Option Turn). o >>= λ turn. turn.asked) turn.1 ∙ (stands.turns pe turn.0 text turn.1 there).due

pub next_goes_on : (script : Script) (before : List Event) (auditor : Auditor) (event : Event) → Stands script before auditor → is_next auditor.turns event ≡ goes_on script before event
next_goes_on script before auditor event stands =
    ap (λ (due : Option Call). option_map_or (λ asked. is_call due asked) (call_made event.what) true)
    (asked_there script before auditor event.pe.0 (slice_get script.programs event.pe.0) refl stands)
