-- What holds of each running program between two steps.
use Rattle.std.proofs.Common.{◌≡◌, ℕ, ◌+◌, ◌≤◌, true, false, List, [], ◌∷◌, ◌++◌, sym, ap, ◌∙◌, arith, subst, length}
use Rattle.std.specs.Prelude.{◌==◌, ◌⊎◌, Option, Some, None, is_some, slice_get, if◌then◌else◌}
use Rattle.std.specs.List.{filter_map}
use Rattle.rand_pcg.specs.Lcg.{Lcg}
use Rattle.fam_model.specs.declared.event.Event.{Event}
use Rattle.fam_model.specs.declared.event.What.{What}
use Rattle.fam_model.specs.declared.event.What.TheVariants as what
use Rattle.fam_model.specs.declared.reply.PieceAnswer.{PieceAnswer}
use Rattle.fam_model.specs.declared.script.Program.{Program as Text}
use Rattle.fam_model.specs.declared.script.Script.{Script}
use Rattle.fam_model.specs.declared.state.ProgramState.{ProgramState}
use Rattle.fam_model.specs.declared.state.Started.{Started}
use Rattle.fam_model.specs.declared.state.Started.TheVariants as begun
use Rattle.fam_model.specs.declared.state.State.{State}
use Rattle.fam_model.specs.History.{calls}
use Rattle.fam_model.specs.Limits.{service_limits}
use Rattle.fam_model.specs.Lists.{is_some_and}
use Rattle.fam_model.specs.PieceStep.{piece_step, lose_step, memory_by_piece}
use Rattle.fam_model.specs.Programs.{program_of, with_program, is_running, has_arrived}
use Rattle.fam_model.specs.Step.{step, effect}
use Rattle.fam_model.specs.Text.{next_call}
use Rattle.fam_model.specs.Turn.{is_in_turn}
use Rattle.fam_schedule.specs.Schedule.{Run, replies_to, went_on}
use Rattle.fam_schedule.proofs.Options.{bind_some, map_some, if_some}
use Rattle.fam_schedule.proofs.Told.{is_mine, calls_skip}
use Rattle.fam_schedule.proofs.Moves.{Moved, step_moves}
use Rattle.fam_schedule.proofs.Places.{get_set_same}
use Rattle.fam_schedule.proofs.Follows.{Tells, Settled, Awaits, waits_below}
use Rattle.fam_schedule.proofs.Rests.{Rests, step_rests, arrived_after, round_of}
use Rattle.fam_schedule.proofs.Staying.{IsLow, not_arrived, low_higher}
use Rattle.fam_schedule.proofs.Has.{HasCall, piece_has, lose_has}

-- what holds of a running program by the call that it has started
abbrev pub RunsBy : Text → List Event → ℕ → ℕ → ProgramState → Started → Type 0
RunsBy text before pe round p begun.Nothing = (is_some (next_call text (replies_to before pe)) ≡ true) × (has_arrived round p ≡ false)
RunsBy text before pe round p (begun.Operation c) = HasCall p c × (has_arrived round p ≡ false)
RunsBy text before pe round p (begun.Barrier c) = (r : ℕ) × (p.arrived ≡ Some r)

-- what holds of a program
pub record Lives (text : Text) (run : Run) (pe : ℕ) (p : ProgramState) : Type 0 where
  pub local : p.is_local ≡ true
  pub count : length (calls run.before pe) ≡ p.next_call
  pub low : IsLow run.now.round p
  pub runs : is_running p.standing ≡ true → RunsBy text run.before pe run.now.round p p.started

abbrev pub LivesAll : Script → Run → Type 0
LivesAll script run =
    (pe : ℕ) (text : Text) (p : ProgramState) → slice_get script.programs pe ≡ Some text → program_of run.now pe ≡ Some p → Lives text run pe p

same_some : {A : Type 0} (x y : A) → Some x ≡ Some y → x ≡ y
same_some x y e = cc

-- another program's event

skip_settled : (text : Text) (pe n : ℕ) (history : List Event) (event : Event) → Settled text pe n history → is_mine pe event ≡ false → calls (history ++ event ∷ []) pe ≡ calls history pe
skip_settled text pe n history event s other = calls_skip history pe n event s.below other

skip_awaits : (text : Text) (pe n c : ℕ) (history : List Event) (event : Event) → Awaits text pe n c history → is_mine pe event ≡ false → calls (history ++ event ∷ []) pe ≡ calls history pe
skip_awaits text pe n c history event a other = calls_skip history pe n event (waits_below pe n c a.asked history a.waits a.number) other

tells_calls : (text : Text) (pe n : ℕ) (s : Started) (history : List Event) (event : Event) → Tells text pe n s history → is_mine pe event ≡ false → calls (history ++ event ∷ []) pe ≡ calls history pe
tells_calls text pe n begun.Nothing history event t other = skip_settled text pe n history event t other
tells_calls text pe n (begun.Operation c) history event t other = skip_awaits text pe n c history event t other
tells_calls text pe n (begun.Barrier c) history event t other = skip_awaits text pe n c history event t other

replies_same : (before later : List Event) (pe : ℕ) → calls later pe ≡ calls before pe → replies_to later pe ≡ replies_to before pe
replies_same before later pe e = ap (filter_map (λ asked. asked.1)) e

-- the program and its calls are as before, and the round stays or is one more
runs_same : (text : Text) (before later : List Event) (pe round now : ℕ) (p : ProgramState) (s : Started) → calls later pe ≡ calls before pe → IsLow round p → (now ≡ round) ⊎ (now ≡ round + 1) →
    RunsBy text before pe round p s → RunsBy text later pe now p s
runs_same text before later pe round now p begun.Nothing same low moves (some, not) =
    (ap (λ rs. is_some (next_call text rs)) (replies_same before later pe same) ∙ some, not_arrived round now p low not moves)
runs_same text before later pe round now p (begun.Operation c) same low moves (has, not) = (has, not_arrived round now p low not moves)
runs_same text before later pe round now p (begun.Barrier c) same low moves arrived = arrived

pub other_lives : (text : Text) (run : Run) (event : Event) (next : State) (words : Lcg) (pe : ℕ) (p : ProgramState) → Tells text pe p.next_call p.started run.before → Lives text run pe p →
    is_mine pe event ≡ false → (next.round ≡ run.now.round) ⊎ (next.round ≡ run.now.round + 1) → Lives text (went_on run event next words) pe p
other_lives text run event next words pe p tells live other moves =
    let same = tells_calls text pe p.next_call p.started run.before event tells other in
    record {
      local = live.local;
      count = ap length same ∙ live.count;
      low = low_higher run.now.round next.round p live.low moves;
      runs = λ running. runs_same text run.before (run.before ++ event ∷ []) pe run.now.round next.round p p.started same live.low moves (live.runs running);
    }

-- the program's own event

-- what the event does to its program
pub record Own (state : State) (pe : ℕ) (p : ProgramState) (c : ℕ) (made : What) (next : State) (q : ProgramState) : Type 0 where
  pub moved : Moved p made q
  pub rests : Rests state.round p made q
  pub effects : effect service_limits state pe p c made ≡ Some next
  pub there : program_of next pe ≡ Some q
  pub was : program_of state pe ≡ Some p
  pub round : next.round ≡ round_of state made next

pub own_of : (state next : State) (event : Event) (p q : ProgramState) → step service_limits state event ≡ Some next → program_of state event.pe.0 ≡ Some p → program_of next event.pe.0 ≡ Some q →
    Own state event.pe.0 p event.call event.what next q
own_of state next event p q h was there =
    let m = step_moves service_limits state next event h in
    let r = step_rests service_limits state next event h in
    let test : ProgramState → Option State = λ x. if is_in_turn x event.call event.what then effect service_limits state event.pe.0 x event.call event.what else None in
    let b = bind_some (program_of state event.pe.0) test next h in
    let b_is : b.0 ≡ p = same_some b.0 p (sym b.1 ∙ was) in
    let e = if_some (is_in_turn b.0 event.call event.what) (effect service_limits state event.pe.0 b.0 event.call event.what) next b.2 in
    let m_was : m.was ≡ p = same_some m.was p (sym m.there ∙ was) in
    let m_is : m.is ≡ q = same_some m.is q (sym (ap (λ ps. slice_get ps event.pe.0) m.programs ∙ get_set_same state.programs event.pe.0 p m.is was) ∙ there) in
    let r_was : r.was ≡ p = same_some r.was p (sym r.there ∙ was) in
    let r_is : r.after.is ≡ q = same_some r.after.is q (sym (ap (λ ps. slice_get ps event.pe.0) r.after.programs ∙ get_set_same state.programs event.pe.0 p r.after.is was) ∙ there) in
    record {
      moved = subst (λ x. Moved p event.what x) m_is (subst (λ x. Moved x event.what m.is) m_was m.moved);
      rests = subst (λ x. Rests state.round p event.what x) r_is (subst (λ x. Rests state.round x event.what r.after.is) r_was r.after.rests);
      effects = subst (λ x. effect service_limits state event.pe.0 x event.call event.what ≡ Some next) b_is e.1;
      there = there;
      was = was;
      round = r.after.round;
    }

-- the rounds of arrival stay low
pub arrived_low : (round now : ℕ) (p q : ProgramState) (made : What) → IsLow round p → Rests round p made q → (now ≡ round) ⊎ (now ≡ round + 1) → IsLow now q
arrived_low round now p q made low rests moves =
    low_higher round now q (λ r e. by_event made r (sym rests.arrived_is ∙ e)) moves
  where
    by_event : (w : What) (r : ℕ) → arrived_after round p w ≡ Some r → r ≤ round
    by_event what.Arrive r e = let same : round ≡ r = same_some round r e in omega arith
    by_event (what.Meta a given) r e = low r e
    by_event (what.Issue a given) r e = low r e
    by_event (what.Piece j given) r e = low r e
    by_event (what.Answer given) r e = low r e
    by_event (what.OpenContext c) r e = low r e
    by_event (what.CloseContext c given) r e = low r e
    by_event (what.Fence c) r e = low r e
    by_event (what.Quiet c given) r e = low r e
    by_event (what.Wait c n given) r e = low r e
    by_event what.Leave r e = low r e
    by_event what.Crash r e = low r e
    by_event (what.Lose j) r e = low r e
    by_event (what.Refused a f d) r e = low r e

-- a piece

-- which program stands there after a step of this form
pub stands_as : (base next : State) (pe : ℕ) (p m q : ProgramState) → slice_get base.programs pe ≡ Some p → with_program base pe m ≡ next → program_of next pe ≡ Some q → m ≡ q
stands_as base next pe p m q was same there =
    same_some m q (sym (ap (λ s. program_of s pe) (sym same) ∙ get_set_same base.programs pe p m was) ∙ there)

pub piece_keeps : (state next : State) (pe c j : ℕ) (p q : ProgramState) (given : PieceAnswer) → program_of state pe ≡ Some p → effect service_limits state pe p c (what.Piece j given) ≡ Some next → program_of next pe ≡ Some q →
    (n : ℕ) → HasCall p n → HasCall q n
piece_keeps state next pe c j p q given was h there n has =
    let base = record state { memory = memory_by_piece state.memory p c j given } in
    let m = map_some (with_program base pe) (piece_step service_limits state.rows state.memory p c j given) next h in
    subst (λ x. HasCall x n) (stands_as base next pe p m.0 q was m.2 there) (piece_has service_limits state.rows state.memory p m.0 c j n given m.1 has)

pub lose_keeps : (state next : State) (pe c j : ℕ) (p q : ProgramState) → program_of state pe ≡ Some p → effect service_limits state pe p c (what.Lose j) ≡ Some next → program_of next pe ≡ Some q →
    (n : ℕ) → HasCall p n → HasCall q n
lose_keeps state next pe c j p q was h there n has =
    let m = map_some (with_program state pe) (lose_step p c j) next h in
    subst (λ x. HasCall x n) (stands_as state next pe p m.0 q was m.2 there) (lose_has p m.0 c j n m.1 has)

-- the program has the same call started, and its calls and the round are as before
runs_piece : (text : Text) (before later : List Event) (pe round now : ℕ) (p q : ProgramState) (s : Started) → calls later pe ≡ calls before pe → now ≡ round → q.arrived ≡ p.arrived →
    ((n : ℕ) → HasCall p n → HasCall q n) → RunsBy text before pe round p s → RunsBy text later pe now q s
runs_piece text before later pe round now p q begun.Nothing same round_is arrived keeps (some, not) = (
  ap (λ rs. is_some (next_call text rs)) (replies_same before later pe same) ∙ some,
  ap (λ o. is_some_and o (λ at. at == now)) arrived ∙ ap (λ r. has_arrived r p) round_is ∙ not,
)
runs_piece text before later pe round now p q (begun.Operation c) same round_is arrived keeps (has, not) =
    (keeps c has, ap (λ o. is_some_and o (λ at. at == now)) arrived ∙ ap (λ r. has_arrived r p) round_is ∙ not)
runs_piece text before later pe round now p q (begun.Barrier c) same round_is arrived keeps (r, e) = (r, arrived ∙ e)

pub piece_lives : (text : Text) (run : Run) (event : Event) (next : State) (words : Lcg) (pe : ℕ) (p q : ProgramState) → Tells text pe p.next_call p.started run.before → Lives text run pe p →
    is_mine pe event ≡ false → next.round ≡ run.now.round → q.is_local ≡ p.is_local → q.standing ≡ p.standing → q.arrived ≡ p.arrived → q.started ≡ p.started → q.next_call ≡ p.next_call →
    ((n : ℕ) → HasCall p n → HasCall q n) → Lives text (went_on run event next words) pe q
piece_lives text run event next words pe p q tells live other round local stand arrived started number keeps =
    let same = tells_calls text pe p.next_call p.started run.before event tells other in
    record {
      local = local ∙ live.local;
      count = ap length same ∙ live.count ∙ sym number;
      low = λ r e. (let h : r ≤ run.now.round = live.low r (sym arrived ∙ e) in omega arith);
      runs = λ running.
          subst (λ s. RunsBy text (run.before ++ event ∷ []) pe next.round q s) (sym started)
          (runs_piece text run.before (run.before ++ event ∷ []) pe run.now.round next.round p q p.started same round arrived keeps (live.runs (ap is_running (sym stand) ∙ running)));
    }
