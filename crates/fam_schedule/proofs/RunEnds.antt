-- Where the schedule stops, the run has ended.
use Rattle.std.proofs.Common.{◌≡◌, ℕ, ◌<◌, ◌≤◌, Bool, true, false, List, [], ◌∷◌, refl, sym, ap, ◌∙◌, arith, subst, inl, inr, length, suc, zero}
use Rattle.std.specs.Prelude.{◌==◌, ◌&&◌, ◌||◌, ◌⊎◌, not, nat_lt, Option, Some, None, is_some, slice_get, slice_set, map, if◌then◌else◌}
use Rattle.std.specs.List.{list_all, list_any, filter_map, flat_map, enumerate_from}
use Rattle.std.specs.Option.{option_map}
use Rattle.std.proofs.lemmas.Bool.{cases_lt}
use Rattle.std.proofs.lemmas.List.{length-set, length-map}
use Rattle.std.proofs.lemmas.List.FromFn.{length-enumerate_from}
use Rattle.std.proofs.lemmas.Option.{slice_get_within, slice_get-map}
use Rattle.rand_pcg.specs.Lcg.{Lcg}
use Rattle.fam_base.specs.declared.naming.Who.{Who}
use Rattle.fam_model.specs.declared.call.Call.{Call}
use Rattle.fam_model.specs.declared.event.Event.{Event}
use Rattle.fam_model.specs.declared.event.What.{What}
use Rattle.fam_model.specs.declared.event.What.TheVariants as what
use Rattle.fam_model.specs.declared.reply.Reply.{Reply}
use Rattle.fam_model.specs.declared.reply.Reply.TheVariants as reply
use Rattle.fam_model.specs.declared.rows.Rows.{Rows}
use Rattle.fam_model.specs.declared.script.Program.{Program as Text}
use Rattle.fam_model.specs.declared.script.Script.{Script}
use Rattle.fam_model.specs.declared.state.ProgramState.{ProgramState}
use Rattle.fam_model.specs.declared.state.Started.{Started}
use Rattle.fam_model.specs.declared.state.Started.TheVariants as begun
use Rattle.fam_model.specs.declared.state.State.{State}
use Rattle.fam_model.specs.EndStep.{has_pending, may_arrive}
use Rattle.fam_model.specs.Grammar.{IsLawfulScript}
use Rattle.fam_model.specs.Headline.{opening, HasEnded}
use Rattle.fam_model.specs.History.{is_over, calls}
use Rattle.fam_model.specs.Limits.{service_limits}
use Rattle.fam_model.specs.Lists.{◌>>=◌, when, is_some_and}
use Rattle.fam_model.specs.Opened.{new_program}
use Rattle.fam_model.specs.Programs.{program_of, with_program, with_placed, Placed, placed, is_running, is_member, has_arrived, has_passed, is_complete, round_after}
use Rattle.fam_model.specs.Step.{step, effect}
use Rattle.fam_schedule.specs.Schedule.{Run, LeadsTo, IsScheduled, new_run, went_on, replies_to, program_event, event_after, event_of}
use Rattle.fam_schedule.proofs.Refusals.{IsDueOrRefused, comes_instead}
use Rattle.fam_schedule.proofs.Finding.{get_zero, get_next, any_at_place}
use Rattle.fam_schedule.proofs.Changes.{set_at}
use Rattle.fam_schedule.proofs.Lives.{Lives, LivesAll, arrived_low}
use Rattle.fam_schedule.proofs.Living.{lives_next}
use Rattle.fam_schedule.proofs.Rests.{Rests, step_rests, standing_after, arrived_after, round_of}
use Rattle.fam_schedule.proofs.Runs.{TellsAll, tells_instead}
use Rattle.fam_schedule.proofs.Staying.{IsLow, complete_set, after_incomplete}
use Rattle.fam_schedule.proofs.Whole.{tells_new, opened_program, leads_ends}
use Rattle.fam_schedule.specs.Laws.{IsStill}
use Rattle.fam_schedule.specs.Made.{AreMade}
use Rattle.fam_schedule.proofs.Lives.{RunsBy}
use Rattle.fam_schedule.proofs.Follows.{Tells, has_reply}
use Rattle.fam_schedule.proofs.Runs.{equal}
use Rattle.fam_schedule.proofs.Begins.{has_event, some_map, some_when, some_bind, bind_is, if_true, any_false, not_pending}
use Rattle.fam_schedule.proofs.Going.{reply_same}
use Rattle.fam_schedule.proofs.Acting.{stops_still}
use Rattle.fam_schedule.proofs.Ended.{scheduled_made}
use Rattle.fam_schedule.proofs.Pending.{placed_there, nothing_pending}
use Rattle.fam_schedule.proofs.Steps.{AllMade}
use Rattle.fam_model.specs.ContextStep.{answer_step, with_nothing_started}
use Rattle.fam_model.specs.Operations.{has_left, result, as_reported}
use Rattle.fam_model.specs.Same.{same_reply}
use Rattle.fam_schedule.proofs.Lawful.{lawful_text, lawful_service}
use Rattle.fam_schedule.proofs.Texts.{total, next_shaped, no_more, first_some}
use Rattle.fam_model.specs.Limits.{number_end}
use Rattle.fam_model.specs.Pieces.{stripe_count}
use Rattle.fam_model.specs.Shape.{is_shaped}
use Rattle.fam_model.specs.Text.{Asked, next_call, written_out}
use Rattle.fam_model.specs.Turn.{is_in_turn, is_next, answers_started}

-- the barrier is not complete between two steps

pub record Between (script : Script) (run : Run) : Type 0 where
  pub tells : TellsAll script run
  pub lives : LivesAll script run
  pub size : length run.now.programs ≡ length script.programs
  pub incomplete : is_complete run.now.round run.now.programs ≡ false

-- a program of the state has a text
text_at : (script : Script) (run : Run) → length run.now.programs ≡ length script.programs → (pe : ℕ) (p : ProgramState) → program_of run.now pe ≡ Some p → (text : Text) × (slice_get script.programs pe ≡ Some text)
text_at script run size pe p there =
    let low : pe < length run.now.programs = slice_get_within run.now.programs pe p there in
    by_length (cases_lt pe (length script.programs)) low
  where
    by_length : (pe < length script.programs) ⊎ (length script.programs ≤ pe) → pe < length run.now.programs → (text : Text) × (slice_get script.programs pe ≡ Some text)
    by_length (inl within) low = some_at script.programs pe within
      where
        some_at : {A : Type 0} (xs : List A) (k : ℕ) → k < length xs → (x : A) × (slice_get xs k ≡ Some x)
        some_at [] k h = let no : ⊥ = omega arith in absurd no
        some_at (x ∷ xs) zero h = (x, get_zero x xs)
        some_at (x ∷ xs) (suc k) h = let y = some_at xs k (omega arith) in (y.0, get_next x xs k y.0 y.1)
    by_length (inr beyond) low = let no : ⊥ = omega arith in absurd no

low_all : (script : Script) (run : Run) → length run.now.programs ≡ length script.programs → LivesAll script run → (k : ℕ) (p : ProgramState) → slice_get run.now.programs k ≡ Some p → IsLow run.now.round p
low_all script run size lives k p there = let text = text_at script run size k p there in (lives k text.0 p text.1 there).low

-- what an event that is no arrival and no end leaves of membership
member_same : (round : ℕ) (p q : ProgramState) (made : What) → Rests round p made q → standing_after p made ≡ p.standing → is_member q ≡ is_member p
member_same round p q made rests same = rw (rests.is_local, rests.standing_is, same) refl

arrived_same : (round : ℕ) (p q : ProgramState) (made : What) → Rests round p made q → arrived_after round p made ≡ p.arrived → has_arrived round q ≡ has_arrived round p
arrived_same round p q made rests same = ap (λ o. is_some_and o (λ at. at == round)) (rests.arrived_is ∙ same)

-- the round after a step is not complete
incomplete_by : (state next : State) (pe : ℕ) (p q : ProgramState) (made : What) → slice_get state.programs pe ≡ Some p → next.programs ≡ slice_set state.programs pe q → next.round ≡ round_of state made next →
    Rests state.round p made q → is_complete state.round state.programs ≡ false → ((k : ℕ) (x : ProgramState) → slice_get next.programs k ≡ Some x → IsLow state.round x) → is_complete next.round next.programs ≡ false
incomplete_by state next pe p q made there programs round rests before low = by_event made rests round
  where
    still : (w : What) → Rests state.round p w q → standing_after p w ≡ p.standing → arrived_after state.round p w ≡ p.arrived → next.round ≡ state.round → is_complete next.round next.programs ≡ false
    still w r s a same =
        ap (λ n. is_complete n next.programs) same ∙ ap (is_complete state.round) programs
        ∙ complete_set state.round state.programs pe p q there (member_same state.round p q w r s) (arrived_same state.round p q w r a) ∙ before

    risen : next.round ≡ round_after state.round next.programs → is_complete next.round next.programs ≡ false
    risen same = ap (λ n. is_complete n next.programs) same ∙ after_incomplete state.round next.programs low

    by_event : (w : What) → Rests state.round p w q → next.round ≡ round_of state w next → is_complete next.round next.programs ≡ false
    by_event (what.Meta a g) r e = still (what.Meta a g) r refl refl e
    by_event (what.Issue a g) r e = still (what.Issue a g) r refl refl e
    by_event (what.Piece j g) r e = still (what.Piece j g) r refl refl e
    by_event (what.Answer g) r e = still (what.Answer g) r refl refl e
    by_event (what.OpenContext c) r e = still (what.OpenContext c) r refl refl e
    by_event (what.CloseContext c g) r e = still (what.CloseContext c g) r refl refl e
    by_event (what.Fence c) r e = still (what.Fence c) r refl refl e
    by_event (what.Quiet c g) r e = still (what.Quiet c g) r refl refl e
    by_event (what.Wait c n g) r e = still (what.Wait c n g) r refl refl e
    by_event what.Arrive r e = risen e
    by_event what.Leave r e = risen e
    by_event what.Crash r e = risen e
    by_event (what.Lose j) r e = still (what.Lose j) r refl refl e
    by_event (what.Refused a f d) r e = still (what.Refused a f d) r refl refl e

between_next : (script : Script) (run : Run) (event : Event) (next : State) (words : Lcg) → Between script run → IsDueOrRefused script run event → step service_limits run.now event ≡ Some next →
    Between script (went_on run event next words)
between_next script run event next words b comes steps =
    let r = step_rests service_limits run.now next event steps in
    let low = low_all script run b.size b.lives in
    let was_low = low event.pe.0 r.was r.there in
    let is_low : IsLow run.now.round r.after.is = arrived_low run.now.round run.now.round r.was r.after.is event.what was_low r.after.rests (inl refl) in
    record {
      tells = tells_instead script run event next words b.tells comes steps;
      lives = lives_next script run event next words b.tells b.lives comes steps;
      size = ap length r.after.programs ∙ length-set run.now.programs event.pe.0 r.after.is ∙ b.size;
      incomplete = incomplete_by run.now next event.pe.0 r.was r.after.is event.what r.there r.after.programs r.after.round r.after.rests b.incomplete
          (λ k x there.
          by_place k x is_low low
          (set_at (k == event.pe.0) run.now.programs event.pe.0 k r.was r.after.is x refl r.there (ap (λ ps. slice_get ps k) (sym r.after.programs) ∙ there)));
    }
  where
    by_place : {is : ProgramState} (k : ℕ) (x : ProgramState) → IsLow run.now.round is → ((j : ℕ) (p : ProgramState) → slice_get run.now.programs j ≡ Some p → IsLow run.now.round p) →
        ((k ≡ event.pe.0) × (x ≡ is)) ⊎ (slice_get run.now.programs k ≡ Some x) → IsLow run.now.round x
    by_place k x is_low low (inl (place, same)) = subst (IsLow run.now.round) (sym same) is_low
    by_place k x is_low low (inr other) = low k x other

-- the start

not_any : {A : Type 0} (test : A → Bool) (xs : List A) → ((k : ℕ) (x : A) → slice_get xs k ≡ Some x → test x ≡ false) → list_any test xs ≡ false
not_any test [] h = refl
not_any test (x ∷ xs) h = both_false (test x) (list_any test xs) (h 0 x (get_zero x xs)) (not_any test xs (λ k y there. h (suc k) y (get_next x xs k y there)))
  where
    both_false : (a b : Bool) → a ≡ false → b ≡ false → (a || b) ≡ false
    both_false a b e f = rw (e, f) refl

same_some : {A : Type 0} (x y : A) → Some x ≡ Some y → x ≡ y
same_some x y e = cc

lt_of : (a b : ℕ) → a < b → nat_lt a b ≡ true
lt_of a b e = grind arith

opened_as : (rows : Rows) (script : Script) (pe : ℕ) (text : Text) (p : ProgramState) → slice_get script.programs pe ≡ Some text → program_of (opening rows script) pe ≡ Some p → p ≡ new_program text.who true
opened_as rows script pe text p there now =
    let whos = map (λ program. program.who) script.programs in
    let who_there : slice_get whos pe ≡ Some text.who = slice_get-map (λ program. program.who) script.programs pe ∙ ap (option_map (λ program. program.who)) there in
    let opened_is = opened_program (length script.programs) whos pe text.who who_there in
    let within : pe < length script.programs = slice_get_within script.programs pe text there in
    let local : nat_lt pe (length script.programs) ≡ true = lt_of pe (length script.programs) within in
    same_some p (new_program text.who true) (sym now ∙ opened_is ∙ ap (λ b. Some (new_program text.who b)) local)

lives_new : (rows : Rows) (script : Script) (seed : ℕ) → LivesAll script (new_run rows script seed)
lives_new rows script seed pe text p there now =
    subst (Lives text (new_run rows script seed) pe) (sym (opened_as rows script pe text p there now))
    (record {
      local = refl;
      count = refl;
      low = λ r e. cc;
      runs = λ running. (first_some (flat_map written_out text.statements), refl);
    })

between_new : (rows : Rows) (script : Script) (seed : ℕ) → Between script (new_run rows script seed)
between_new rows script seed =
    let whos = map (λ program. program.who) script.programs in
    let entries = length-enumerate_from 0 whos in
    let make : ℕ × Who → ProgramState = λ entry. new_program entry.1 (nat_lt entry.0 (length script.programs)) in
    let size : length (map make (enumerate_from 0 whos)) ≡ length script.programs =
    length-map (enumerate_from 0 whos) make ∙ entries ∙ length-map script.programs (λ program. program.who) in
    record {
      tells = tells_new rows script seed;
      lives = lives_new rows script seed;
      size = size;
      incomplete = first_false (list_any (λ p. is_member p && has_arrived 0 p) (opening rows script).programs) (list_all (λ p. not (is_member p) || has_arrived 0 p) (opening rows script).programs)
          (not_any (λ p. is_member p && has_arrived 0 p) (opening rows script).programs
          (λ k x there.
          let text = text_at script (new_run rows script seed) size k x there in
          let is = opened_as rows script k text.0 x text.1 there in
          ap (λ p. is_member p && has_arrived 0 p) is));
    }
  where
    first_false : (a b : Bool) → a ≡ false → (a && b) ≡ false
    first_false a b e = rw e refl

leads_between : (script : Script) (run : Run) (history : List Event) (end : Run) → Between script run → LeadsTo script run history end → Between script end
leads_between script run [] end b leads = subst (Between script) (sym leads) b
leads_between script run (event ∷ history) end b (due, words, next, chosen, comes, steps, leads) =
    let instead = comes_instead script run due event words chosen comes in
    leads_between script (went_on run event next words) history end (between_next script run event next words b instead steps) leads

-- the end

both_true : (a b : Bool) → a ≡ true → b ≡ true → (a && b) ≡ true
both_true a b e f = rw (e, f) refl

-- the replies of calls that all have one are as many
replied_length : (asked : List Asked) → list_all has_reply asked ≡ true → length (filter_map (λ a. a.1) asked) ≡ length asked
replied_length [] h = refl
replied_length ((asked, None) ∷ rest) h = cc
replied_length ((asked, Some given) ∷ rest) h = let more = replied_length rest h in omega arith

is_some_call : (o : Option Call) → is_some o ≡ true → (asked : Call) × (o ≡ Some asked)
is_some_call None h = cc
is_some_call (Some asked) h = (asked, refl)

-- an answer that may come
answer_some : (script : Script) (run : Run) (pe : ℕ) (p : ProgramState) (s : Started) (c : ℕ) (given : Reply) → program_of run.now pe ≡ Some p → p.started ≡ s →
    event_after script run pe p s ≡ Some (event_of pe c (what.Answer given)) → (is_running p.standing && answers_started s c) ≡ true → is_some (answer_step s run.now.round p given) ≡ true →
    is_some (program_event script run pe) ≡ true
answer_some script run pe p s c given now started next turn some_step =
    let event = event_of pe c (what.Answer given) in
    let in_turn : is_in_turn p c (what.Answer given) ≡ true = ap (λ x. is_running p.standing && answers_started x c) started ∙ turn in
    let takes : is_some (effect service_limits run.now pe p c (what.Answer given)) ≡ true =
    some_map (with_program run.now pe) (answer_step p.started run.now.round p given) (ap (λ x. is_some (answer_step x run.now.round p given)) started ∙ some_step) in
    let may_come : is_some (step service_limits run.now event) ≡ true =
    some_bind (program_of run.now pe) p (λ q. if is_in_turn q c (what.Answer given) then effect service_limits run.now pe q c (what.Answer given) else None) now
    (ap is_some (if_true (is_in_turn p c (what.Answer given)) (effect service_limits run.now pe p c (what.Answer given)) in_turn) ∙ takes) in
    let chosen : event_after script run pe p p.started ≡ Some event = ap (event_after script run pe p) started ∙ next in
    some_bind (program_of run.now pe) p (λ q. event_after script run pe q q.started >>= λ e. when (is_some (step service_limits run.now e)) e) now
    (some_bind (event_after script run pe p p.started) event (λ e. when (is_some (step service_limits run.now e)) e) chosen (some_when (is_some (step service_limits run.now event)) event may_come))

-- what a still run says of a running program: it waits at the barrier of this round
waits_here : (script : Script) (run : Run) (pe : ℕ) (text : Text) (p : ProgramState) (s : Started) → IsLawfulScript script → Between script run → IsStill script run → slice_get script.programs pe ≡ Some text →
    program_of run.now pe ≡ Some p → has_pending p ≡ false → AreMade (stripe_count run.now.service) p → p.started ≡ s → Tells text pe p.next_call s run.before →
    RunsBy text run.before pe run.now.round p s → is_running p.standing ≡ true → Lives text run pe p → has_arrived run.now.round p ≡ true
waits_here script run pe text p begun.Nothing lawful b still there now quiet made started tells (some, away) running live =
    let low : pe < length run.now.programs = slice_get_within run.now.programs pe p now in
    let asked = is_some_call (next_call text (replies_to run.before pe)) some in
    let good = lawful_text script pe text lawful there in
    let shaped : is_shaped asked.0 ≡ true = next_shaped (flat_map written_out text.statements) (replies_to run.before pe) asked.0 good.shaped asked.1 in
    let few : length (replies_to run.before pe) ≤ total (flat_map written_out text.statements) = no_more (flat_map written_out text.statements) (replies_to run.before pe) asked.0 asked.1 in
    let replied : length (replies_to run.before pe) ≡ length (calls run.before pe) = replied_length (calls run.before pe) tells.replied in
    let count : length (calls run.before pe) ≡ p.next_call = live.count in
    let limit : total (flat_map written_out text.statements) ≤ 65_536 = good.few in
    let number : p.next_call ≤ 65_536 = omega arith in
    let is_number : is_next p p.next_call ≡ true = both_true (p.next_call == p.next_call) (nat_lt p.next_call number_end) (equal p.next_call) (below_end p.next_call number) in
    let member : may_arrive run.now.round p ≡ true =
    both_true (is_member p) (not (has_arrived run.now.round p)) (both_true p.is_local (is_running p.standing) live.local running) (ap not away) in
    let yes = has_event script run pe p text asked.0 now there started asked.1 running is_number shaped quiet member in
    let no : false ≡ true = sym (ap is_some (still.programs pe low)) ∙ yes in cc
  where
    below_end : (n : ℕ) → n ≤ 65_536 → nat_lt n number_end ≡ true
    below_end n h = lt_of n number_end (omega arith)
waits_here script run pe text p (begun.Operation c) lawful b still there now quiet made started tells (has, away) running live =
    let low : pe < length run.now.programs = slice_get_within run.now.programs pe p now in
    let at : Placed = record { number = has.context; context = has.stands.context; operation = has.operation } in
    let found_at : placed p c ≡ Some at =
    ap (placed p) (sym has.is_call) ∙ placed_there (stripe_count run.now.service) p has.context has.place has.operation made has.stands in
    let over : has_left has.operation ≡ false =
    any_false has_left has.stands.context.operations has.place has.operation (not_pending p has.context has.stands.context quiet has.stands.there) has.stands.at in
    let given = result has.operation in
    let event = event_of pe c (what.Answer given) in
    let next : event_after script run pe p (begun.Operation c) ≡ Some event = bind_is (placed p c) at (λ a. Some (event_of pe c (what.Answer (result a.operation)))) event found_at refl in
    let new : Placed → ProgramState = λ a. with_nothing_started (with_placed p a (as_reported a.operation)) in
    let test : Placed → Bool = λ a. not (has_left a.operation) && same_reply given (result a.operation) in
    let some_step : is_some (answer_step (begun.Operation c) run.now.round p given) ≡ true =
    some_bind (placed p c) at (λ a. when (test a) (new a)) found_at
    (some_when (test at) (new at) (both_true (not (has_left has.operation)) (same_reply given (result has.operation)) (ap not over) (reply_same given))) in
    let no : false ≡ true =
    sym (ap is_some (still.programs pe low)) ∙ answer_some script run pe p (begun.Operation c) c given now started next (rw (running, equal c) refl) some_step in cc
waits_here script run pe text p (begun.Barrier c) lawful b still there now quiet made started tells (r, arrived) running live = by_passed (has_passed run.now.round p) refl
  where
    by_passed : (passed : Bool) → has_passed run.now.round p ≡ passed → has_arrived run.now.round p ≡ true
    by_passed true e =
        let low : pe < length run.now.programs = slice_get_within run.now.programs pe p now in
        let some_step : is_some (answer_step (begun.Barrier c) run.now.round p reply.Passed) ≡ true =
        some_when (has_passed run.now.round p && same_reply reply.Passed reply.Passed) (with_nothing_started p)
        (both_true (has_passed run.now.round p) (same_reply reply.Passed reply.Passed) e (reply_same reply.Passed)) in
        let no : false ≡ true =
        sym (ap is_some (still.programs pe low)) ∙ answer_some script run pe p (begun.Barrier c) c reply.Passed now started refl (rw (running, equal c) refl) some_step in cc
    by_passed false e =
        let not_below : nat_lt r run.now.round ≡ false = ap (λ o. is_some_and o (λ at. nat_lt at run.now.round)) (sym arrived) ∙ e in
        let low : r ≤ run.now.round = live.low r arrived in
        ap (λ o. is_some_and o (λ at. at == run.now.round)) arrived ∙ at_round r run.now.round not_below low
      where
        at_round : (a b : ℕ) → nat_lt a b ≡ false → a ≤ b → (a == b) ≡ true
        at_round a b e h = grind arith

-- the barrier of a round for which all wait is complete

all_pass : {A : Type 0} (test : A → Bool) (xs : List A) → ((j : ℕ) (x : A) → slice_get xs j ≡ Some x → test x ≡ true) → list_all test xs ≡ true
all_pass test [] h = refl
all_pass test (x ∷ xs) h = both_true (test x) (list_all test xs) (h 0 x (get_zero x xs)) (all_pass test xs (λ j y there. h (suc j) y (get_next x xs j y there)))

complete_of : (round : ℕ) (programs : List ProgramState) (k : ℕ) (p : ProgramState) → slice_get programs k ≡ Some p → is_member p ≡ true →
    ((j : ℕ) (q : ProgramState) → slice_get programs j ≡ Some q → is_running q.standing ≡ true → has_arrived round q ≡ true) → is_complete round programs ≡ true
complete_of round programs k p there member waits =
    both_true (list_any (λ x. is_member x && has_arrived round x) programs) (list_all (λ x. not (is_member x) || has_arrived round x) programs)
    (any_at_place (λ x. is_member x && has_arrived round x) programs k p there
    (both_true (is_member p) (has_arrived round p) member (waits k p there (second_true p.is_local (is_running p.standing) member))))
    (all_pass (λ x. not (is_member x) || has_arrived round x) programs (λ j q at. waits_or j q at (is_member q) refl))
  where
    second_true : (a b : Bool) → (a && b) ≡ true → b ≡ true
    second_true true b e = e
    second_true false b e = cc

    waits_or : (j : ℕ) (q : ProgramState) → slice_get programs j ≡ Some q → (b : Bool) → is_member q ≡ b → (not (is_member q) || has_arrived round q) ≡ true
    waits_or j q at false f = rw f refl
    waits_or j q at true f = rw f (waits j q at (second_true q.is_local (is_running q.standing) f))

-- in a still run nobody runs

all_wait : (script : Script) (run : Run) → IsLawfulScript script → Between script run → IsStill script run → AllMade run.now → (j : ℕ) (q : ProgramState) → program_of run.now j ≡ Some q →
    is_running q.standing ≡ true → has_arrived run.now.round q ≡ true
all_wait script run lawful b still made j q there running =
    let text = text_at script run b.size j q there in
    let one = b.tells j text.0 text.1 in
    let live = b.lives j text.0 q text.1 there in
    let is : one.p ≡ q = same_some one.p q (sym one.there ∙ there) in
    let tells : Tells text.0 j q.next_call q.started run.before = subst (λ x. Tells text.0 j x.next_call x.started run.before) is one.tells in
    let quiet = nothing_pending script run j q still there (made j q there) in
    waits_here script run j text.0 q q.started lawful b still text.1 there quiet (made j q there) refl tells (live.runs running) running live

nobody_runs : (running : Bool) (script : Script) (run : Run) → IsLawfulScript script → Between script run → IsStill script run → AllMade run.now → (j : ℕ) (q : ProgramState) → program_of run.now j ≡ Some q →
    is_running q.standing ≡ running → is_running q.standing ≡ false
nobody_runs false script run lawful b still made j q there e = e
nobody_runs true script run lawful b still made j q there e =
    let text = text_at script run b.size j q there in
    let live = b.lives j text.0 q text.1 there in
    let member : is_member q ≡ true = both_true q.is_local (is_running q.standing) live.local e in
    let complete = complete_of run.now.round run.now.programs j q there member (all_wait script run lawful b still made) in
    let no : true ≡ false = sym complete ∙ b.incomplete in cc

over_of : (programs : List ProgramState) → ((j : ℕ) (q : ProgramState) → slice_get programs j ≡ Some q → (is_running q.standing ≡ false) × (has_pending q ≡ false)) →
    list_all (λ p. not (is_running p.standing) && not (has_pending p)) programs ≡ true
over_of [] h = refl
over_of (p ∷ programs) h =
    let here = h 0 p (get_zero p programs) in
    both_true (not (is_running p.standing) && not (has_pending p)) (list_all (λ q. not (is_running q.standing) && not (has_pending q)) programs)
    (both_true (not (is_running p.standing)) (not (has_pending p)) (ap not here.0) (ap not here.1))
    (over_of programs (λ j q there. h (suc j) q (get_next p programs j q there)))

-- where the schedule of a lawful script stops, the run has ended
pub run_ends : (rows : Rows) (script : Script) (seed : ℕ) (history : List Event) → IsLawfulScript script → IsScheduled rows script seed history true → HasEnded rows script history
run_ends rows script seed history lawful s =
    let between = leads_between script (new_run rows script seed) history s.end (between_new rows script seed) s.leads in
    let still = stops_still script s.end (s.stops refl) in
    let made = (scheduled_made rows script seed history true (lawful_service script lawful) s).all in
    let reached = (leads_ends script (new_run rows script seed) history s.end (tells_new rows script seed) s.leads).reached in
    let over : is_over s.end.now ≡ true =
    over_of s.end.now.programs
    (λ j q there. (nobody_runs (is_running q.standing) script s.end lawful between still made j q there refl, nothing_pending script s.end j q still there (made j q there))) in
    ap (λ o. is_some_and o is_over) reached ∙ over
