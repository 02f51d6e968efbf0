-- A step keeps what holds of running programs.
use Rattle.std.proofs.Common.{◌≡◌, ℕ, ◌+◌, ◌≤◌, Bool, true, false, List, [], ◌∷◌, ◌++◌, refl, sym, ap, ◌∙◌, arith, subst, inl, inr, length, length-append, le_refl}
use Rattle.std.specs.Prelude.{◌==◌, ◌&&◌, ◌⊎◌, ◌≢◌, Option, Some, None, is_some, slice_get}
use Rattle.std.specs.List.{filter_map, flat_map}
use Rattle.std.proofs.lemmas.Bool.{eqb-true}
use Rattle.std.proofs.lemmas.List.Elements.{filter_map-append}
use Rattle.rand_pcg.specs.Lcg.{Lcg}
use Rattle.fam_base.specs.declared.error.FamError.{FamError}
use Rattle.fam_model.specs.declared.call.Call.{Call}
use Rattle.fam_model.specs.declared.call.Call.TheVariants as call
use Rattle.fam_model.specs.declared.call.DataOp.{DataOp}
use Rattle.fam_model.specs.declared.event.Event.{Event}
use Rattle.fam_model.specs.declared.event.What.{What}
use Rattle.fam_model.specs.declared.event.What.TheVariants as what
use Rattle.fam_model.specs.declared.reply.Reply.{Reply}
use Rattle.fam_model.specs.declared.reply.Reply.TheVariants as reply
use Rattle.fam_model.specs.declared.rows.Rows.{Rows}
use Rattle.fam_model.specs.declared.script.Program.{Program as Text}
use Rattle.fam_model.specs.declared.script.Script.{Script}
use Rattle.fam_model.specs.declared.service.Service.{Service}
use Rattle.fam_model.specs.declared.state.ProgramState.{ProgramState}
use Rattle.fam_model.specs.declared.state.Standing.TheVariants as standing
use Rattle.fam_model.specs.declared.state.Started.{Started}
use Rattle.fam_model.specs.declared.state.Started.TheVariants as begun
use Rattle.fam_model.specs.declared.state.State.{State}
use Rattle.fam_model.specs.ContextStep.{answer_step, with_nothing_started}
use Rattle.fam_model.specs.EqualCalls.{equal_calls}
use Rattle.fam_model.specs.Equals.{equal_replies}
use Rattle.fam_model.specs.History.{calls, reply_made}
use Rattle.fam_model.specs.Issue.{issue_refusal}
use Rattle.fam_model.specs.IssueStep.{issue_step, issue_with, accepted}
use Rattle.fam_model.specs.Limits.{service_limits}
use Rattle.fam_model.specs.Lists.{◌>>=◌, when, is_some_and}
use Rattle.fam_model.specs.Operations.{result}
use Rattle.fam_model.specs.Programs.{placed, program_of, with_program, is_running, has_arrived, has_passed, counted}
use Rattle.fam_model.specs.Shape.{is_shaped}
use Rattle.fam_model.specs.Same.{same_reply}
use Rattle.fam_model.specs.Step.{step, effect}
use Rattle.fam_model.specs.Text.{Asked, next_call, is_call, written_out}
use Rattle.fam_model.specs.Turn.{is_in_turn, is_next, is_idle, answers_started, call_made}
use Rattle.fam_schedule.specs.Schedule.{Run, event_of, event_after, first_event, replies_to, went_on}
use Rattle.fam_schedule.proofs.Options.{bind_some, when_some, map_some}
use Rattle.fam_schedule.proofs.Told.{speaks, told_as, calls_made, calls_answered}
use Rattle.fam_schedule.proofs.Moves.{started_after, number_after, step_moves}
use Rattle.fam_schedule.proofs.Places.{get_set_other}
use Rattle.fam_schedule.proofs.Follows.{Tells, Settled, Awaits}
use Rattle.fam_schedule.proofs.Comes.{first_makes}
use Rattle.fam_schedule.proofs.Refusals.{IsRefused, IsDueOrRefused, disk_refusal, refused_at}
use Rattle.fam_schedule.proofs.Runs.{TellsOne, TellsAll, IsReplied, IsBegun, leaves, counted_up, equal, event_of_program, apart_not_mine, silent_not_mine, differ}
use Rattle.fam_schedule.proofs.Texts.{ends, goes_on}
use Rattle.fam_schedule.proofs.Rests.{Rests, step_rests, standing_after, arrived_after, round_of}
use Rattle.fam_schedule.proofs.Staying.{round_moves, passed_not_arrived}
use Rattle.fam_schedule.proofs.Has.{HasCall, issued_has}
use Rattle.fam_schedule.proofs.Lives.{RunsBy, Lives, LivesAll, Own, own_of, other_lives, piece_lives, arrived_low, piece_keeps, lose_keeps, stands_as}

same_some : {A : Type 0} (x y : A) → Some x ≡ Some y → x ≡ y
same_some x y e = cc

-- the end of a program

none_refused : (service : Service) (p : ProgramState) → (issue_refusal service p call.Leave ≡ None) × (issue_refusal service p call.Crash ≡ None)
none_refused service p = (refl, refl)

-- a program that still runs made no call that ends it
not_ended : (service : Service) (rows : Rows) (round : ℕ) (p q : ProgramState) (asked : Call) (made : What) → first_event service rows p asked ≡ Some made → Rests round p made q →
    is_running q.standing ≡ true → ends asked ≡ false
not_ended service rows round p q (call.Meta a) made h rests running = refl
not_ended service rows round p q (call.Data c op b) made h rests running = refl
not_ended service rows round p q (call.OpenContext c) made h rests running = refl
not_ended service rows round p q (call.CloseContext c) made h rests running = refl
not_ended service rows round p q (call.CopyWait c n) made h rests running = refl
not_ended service rows round p q (call.Fence c) made h rests running = refl
not_ended service rows round p q (call.Quiet c) made h rests running = refl
not_ended service rows round p q call.Barrier made h rests running = refl
not_ended service rows round p q call.Leave made h rests running =
    let same : what.Leave ≡ made = same_some what.Leave made h in
    let left : q.standing ≡ standing.Left = rests.standing_is ∙ ap (standing_after p) (sym same) in
    let no : true ≡ false = sym running ∙ ap is_running left in cc
not_ended service rows round p q call.Crash made h rests running =
    let same : what.Crash ≡ made = same_some what.Crash made h in
    let crashed : q.standing ≡ standing.Crashed = rests.standing_is ∙ ap (standing_after p) (sym same) in
    let no : true ≡ false = sym running ∙ ap is_running crashed in cc

-- a call with its reply, of a program that still runs, changes neither the round nor an arrival
quiet_event : (state next : State) (p q : ProgramState) (made : What) (given : Reply) → reply_made made ≡ Some given → Rests state.round p made q → is_running q.standing ≡ true →
    next.round ≡ round_of state made next → (next.round ≡ state.round) × (q.arrived ≡ p.arrived)
quiet_event state next p q (what.Meta a g) given e rests running r = (r, rests.arrived_is)
quiet_event state next p q (what.Issue a g) given e rests running r = (r, rests.arrived_is)
quiet_event state next p q (what.Piece j g) given e rests running r = (r, rests.arrived_is)
quiet_event state next p q (what.Answer g) given e rests running r = (r, rests.arrived_is)
quiet_event state next p q (what.OpenContext c) given e rests running r = (r, rests.arrived_is)
quiet_event state next p q (what.CloseContext c g) given e rests running r = (r, rests.arrived_is)
quiet_event state next p q (what.Fence c) given e rests running r = (r, rests.arrived_is)
quiet_event state next p q (what.Quiet c g) given e rests running r = (r, rests.arrived_is)
quiet_event state next p q (what.Wait c n g) given e rests running r = (r, rests.arrived_is)
quiet_event state next p q what.Arrive given e rests running r = cc
quiet_event state next p q what.Leave given e rests running r = let no : true ≡ false = sym running ∙ ap is_running rests.standing_is in cc
quiet_event state next p q what.Crash given e rests running r = let no : true ≡ false = sym running ∙ ap is_running rests.standing_is in cc
quiet_event state next p q (what.Lose j) given e rests running r = (r, rests.arrived_is)
quiet_event state next p q (what.Refused a f d) given e rests running r = (r, rests.arrived_is)

-- replies

replies_more : (before later : List Event) (pe : ℕ) (asked : Call) (given : Reply) → calls later pe ≡ calls before pe ++ told_as asked (Some given) ∷ [] →
    replies_to later pe ≡ replies_to before pe ++ given ∷ []
replies_more before later pe asked given e = ap (filter_map (λ a. a.1)) e ∙ filter_map-append (λ a. a.1) (calls before pe) (told_as asked (Some given) ∷ [])

not_arrived_as : (round now : ℕ) (p q : ProgramState) → now ≡ round → q.arrived ≡ p.arrived → has_arrived round p ≡ false → has_arrived now q ≡ false
not_arrived_as round now p q same arrived h = ap (λ o. is_some_and o (λ at. at == now)) arrived ∙ ap (λ r. has_arrived r p) same ∙ h

-- a call

issue_of : (state next : State) (pe n c : ℕ) (op : DataOp) (p q : ProgramState) → program_of state pe ≡ Some p → program_of next pe ≡ Some q →
    effect service_limits state pe p n (what.Issue (call.Data c op true) reply.Issued) ≡ Some next → HasCall q p.next_call
issue_of state next pe n c op p q was there h =
    let m = map_some (with_program state pe) (issue_step state.service p (call.Data c op true) reply.Issued) next h in
    let same = stands_as state next pe p m.0 q was m.2 there in
    subst (λ x. HasCall x p.next_call) same (by_refusal (issue_refusal state.service p (call.Data c op true)) m.0 m.1)
  where
    by_refusal : (o : Option FamError) (r : ProgramState) → issue_with o state.service p (call.Data c op true) reply.Issued ≡ Some r → HasCall r p.next_call
    by_refusal (Some error) r e =
        let w = when_some (same_reply reply.Issued (reply.Error error)) (counted p) r e in
        let no : reply.Issued ≡ reply.Error error = equal_replies reply.Issued (reply.Error error) w.0 in cc
    by_refusal None r e =
        let b = bind_some (accepted state.service p (call.Data c op true)) (λ x. when (same_reply reply.Issued reply.Issued) x) r e in
        let w = when_some (same_reply reply.Issued reply.Issued) b.0 r b.2 in
        subst (λ x. HasCall x p.next_call) w.1 (issued_has state.service p b.0 c op true b.1)

call_runs : (text : Text) (run : Run) (pe : ℕ) (p q : ProgramState) (next : State) (made : What) (asked : Call) → Own run.now pe p p.next_call made next q → Settled text pe p.next_call run.before →
    has_arrived run.now.round p ≡ false → next_call text (replies_to run.before pe) ≡ Some asked → call_made made ≡ Some asked → (is_running q.standing ≡ true → ends asked ≡ false) →
    is_running q.standing ≡ true → IsReplied p made ⊎ IsBegun p made → RunsBy text (run.before ++ event_of pe p.next_call made ∷ []) pe next.round q q.started
call_runs text run pe p q next made asked own s not due makes past running (inl r) =
    let event = event_of pe p.next_call made in
    let later = run.before ++ event ∷ [] in
    let more = calls_made run.before pe p.next_call event asked s.below (equal pe) (le_refl p.next_call) makes ∙ ap (λ g. calls run.before pe ++ told_as asked g ∷ []) r.reply_is in
    let replies = replies_more run.before later pe asked r.given more in
    let some = goes_on (flat_map written_out text.statements) (replies_to run.before pe) asked r.given due (past running) in
    let quiet = quiet_event run.now next p q made r.given r.reply_is own.rests running own.round in
    subst (λ x. RunsBy text later pe next.round q x) (sym (own.moved.started ∙ r.nothing))
    (ap (λ rs. is_some (next_call text rs)) replies ∙ some, not_arrived_as run.now.round next.round p q quiet.0 quiet.1 not)
call_runs text run pe p q next made asked own s not due makes past running (inr (none, inl (c, op, is))) =
    let later = run.before ++ event_of pe p.next_call made ∷ [] in
    let effects : effect service_limits run.now pe p p.next_call (what.Issue (call.Data c op true) reply.Issued) ≡ Some next =
    subst (λ w. effect service_limits run.now pe p p.next_call w ≡ Some next) is own.effects in
    let rests : Rests run.now.round p (what.Issue (call.Data c op true) reply.Issued) q = subst (λ w. Rests run.now.round p w q) is own.rests in
    let round : next.round ≡ run.now.round = own.round ∙ ap (λ w. round_of run.now w next) is in
    subst (λ x. RunsBy text later pe next.round q x) (sym (own.moved.started ∙ ap (started_after p) is))
    (issue_of run.now next pe p.next_call c op p q own.was own.there effects, not_arrived_as run.now.round next.round p q round rests.arrived_is not)
call_runs text run pe p q next made asked own s not due makes past running (inr (none, inr is)) =
    let later = run.before ++ event_of pe p.next_call made ∷ [] in
    let arrived : q.arrived ≡ Some run.now.round = own.rests.arrived_is ∙ ap (arrived_after run.now.round p) is in
    subst (λ x. RunsBy text later pe next.round q x) (sym (own.moved.started ∙ ap (started_after p) is)) (run.now.round, arrived)

one_more : (xs : List Asked) (x : Asked) → length (xs ++ x ∷ []) ≡ length xs + 1
one_more xs x = length-append xs (x ∷ [])

call_lives : (text : Text) (run : Run) (words : Lcg) (pe : ℕ) (p q : ProgramState) (next : State) (made : What) (asked : Call) → Own run.now pe p p.next_call made next q →
    Settled text pe p.next_call run.before → Lives text run pe p → has_arrived run.now.round p ≡ false → next_call text (replies_to run.before pe) ≡ Some asked →
    call_made made ≡ Some asked → (is_running q.standing ≡ true → ends asked ≡ false) → Lives text (went_on run (event_of pe p.next_call made) next words) pe q
call_lives text run words pe p q next made asked own s live not due makes past =
    let event = event_of pe p.next_call made in
    let more = calls_made run.before pe p.next_call event asked s.below (equal pe) (le_refl p.next_call) makes in
    let number : q.next_call ≡ p.next_call + 1 = own.moved.number ∙ counted_up p made asked makes in
    let longer : length (calls (run.before ++ event ∷ []) pe) ≡ length (calls run.before pe) + 1 = ap length more ∙ one_more (calls run.before pe) (told_as asked (reply_made made)) in
    record {
      local = own.rests.is_local ∙ live.local;
      count = longer ∙ ap (λ n. n + 1) live.count ∙ sym number;
      low = arrived_low run.now.round next.round p q made live.low own.rests (moves own.round);
      runs = λ running. call_runs text run pe p q next made asked own s not due makes past running (leaves p made asked makes);
    }
  where
    moves : next.round ≡ round_of run.now made next → (next.round ≡ run.now.round) ⊎ (next.round ≡ run.now.round + 1)
    moves r = as_round (round_moves run.now made next)
      where
        as_round : (round_of run.now made next ≡ run.now.round) ⊎ (round_of run.now made next ≡ run.now.round + 1) → (next.round ≡ run.now.round) ⊎ (next.round ≡ run.now.round + 1)
        as_round (inl same) = inl (r ∙ same)
        as_round (inr more) = inr (r ∙ more)

-- an answer

is_call_some : (o : Option Call) (asked : Call) → is_call o asked ≡ true → o ≡ Some asked
is_call_some None asked h = cc
is_call_some (Some due) asked h = ap Some (equal_calls due asked h)

-- a call that waits does not end its program
waits_on : (p : ProgramState) (made : What) (asked : Call) → call_made made ≡ Some asked → reply_made made ≡ None → ends asked ≡ false
waits_on p made asked makes none = by_leaving (leaves p made asked makes)
  where
    by_leaving : IsReplied p made ⊎ IsBegun p made → ends asked ≡ false
    by_leaving (inl r) = let no : None ≡ Some r.given = sym none ∙ r.reply_is in cc
    by_leaving (inr (n, inl (c, op, is))) =
        let same : Some (call.Data c op true) ≡ Some asked = sym (ap call_made is) ∙ makes in
        let asked_is : call.Data c op true ≡ asked = same_some (call.Data c op true) asked same in ap ends (sym asked_is)
    by_leaving (inr (n, inr is)) =
        let same : Some call.Barrier ≡ Some asked = sym (ap call_made is) ∙ makes in
        let asked_is : call.Barrier ≡ asked = same_some call.Barrier asked same in ap ends (sym asked_is)

answer_lives : (text : Text) (run : Run) (words : Lcg) (pe c : ℕ) (p q : ProgramState) (next : State) (given : Reply) → Own run.now pe p c (what.Answer given) next q →
    Awaits text pe p.next_call c run.before → Lives text run pe p → has_arrived run.now.round p ≡ false → Lives text (went_on run (event_of pe c (what.Answer given)) next words) pe q
answer_lives text run words pe c p q next given own a live not =
    let event = event_of pe c (what.Answer given) in
    let later = run.before ++ event ∷ [] in
    let w = a.waits in
    let now = calls_answered run.before pe c a.asked event given w (equal pe) refl refl refl in
    let longer : length (calls later pe) ≡ length (calls w.earlier pe) + 1 = ap length now ∙ one_more (calls w.earlier pe) (told_as a.asked (Some given)) in
    let was : length (calls run.before pe) ≡ length (calls w.earlier pe) + 1 = ap length w.told ∙ one_more (calls w.earlier pe) (told_as a.asked None) in
    let replies = replies_more w.earlier later pe a.asked given now in
    let due : next_call text (replies_to w.earlier pe) ≡ Some a.asked = is_call_some (next_call text (replies_to w.earlier pe)) a.asked a.due in
    let some = goes_on (flat_map written_out text.statements) (replies_to w.earlier pe) a.asked given due (waits_on p w.issue.what a.asked w.made w.no_reply) in
    record {
      local = own.rests.is_local ∙ live.local;
      count = longer ∙ sym was ∙ live.count ∙ sym own.moved.number;
      low = λ r e. (let h : r ≤ run.now.round = live.low r (sym own.rests.arrived_is ∙ e) in let same : next.round ≡ run.now.round = own.round in omega arith);
      runs = λ running.
          subst (λ x. RunsBy text later pe next.round q x) (sym own.moved.started)
          (ap (λ rs. is_some (next_call text rs)) replies ∙ some, not_arrived_as run.now.round next.round p q own.round own.rests.arrived_is not);
    }

-- the program's next event

own_lives : (script : Script) (run : Run) (text : Text) (words : Lcg) (pe : ℕ) (p q : ProgramState) (event : Event) (next : State) (s : Started) → slice_get script.programs pe ≡ Some text →
    program_of run.now pe ≡ Some p → p.started ≡ s → event_after script run pe p s ≡ Some event → Own run.now pe p event.call event.what next q → Tells text pe p.next_call s run.before → Lives text run pe p →
    is_running p.standing ≡ true → Lives text (went_on run event next words) pe q
own_lives script run text words pe p q event next begun.Nothing there was started h own tells live running =
    let last : Text → Call → What → Option Event = λ program asked first. Some (event_of pe p.next_call first) in
    let b = bind_some (slice_get script.programs pe)
    (λ program. next_call program (replies_to run.before pe) >>= λ asked. first_event run.now.service run.now.rows p asked >>= last program asked) event h in
    let c = bind_some (next_call b.0 (replies_to run.before pe)) (λ asked. first_event run.now.service run.now.rows p asked >>= last b.0 asked) event b.2 in
    let d = bind_some (first_event run.now.service run.now.rows p c.0) (last b.0 c.0) event c.2 in
    let same : event_of pe p.next_call d.0 ≡ event = same_some (event_of pe p.next_call d.0) event d.2 in
    let text_is : b.0 ≡ text = same_some b.0 text (sym b.1 ∙ there) in
    let due : next_call text (replies_to run.before pe) ≡ Some c.0 = ap (λ t. next_call t (replies_to run.before pe)) (sym text_is) ∙ c.1 in
    let by : RunsBy text run.before pe run.now.round p begun.Nothing = subst (λ x. RunsBy text run.before pe run.now.round p x) started (live.runs running) in
    let own_is : Own run.now pe p p.next_call d.0 next q = subst (λ e. Own run.now pe p e.call e.what next q) (sym same) own in
    let makes : call_made d.0 ≡ Some c.0 = (first_makes run.now.service run.now.rows p c.0 d.0 d.1).0 in
    subst (λ e. Lives text (went_on run e next words) pe q) same
    (call_lives text run words pe p q next d.0 c.0 own_is tells live by.1 due makes (not_ended run.now.service run.now.rows run.now.round p q c.0 d.0 d.1 own_is.rests))
own_lives script run text words pe p q event next (begun.Operation c) there was started h own tells live running =
    let b = bind_some (placed p c) (λ at. Some (event_of pe c (what.Answer (result at.operation)))) event h in
    let same : event_of pe c (what.Answer (result b.0.operation)) ≡ event = same_some (event_of pe c (what.Answer (result b.0.operation))) event b.2 in
    let by : RunsBy text run.before pe run.now.round p (begun.Operation c) = subst (λ x. RunsBy text run.before pe run.now.round p x) started (live.runs running) in
    let own_is : Own run.now pe p c (what.Answer (result b.0.operation)) next q = subst (λ e. Own run.now pe p e.call e.what next q) (sym same) own in
    subst (λ e. Lives text (went_on run e next words) pe q) same (answer_lives text run words pe c p q next (result b.0.operation) own_is tells live by.1)
own_lives script run text words pe p q event next (begun.Barrier c) there was started h own tells live running =
    let same : event_of pe c (what.Answer reply.Passed) ≡ event = same_some (event_of pe c (what.Answer reply.Passed)) event h in
    let own_is : Own run.now pe p c (what.Answer reply.Passed) next q = subst (λ e. Own run.now pe p e.call e.what next q) (sym same) own in
    let m = map_some (with_program run.now pe) (answer_step p.started run.now.round p reply.Passed) next own_is.effects in
    let step_is : answer_step (begun.Barrier c) run.now.round p reply.Passed ≡ Some m.0 = ap (λ s. answer_step s run.now.round p reply.Passed) (sym started) ∙ m.1 in
    let w = when_some (has_passed run.now.round p && same_reply reply.Passed reply.Passed) (with_nothing_started p) m.0 step_is in
    let passed : has_passed run.now.round p ≡ true = first_true (has_passed run.now.round p) (same_reply reply.Passed reply.Passed) w.0 in
    subst (λ e. Lives text (went_on run e next words) pe q) same
    (answer_lives text run words pe c p q next reply.Passed own_is tells live (passed_not_arrived run.now.round p passed))
  where
    first_true : (a b : Bool) → (a && b) ≡ true → a ≡ true
    first_true true b e = refl
    first_true false b e = cc

-- an event that speaks is one of a running program

four_true : (a b c d : Bool) → (a && b && c && d) ≡ true → a ≡ true
four_true true b c d e = refl
four_true false b c d e = cc

two_true : (a b : Bool) → (a && b) ≡ true → a ≡ true
two_true true b e = refl
two_true false b e = cc

runs_in_turn : (p : ProgramState) (n : ℕ) (made : What) → is_in_turn p n made ≡ true → speaks made ≡ true → is_running p.standing ≡ true
runs_in_turn p n (what.Meta a g) h e = four_true (is_running p.standing) (is_next p n) (is_idle p.started) (is_shaped (call.Meta a)) h
runs_in_turn p n (what.Issue a g) h e = four_true (is_running p.standing) (is_next p n) (is_idle p.started) (is_shaped a) h
runs_in_turn p n (what.Piece j g) h e = cc
runs_in_turn p n (what.Answer g) h e = two_true (is_running p.standing) (answers_started p.started n) h
runs_in_turn p n (what.OpenContext c) h e = four_true (is_running p.standing) (is_next p n) (is_idle p.started) (is_shaped (call.OpenContext c)) h
runs_in_turn p n (what.CloseContext c g) h e = four_true (is_running p.standing) (is_next p n) (is_idle p.started) (is_shaped (call.CloseContext c)) h
runs_in_turn p n (what.Fence c) h e = four_true (is_running p.standing) (is_next p n) (is_idle p.started) (is_shaped (call.Fence c)) h
runs_in_turn p n (what.Quiet c g) h e = four_true (is_running p.standing) (is_next p n) (is_idle p.started) (is_shaped (call.Quiet c)) h
runs_in_turn p n (what.Wait c m g) h e = four_true (is_running p.standing) (is_next p n) (is_idle p.started) (is_shaped (call.CopyWait c m)) h
runs_in_turn p n what.Arrive h e = four_true (is_running p.standing) (is_next p n) (is_idle p.started) (is_shaped call.Barrier) h
runs_in_turn p n what.Leave h e = four_true (is_running p.standing) (is_next p n) (is_idle p.started) (is_shaped call.Leave) h
runs_in_turn p n what.Crash h e = two_true (is_running p.standing) (is_next p n) h
runs_in_turn p n (what.Lose j) h e = cc
runs_in_turn p n (what.Refused a f d) h e = four_true (is_running p.standing) (is_next p n) (is_idle p.started) (is_shaped a) h

-- one event more

speaks_after : (script : Script) (run : Run) (pe : ℕ) (p : ProgramState) (s : Started) (event : Event) → event_after script run pe p s ≡ Some event → speaks event.what ≡ true
speaks_after script run pe p begun.Nothing event h =
    let last : Text → Call → What → Option Event = λ program asked first. Some (event_of pe p.next_call first) in
    let b = bind_some (slice_get script.programs pe)
    (λ program. next_call program (replies_to run.before pe) >>= λ asked. first_event run.now.service run.now.rows p asked >>= last program asked) event h in
    let c = bind_some (next_call b.0 (replies_to run.before pe)) (λ asked. first_event run.now.service run.now.rows p asked >>= last b.0 asked) event b.2 in
    let d = bind_some (first_event run.now.service run.now.rows p c.0) (last b.0 c.0) event c.2 in
    let same : event_of pe p.next_call d.0 ≡ event = same_some (event_of pe p.next_call d.0) event d.2 in
    let makes : call_made d.0 ≡ Some c.0 = (first_makes run.now.service run.now.rows p c.0 d.0 d.1).0 in
    ap (λ e. speaks e.what) (sym same) ∙ rw makes refl
speaks_after script run pe p (begun.Operation c) event h =
    let b = bind_some (placed p c) (λ at. Some (event_of pe c (what.Answer (result at.operation)))) event h in
    let same : event_of pe c (what.Answer (result b.0.operation)) ≡ event = same_some (event_of pe c (what.Answer (result b.0.operation))) event b.2 in
    ap (λ e. speaks e.what) (sym same)
speaks_after script run pe p (begun.Barrier c) event h =
    let same : event_of pe c (what.Answer reply.Passed) ≡ event = same_some (event_of pe c (what.Answer reply.Passed)) event h in
    ap (λ e. speaks e.what) (sym same)

-- the program's next call, refused by the disk
refused_lives : (text : Text) (run : Run) (words : Lcg) (pe : ℕ) (p q : ProgramState) (event : Event) (next : State) → Own run.now pe p event.call event.what next q →
    is_in_turn p event.call event.what ≡ true → Tells text pe p.next_call p.started run.before → Lives text run pe p → IsRefused text run pe p event → Lives text (went_on run event next words) pe q
refused_lives text run words pe p q event next own turn tells live r =
    let made = disk_refusal r.asked r.doubt in
    let own_is : Own run.now pe p p.next_call made next q = subst (λ e. Own run.now pe p e.call e.what next q) r.is own in
    let speaks_is : speaks event.what ≡ true = ap (λ e. speaks e.what) r.is in
    let running : is_running p.standing ≡ true = runs_in_turn p event.call event.what turn speaks_is in
    let by : RunsBy text run.before pe run.now.round p begun.Nothing = subst (λ x. RunsBy text run.before pe run.now.round p x) r.nothing (live.runs running) in
    let settled : Settled text pe p.next_call run.before = subst (λ s. Tells text pe p.next_call s run.before) r.nothing tells in
    subst (λ e. Lives text (went_on run e next words) pe q) (sym r.is)
    (call_lives text run words pe p q next made (call.Meta r.asked) own_is settled live by.1 r.due refl (λ still. refl))

mine_lives : (script : Script) (run : Run) (text : Text) (words : Lcg) (p q : ProgramState) (event : Event) (next : State) → slice_get script.programs event.pe.0 ≡ Some text →
    step service_limits run.now event ≡ Some next → program_of run.now event.pe.0 ≡ Some p → program_of next event.pe.0 ≡ Some q →
    Tells text event.pe.0 p.next_call p.started run.before → Lives text run event.pe.0 p → IsDueOrRefused script run event → Lives text (went_on run event next words) event.pe.0 q
mine_lives script run text words p q event next there steps was now tells live (inl (inl o)) =
    let own = own_of run.now next event p q steps was now in
    let at : o.pe ≡ event.pe.0 = sym (event_of_program script run o.pe o.p o.p.started event o.next) in
    let p_is : o.p ≡ p = same_some o.p p (sym o.there ∙ ap (program_of run.now) at ∙ was) in
    let comes : event_after script run event.pe.0 p p.started ≡ Some event =
    subst (λ x. event_after script run event.pe.0 x x.started ≡ Some event) p_is (subst (λ k. event_after script run k o.p o.p.started ≡ Some event) at o.next) in
    let m = step_moves service_limits run.now next event steps in
    let m_is : m.was ≡ p = same_some m.was p (sym m.there ∙ was) in
    let running : is_running p.standing ≡ true =
    runs_in_turn p event.call event.what (subst (λ x. is_in_turn x event.call event.what ≡ true) m_is m.turn) (speaks_after script run event.pe.0 p p.started event comes) in
    own_lives script run text words event.pe.0 p q event next p.started there was refl comes own tells live running
mine_lives script run text words p q event next there steps was now tells live (inl (inr (inl o))) =
    let own = own_of run.now next event p q steps was now in
    let j = o.name.piece in
    let is : event.what ≡ what.Piece j _ = ap (λ e. e.what) o.is in
    let silent : speaks event.what ≡ false = ap speaks is in
    piece_lives text run event next words event.pe.0 p q tells live (silent_not_mine event event.pe.0 (event.pe.0 == event.pe.0) refl silent)
    (own.round ∙ ap (λ w. round_of run.now w next) is) own.rests.is_local (own.rests.standing_is ∙ ap (standing_after p) is) (own.rests.arrived_is ∙ ap (arrived_after run.now.round p) is)
    (own.moved.started ∙ ap (started_after p) is) (own.moved.number ∙ ap (number_after p) is)
    (piece_keeps run.now next event.pe.0 event.call j p q _ was (subst (λ w. effect service_limits run.now event.pe.0 p event.call w ≡ Some next) is own.effects) now)
mine_lives script run text words p q event next there steps was now tells live (inl (inr (inr o))) =
    let own = own_of run.now next event p q steps was now in
    let j = o.name.piece in
    let is : event.what ≡ what.Lose j = ap (λ e. e.what) o.is in
    let silent : speaks event.what ≡ false = ap speaks is in
    piece_lives text run event next words event.pe.0 p q tells live (silent_not_mine event event.pe.0 (event.pe.0 == event.pe.0) refl silent)
    (own.round ∙ ap (λ w. round_of run.now w next) is) own.rests.is_local (own.rests.standing_is ∙ ap (standing_after p) is) (own.rests.arrived_is ∙ ap (arrived_after run.now.round p) is)
    (own.moved.started ∙ ap (started_after p) is) (own.moved.number ∙ ap (number_after p) is)
    (lose_keeps run.now next event.pe.0 event.call j p q was (subst (λ w. effect service_limits run.now event.pe.0 p event.call w ≡ Some next) is own.effects) now)
mine_lives script run text words p q event next there steps was now tells live (inr o) =
    let own = own_of run.now next event p q steps was now in
    let m = step_moves service_limits run.now next event steps in
    let m_is : m.was ≡ p = same_some m.was p (sym m.there ∙ was) in
    refused_lives text run words event.pe.0 p q event next own (subst (λ x. is_in_turn x event.call event.what ≡ true) m_is m.turn) tells live
    (refused_at script run event event.pe.0 text p refl there was o)

lives_by : (mine : Bool) (script : Script) (run : Run) (text : Text) (words : Lcg) (pe : ℕ) (q : ProgramState) (event : Event) (next : State) → (event.pe.0 == pe) ≡ mine →
    slice_get script.programs pe ≡ Some text → step service_limits run.now event ≡ Some next → program_of next pe ≡ Some q → TellsOne text run pe → LivesAll script run → IsDueOrRefused script run event →
    Lives text (went_on run event next words) pe q
lives_by true script run text words pe q event next e there steps now one all comes =
    let place : event.pe.0 ≡ pe = eqb-true event.pe.0 pe e in
    subst (λ k. Lives text (went_on run event next words) k q) place
    (mine_lives script run text words one.p q event next (ap (slice_get script.programs) place ∙ there) steps (ap (program_of run.now) place ∙ one.there) (ap (program_of next) place ∙ now)
    (subst (λ k. Tells text k one.p.next_call one.p.started run.before) (sym place) one.tells)
    (subst (λ k. Lives text run k one.p) (sym place) (all pe text one.p there one.there)) comes)
lives_by false script run text words pe q event next e there steps now one all comes =
    let r = step_rests service_limits run.now next event steps in
    let apart : pe ≢ event.pe.0 = differ event.pe.0 pe e in
    let same : program_of next pe ≡ Some one.p =
    ap (λ ps. slice_get ps pe) r.after.programs ∙ get_set_other run.now.programs event.pe.0 pe one.p r.after.is one.there apart in
    let q_is : one.p ≡ q = same_some one.p q (sym same ∙ now) in
    subst (λ x. Lives text (went_on run event next words) pe x) q_is
    (other_lives text run event next words pe one.p one.tells (all pe text one.p there one.there) (apart_not_mine event pe e) (as_round r.after.round (round_moves run.now event.what next)))
  where
    as_round : {n m k : ℕ} → n ≡ m → (m ≡ k) ⊎ (m ≡ k + 1) → (n ≡ k) ⊎ (n ≡ k + 1)
    as_round r (inl same) = inl (r ∙ same)
    as_round r (inr more) = inr (r ∙ more)

-- with one event more all programs live on
pub lives_next : (script : Script) (run : Run) (event : Event) (next : State) (words : Lcg) → TellsAll script run → LivesAll script run → IsDueOrRefused script run event →
    step service_limits run.now event ≡ Some next → LivesAll script (went_on run event next words)
lives_next script run event next words tells all comes steps pe text q there now =
    lives_by (event.pe.0 == pe) script run text words pe q event next refl there steps now (tells pe text there) all comes
