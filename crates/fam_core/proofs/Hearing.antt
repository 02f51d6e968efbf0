-- The replies of a program, with one event more.
use Rattle.std.proofs.Common.{◌≡◌, ℕ, Bool, true, false, List, [], ◌∷◌, ◌++◌, refl, sym, ap, ◌∙◌, subst, append-nil, arith, eqb-true, inl, inr}
use Rattle.std.specs.Prelude.{◌==◌, Option, Some, None, slice_get, if◌then◌else◌}
use Rattle.std.specs.List.{filter_map}
use Rattle.std.specs.Option.{option_or, option_to_list}
use Rattle.std.proofs.lemmas.List.Elements.{filter_map-append}
use Rattle.fam_model.specs.declared.call.Call.{Call}
use Rattle.fam_model.specs.declared.call.Call.TheVariants as call
use Rattle.fam_model.specs.declared.event.Event.{Event}
use Rattle.fam_model.specs.declared.event.What.{What}
use Rattle.fam_model.specs.declared.event.What.TheVariants as what
use Rattle.fam_model.specs.declared.reply.Reply.{Reply}
use Rattle.fam_model.specs.declared.reply.Reply.TheVariants as reply
use Rattle.fam_model.specs.declared.script.Program.{Program as Text}
use Rattle.fam_model.specs.declared.script.Script.{Script}
use Rattle.fam_model.specs.declared.state.ProgramState.{ProgramState}
use Rattle.fam_model.specs.declared.state.Started.{Started}
use Rattle.fam_model.specs.declared.state.Started.TheVariants as begun
use Rattle.fam_model.specs.History.{calls, reply_made, answered_with}
use Rattle.fam_model.specs.Lists.{◌>>=◌}
use Rattle.fam_model.specs.Operations.{result}
use Rattle.fam_model.specs.Programs.{placed, program_of}
use Rattle.fam_model.specs.Text.{Asked, next_call}
use Rattle.fam_model.specs.Turn.{call_made}
use Rattle.fam_schedule.specs.Schedule.{Run, event_of, event_after, first_event, replies_to}
use Rattle.fam_schedule.proofs.Options.{bind_some, or_none}
use Rattle.fam_schedule.proofs.Told.{speaks, is_mine, Below, told_as, calls_skip, calls_made, calls_answered}
use Rattle.fam_schedule.proofs.Follows.{Tells, Settled, Awaits, waits_below}
use Rattle.fam_schedule.proofs.Comes.{first_makes}
use Rattle.fam_schedule.proofs.Refusals.{IsDueOrRefused, disk_refusal, refused_at}
use Rattle.fam_schedule.proofs.Runs.{TellsAll, event_of_program, apart_not_mine, silent_not_mine, equal}
use Rattle.fam_core.specs.Turns.{told_by, told_to}

-- the replies of these calls
abbrev pub replies_in : List Asked → List Reply
replies_in asked = filter_map (λ a. a.1) asked

replies_append : (xs ys : List Asked) → replies_in (xs ++ ys) ≡ replies_in xs ++ replies_in ys
replies_append xs ys = filter_map-append (λ a. a.1) xs ys

one_reply : (asked : Call) (given : Option Reply) → replies_in (told_as asked given ∷ []) ≡ option_to_list given
one_reply asked None = refl
one_reply asked (Some given) = refl

-- its calls are all below its next one
below_of : (text : Text) (pe n : ℕ) (s : Started) (history : List Event) → Tells text pe n s history → Below pe n history
below_of text pe n begun.Nothing history t = t.below
below_of text pe n (begun.Operation c) history t = waits_below pe n c t.asked history t.waits t.number
below_of text pe n (begun.Barrier c) history t = waits_below pe n c t.asked history t.waits t.number

-- with one event more, the replies are those so far and the one that it tells
abbrev pub Hears : ℕ → List Event → Event → Type 0
Hears pe history event = replies_to (history ++ event ∷ []) pe ≡ replies_to history pe ++ option_to_list (told_to pe event)

-- an event that tells the program nothing
hears_skip : (text : Text) (pe n : ℕ) (s : Started) (history : List Event) (event : Event) → Tells text pe n s history → is_mine pe event ≡ false → told_to pe event ≡ None → Hears pe history event
hears_skip text pe n s history event tells other none =
    ap replies_in (calls_skip history pe n event (below_of text pe n s history tells) other)
    ∙ sym (append-nil (replies_to history pe))
    ∙ ap (λ r. replies_to history pe ++ option_to_list r) (sym none)

not_told : (pe : ℕ) (event : Event) → (event.pe.0 == pe) ≡ false → told_to pe event ≡ None
not_told pe event e = rw e refl

told_none : (b : Bool) (given : Option Reply) → given ≡ None → (if b then given else None) ≡ None
told_none true given e = e
told_none false given e = refl

is_told : (pe : ℕ) (event : Event) → (event.pe.0 == pe) ≡ true → told_to pe event ≡ told_by event.what
is_told pe event e = rw e refl

-- what makes a call answers none
made_not_answers : (made : What) (asked : Call) → call_made made ≡ Some asked → answered_with made ≡ None
made_not_answers (what.Meta a given) asked e = refl
made_not_answers (what.Issue a given) asked e = refl
made_not_answers (what.Piece piece given) asked e = refl
made_not_answers (what.Answer given) asked e = cc
made_not_answers (what.OpenContext context) asked e = refl
made_not_answers (what.CloseContext context given) asked e = refl
made_not_answers (what.Fence context) asked e = refl
made_not_answers (what.Quiet context given) asked e = refl
made_not_answers (what.Wait context named given) asked e = refl
made_not_answers what.Arrive asked e = refl
made_not_answers what.Leave asked e = refl
made_not_answers what.Crash asked e = refl
made_not_answers (what.Lose piece) asked e = refl
made_not_answers (what.Refused a error doubt) asked e = refl

-- a call of the program
hears_made : (text : Text) (pe n : ℕ) (history : List Event) (made : What) (asked : Call) → Settled text pe n history → call_made made ≡ Some asked →
    Hears pe history (event_of pe n made)
hears_made text pe n history made asked s e =
    let event = event_of pe n made in
    let told : told_to pe event ≡ reply_made made =
    is_told pe event (equal pe) ∙ ap (option_or (reply_made made)) (made_not_answers made asked e) ∙ or_none (reply_made made) in
    ap replies_in (calls_made history pe n event asked s.below (equal pe) (omega arith) e)
    ∙ replies_append (calls history pe) (told_as asked (reply_made made) ∷ [])
    ∙ ap (λ rs. replies_to history pe ++ rs) (one_reply asked (reply_made made) ∙ ap option_to_list (sym told))

-- the answer of its started call
hears_answer : (text : Text) (pe n c : ℕ) (history : List Event) (given : Reply) → Awaits text pe n c history → Hears pe history (event_of pe c (what.Answer given))
hears_answer text pe n c history given a =
    let w = a.waits in
    let event = event_of pe c (what.Answer given) in
    let so_far : replies_to history pe ≡ replies_to w.earlier pe =
    ap replies_in w.told ∙ replies_append (calls w.earlier pe) (told_as a.asked None ∷ []) ∙ append-nil (replies_to w.earlier pe) in
    let told : told_to pe event ≡ Some given = is_told pe event (equal pe) in
    ap replies_in (calls_answered history pe c a.asked event given w (equal pe) refl refl refl)
    ∙ replies_append (calls w.earlier pe) (told_as a.asked (Some given) ∷ [])
    ∙ ap (λ rs. rs ++ given ∷ []) (sym so_far)
    ∙ ap (λ r. replies_to history pe ++ option_to_list r) (sym told)

-- the next event of the program
hears_own : (script : Script) (run : Run) (text : Text) (pe : ℕ) (p : ProgramState) (event : Event) (s : Started) → slice_get script.programs pe ≡ Some text →
    event_after script run pe p s ≡ Some event → Tells text pe p.next_call s run.before → Hears pe run.before event
hears_own script run text pe p event begun.Nothing there h tells =
    let last : Text → Call → What → Option Event = λ program asked first. Some (event_of pe p.next_call first) in
    let b = bind_some (slice_get script.programs pe)
    (λ program. next_call program (replies_to run.before pe) >>= λ asked. first_event run.now.service run.now.rows p asked >>= last program asked) event h in
    let c = bind_some (next_call b.0 (replies_to run.before pe)) (λ asked. first_event run.now.service run.now.rows p asked >>= last b.0 asked) event b.2 in
    let d = bind_some (first_event run.now.service run.now.rows p c.0) (last b.0 c.0) event c.2 in
    let same : event_of pe p.next_call d.0 ≡ event = cc in
    subst (Hears pe run.before) same (hears_made text pe p.next_call run.before d.0 c.0 tells (first_makes run.now.service run.now.rows p c.0 d.0 d.1).0)
hears_own script run text pe p event (begun.Operation c) there h tells =
    let b = bind_some (placed p c) (λ at. Some (event_of pe c (what.Answer (result at.operation)))) event h in
    let same : event_of pe c (what.Answer (result b.0.operation)) ≡ event = cc in
    subst (Hears pe run.before) same (hears_answer text pe p.next_call c run.before (result b.0.operation) tells)
hears_own script run text pe p event (begun.Barrier c) there h tells =
    let same : event_of pe c (what.Answer reply.Passed) ≡ event = cc in
    subst (Hears pe run.before) same (hears_answer text pe p.next_call c run.before reply.Passed tells)

some_same : {A : Type 0} (x y : A) → Some x ≡ Some y → x ≡ y
some_same x y e = cc

hears_by : (mine : Bool) (script : Script) (run : Run) (text : Text) (pe : ℕ) (event : Event) → (event.pe.0 == pe) ≡ mine → slice_get script.programs pe ≡ Some text →
    TellsAll script run → IsDueOrRefused script run event → Hears pe run.before event
hears_by false script run text pe event e there all comes =
    let one = all pe text there in
    hears_skip text pe one.p.next_call one.p.started run.before event one.tells (apart_not_mine event pe e) (not_told pe event e)
hears_by true script run text pe event e there all (inl (inl o)) =
    let one = all pe text there in
    let at : o.pe ≡ pe = sym (event_of_program script run o.pe o.p o.p.started event o.next) ∙ eqb-true event.pe.0 pe e in
    let own : program_of run.now pe ≡ Some o.p = subst (λ k. program_of run.now k ≡ Some o.p) at o.there in
    let p_is : one.p ≡ o.p = some_same one.p o.p (sym one.there ∙ own) in
    hears_own script run text pe o.p event o.p.started there (subst (λ k. event_after script run k o.p o.p.started ≡ Some event) at o.next)
    (subst (λ q. Tells text pe q.next_call q.started run.before) p_is one.tells)
hears_by true script run text pe event e there all (inl (inr (inl o))) =
    let one = all pe text there in
    let silent : told_by event.what ≡ None = ap (λ x. told_by x.what) o.is in
    hears_skip text pe one.p.next_call one.p.started run.before event one.tells (silent_not_mine event pe true e (ap (λ x. speaks x.what) o.is))
    (is_told pe event e ∙ silent)
hears_by true script run text pe event e there all (inl (inr (inr o))) =
    let one = all pe text there in
    let silent : told_by event.what ≡ None = ap (λ x. told_by x.what) o.is in
    hears_skip text pe one.p.next_call one.p.started run.before event one.tells (silent_not_mine event pe true e (ap (λ x. speaks x.what) o.is))
    (is_told pe event e ∙ silent)
hears_by true script run text pe event e there all (inr o) =
    let one = all pe text there in
    let refused = refused_at script run event pe text one.p (eqb-true event.pe.0 pe e) there one.there o in
    let tells = subst (λ s. Tells text pe one.p.next_call s run.before) refused.nothing one.tells in
    subst (Hears pe run.before) (sym refused.is)
    (hears_made text pe one.p.next_call run.before (disk_refusal refused.asked refused.doubt) (call.Meta refused.asked) tells refl)

-- an event that the schedule gives, or its refusal by the disk, tells its program its reply, and the others nothing
pub hears : (script : Script) (run : Run) (text : Text) (pe : ℕ) (event : Event) → slice_get script.programs pe ≡ Some text → TellsAll script run → IsDueOrRefused script run event →
    Hears pe run.before event
hears script run text pe event there all comes = hears_by (event.pe.0 == pe) script run text pe event refl there all comes
