-- What an event does to the directory, and what its refusal by the disk does.
use Rattle.std.proofs.Common.{◌≡◌, ℕ, Bool, true, false, refl, sym, ap, ◌∙◌, subst}
use Rattle.std.specs.Prelude.{◌&&◌, Option, Some, None, is_none, is_some, if◌then◌else◌}
use Rattle.std.specs.Option.{option_map, option_map_or, option_or}
use Rattle.fam_base.specs.declared.naming.Who.{Who}
use Rattle.fam_model.specs.declared.change.Change.{Change}
use Rattle.fam_model.specs.declared.event.Event.{Event}
use Rattle.fam_model.specs.declared.event.What.{What}
use Rattle.fam_model.specs.declared.event.What.TheVariants as what
use Rattle.fam_model.specs.declared.reply.Reply.{Reply}
use Rattle.fam_model.specs.declared.request.Request.{Request}
use Rattle.fam_model.specs.declared.request.Request.TheVariants as request
use Rattle.fam_model.specs.declared.rows.Rows.{Rows}
use Rattle.fam_model.specs.declared.state.ProgramState.{ProgramState}
use Rattle.fam_model.specs.declared.state.State.{State}
use Rattle.fam_model.specs.ContextStep.{answer_step, open_step, fence_step, quiet_step, close_step, wait_step}
use Rattle.fam_model.specs.Directory.{after, answer, change_at, first_base, first_choice, found, may_lie, refusal}
use Rattle.fam_model.specs.EndStep.{arrive_step, leave_step, crash_step}
use Rattle.fam_model.specs.History.{change_in, change_served}
use Rattle.fam_model.specs.IssueStep.{issue_step}
use Rattle.fam_model.specs.Limits.{service_limits}
use Rattle.fam_model.specs.Lists.{◌>>=◌, when}
use Rattle.fam_model.specs.MetaStep.{changed, meta_step, served_change, told_base, told_change, unchanging_reply}
use Rattle.fam_model.specs.PieceStep.{piece_step, memory_by_piece, lose_step}
use Rattle.fam_model.specs.Programs.{program_of, with_member, with_program}
use Rattle.fam_model.specs.RefusedStep.{refused_step}
use Rattle.fam_model.specs.Same.{same_reply}
use Rattle.fam_model.specs.Step.{effect, step}
use Rattle.fam_model.specs.Turn.{is_in_turn}
use Rattle.fam_schedule.proofs.Options.{bind_some, if_some, map_some, when_some}

-- rows

-- the rows with a change, if there is one
abbrev pub rows_by : Rows → Option Change → Rows
rows_by rows None = rows
rows_by rows (Some chosen) = after rows chosen

changed_rows : (state : State) (o : Option Change) → (changed state o).rows ≡ rows_by state.rows o
changed_rows state None = refl
changed_rows state (Some chosen) = refl

-- the change that an event of this program serves
abbrev pub change_by : State → ProgramState → What → Option Change
change_by state p (what.Meta asked given) = served_change state.rows p asked given
change_by state p w = None

rows_of_state : State → Rows
rows_of_state s = s.rows

by_program : (state next : State) (pe : ℕ) (o : Option ProgramState) → option_map (with_program state pe) o ≡ Some next → next.rows ≡ state.rows
by_program state next pe o h = let m = map_some (with_program state pe) o next h in ap (λ s. s.rows) (sym m.2)

by_member : (state next : State) (pe : ℕ) (o : Option ProgramState) → option_map (with_member state pe) o ≡ Some next → next.rows ≡ state.rows
by_member state next pe o h = let m = map_some (with_member state pe) o next h in ap (λ s. s.rows) (sym m.2)

effect_rows : (state next : State) (pe : ℕ) (p : ProgramState) (call : ℕ) (w : What) → effect service_limits state pe p call w ≡ Some next → next.rows ≡ rows_by state.rows (change_by state p w)
effect_rows state next pe p call (what.Meta asked given) h =
    by_program (changed state (served_change state.rows p asked given)) next pe (meta_step state.rows p asked given) h ∙ changed_rows state (served_change state.rows p asked given)
effect_rows state next pe p call (what.Issue asked given) h = by_program state next pe (issue_step state.service p asked given) h
effect_rows state next pe p call (what.Piece piece given) h =
    by_program (record state { memory = memory_by_piece state.memory p call piece given }) next pe (piece_step service_limits state.rows state.memory p call piece given) h
effect_rows state next pe p call (what.Answer given) h = by_program state next pe (answer_step p.started state.round p given) h
effect_rows state next pe p call (what.OpenContext context) h = by_program state next pe (open_step p context) h
effect_rows state next pe p call (what.CloseContext context given) h = by_program state next pe (close_step p context given) h
effect_rows state next pe p call (what.Fence context) h = by_program state next pe (fence_step p context) h
effect_rows state next pe p call (what.Quiet context given) h = by_program state next pe (quiet_step p context given) h
effect_rows state next pe p call (what.Wait context named given) h = by_program state next pe (wait_step p context named given) h
effect_rows state next pe p call what.Arrive h = by_member state next pe (arrive_step state.round p) h
effect_rows state next pe p call what.Leave h = by_member state next pe (leave_step p) h
effect_rows state next pe p call what.Crash h = by_member state next pe (crash_step p) h
effect_rows state next pe p call (what.Lose piece) h = by_program state next pe (lose_step p call piece) h
effect_rows state next pe p call (what.Refused asked e doubt) h = by_program state next pe (refused_step service_limits state.rows state.round p asked e doubt) h

pub change_is : (state : State) (pe : ℕ) (p : ProgramState) (w : What) → program_of state pe ≡ Some p → change_in state pe w ≡ change_by state p w
change_is state pe p (what.Meta asked given) there = ap (λ (o : Option ProgramState). o >>= λ q. served_change state.rows q asked given) there
change_is state pe p (what.Issue asked given) there = refl
change_is state pe p (what.Piece piece given) there = refl
change_is state pe p (what.Answer given) there = refl
change_is state pe p (what.OpenContext context) there = refl
change_is state pe p (what.CloseContext context given) there = refl
change_is state pe p (what.Fence context) there = refl
change_is state pe p (what.Quiet context given) there = refl
change_is state pe p (what.Wait context named given) there = refl
change_is state pe p what.Arrive there = refl
change_is state pe p what.Leave there = refl
change_is state pe p what.Crash there = refl
change_is state pe p (what.Lose piece) there = refl
change_is state pe p (what.Refused asked e doubt) there = refl

-- the parts of a step
pub record Parts (state : State) (event : Event) (next : State) : Type 0 where
  pub p : ProgramState
  pub there : program_of state event.pe.0 ≡ Some p
  pub turn : is_in_turn p event.call event.what ≡ true
  pub takes : effect service_limits state event.pe.0 p event.call event.what ≡ Some next

pub parts_of : (state : State) (event : Event) (next : State) → step service_limits state event ≡ Some next → Parts state event next
parts_of state event next h =
    let b = bind_some (program_of state event.pe.0) (λ p. if is_in_turn p event.call event.what then effect service_limits state event.pe.0 p event.call event.what else None) next h in
    let i = if_some (is_in_turn b.0 event.call event.what) (effect service_limits state event.pe.0 b.0 event.call event.what) next b.2 in
    record { p = b.0; there = b.1; turn = i.0; takes = i.1 }

-- the rows behind an event are those with the change that it serves
pub step_rows : (state : State) (event : Event) (next : State) → step service_limits state event ≡ Some next → next.rows ≡ rows_by state.rows (change_served state event)
step_rows state event next h =
    let parts = parts_of state event next h in
    effect_rows state next event.pe.0 parts.p event.call event.what parts.takes
    ∙ ap (rows_by state.rows) (sym (change_is state event.pe.0 parts.p event.what parts.there))

-- the change that a call serves

none_is : {A : Type 0} (o : Option A) → is_none o ≡ true → o ≡ None
none_is None h = refl
none_is (Some x) h = cc

and_first : (a b c : Bool) → (a && b && c) ≡ true → a ≡ true
and_first true b c h = refl
and_first false b c h = cc

-- the parts of a change that was told
pub record Told (rows : Rows) (who : Who) (request : Request) (given : Reply) (chosen : Change) : Type 0 where
  pub none : refusal rows who request ≡ None
  pub is : change_at rows who request (told_base given) ≡ Some chosen

pub told_of : (rows : Rows) (who : Who) (asked : Request) (given : Reply) (chosen : Change) → told_change rows who asked given ≡ Some chosen → Told rows who asked given chosen
told_of rows who asked given chosen h =
    let tests : Change → Bool = λ c. is_none (refusal rows who asked) && may_lie rows asked (told_base given) && same_reply given (answer c) in
    let b = bind_some (change_at rows who asked (told_base given)) (λ c. when (tests c) c) chosen h in
    let w = when_some (tests b.0) b.0 chosen b.2 in
    record { none = none_is (refusal rows who asked) (and_first (is_none (refusal rows who asked)) (may_lie rows asked (told_base given)) (same_reply given (answer b.0)) w.0); is = b.1 ∙ ap Some w.1 }

-- the change has the least base, where the reply tells it
least_of : (rows : Rows) (who : Who) (asked : Request) (least chosen : Change) → first_choice rows who asked ≡ Some least → change_at rows who asked (told_base (answer least)) ≡ Some chosen →
    Some least ≡ Some chosen
least_of rows who (request.CreateRegion name size mode) least chosen first is = sym first ∙ is
least_of rows who (request.DestroyRegion region) least chosen first is = sym first ∙ is
least_of rows who (request.ResizeRegion region size) least chosen first is = sym first ∙ is
least_of rows who (request.SetRegionMode region mode) least chosen first is = sym first ∙ is
least_of rows who (request.Deallocate item) least chosen first is = sym first ∙ is
least_of rows who (request.SetItemMode item mode) least chosen first is = sym first ∙ is
least_of rows who (request.LookupRegion name) least chosen first is = cc
least_of rows who (request.StatRegion region) least chosen first is = cc
least_of rows who (request.Lookup name region) least chosen first is = cc
least_of rows who (request.Stat item) least chosen first is = cc
least_of rows who (request.Allocate name size mode region) least chosen first is =
    let asked = request.Allocate name size mode region in
    let b = bind_some (first_base rows asked) (λ base. change_at rows who asked base) least first in
    let base_is : told_base (answer least) ≡ b.0 = sym (ap (λ (o : Option Change). option_map_or (λ c. told_base (answer c)) o (told_base (answer least))) b.2) in
    sym b.2 ∙ ap (change_at rows who asked) (sym base_is) ∙ is

map_is : {A B : Type 0} (f : A → B) (o : Option A) (y : B) → option_map f o ≡ Some y → (x : A) × (o ≡ Some x) × (f x ≡ y)
map_is f None y h = cc
map_is f (Some x) y h = (x, refl, cc)

-- a request that finds something has no change
unfound : (rows : Rows) (who : Who) (asked : Request) (base : ℕ) (chosen : Change) → change_at rows who asked base ≡ Some chosen → found rows asked ≡ None
unfound rows who (request.LookupRegion name) base chosen h = cc
unfound rows who (request.StatRegion region) base chosen h = cc
unfound rows who (request.Lookup name region) base chosen h = cc
unfound rows who (request.Stat item) base chosen h = cc
unfound rows who (request.CreateRegion name size mode) base chosen h = refl
unfound rows who (request.DestroyRegion region) base chosen h = refl
unfound rows who (request.ResizeRegion region size) base chosen h = refl
unfound rows who (request.SetRegionMode region mode) base chosen h = refl
unfound rows who (request.Allocate name size mode region) base chosen h = refl
unfound rows who (request.Deallocate item) base chosen h = refl
unfound rows who (request.SetItemMode item mode) base chosen h = refl

-- where the reply is the one that is due, the change that it tells has the least base
pub due_is_least : (rows : Rows) (who : Who) (asked : Request) (given : Reply) (chosen : Change) →
    option_or (unchanging_reply (refusal rows who asked) rows asked) (option_map answer (first_choice rows who asked)) ≡ Some given →
    told_change rows who asked given ≡ Some chosen → first_choice rows who asked ≡ Some chosen
due_is_least rows who asked given chosen due told =
    let t = told_of rows who asked given chosen told in
    let quiet : unchanging_reply (refusal rows who asked) rows asked ≡ None =
    ap (λ o. unchanging_reply o rows asked) t.none ∙ unfound rows who asked (told_base given) chosen t.is in
    let choice : option_map answer (first_choice rows who asked) ≡ Some given =
    sym (ap (λ (o : Option Reply). option_or o (option_map answer (first_choice rows who asked))) quiet) ∙ due in
    let m = map_is answer (first_choice rows who asked) given choice in
    m.1 ∙ least_of rows who asked m.0 chosen m.1 (ap (λ g. change_at rows who asked (told_base g)) m.2 ∙ t.is)
