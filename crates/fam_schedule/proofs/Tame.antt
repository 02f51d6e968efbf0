-- A legal history without refusals for want of room is earned, over a disk that failed often enough.
use Rattle.std.proofs.Common.{◌≡◌, ℕ, ◌+◌, ◌<◌, ◌≤◌, Bool, true, false, List, [], ◌∷◌, ◌++◌, refl, sym, ap, ◌∙◌, inl, inr}
use Rattle.std.specs.Prelude.{◌-◌, ◌^◌, ◌&&◌, Option, Some, None}
use Rattle.std.specs.List.{list_all}
use Rattle.std.specs.Option.{option_map_or}
use Rattle.fam_base.specs.declared.error.FamError.{FamError}
use Rattle.fam_base.specs.declared.error.FamError.TheVariants as error
use Rattle.fam_model.specs.declared.event.Event.{Event}
use Rattle.fam_model.specs.declared.event.What.{What}
use Rattle.fam_model.specs.declared.event.What.TheVariants as what
use Rattle.fam_model.specs.declared.script.Script.{Script}
use Rattle.fam_model.specs.declared.state.ProgramState.{ProgramState}
use Rattle.fam_model.specs.declared.state.State.{State}
use Rattle.fam_model.specs.Earned.{Moment, IsEarned, is_earned_from, is_earned_event, is_earned_error, is_disk_fault, disk_faults, error_of}
use Rattle.fam_model.specs.History.{state_after}
use Rattle.fam_model.specs.Limits.{Limits, service_limits}
use Rattle.fam_model.specs.Lists.{◌>>=◌}
use Rattle.fam_model.specs.Programs.{program_of}
use Rattle.fam_model.specs.Step.{step}
use Rattle.fam_schedule.specs.Schedule.{Run}
use Rattle.fam_schedule.proofs.Comes.{IsDue, comes_tame, is_harmless, is_tame}
use Rattle.fam_schedule.proofs.Refusals.{IsDueOrRefused}

-- an error that tells no want of room
abbrev pub is_no_want : FamError → Bool
is_no_want (error.HistoryFull used need) = false
is_no_want (error.JournalFull used need) = false
is_no_want _ = true

-- what happened tells no want of room
abbrev pub has_room : What → Bool
has_room made = option_map_or is_no_want (error_of made) true

abbrev pub all_have_room : List Event → Bool
all_have_room history = list_all (λ event. has_room event.what) history

harmless : (w : What) → is_tame w ≡ true → option_map_or is_harmless (error_of w) true ≡ true
harmless (what.Refused asked e doubt) tame = cc
harmless w tame = tame

harmless_no_want : (o : Option FamError) → option_map_or is_harmless o true ≡ true → option_map_or is_no_want o true ≡ true
harmless_no_want None tame = refl
harmless_no_want (Some (error.HistoryFull used need)) tame = cc
harmless_no_want (Some (error.JournalFull used need)) tame = cc
harmless_no_want (Some e) tame = refl

-- neither what is due nor a refusal by the disk tells want of room
pub instead_has_room : (script : Script) (run : Run) (event : Event) → IsDueOrRefused script run event → has_room event.what ≡ true
instead_has_room script run event (inl due) = harmless_no_want (error_of event.what) (harmless event.what (comes_tame script run event due))
instead_has_room script run event (inr o) = ap (λ e. has_room e.what) o.refused.is

no_fault : (w : What) → is_tame w ≡ true → is_disk_fault w ≡ false
no_fault (what.Refused asked e doubt) tame = cc
no_fault w tame = refl

-- what is due is no refusal by the disk
pub due_no_fault : (script : Script) (run : Run) (event : Event) → IsDue script run event → is_disk_fault event.what ≡ false
due_no_fault script run event due = no_fault event.what (comes_tame script run event due)

and_both : (a b : Bool) → (a && b) ≡ true → (a ≡ true) × (b ≡ true)
and_both true b h = (refl, h)
and_both false b h = cc

earned_error : (limits : Limits) (moment : Moment) (p : ProgramState) (event : Event) (o : Option FamError) → option_map_or is_no_want o true ≡ true →
    option_map_or (is_earned_error limits moment p event) o true ≡ true
earned_error limits moment p event None room = refl
earned_error limits moment p event (Some (error.HistoryFull used need)) room = cc
earned_error limits moment p event (Some (error.JournalFull used need)) room = cc
earned_error limits moment p event (Some e) room = refl

earned_event : (limits : Limits) (moment : Moment) (event : Event) (p : Option ProgramState) (next : State) → program_of moment.now event.pe.0 ≡ p →
    has_room event.what ≡ true → step limits moment.now event ≡ Some next → is_earned_event limits moment event ≡ true
earned_event limits moment event None next e room steps =
    let stuck : step limits moment.now event ≡ None = rw e refl in
    let no_step : Some next ≡ None = sym steps ∙ stuck in cc
earned_event limits moment event (Some p) next e room steps = rw e (earned_error limits moment p event (error_of event.what) room)

earned_step : (limits : Limits) (base : State) (before : List Event) (event : Event) (history : List Event) (now last : State) (o : Option State) → step limits now event ≡ o →
    (o >>= λ next. state_after limits next history) ≡ Some last → has_room event.what ≡ true →
    ((next : State) → state_after limits next history ≡ Some last → is_earned_from limits (record { start = base; before = before ++ event ∷ []; now = next }) history ≡ true) →
    is_earned_from limits (record { start = base; before = before; now = now }) (event ∷ history) ≡ true
earned_step limits base before event history now last None steps e here rest = cc
earned_step limits base before event history now last (Some next) steps e here rest =
    let moment : Moment = record { start = base; before = before; now = now } in
    rw (earned_event limits moment event (program_of now event.pe.0) next refl here steps, steps) (rest next e)

earned_from : (limits : Limits) (base : State) (before history : List Event) (now last : State) → state_after limits now history ≡ Some last →
    all_have_room history ≡ true → is_earned_from limits (record { start = base; before = before; now = now }) history ≡ true
earned_from limits base before [] now last e room = refl
earned_from limits base before (event ∷ history) now last e room =
    let parts = and_both (has_room event.what) (all_have_room history) room in
    earned_step limits base before event history now last (step limits now event) refl e parts.0
    (λ next h. earned_from limits base (before ++ event ∷ []) history next last h parts.1)

pub room_earned : (state last : State) (history : List Event) (faults_before faults_after : ℕ) → state_after service_limits state history ≡ Some last → all_have_room history ≡ true →
    (faults_after < 2 ^ 64 - 1 → disk_faults (history ∷ []) + faults_before ≤ faults_after) → IsEarned service_limits state (history ∷ []) faults_before faults_after
room_earned state last history faults_before faults_after e room faults =
    record {
      numbers = rw (earned_from service_limits state [] history state last e room, e) refl;
      faults = faults;
    }
