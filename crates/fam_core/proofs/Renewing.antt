-- The flags of the programs.
use Rattle.std.proofs.Common.{◌≡◌, ◌≢◌, ℕ, ◌<◌, ◌≤◌, Bool, true, false, List, length, refl, sym, ap, ◌∙◌, subst, arith, eqb-true, ◌⊎◌, inl, inr}
use Rattle.std.specs.Prelude.{◌==◌, Option, Some, None, is_some, slice_get, slice_set}
use Rattle.std.proofs.lemmas.Bool.{cases_lt}
use Rattle.std.proofs.lemmas.List.{length-set}
use Rattle.std.proofs.lemmas.Option.{slice_get_past, slice_get_within}
use Rattle.fam_model.specs.declared.call.Call.{Call}
use Rattle.fam_model.specs.declared.event.Event.{Event}
use Rattle.fam_model.specs.declared.state.ProgramState.{ProgramState}
use Rattle.fam_model.specs.declared.state.State.{State}
use Rattle.fam_model.specs.Limits.{service_limits}
use Rattle.fam_model.specs.Lists.{◌>>=◌, when}
use Rattle.fam_model.specs.Programs.{program_of}
use Rattle.fam_model.specs.Step.{step}
use Rattle.fam_schedule.specs.Schedule.{event_of}
use Rattle.fam_schedule.proofs.Moves.{Moves, step_moves}
use Rattle.fam_schedule.proofs.Places.{get_set_other}
use Rattle.fam_schedule.proofs.Runs.{differ}
use Rattle.fam_turns.specs.Turns.{next_of}
use Rattle.fam_core.specs.declared.able.Able.{Able}
use Rattle.fam_core.specs.declared.playing.Player.{Player}
use Rattle.fam_core.specs.declared.turn.Turn.{Turn}
use Rattle.fam_core.specs.Playing.{AreAble, AreRenewed, HasFlags, IsFlag, IsRenewed, KeepsAble, TellsNext, asked_by, may_go}
use Rattle.fam_core.specs.Turns.{AreHeard, Heard, told_to}
use Rattle.fam_core.proofs.Going.{element_at}

-- another place of a list in which one was changed
get_apart : {A : Type 0} (xs : List A) (k j : ℕ) (y : A) → j ≢ k → slice_get (slice_set xs k y) j ≡ slice_get xs j
get_apart {A} xs k j y apart = by_place (cases_lt j (length xs))
  where
    by_place : (j < length xs) ⊎ (length xs ≤ j) → slice_get (slice_set xs k y) j ≡ slice_get xs j
    by_place (inl low) =
        let x = element_at xs j low in
        get_set_other xs k j x.0 y x.1 apart ∙ sym x.1
    by_place (inr high) =
        let longer : length (slice_set xs k y) ≡ length xs = length-set xs k y in
        slice_get_past (slice_set xs k y) j (omega (arith, longer, high)) ∙ sym (slice_get_past xs j high)

-- one flag

-- the same program, round and call have the same flag
flag_same : (o p : Option ProgramState) (r s : ℕ) (a b : Option Call) (flag : Bool) → o ≡ p → r ≡ s → a ≡ b → TellsNext o r a flag → TellsNext p s b flag
flag_same o p r s a b flag program round asked tells =
    subst (λ c. TellsNext p s c flag) asked (subst (λ n. TellsNext p n a flag) round (subst (λ q. TellsNext q r a flag) program tells))

-- a flag that is right tells whether the program may go
pub may_go_is : (player : Player) (pe : ℕ) (flag : Bool) → HasFlags player → slice_get player.able.flags pe ≡ Some flag → may_go player pe ≡ flag
may_go_is player pe flag has at = by_program (program_of player.service.state pe) refl (has.each pe flag at)
  where
    by_program : (o : Option ProgramState) → program_of player.service.state pe ≡ o → TellsNext o player.service.state.round (asked_by player.turns pe) flag → may_go player pe ≡ flag
    by_program None e tells =
        let state = player.service.state in
        ap (λ (o : Option ProgramState). is_some (o >>= λ p. next_of state.service state.rows p (asked_by player.turns pe) >>=
        λ next. when (is_some (step service_limits state (event_of pe next.call next.what))) (event_of pe next.call next.what))) e
        ∙ sym tells
    by_program (Some p) e tells = sym (tells player.service.state pe e refl)

-- after an event

-- where the round is another one
pub keeps_all : (event : Event) (next : State) (later : List Turn) (able able_next : Able) → able_next.round ≡ next.round → AreRenewed next later (length able.flags) able.flags able_next.flags →
    KeepsAble event next later able able_next
keeps_all event next later able able_next round renewed =
    record {
      right = λ old turns are heard steps. record {
        current = round;
        count = renewed.count ∙ are.count ∙ sym heard.count;
        each = λ pe flag at.
            let low : pe < length able_next.flags = slice_get_within able_next.flags pe flag at in
            let count = renewed.count in
            renewed.each pe flag (omega (arith, low, count)) at;
      };
    }

-- the call of a program that heard nothing
asked_apart : (event : Event) (turns later : List Turn) (pe : ℕ) → AreHeard event turns later → (event.pe.0 == pe) ≡ false → pe < length turns → asked_by turns pe ≡ asked_by later pe
asked_apart event turns later pe heard apart low =
    let count = heard.count in
    let was = element_at turns pe low in
    let is = element_at later pe (omega (arith, low, count)) in
    let told : told_to pe event ≡ None = rw apart refl in
    let same : is.0 ≡ was.0 = subst (λ t. Heard pe t was.0 is.0) told (heard.each pe was.0 is.0 was.1 is.1) in
    let asked_of : Option Turn → Option Call = λ o. o >>= λ turn. turn.asked in
    ap asked_of (was.1 ∙ ap Some (sym same) ∙ sym is.1)

-- the flag of a program that the event is not of
flag_apart : (event : Event) (old next : State) (turns later : List Turn) (pe : ℕ) (flag : Bool) → Moves old event next → AreHeard event turns later → old.round ≡ next.round →
    (event.pe.0 == pe) ≡ false → pe < length turns → IsFlag old turns pe flag → IsFlag next later pe flag
flag_apart event old next turns later pe flag moves heard round apart low right =
    let program : program_of next pe ≡ program_of old pe =
    ap (λ ps. slice_get ps pe) moves.programs ∙ get_apart old.programs event.pe.0 pe moves.is (differ event.pe.0 pe apart) in
    flag_same (program_of old pe) (program_of next pe) old.round next.round (asked_by turns pe) (asked_by later pe) flag (sym program) round (asked_apart event turns later pe heard apart low) right

-- where it is the same one
pub keeps_one : (event : Event) (next : State) (later : List Turn) (able able_next : Able) → able.round ≡ next.round → able_next.round ≡ next.round →
    IsRenewed next later event.pe.0 able.flags able_next.flags → KeepsAble event next later able able_next
keeps_one event next later able able_next same round renewed =
    record {
      right = λ old turns are heard steps. record {
        current = round;
        count = renewed.count ∙ are.count ∙ sym heard.count;
        each = λ pe flag at. by_place old turns are heard steps pe flag (event.pe.0 == pe) refl at;
      };
    }
  where
    by_place : (old : State) (turns : List Turn) → AreAble old turns able → AreHeard event turns later → step service_limits old event ≡ Some next →
        (pe : ℕ) (flag : Bool) (b : Bool) → (event.pe.0 == pe) ≡ b → slice_get able_next.flags pe ≡ Some flag → IsFlag next later pe flag
    by_place old turns are heard steps pe flag true e at =
        let here : event.pe.0 ≡ pe = eqb-true event.pe.0 pe e in
        subst (λ k. IsFlag next later k flag) here (renewed.here flag (subst (λ k. slice_get able_next.flags k ≡ Some flag) (sym here) at))
    by_place old turns are heard steps pe flag false e at =
        let was = renewed.others pe flag (differ event.pe.0 pe e) at in
        let low : pe < length able.flags = slice_get_within able.flags pe flag was in
        let count = are.count in
        flag_apart event old next turns later pe flag (step_moves service_limits old next event steps) heard (sym are.current ∙ same) e (omega (arith, low, count)) (are.each pe flag was)
