-- Where a change may come, so may its refusal by the disk.
use Rattle.std.proofs.Common.{◌≡◌, ℕ, Bool, true, false, refl, sym, ap, ◌∙◌, subst}
use Rattle.std.specs.Prelude.{◌&&◌, Option, Some, None, is_none, is_some, if◌then◌else◌}
use Rattle.fam_base.specs.declared.error.FamError.TheVariants as error
use Rattle.fam_base.specs.declared.naming.Who.{Who}
use Rattle.fam_model.specs.declared.call.Call.TheVariants as call
use Rattle.fam_model.specs.declared.call.MetaCall.{MetaCall}
use Rattle.fam_model.specs.declared.call.MetaCall.TheVariants as meta
use Rattle.fam_model.specs.declared.change.Change.{Change}
use Rattle.fam_model.specs.declared.event.Event.{Event}
use Rattle.fam_model.specs.declared.reply.Reply.{Reply}
use Rattle.fam_model.specs.declared.request.Request.{Request}
use Rattle.fam_model.specs.declared.request.Request.TheVariants as request
use Rattle.fam_model.specs.declared.rows.Rows.{Rows}
use Rattle.fam_model.specs.declared.state.ProgramState.{ProgramState}
use Rattle.fam_model.specs.declared.state.State.{State}
use Rattle.fam_model.specs.Directory.{answer, change_at, may_lie, refusal}
use Rattle.fam_model.specs.History.{change_in}
use Rattle.fam_model.specs.Limits.{Limits}
use Rattle.fam_model.specs.Lists.{◌>>=◌, when, is_some_and}
use Rattle.fam_model.specs.MetaStep.{served_change, told_base, told_change}
use Rattle.fam_model.specs.Programs.{counted, item_slot, program_of, region_slot, request_of, with_program}
use Rattle.fam_model.specs.RefusedStep.{is_change, may_refuse, refused_step, would_serve}
use Rattle.fam_model.specs.Same.{same_reply}
use Rattle.fam_model.specs.Step.{effect, step}
use Rattle.fam_model.specs.Turn.{is_in_turn}
use Rattle.fam_schedule.specs.Schedule.{IsDiskRefusal}
use Rattle.fam_schedule.proofs.Begins.{if_true, some_bind, some_map, some_when}
use Rattle.fam_schedule.proofs.Options.{bind_some, if_some, when_some}
use Rattle.fam_schedule.proofs.Refusals.{disk_refusal}

same_some : {A : Type 0} (x y : A) → Some x ≡ Some y → x ≡ y
same_some x y e = cc

first_true : (a b c : Bool) → (a && b && c) ≡ true → a ≡ true
first_true true b c e = refl
first_true false b c e = cc

both_true : (a b : Bool) → a ≡ true → b ≡ true → (a && b) ≡ true
both_true a b e f = rw (e, f) refl

some_of : {A : Type 0} (o : Option A) → is_some o ≡ true → (x : A) × (o ≡ Some x)
some_of None e = cc
some_of (Some x) e = (x, refl)

-- a request that changes the directory is none of a look-up or a stat
no_change : (rows : Rows) (who : Who) (asked found : Request) (base : ℕ) (chosen : Change) → Some asked ≡ Some found → change_at rows who asked base ≡ None →
    change_at rows who found base ≡ Some chosen → None ≡ Some chosen
no_change rows who asked found base chosen same none some = sym none ∙ ap (λ r. change_at rows who r base) (same_some asked found same) ∙ some

changes_it : (rows : Rows) (p : ProgramState) (asked : MetaCall) (found : Request) (base : ℕ) (chosen : Change) → request_of p asked ≡ Some found →
    change_at rows p.who found base ≡ Some chosen → is_change asked ≡ true
changes_it rows p (meta.LookupRegion slot name) found base chosen e h = let no = no_change rows p.who (request.LookupRegion name) found base chosen e refl h in cc
changes_it rows p (meta.StatRegion slot) found base chosen e h =
    let b = bind_some (region_slot p slot) (λ region. Some (request.StatRegion region)) found e in
    let no = no_change rows p.who (request.StatRegion b.0) found base chosen b.2 refl h in cc
changes_it rows p (meta.Lookup slot name region) found base chosen e h = let no = no_change rows p.who (request.Lookup name region) found base chosen e refl h in cc
changes_it rows p (meta.Stat slot) found base chosen e h =
    let b = bind_some (item_slot p slot) (λ held. Some (request.Stat held.item)) found e in
    let no = no_change rows p.who (request.Stat b.0.item) found base chosen b.2 refl h in cc
changes_it rows p (meta.CreateRegion slot name size mode) found base chosen e h = refl
changes_it rows p (meta.DestroyRegion slot) found base chosen e h = refl
changes_it rows p (meta.ResizeRegion slot size) found base chosen e h = refl
changes_it rows p (meta.SetRegionMode slot mode) found base chosen e h = refl
changes_it rows p (meta.Allocate slot name size mode region) found base chosen e h = refl
changes_it rows p (meta.Deallocate slot) found base chosen e h = refl
changes_it rows p (meta.SetItemMode slot mode) found base chosen e h = refl

-- a change that was served may be refused
refused_some : (limits : Limits) (rows : Rows) (round : ℕ) (p : ProgramState) (asked : MetaCall) (given : Reply) (doubt : Bool) → is_some (served_change rows p asked given) ≡ true →
    is_some (refused_step limits rows round p (call.Meta asked) error.DiskFault doubt) ≡ true
refused_some limits rows round p asked given doubt changes =
    let served = some_of (served_change rows p asked given) changes in
    let found = bind_some (request_of p asked) (λ r. told_change rows p.who r given) served.0 served.1 in
    let base = told_base given in
    let test : Change → Bool = λ chosen. is_none (refusal rows p.who found.0) && may_lie rows found.0 base && same_reply given (answer chosen) in
    let chosen = bind_some (change_at rows p.who found.0 base) (λ c. when (test c) c) served.0 found.2 in
    let passes = when_some (test chosen.0) chosen.0 served.0 chosen.2 in
    let none : is_none (refusal rows p.who found.0) ≡ true =
    first_true (is_none (refusal rows p.who found.0)) (may_lie rows found.0 base) (same_reply given (answer chosen.0)) passes.0 in
    let serves : would_serve rows round p (call.Meta asked) ≡ true = ap (λ o. is_some_and o (λ r. is_none (refusal rows p.who r))) found.1 ∙ none in
    let may : may_refuse limits (call.Meta asked) error.DiskFault doubt ≡ true = changes_it rows p asked found.0 base chosen.0 found.1 chosen.1 in
    some_when (would_serve rows round p (call.Meta asked) && may_refuse limits (call.Meta asked) error.DiskFault doubt) (counted p)
    (both_true (would_serve rows round p (call.Meta asked)) (may_refuse limits (call.Meta asked) error.DiskFault doubt) serves may)

-- where a change is due and may come, so may its refusal by the disk
pub refusal_may_come : (limits : Limits) (state next : State) (due event : Event) → step limits state due ≡ Some next → IsDiskRefusal state due event → is_some (step limits state event) ≡ true
refusal_may_come limits state next due event steps r =
    let pe = due.pe.0 in
    let made = disk_refusal r.asked r.doubt in
    let takes : ProgramState → Option State = λ p. if is_in_turn p due.call due.what then effect limits state pe p due.call due.what else None in
    let b = bind_some (program_of state pe) takes next steps in
    let p = b.0 in
    let in_turn = if_some (is_in_turn p due.call due.what) (effect limits state pe p due.call due.what) next b.2 in
    let turn : is_in_turn p due.call made ≡ true = subst (λ w. is_in_turn p due.call w ≡ true) r.asks in_turn.0 in
    let changes : is_some (program_of state pe >>= λ q. served_change state.rows q r.asked r.given) ≡ true = ap (λ w. is_some (change_in state pe w)) (sym r.asks) ∙ r.changes in
    let served : is_some (served_change state.rows p r.asked r.given) ≡ true = ap (λ o. is_some (o >>= λ q. served_change state.rows q r.asked r.given)) (sym b.1) ∙ changes in
    let refused = refused_step limits state.rows state.round p (call.Meta r.asked) error.DiskFault r.doubt in
    let some : is_some (effect limits state pe p due.call made) ≡ true =
    some_map (with_program state pe) refused (refused_some limits state.rows state.round p r.asked r.given r.doubt served) in
    ap (λ e. is_some (step limits state e)) r.is
    ∙ some_bind (program_of state pe) p (λ q. if is_in_turn q due.call made then effect limits state pe q due.call made else None) b.1
    (ap is_some (if_true (is_in_turn p due.call made) (effect limits state pe p due.call made) turn) ∙ some)
