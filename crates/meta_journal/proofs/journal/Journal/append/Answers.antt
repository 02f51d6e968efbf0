use Rattle.std.proofs.Common.{◌≡◌, ◌+◌, ◌≤◌, ◌++◌, [], ◌∷◌, ℕ, ap, sym, ◌∙◌, subst}
use Rattle.std.specs.Prelude.{◌⊎◌, Some}
use Rattle.fam_disk.specs.Crash.{Leaves, LeavesOnly}
use Rattle.fam_model.specs.declared.change.Change.{Change}
use Rattle.fam_model.specs.Journal.{record_length}
use Rattle.meta_journal.specs.Image.{IsImage}
use Rattle.meta_journal.specs.State.{acknowledged, MayHold, changes_behind, place_behind}
use Rattle.meta_journal.specs.declared.doubt.Doubt.{Doubt}
use Rattle.meta_journal.specs.declared.doubt.Doubt.TheVariants.{Nothing}
use Rattle.meta_journal.proofs.Appending.{may_begin, place_is, reserved_is, room_behind, rows_then}
use Rattle.meta_journal.proofs.Settling.{reads_in_doubt}
use Rattle.meta_journal.proofs.journal.Journal.append.Goals as goal

pub append_reserved-requires-clause-form : goal.append_reserved-requires-clause-form
append_reserved-requires-clause-form g c κs within =
    let j = c.args.self.now in
    let reserved = c.requires.reserved.1 in
    let reserve = c.in-Some.reserve in
    let there : j.reserve ≡ Some reserve = sym c.take.ensures.value ∙ c.in-Some.is in
    may_begin _ c.requires.reserved.0 c.args.change.now reserved.has_body reserved.of_rows reserve.short (reserved_is j c.requires.reserved.0 c.args.change.now reserve there reserved).1

pub append_reserved-requires-clause-room : goal.append_reserved-requires-clause-room
append_reserved-requires-clause-room g c κs within =
    let j = c.args.self.now in
    let rows = c.requires.reserved.0 in
    let reserve = c.in-Some.reserve in
    let there : j.reserve ≡ Some reserve = sym c.take.ensures.value ∙ c.in-Some.is in
    let is = reserved_is j rows c.args.change.now reserve there c.requires.reserved.1 in
    subst (λ (x : Change). place_behind reserve.short j.used + record_length x + 1 ≤ j.limit) (sym is.0) (room_behind j.limit j.used rows c.args.change.now reserve.short is.1)

pub returns-in-Ok-clause-images : goal.returns-in-Ok-clause-images
returns-in-Ok-clause-images g c image left =
    let new = c.append_reserved.new.self in
    let A = acknowledged new in
    let S = g.D.Disk.state new.disk in
    let now : Leaves S S.moment (IsImage new.limit new.used new.area Nothing A) =
    subst (λ (d : Doubt). Leaves S S.moment (IsImage new.limit new.used new.area d A)) c.in-Ok.ensures.settled c.in-Ok.ensures.sound in
    reads_in_doubt new.limit new.used new.area A Nothing image (now image left)

pub returns-in-Ok-clause-rows : goal.returns-in-Ok-clause-rows
returns-in-Ok-clause-rows g c told =
    let j = c.args.self.now in
    let new = c.append_reserved.new.self in
    let rows = c.requires.reserved.0 in
    let reserve = c.in-Some.reserve in
    let there : j.reserve ≡ Some reserve = sym c.take.ensures.value ∙ c.in-Some.is in
    let is = reserved_is j rows c.args.change.now reserve there c.requires.reserved.1 in
    let appended = subst (λ (x : Change). acknowledged new ≡ changes_behind reserve.short (acknowledged j) ++ x ∷ []) is.0 (c.in-Ok.ensures.appended told) in
    rows_then j.limit j.used (acknowledged j) (acknowledged new) rows c.args.change.now reserve.short (c.requires.reserved.1.of_rows told) is.1 appended

pub returns-in-Ok-clause-used : goal.returns-in-Ok-clause-used
returns-in-Ok-clause-used g c rows reserved =
    let j = c.args.self.now in
    let reserve = c.in-Some.reserve in
    let there : j.reserve ≡ Some reserve = sym c.take.ensures.value ∙ c.in-Some.is in
    let is = reserved_is j rows c.args.change.now reserve there reserved in
    c.in-Ok.ensures.used ∙ ap (λ (x : Change). place_behind reserve.short j.used + record_length x) is.0
    ∙ ap (λ n. n + record_length c.args.change.now) (place_is j.limit j.used rows c.args.change.now reserve.short is.1)

pub returns-in-Err-clause-any_moment : goal.returns-in-Err-clause-any_moment
returns-in-Err-clause-any_moment g c =
    let j = c.args.self.now in
    let reserve = c.in-Some.reserve in
    let there : j.reserve ≡ Some reserve = sym c.take.ensures.value ∙ c.in-Some.is in
    let is = reserved_is j c.requires.reserved.0 c.args.change.now reserve there c.requires.reserved.1 in
    subst (λ (x : Change). LeavesOnly (MayHold j.limit (acknowledged j) j.doubt x) (g.D.Disk.state j.disk) (g.D.Disk.state c.append_reserved.new.self.disk)) is.0 c.append_reserved.ensures.any_moment

pub returns-in-Err-clause-used_after_failure : goal.returns-in-Err-clause-used_after_failure
returns-in-Err-clause-used_after_failure g c rows reserved =
    let j = c.args.self.now in
    let reserve = c.in-Some.reserve in
    let there : j.reserve ≡ Some reserve = sym c.take.ensures.value ∙ c.in-Some.is in
    let is = reserved_is j rows c.args.change.now reserve there reserved in
    subst (λ (n : ℕ). (c.append_reserved.new.self.used ≡ j.used) ⊎ (c.append_reserved.new.self.used ≡ n)) (place_is j.limit j.used rows c.args.change.now reserve.short is.1) c.in-Err.ensures.kept
