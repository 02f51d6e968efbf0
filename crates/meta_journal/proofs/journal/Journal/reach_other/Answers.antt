use Rattle.meta_journal.proofs.Syncs.{same_syncs}
use Rattle.std.proofs.Common.{◌≡◌, ℕ, ◌-◌, List, length, length-take, sym, ◌∙◌, ap, subst, arith}
use Rattle.std.specs.Prelude.{IsSome, Some, option_map, replicate, take, min}
use Rattle.fam_disk.specs.Crash.{Leaves, written}
use Rattle.fam_disk.proofs.Moments.{mapped_is, started, passing, where_told, now_where_told}
use Rattle.fam_model.specs.Journal.{rows_of}
use Rattle.meta_journal.specs.Image.{IsImage, other_area}
use Rattle.meta_journal.specs.Layout.{area_start as start_of}
use Rattle.meta_journal.specs.Reading.{HasRows}
use Rattle.meta_journal.specs.State.{acknowledged}
use Rattle.meta_journal.specs.declared.doubt.Doubt.{Doubt}
use Rattle.meta_journal.specs.declared.doubt.Doubt.TheVariants.{Nothing}
use Rattle.meta_journal.proofs.Adding.{sound_from, told_is}
use Rattle.meta_journal.proofs.Settling.{still_acknowledged}
use Rattle.meta_journal.proofs.Switching.{quiet_kept, kept_moments, beyond, zeros_now, zeros_moments, if_some, reached_by}
use Rattle.meta_journal.proofs.journal.Journal.reach_other.Goals as goal

pub returns-in_err-end-clause-sound : goal.returns-in_err-end-clause-sound
returns-in_err-end-clause-sound g c =
    let j = c.args.self.now in
    let A = acknowledged j in
    let D = g.D.Disk.state in
    let at_first = D j.disk in
    let at_second = D c.len.new.self in
    let laws = g.met.D.Disk g.world.𝓛 g.world.𝓜 g.world.𝓡 ((λ s x. x), (λ x. x), (λ x. x), λ x. x) in
    let was : Leaves at_first at_first.moment (IsImage j.limit j.used j.area Nothing A) =
    subst (λ (d : Doubt). Leaves at_first at_first.moment (IsImage j.limit j.used j.area d A)) c.requires.settled c.requires.sound in
    let still = quiet_kept j.limit j.used j.area A at_first at_second was c.len.ensures.crash in
    let run = kept_moments j.limit j.used j.area A at_first at_second was c.len.ensures.crash in
    sound_from at_second j.limit j.used j.area j.doubt A (laws.tells_content c.len.new.self) (laws.reads_image c.len.new.self)
    (subst (λ (d : Doubt). Leaves at_second at_second.moment (IsImage j.limit j.used j.area d A)) (sym c.requires.settled) still)

pub returns-in_err-end-clause-any_moment : goal.returns-in_err-end-clause-any_moment
returns-in_err-end-clause-any_moment g c =
    let j = c.args.self.now in
    let A = acknowledged j in
    let D = g.D.Disk.state in
    let at_first = D j.disk in
    let at_second = D c.len.new.self in
    let laws = g.met.D.Disk g.world.𝓛 g.world.𝓜 g.world.𝓡 ((λ s x. x), (λ x. x), (λ x. x), λ x. x) in
    let was : Leaves at_first at_first.moment (IsImage j.limit j.used j.area Nothing A) =
    subst (λ (d : Doubt). Leaves at_first at_first.moment (IsImage j.limit j.used j.area d A)) c.requires.settled c.requires.sound in
    let still = quiet_kept j.limit j.used j.area A at_first at_second was c.len.ensures.crash in
    let run = kept_moments j.limit j.used j.area A at_first at_second was c.len.ensures.crash in
    run

pub returns-in_err-write_at-clause-sound : goal.returns-in_err-write_at-clause-sound
returns-in_err-write_at-clause-sound g c =
    let j = c.args.self.now in
    let A = acknowledged j in
    let D = g.D.Disk.state in
    let at_first = D j.disk in
    let at_second = D c.len.new.self in
    let laws = g.met.D.Disk g.world.𝓛 g.world.𝓜 g.world.𝓡 ((λ s x. x), (λ x. x), (λ x. x), λ x. x) in
    let was : Leaves at_first at_first.moment (IsImage j.limit j.used j.area Nothing A) =
    subst (λ (d : Doubt). Leaves at_first at_first.moment (IsImage j.limit j.used j.area d A)) c.requires.settled c.requires.sound in
    let still = quiet_kept j.limit j.used j.area A at_first at_second was c.len.ensures.crash in
    let run = kept_moments j.limit j.used j.area A at_first at_second was c.len.ensures.crash in
    let at_third = D c.write_at.new.self in
    let tells = c.write_at.ensures.crash.tells ∙ c.len.ensures.crash.tells in
    let outside = λ (told : IsSome at_first.content) (n : ℕ).
    let bytes = told_is at_first.content told in
    beyond j.limit j.used j.area A c.in_ok-end.end n bytes.0
    (if_some at_first.content (λ b. c.in_ok-end.end ≡ length b) bytes.0 bytes.1 c.in_ok-end.ensures.length) (was bytes.0 (laws.reads_image j.disk bytes.0 bytes.1)) in
    let now = now_where_told (IsImage j.limit j.used j.area Nothing A) at_first at_third (laws.tells_content c.write_at.new.self) tells
    (λ told. zeros_now j.limit j.used j.area A c.in_ok-end.end _ at_second at_third (outside told _) still c.write_at.ensures.crash) in
    let moments = where_told (HasRows j.limit (rows_of A)) at_first at_third (laws.tells_content c.write_at.new.self) tells
    (passing _ at_first at_second at_third (passing _ at_first at_first at_second (started (λ image. Unit {0}) at_first (λ image left. tt)) c.len.ensures.crash) c.write_at.ensures.crash)
    (λ told. zeros_moments j.limit j.used j.area A c.in_ok-end.end _ at_first at_second at_third (outside told _) run still c.write_at.ensures.crash) in
    sound_from at_third j.limit j.used j.area j.doubt A (laws.tells_content c.write_at.new.self) (laws.reads_image c.write_at.new.self)
    (subst (λ (d : Doubt). Leaves at_third at_third.moment (IsImage j.limit j.used j.area d A)) (sym c.requires.settled) now)

pub returns-in_err-write_at-clause-acknowledged : goal.returns-in_err-write_at-clause-acknowledged
returns-in_err-write_at-clause-acknowledged g c =
    let j = c.args.self.now in
    let A = acknowledged j in
    let D = g.D.Disk.state in
    let at_first = D j.disk in
    let at_second = D c.len.new.self in
    let laws = g.met.D.Disk g.world.𝓛 g.world.𝓜 g.world.𝓡 ((λ s x. x), (λ x. x), (λ x. x), λ x. x) in
    let was : Leaves at_first at_first.moment (IsImage j.limit j.used j.area Nothing A) =
    subst (λ (d : Doubt). Leaves at_first at_first.moment (IsImage j.limit j.used j.area d A)) c.requires.settled c.requires.sound in
    let still = quiet_kept j.limit j.used j.area A at_first at_second was c.len.ensures.crash in
    let run = kept_moments j.limit j.used j.area A at_first at_second was c.len.ensures.crash in
    let at_third = D c.write_at.new.self in
    let tells = c.write_at.ensures.crash.tells ∙ c.len.ensures.crash.tells in
    let outside = λ (told : IsSome at_first.content) (n : ℕ).
    let bytes = told_is at_first.content told in
    beyond j.limit j.used j.area A c.in_ok-end.end n bytes.0
    (if_some at_first.content (λ b. c.in_ok-end.end ≡ length b) bytes.0 bytes.1 c.in_ok-end.ensures.length) (was bytes.0 (laws.reads_image j.disk bytes.0 bytes.1)) in
    let now = now_where_told (IsImage j.limit j.used j.area Nothing A) at_first at_third (laws.tells_content c.write_at.new.self) tells
    (λ told. zeros_now j.limit j.used j.area A c.in_ok-end.end _ at_second at_third (outside told _) still c.write_at.ensures.crash) in
    let moments = where_told (HasRows j.limit (rows_of A)) at_first at_third (laws.tells_content c.write_at.new.self) tells
    (passing _ at_first at_second at_third (passing _ at_first at_first at_second (started (λ image. Unit {0}) at_first (λ image left. tt)) c.len.ensures.crash) c.write_at.ensures.crash)
    (λ told. zeros_moments j.limit j.used j.area A c.in_ok-end.end _ at_first at_second at_third (outside told _) run still c.write_at.ensures.crash) in
    still_acknowledged at_first at_third j.limit j.used j.area Nothing tells (laws.reads_image c.write_at.new.self) now

pub returns-in_err-write_at-clause-any_moment : goal.returns-in_err-write_at-clause-any_moment
returns-in_err-write_at-clause-any_moment g c =
    let j = c.args.self.now in
    let A = acknowledged j in
    let D = g.D.Disk.state in
    let at_first = D j.disk in
    let at_second = D c.len.new.self in
    let laws = g.met.D.Disk g.world.𝓛 g.world.𝓜 g.world.𝓡 ((λ s x. x), (λ x. x), (λ x. x), λ x. x) in
    let was : Leaves at_first at_first.moment (IsImage j.limit j.used j.area Nothing A) =
    subst (λ (d : Doubt). Leaves at_first at_first.moment (IsImage j.limit j.used j.area d A)) c.requires.settled c.requires.sound in
    let still = quiet_kept j.limit j.used j.area A at_first at_second was c.len.ensures.crash in
    let run = kept_moments j.limit j.used j.area A at_first at_second was c.len.ensures.crash in
    let at_third = D c.write_at.new.self in
    let tells = c.write_at.ensures.crash.tells ∙ c.len.ensures.crash.tells in
    let outside = λ (told : IsSome at_first.content) (n : ℕ).
    let bytes = told_is at_first.content told in
    beyond j.limit j.used j.area A c.in_ok-end.end n bytes.0
    (if_some at_first.content (λ b. c.in_ok-end.end ≡ length b) bytes.0 bytes.1 c.in_ok-end.ensures.length) (was bytes.0 (laws.reads_image j.disk bytes.0 bytes.1)) in
    let now = now_where_told (IsImage j.limit j.used j.area Nothing A) at_first at_third (laws.tells_content c.write_at.new.self) tells
    (λ told. zeros_now j.limit j.used j.area A c.in_ok-end.end _ at_second at_third (outside told _) still c.write_at.ensures.crash) in
    let moments = where_told (HasRows j.limit (rows_of A)) at_first at_third (laws.tells_content c.write_at.new.self) tells
    (passing _ at_first at_second at_third (passing _ at_first at_first at_second (started (λ image. Unit {0}) at_first (λ image left. tt)) c.len.ensures.crash) c.write_at.ensures.crash)
    (λ told. zeros_moments j.limit j.used j.area A c.in_ok-end.end _ at_first at_second at_third (outside told _) run still c.write_at.ensures.crash) in
    moments

pub returns-in_ok-write_at-clause-sound : goal.returns-in_ok-write_at-clause-sound
returns-in_ok-write_at-clause-sound g c =
    let j = c.args.self.now in
    let A = acknowledged j in
    let D = g.D.Disk.state in
    let at_first = D j.disk in
    let at_second = D c.len.new.self in
    let laws = g.met.D.Disk g.world.𝓛 g.world.𝓜 g.world.𝓡 ((λ s x. x), (λ x. x), (λ x. x), λ x. x) in
    let was : Leaves at_first at_first.moment (IsImage j.limit j.used j.area Nothing A) =
    subst (λ (d : Doubt). Leaves at_first at_first.moment (IsImage j.limit j.used j.area d A)) c.requires.settled c.requires.sound in
    let still = quiet_kept j.limit j.used j.area A at_first at_second was c.len.ensures.crash in
    let run = kept_moments j.limit j.used j.area A at_first at_second was c.len.ensures.crash in
    let at_third = D c.write_at.new.self in
    let tells = c.write_at.ensures.crash.tells ∙ c.len.ensures.crash.tells in
    let outside = λ (told : IsSome at_first.content) (n : ℕ).
    let bytes = told_is at_first.content told in
    beyond j.limit j.used j.area A c.in_ok-end.end n bytes.0
    (if_some at_first.content (λ b. c.in_ok-end.end ≡ length b) bytes.0 bytes.1 c.in_ok-end.ensures.length) (was bytes.0 (laws.reads_image j.disk bytes.0 bytes.1)) in
    let now = now_where_told (IsImage j.limit j.used j.area Nothing A) at_first at_third (laws.tells_content c.write_at.new.self) tells
    (λ told. zeros_now j.limit j.used j.area A c.in_ok-end.end _ at_second at_third (outside told _) still c.write_at.ensures.crash) in
    let moments = where_told (HasRows j.limit (rows_of A)) at_first at_third (laws.tells_content c.write_at.new.self) tells
    (passing _ at_first at_second at_third (passing _ at_first at_first at_second (started (λ image. Unit {0}) at_first (λ image left. tt)) c.len.ensures.crash) c.write_at.ensures.crash)
    (λ told. zeros_moments j.limit j.used j.area A c.in_ok-end.end _ at_first at_second at_third (outside told _) run still c.write_at.ensures.crash) in
    sound_from at_third j.limit j.used j.area j.doubt A (laws.tells_content c.write_at.new.self) (laws.reads_image c.write_at.new.self)
    (subst (λ (d : Doubt). Leaves at_third at_third.moment (IsImage j.limit j.used j.area d A)) (sym c.requires.settled) now)

pub returns-in_ok-write_at-clause-acknowledged : goal.returns-in_ok-write_at-clause-acknowledged
returns-in_ok-write_at-clause-acknowledged g c =
    let j = c.args.self.now in
    let A = acknowledged j in
    let D = g.D.Disk.state in
    let at_first = D j.disk in
    let at_second = D c.len.new.self in
    let laws = g.met.D.Disk g.world.𝓛 g.world.𝓜 g.world.𝓡 ((λ s x. x), (λ x. x), (λ x. x), λ x. x) in
    let was : Leaves at_first at_first.moment (IsImage j.limit j.used j.area Nothing A) =
    subst (λ (d : Doubt). Leaves at_first at_first.moment (IsImage j.limit j.used j.area d A)) c.requires.settled c.requires.sound in
    let still = quiet_kept j.limit j.used j.area A at_first at_second was c.len.ensures.crash in
    let run = kept_moments j.limit j.used j.area A at_first at_second was c.len.ensures.crash in
    let at_third = D c.write_at.new.self in
    let tells = c.write_at.ensures.crash.tells ∙ c.len.ensures.crash.tells in
    let outside = λ (told : IsSome at_first.content) (n : ℕ).
    let bytes = told_is at_first.content told in
    beyond j.limit j.used j.area A c.in_ok-end.end n bytes.0
    (if_some at_first.content (λ b. c.in_ok-end.end ≡ length b) bytes.0 bytes.1 c.in_ok-end.ensures.length) (was bytes.0 (laws.reads_image j.disk bytes.0 bytes.1)) in
    let now = now_where_told (IsImage j.limit j.used j.area Nothing A) at_first at_third (laws.tells_content c.write_at.new.self) tells
    (λ told. zeros_now j.limit j.used j.area A c.in_ok-end.end _ at_second at_third (outside told _) still c.write_at.ensures.crash) in
    let moments = where_told (HasRows j.limit (rows_of A)) at_first at_third (laws.tells_content c.write_at.new.self) tells
    (passing _ at_first at_second at_third (passing _ at_first at_first at_second (started (λ image. Unit {0}) at_first (λ image left. tt)) c.len.ensures.crash) c.write_at.ensures.crash)
    (λ told. zeros_moments j.limit j.used j.area A c.in_ok-end.end _ at_first at_second at_third (outside told _) run still c.write_at.ensures.crash) in
    still_acknowledged at_first at_third j.limit j.used j.area Nothing tells (laws.reads_image c.write_at.new.self) now

pub returns-in_ok-write_at-clause-any_moment : goal.returns-in_ok-write_at-clause-any_moment
returns-in_ok-write_at-clause-any_moment g c =
    let j = c.args.self.now in
    let A = acknowledged j in
    let D = g.D.Disk.state in
    let at_first = D j.disk in
    let at_second = D c.len.new.self in
    let laws = g.met.D.Disk g.world.𝓛 g.world.𝓜 g.world.𝓡 ((λ s x. x), (λ x. x), (λ x. x), λ x. x) in
    let was : Leaves at_first at_first.moment (IsImage j.limit j.used j.area Nothing A) =
    subst (λ (d : Doubt). Leaves at_first at_first.moment (IsImage j.limit j.used j.area d A)) c.requires.settled c.requires.sound in
    let still = quiet_kept j.limit j.used j.area A at_first at_second was c.len.ensures.crash in
    let run = kept_moments j.limit j.used j.area A at_first at_second was c.len.ensures.crash in
    let at_third = D c.write_at.new.self in
    let tells = c.write_at.ensures.crash.tells ∙ c.len.ensures.crash.tells in
    let outside = λ (told : IsSome at_first.content) (n : ℕ).
    let bytes = told_is at_first.content told in
    beyond j.limit j.used j.area A c.in_ok-end.end n bytes.0
    (if_some at_first.content (λ b. c.in_ok-end.end ≡ length b) bytes.0 bytes.1 c.in_ok-end.ensures.length) (was bytes.0 (laws.reads_image j.disk bytes.0 bytes.1)) in
    let now = now_where_told (IsImage j.limit j.used j.area Nothing A) at_first at_third (laws.tells_content c.write_at.new.self) tells
    (λ told. zeros_now j.limit j.used j.area A c.in_ok-end.end _ at_second at_third (outside told _) still c.write_at.ensures.crash) in
    let moments = where_told (HasRows j.limit (rows_of A)) at_first at_third (laws.tells_content c.write_at.new.self) tells
    (passing _ at_first at_second at_third (passing _ at_first at_first at_second (started (λ image. Unit {0}) at_first (λ image left. tt)) c.len.ensures.crash) c.write_at.ensures.crash)
    (λ told. zeros_moments j.limit j.used j.area A c.in_ok-end.end _ at_first at_second at_third (outside told _) run still c.write_at.ensures.crash) in
    moments

pub returns-in_ok-write_at-clause-reached : goal.returns-in_ok-write_at-clause-reached
returns-in_ok-write_at-clause-reached g c x told =
    let j = c.args.self.now in
    let A = acknowledged j in
    let D = g.D.Disk.state in
    let at_first = D j.disk in
    let at_second = D c.len.new.self in
    let laws = g.met.D.Disk g.world.𝓛 g.world.𝓜 g.world.𝓡 ((λ s x. x), (λ x. x), (λ x. x), λ x. x) in
    let was : Leaves at_first at_first.moment (IsImage j.limit j.used j.area Nothing A) =
    subst (λ (d : Doubt). Leaves at_first at_first.moment (IsImage j.limit j.used j.area d A)) c.requires.settled c.requires.sound in
    let still = quiet_kept j.limit j.used j.area A at_first at_second was c.len.ensures.crash in
    let run = kept_moments j.limit j.used j.area A at_first at_second was c.len.ensures.crash in
    let at_third = D c.write_at.new.self in
    let zeros : List ℕ = take c.min-missing.result (replicate 128 0) in
    let w : at_third.content ≡ option_map (written c.in_ok-end.end zeros) at_second.content = c.in_ok-write_at.ensures.written in
    let from = mapped_is (written c.in_ok-end.end zeros) at_second.content x (sym w ∙ told) in
    let first : at_first.content ≡ Some from.0 = sym c.len.ensures.content ∙ from.1 in
    let start_is : c.area_start-start.result ≡ start_of j.limit (other_area j.area) = c.area_start-start.ensures ∙ ap (start_of j.limit) c.other_of.ensures in
    let size : length zeros ≡ min (start_of j.limit (other_area j.area) - c.in_ok-end.end) 128 =
    omega (arith, length-take {A = ℕ} c.min-missing.result (replicate 128 0), c.min-missing.ensures, start_is) in
    reached_by j.limit j.used j.area A c.in_ok-end.end zeros from.0 x
    (if_some at_first.content (λ b. c.in_ok-end.end ≡ length b) from.0 first c.in_ok-end.ensures.length)
    (was from.0 (laws.reads_image j.disk from.0 first)) c.requires.near size from.2

pub returns-else-end-start-clause-sound : goal.returns-else-end-start-clause-sound
returns-else-end-start-clause-sound g c =
    let j = c.args.self.now in
    let A = acknowledged j in
    let D = g.D.Disk.state in
    let at_first = D j.disk in
    let at_second = D c.len.new.self in
    let laws = g.met.D.Disk g.world.𝓛 g.world.𝓜 g.world.𝓡 ((λ s x. x), (λ x. x), (λ x. x), λ x. x) in
    let was : Leaves at_first at_first.moment (IsImage j.limit j.used j.area Nothing A) =
    subst (λ (d : Doubt). Leaves at_first at_first.moment (IsImage j.limit j.used j.area d A)) c.requires.settled c.requires.sound in
    let still = quiet_kept j.limit j.used j.area A at_first at_second was c.len.ensures.crash in
    let run = kept_moments j.limit j.used j.area A at_first at_second was c.len.ensures.crash in
    sound_from at_second j.limit j.used j.area j.doubt A (laws.tells_content c.len.new.self) (laws.reads_image c.len.new.self)
    (subst (λ (d : Doubt). Leaves at_second at_second.moment (IsImage j.limit j.used j.area d A)) (sym c.requires.settled) still)

pub returns-else-end-start-clause-any_moment : goal.returns-else-end-start-clause-any_moment
returns-else-end-start-clause-any_moment g c =
    let j = c.args.self.now in
    let A = acknowledged j in
    let D = g.D.Disk.state in
    let at_first = D j.disk in
    let at_second = D c.len.new.self in
    let laws = g.met.D.Disk g.world.𝓛 g.world.𝓜 g.world.𝓡 ((λ s x. x), (λ x. x), (λ x. x), λ x. x) in
    let was : Leaves at_first at_first.moment (IsImage j.limit j.used j.area Nothing A) =
    subst (λ (d : Doubt). Leaves at_first at_first.moment (IsImage j.limit j.used j.area d A)) c.requires.settled c.requires.sound in
    let still = quiet_kept j.limit j.used j.area A at_first at_second was c.len.ensures.crash in
    let run = kept_moments j.limit j.used j.area A at_first at_second was c.len.ensures.crash in
    run

pub returns-in_err-end-clause-syncs : goal.returns-in_err-end-clause-syncs
returns-in_err-end-clause-syncs g c =
    let D = g.D.Disk.state in
    let at_first = D c.args.self.now.disk in
    same_syncs at_first (D c.len.new.self) c.len.ensures.syncs

pub returns-in_err-write_at-clause-syncs : goal.returns-in_err-write_at-clause-syncs
returns-in_err-write_at-clause-syncs g c =
    let D = g.D.Disk.state in
    let at_first = D c.args.self.now.disk in
    same_syncs at_first (D c.write_at.new.self) (c.write_at.ensures.syncs ∙ c.len.ensures.syncs)

pub returns-in_ok-write_at-clause-syncs : goal.returns-in_ok-write_at-clause-syncs
returns-in_ok-write_at-clause-syncs g c =
    let D = g.D.Disk.state in
    let at_first = D c.args.self.now.disk in
    same_syncs at_first (D c.write_at.new.self) (c.write_at.ensures.syncs ∙ c.len.ensures.syncs)

pub returns-else-end-start-clause-syncs : goal.returns-else-end-start-clause-syncs
returns-else-end-start-clause-syncs g c =
    let D = g.D.Disk.state in
    let at_first = D c.args.self.now.disk in
    same_syncs at_first (D c.len.new.self) c.len.ensures.syncs
