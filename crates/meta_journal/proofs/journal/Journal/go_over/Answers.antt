use Rattle.meta_journal.proofs.Syncs.{one_sync, more_syncs}
use Rattle.std.proofs.Common.{◌≡◌, ℕ, ◌+◌, ◌<◌, List, [], ◌∷◌, length, length-append, sym, ◌∙◌, ap, subst, arith}
use Rattle.std.specs.Prelude.{IsSome, option_map}
use Rattle.fam_disk.specs.Crash.{IsTorn, Leaves, Passes, written}
use Rattle.fam_disk.proofs.Moments.{started, passing, where_told, now_where_told}
use Rattle.fam_model.specs.Journal.{rows_of, short}
use Rattle.meta_journal.specs.Image.{IsImage, other_area}
use Rattle.meta_journal.specs.Layout.{area_byte, area_start as start_of, records_end, records}
use Rattle.meta_journal.specs.Reading.{HasRows}
use Rattle.meta_journal.specs.Short.{short_bytes}
use Rattle.meta_journal.specs.State.{acknowledged}
use Rattle.meta_journal.specs.declared.area.Area.{Area}
use Rattle.meta_journal.specs.declared.doubt.Doubt.{Doubt}
use Rattle.meta_journal.specs.declared.doubt.Doubt.TheVariants.{Nothing, OfArea}
use Rattle.meta_journal.proofs.Adding.{sound_from, known_acknowledged}
use Rattle.meta_journal.proofs.Results.{on_err}
use Rattle.meta_journal.proofs.Settling.{still_acknowledged}
use Rattle.meta_journal.proofs.Switching.{form_failed, form_moments, form_written, turn_failed, turn_moments, turn_written, same_rows}
use Rattle.meta_journal.proofs.journal.Journal.go_over.Goals as goal

pub returns-in_err-write_synced-clause-sound : goal.returns-in_err-write_synced-clause-sound
returns-in_err-write_synced-clause-sound g c =
    let j = c.args.self.now in
    let A = acknowledged j in
    let other = short (rows_of A) in
    let bytes = short_bytes (rows_of A) in
    let D = g.D.Disk.state in
    let at_first = D j.disk in
    let at_second = D c.write_synced.new.disk in
    let laws = g.met.D.Disk g.world.𝓛 g.world.𝓜 g.world.𝓡 ((λ s x. x), (λ x. x), (λ x. x), λ x. x) in
    let room : IsSome at_first.content → records_end other < j.limit = λ told. omega (arith, c.requires.room, ap length (c.requires.form told), length-append (records other) (0 ∷ [])) in
    let was : Leaves at_first at_first.moment (IsImage j.limit j.used j.area Nothing A) =
    subst (λ (d : Doubt). Leaves at_first at_first.moment (IsImage j.limit j.used j.area d A)) c.requires.settled c.requires.sound in
    let start_is : c.area_start.result ≡ start_of j.limit (other_area j.area) = c.area_start.ensures ∙ ap (start_of j.limit) c.other_of-other.ensures in
    let torn : IsSome at_first.content → Passes (IsTorn (start_of j.limit (other_area j.area)) (length bytes)) at_first at_second = λ told.
    subst (λ (i : ℕ). Passes (IsTorn i (length bytes)) at_first at_second) start_is
    (subst (λ (b : List ℕ). Passes (IsTorn c.area_start.result (length b)) at_first at_second) (c.requires.form told) c.write_synced.ensures.crash) in
    let failed = now_where_told (IsImage j.limit j.used j.area Nothing A) at_first at_second (laws.tells_content c.write_synced.new.disk) c.write_synced.ensures.crash.tells (λ told. form_failed j.limit j.used j.area A other (c.requires.restores told) (room told) at_first at_second at_second was (torn told)) in
    sound_from at_second j.limit j.used j.area j.doubt A (laws.tells_content c.write_synced.new.disk) (laws.reads_image c.write_synced.new.disk) (subst (λ (d : Doubt). Leaves at_second at_second.moment (IsImage j.limit j.used j.area d A)) (sym c.requires.settled) failed)

pub returns-in_err-write_synced-clause-same_rows : goal.returns-in_err-write_synced-clause-same_rows
returns-in_err-write_synced-clause-same_rows g c =
    let j = c.args.self.now in
    let A = acknowledged j in
    let other = short (rows_of A) in
    let bytes = short_bytes (rows_of A) in
    let D = g.D.Disk.state in
    let at_first = D j.disk in
    let at_second = D c.write_synced.new.disk in
    let laws = g.met.D.Disk g.world.𝓛 g.world.𝓜 g.world.𝓡 ((λ s x. x), (λ x. x), (λ x. x), λ x. x) in
    let room : IsSome at_first.content → records_end other < j.limit = λ told. omega (arith, c.requires.room, ap length (c.requires.form told), length-append (records other) (0 ∷ [])) in
    let was : Leaves at_first at_first.moment (IsImage j.limit j.used j.area Nothing A) =
    subst (λ (d : Doubt). Leaves at_first at_first.moment (IsImage j.limit j.used j.area d A)) c.requires.settled c.requires.sound in
    let start_is : c.area_start.result ≡ start_of j.limit (other_area j.area) = c.area_start.ensures ∙ ap (start_of j.limit) c.other_of-other.ensures in
    let torn : IsSome at_first.content → Passes (IsTorn (start_of j.limit (other_area j.area)) (length bytes)) at_first at_second = λ told.
    subst (λ (i : ℕ). Passes (IsTorn i (length bytes)) at_first at_second) start_is
    (subst (λ (b : List ℕ). Passes (IsTorn c.area_start.result (length b)) at_first at_second) (c.requires.form told) c.write_synced.ensures.crash) in
    let failed = now_where_told (IsImage j.limit j.used j.area Nothing A) at_first at_second (laws.tells_content c.write_synced.new.disk) c.write_synced.ensures.crash.tells (λ told. form_failed j.limit j.used j.area A other (c.requires.restores told) (room told) at_first at_second at_second was (torn told)) in
    ap rows_of (still_acknowledged at_first at_second j.limit j.used j.area Nothing c.write_synced.ensures.crash.tells (laws.reads_image c.write_synced.new.disk) failed)

pub returns-in_err-write_synced-clause-any_moment : goal.returns-in_err-write_synced-clause-any_moment
returns-in_err-write_synced-clause-any_moment g c =
    let j = c.args.self.now in
    let A = acknowledged j in
    let other = short (rows_of A) in
    let bytes = short_bytes (rows_of A) in
    let D = g.D.Disk.state in
    let at_first = D j.disk in
    let at_second = D c.write_synced.new.disk in
    let laws = g.met.D.Disk g.world.𝓛 g.world.𝓜 g.world.𝓡 ((λ s x. x), (λ x. x), (λ x. x), λ x. x) in
    let room : IsSome at_first.content → records_end other < j.limit = λ told. omega (arith, c.requires.room, ap length (c.requires.form told), length-append (records other) (0 ∷ [])) in
    let was : Leaves at_first at_first.moment (IsImage j.limit j.used j.area Nothing A) =
    subst (λ (d : Doubt). Leaves at_first at_first.moment (IsImage j.limit j.used j.area d A)) c.requires.settled c.requires.sound in
    let start_is : c.area_start.result ≡ start_of j.limit (other_area j.area) = c.area_start.ensures ∙ ap (start_of j.limit) c.other_of-other.ensures in
    let torn : IsSome at_first.content → Passes (IsTorn (start_of j.limit (other_area j.area)) (length bytes)) at_first at_second = λ told.
    subst (λ (i : ℕ). Passes (IsTorn i (length bytes)) at_first at_second) start_is
    (subst (λ (b : List ℕ). Passes (IsTorn c.area_start.result (length b)) at_first at_second) (c.requires.form told) c.write_synced.ensures.crash) in
    where_told (HasRows j.limit (rows_of A)) at_first at_second (laws.tells_content c.write_synced.new.disk) c.write_synced.ensures.crash.tells (passing _ at_first at_first at_second (started (λ image. Unit {0}) at_first (λ image left. tt)) c.write_synced.ensures.crash) (λ told. form_moments j.limit j.used j.area A other (c.requires.restores told) (room told) at_first at_second at_second was (torn told))

pub returns-in_err-write_synced-2-clause-sound : goal.returns-in_err-write_synced-2-clause-sound
returns-in_err-write_synced-2-clause-sound g c =
    let j = c.args.self.now in
    let A = acknowledged j in
    let other = short (rows_of A) in
    let bytes = short_bytes (rows_of A) in
    let D = g.D.Disk.state in
    let at_first = D j.disk in
    let at_second = D c.write_synced.new.disk in
    let laws = g.met.D.Disk g.world.𝓛 g.world.𝓜 g.world.𝓡 ((λ s x. x), (λ x. x), (λ x. x), λ x. x) in
    let room : IsSome at_first.content → records_end other < j.limit = λ told. omega (arith, c.requires.room, ap length (c.requires.form told), length-append (records other) (0 ∷ [])) in
    let was : Leaves at_first at_first.moment (IsImage j.limit j.used j.area Nothing A) =
    subst (λ (d : Doubt). Leaves at_first at_first.moment (IsImage j.limit j.used j.area d A)) c.requires.settled c.requires.sound in
    let start_is : c.area_start.result ≡ start_of j.limit (other_area j.area) = c.area_start.ensures ∙ ap (start_of j.limit) c.other_of-other.ensures in
    let torn : IsSome at_first.content → Passes (IsTorn (start_of j.limit (other_area j.area)) (length bytes)) at_first at_second = λ told.
    subst (λ (i : ℕ). Passes (IsTorn i (length bytes)) at_first at_second) start_is
    (subst (λ (b : List ℕ). Passes (IsTorn c.area_start.result (length b)) at_first at_second) (c.requires.form told) c.write_synced.ensures.crash) in
    let at_third = D c.write_synced-2.new.disk in
    let tells = c.write_synced-2.ensures.crash.tells ∙ c.write_synced.ensures.crash.tells in
    let content : IsSome at_first.content → at_second.content ≡ option_map (written (start_of j.limit (other_area j.area)) bytes) at_first.content = λ told.
    subst (λ (i : ℕ). at_second.content ≡ option_map (written i bytes) at_first.content) start_is
    (subst (λ (b : List ℕ). at_second.content ≡ option_map (written c.area_start.result b) at_first.content) (c.requires.form told) c.in_ok-write_synced.ensures.written) in
    let prepared = λ (told : IsSome at_first.content). form_written j.limit j.used j.area A other (c.requires.restores told) (room told) at_first at_second at_third
    (laws.reads_image j.disk) was c.requires.reached c.in_ok-write_synced.ensures.synced (content told) in
    let run = passing _ at_first at_second at_third (passing _ at_first at_first at_second (started (λ image. Unit {0}) at_first (λ image left. tt)) c.write_synced.ensures.crash) c.write_synced-2.ensures.crash in
    let moments = λ (told : IsSome at_first.content). turn_moments j.limit j.used j.area A other (c.requires.restores told) (room told) at_first at_second at_third
    (form_moments j.limit j.used j.area A other (c.requires.restores told) (room told) at_first at_second at_third was (torn told)) (prepared told) c.write_synced-2.ensures.crash in
    let failed = now_where_told (IsImage j.limit j.used j.area OfArea A) at_first at_third (laws.tells_content c.write_synced-2.new.disk) tells (λ told. turn_failed j.limit j.used j.area A other (c.requires.restores told) (room told) at_first at_second at_third (prepared told) c.write_synced-2.ensures.crash) in
    sound_from at_third j.limit j.used j.area OfArea A (laws.tells_content c.write_synced-2.new.disk) (laws.reads_image c.write_synced-2.new.disk) failed

pub returns-in_err-write_synced-2-clause-same_rows : goal.returns-in_err-write_synced-2-clause-same_rows
returns-in_err-write_synced-2-clause-same_rows g c =
    let j = c.args.self.now in
    let A = acknowledged j in
    let other = short (rows_of A) in
    let bytes = short_bytes (rows_of A) in
    let D = g.D.Disk.state in
    let at_first = D j.disk in
    let at_second = D c.write_synced.new.disk in
    let laws = g.met.D.Disk g.world.𝓛 g.world.𝓜 g.world.𝓡 ((λ s x. x), (λ x. x), (λ x. x), λ x. x) in
    let room : IsSome at_first.content → records_end other < j.limit = λ told. omega (arith, c.requires.room, ap length (c.requires.form told), length-append (records other) (0 ∷ [])) in
    let was : Leaves at_first at_first.moment (IsImage j.limit j.used j.area Nothing A) =
    subst (λ (d : Doubt). Leaves at_first at_first.moment (IsImage j.limit j.used j.area d A)) c.requires.settled c.requires.sound in
    let start_is : c.area_start.result ≡ start_of j.limit (other_area j.area) = c.area_start.ensures ∙ ap (start_of j.limit) c.other_of-other.ensures in
    let torn : IsSome at_first.content → Passes (IsTorn (start_of j.limit (other_area j.area)) (length bytes)) at_first at_second = λ told.
    subst (λ (i : ℕ). Passes (IsTorn i (length bytes)) at_first at_second) start_is
    (subst (λ (b : List ℕ). Passes (IsTorn c.area_start.result (length b)) at_first at_second) (c.requires.form told) c.write_synced.ensures.crash) in
    let at_third = D c.write_synced-2.new.disk in
    let tells = c.write_synced-2.ensures.crash.tells ∙ c.write_synced.ensures.crash.tells in
    let content : IsSome at_first.content → at_second.content ≡ option_map (written (start_of j.limit (other_area j.area)) bytes) at_first.content = λ told.
    subst (λ (i : ℕ). at_second.content ≡ option_map (written i bytes) at_first.content) start_is
    (subst (λ (b : List ℕ). at_second.content ≡ option_map (written c.area_start.result b) at_first.content) (c.requires.form told) c.in_ok-write_synced.ensures.written) in
    let prepared = λ (told : IsSome at_first.content). form_written j.limit j.used j.area A other (c.requires.restores told) (room told) at_first at_second at_third
    (laws.reads_image j.disk) was c.requires.reached c.in_ok-write_synced.ensures.synced (content told) in
    let run = passing _ at_first at_second at_third (passing _ at_first at_first at_second (started (λ image. Unit {0}) at_first (λ image left. tt)) c.write_synced.ensures.crash) c.write_synced-2.ensures.crash in
    let moments = λ (told : IsSome at_first.content). turn_moments j.limit j.used j.area A other (c.requires.restores told) (room told) at_first at_second at_third
    (form_moments j.limit j.used j.area A other (c.requires.restores told) (room told) at_first at_second at_third was (torn told)) (prepared told) c.write_synced-2.ensures.crash in
    let failed = now_where_told (IsImage j.limit j.used j.area OfArea A) at_first at_third (laws.tells_content c.write_synced-2.new.disk) tells (λ told. turn_failed j.limit j.used j.area A other (c.requires.restores told) (room told) at_first at_second at_third (prepared told) c.write_synced-2.ensures.crash) in
    ap rows_of (still_acknowledged at_first at_third j.limit j.used j.area OfArea tells (laws.reads_image c.write_synced-2.new.disk) failed)

pub returns-in_err-write_synced-2-clause-any_moment : goal.returns-in_err-write_synced-2-clause-any_moment
returns-in_err-write_synced-2-clause-any_moment g c =
    let j = c.args.self.now in
    let A = acknowledged j in
    let other = short (rows_of A) in
    let bytes = short_bytes (rows_of A) in
    let D = g.D.Disk.state in
    let at_first = D j.disk in
    let at_second = D c.write_synced.new.disk in
    let laws = g.met.D.Disk g.world.𝓛 g.world.𝓜 g.world.𝓡 ((λ s x. x), (λ x. x), (λ x. x), λ x. x) in
    let room : IsSome at_first.content → records_end other < j.limit = λ told. omega (arith, c.requires.room, ap length (c.requires.form told), length-append (records other) (0 ∷ [])) in
    let was : Leaves at_first at_first.moment (IsImage j.limit j.used j.area Nothing A) =
    subst (λ (d : Doubt). Leaves at_first at_first.moment (IsImage j.limit j.used j.area d A)) c.requires.settled c.requires.sound in
    let start_is : c.area_start.result ≡ start_of j.limit (other_area j.area) = c.area_start.ensures ∙ ap (start_of j.limit) c.other_of-other.ensures in
    let torn : IsSome at_first.content → Passes (IsTorn (start_of j.limit (other_area j.area)) (length bytes)) at_first at_second = λ told.
    subst (λ (i : ℕ). Passes (IsTorn i (length bytes)) at_first at_second) start_is
    (subst (λ (b : List ℕ). Passes (IsTorn c.area_start.result (length b)) at_first at_second) (c.requires.form told) c.write_synced.ensures.crash) in
    let at_third = D c.write_synced-2.new.disk in
    let tells = c.write_synced-2.ensures.crash.tells ∙ c.write_synced.ensures.crash.tells in
    let content : IsSome at_first.content → at_second.content ≡ option_map (written (start_of j.limit (other_area j.area)) bytes) at_first.content = λ told.
    subst (λ (i : ℕ). at_second.content ≡ option_map (written i bytes) at_first.content) start_is
    (subst (λ (b : List ℕ). at_second.content ≡ option_map (written c.area_start.result b) at_first.content) (c.requires.form told) c.in_ok-write_synced.ensures.written) in
    let prepared = λ (told : IsSome at_first.content). form_written j.limit j.used j.area A other (c.requires.restores told) (room told) at_first at_second at_third
    (laws.reads_image j.disk) was c.requires.reached c.in_ok-write_synced.ensures.synced (content told) in
    let run = passing _ at_first at_second at_third (passing _ at_first at_first at_second (started (λ image. Unit {0}) at_first (λ image left. tt)) c.write_synced.ensures.crash) c.write_synced-2.ensures.crash in
    let moments = λ (told : IsSome at_first.content). turn_moments j.limit j.used j.area A other (c.requires.restores told) (room told) at_first at_second at_third
    (form_moments j.limit j.used j.area A other (c.requires.restores told) (room told) at_first at_second at_third was (torn told)) (prepared told) c.write_synced-2.ensures.crash in
    where_told (HasRows j.limit (rows_of A)) at_first at_third (laws.tells_content c.write_synced-2.new.disk) tells run moments

pub returns-clause-sound : goal.returns-clause-sound
returns-clause-sound g c =
    let j = c.args.self.now in
    let A = acknowledged j in
    let other = short (rows_of A) in
    let bytes = short_bytes (rows_of A) in
    let D = g.D.Disk.state in
    let at_first = D j.disk in
    let at_second = D c.write_synced.new.disk in
    let laws = g.met.D.Disk g.world.𝓛 g.world.𝓜 g.world.𝓡 ((λ s x. x), (λ x. x), (λ x. x), λ x. x) in
    let room : IsSome at_first.content → records_end other < j.limit = λ told. omega (arith, c.requires.room, ap length (c.requires.form told), length-append (records other) (0 ∷ [])) in
    let was : Leaves at_first at_first.moment (IsImage j.limit j.used j.area Nothing A) =
    subst (λ (d : Doubt). Leaves at_first at_first.moment (IsImage j.limit j.used j.area d A)) c.requires.settled c.requires.sound in
    let start_is : c.area_start.result ≡ start_of j.limit (other_area j.area) = c.area_start.ensures ∙ ap (start_of j.limit) c.other_of-other.ensures in
    let torn : IsSome at_first.content → Passes (IsTorn (start_of j.limit (other_area j.area)) (length bytes)) at_first at_second = λ told.
    subst (λ (i : ℕ). Passes (IsTorn i (length bytes)) at_first at_second) start_is
    (subst (λ (b : List ℕ). Passes (IsTorn c.area_start.result (length b)) at_first at_second) (c.requires.form told) c.write_synced.ensures.crash) in
    let at_third = D c.write_synced-2.new.disk in
    let tells = c.write_synced-2.ensures.crash.tells ∙ c.write_synced.ensures.crash.tells in
    let content : IsSome at_first.content → at_second.content ≡ option_map (written (start_of j.limit (other_area j.area)) bytes) at_first.content = λ told.
    subst (λ (i : ℕ). at_second.content ≡ option_map (written i bytes) at_first.content) start_is
    (subst (λ (b : List ℕ). at_second.content ≡ option_map (written c.area_start.result b) at_first.content) (c.requires.form told) c.in_ok-write_synced.ensures.written) in
    let prepared = λ (told : IsSome at_first.content). form_written j.limit j.used j.area A other (c.requires.restores told) (room told) at_first at_second at_third
    (laws.reads_image j.disk) was c.requires.reached c.in_ok-write_synced.ensures.synced (content told) in
    let run = passing _ at_first at_second at_third (passing _ at_first at_first at_second (started (λ image. Unit {0}) at_first (λ image left. tt)) c.write_synced.ensures.crash) c.write_synced-2.ensures.crash in
    let moments = λ (told : IsSome at_first.content). turn_moments j.limit j.used j.area A other (c.requires.restores told) (room told) at_first at_second at_third
    (form_moments j.limit j.used j.area A other (c.requires.restores told) (room told) at_first at_second at_third was (torn told)) (prepared told) c.write_synced-2.ensures.crash in
    let byte_is : c.byte_of.result ≡ area_byte (other_area j.area) = c.byte_of.ensures ∙ ap area_byte c.other_of-other.ensures in
    let turned : at_third.content ≡ option_map (written 8 (area_byte (other_area j.area) ∷ [])) at_second.content =
    subst (λ (b : ℕ). at_third.content ≡ option_map (written 8 (b ∷ [])) at_second.content) byte_is c.in_ok-write_synced-2.ensures.written in
    let size : IsSome at_first.content → records_end other ≡ 15 + length c.args.form.now = λ told.
    omega (arith, ap length (c.requires.form told), length-append (records other) (0 ∷ [])) in
    let done = λ (told : IsSome at_first.content).
    subst (λ (a : Area). Leaves at_third at_third.moment (IsImage j.limit (15 + length c.args.form.now) a Nothing other)) (sym c.other_of-other.ensures)
    (subst (λ (n : ℕ). Leaves at_third at_third.moment (IsImage j.limit n (other_area j.area) Nothing other)) (size told)
    (turn_written j.limit j.used j.area A other (c.requires.restores told) (room told) at_first at_second at_third (laws.reads_image c.write_synced.new.disk) (prepared told) c.in_ok-write_synced-2.ensures.synced turned)) in
    sound_from at_third j.limit (15 + length c.args.form.now) c.other_of-other.result Nothing other (laws.tells_content c.write_synced-2.new.disk) (laws.reads_image c.write_synced-2.new.disk)
    (now_where_told (IsImage j.limit (15 + length c.args.form.now) c.other_of-other.result Nothing other) at_first at_third (laws.tells_content c.write_synced-2.new.disk) tells done)

pub returns-clause-same_rows : goal.returns-clause-same_rows
returns-clause-same_rows g c =
    let j = c.args.self.now in
    let A = acknowledged j in
    let other = short (rows_of A) in
    let bytes = short_bytes (rows_of A) in
    let D = g.D.Disk.state in
    let at_first = D j.disk in
    let at_second = D c.write_synced.new.disk in
    let laws = g.met.D.Disk g.world.𝓛 g.world.𝓜 g.world.𝓡 ((λ s x. x), (λ x. x), (λ x. x), λ x. x) in
    let room : IsSome at_first.content → records_end other < j.limit = λ told. omega (arith, c.requires.room, ap length (c.requires.form told), length-append (records other) (0 ∷ [])) in
    let was : Leaves at_first at_first.moment (IsImage j.limit j.used j.area Nothing A) =
    subst (λ (d : Doubt). Leaves at_first at_first.moment (IsImage j.limit j.used j.area d A)) c.requires.settled c.requires.sound in
    let start_is : c.area_start.result ≡ start_of j.limit (other_area j.area) = c.area_start.ensures ∙ ap (start_of j.limit) c.other_of-other.ensures in
    let torn : IsSome at_first.content → Passes (IsTorn (start_of j.limit (other_area j.area)) (length bytes)) at_first at_second = λ told.
    subst (λ (i : ℕ). Passes (IsTorn i (length bytes)) at_first at_second) start_is
    (subst (λ (b : List ℕ). Passes (IsTorn c.area_start.result (length b)) at_first at_second) (c.requires.form told) c.write_synced.ensures.crash) in
    let at_third = D c.write_synced-2.new.disk in
    let tells = c.write_synced-2.ensures.crash.tells ∙ c.write_synced.ensures.crash.tells in
    let content : IsSome at_first.content → at_second.content ≡ option_map (written (start_of j.limit (other_area j.area)) bytes) at_first.content = λ told.
    subst (λ (i : ℕ). at_second.content ≡ option_map (written i bytes) at_first.content) start_is
    (subst (λ (b : List ℕ). at_second.content ≡ option_map (written c.area_start.result b) at_first.content) (c.requires.form told) c.in_ok-write_synced.ensures.written) in
    let prepared = λ (told : IsSome at_first.content). form_written j.limit j.used j.area A other (c.requires.restores told) (room told) at_first at_second at_third
    (laws.reads_image j.disk) was c.requires.reached c.in_ok-write_synced.ensures.synced (content told) in
    let run = passing _ at_first at_second at_third (passing _ at_first at_first at_second (started (λ image. Unit {0}) at_first (λ image left. tt)) c.write_synced.ensures.crash) c.write_synced-2.ensures.crash in
    let moments = λ (told : IsSome at_first.content). turn_moments j.limit j.used j.area A other (c.requires.restores told) (room told) at_first at_second at_third
    (form_moments j.limit j.used j.area A other (c.requires.restores told) (room told) at_first at_second at_third was (torn told)) (prepared told) c.write_synced-2.ensures.crash in
    let byte_is : c.byte_of.result ≡ area_byte (other_area j.area) = c.byte_of.ensures ∙ ap area_byte c.other_of-other.ensures in
    let turned : at_third.content ≡ option_map (written 8 (area_byte (other_area j.area) ∷ [])) at_second.content =
    subst (λ (b : ℕ). at_third.content ≡ option_map (written 8 (b ∷ [])) at_second.content) byte_is c.in_ok-write_synced-2.ensures.written in
    let size : IsSome at_first.content → records_end other ≡ 15 + length c.args.form.now = λ told.
    omega (arith, ap length (c.requires.form told), length-append (records other) (0 ∷ [])) in
    let done = λ (told : IsSome at_first.content).
    subst (λ (a : Area). Leaves at_third at_third.moment (IsImage j.limit (15 + length c.args.form.now) a Nothing other)) (sym c.other_of-other.ensures)
    (subst (λ (n : ℕ). Leaves at_third at_third.moment (IsImage j.limit n (other_area j.area) Nothing other)) (size told)
    (turn_written j.limit j.used j.area A other (c.requires.restores told) (room told) at_first at_second at_third (laws.reads_image c.write_synced.new.disk) (prepared told) c.in_ok-write_synced-2.ensures.synced turned)) in
    same_rows at_first at_third j.limit j.used (15 + length c.args.form.now) j.area c.other_of-other.result Nothing other tells (laws.reads_image c.write_synced-2.new.disk) (λ told. (c.requires.restores told).same_rows) done

pub returns-clause-any_moment : goal.returns-clause-any_moment
returns-clause-any_moment g c =
    let j = c.args.self.now in
    let A = acknowledged j in
    let other = short (rows_of A) in
    let bytes = short_bytes (rows_of A) in
    let D = g.D.Disk.state in
    let at_first = D j.disk in
    let at_second = D c.write_synced.new.disk in
    let laws = g.met.D.Disk g.world.𝓛 g.world.𝓜 g.world.𝓡 ((λ s x. x), (λ x. x), (λ x. x), λ x. x) in
    let room : IsSome at_first.content → records_end other < j.limit = λ told. omega (arith, c.requires.room, ap length (c.requires.form told), length-append (records other) (0 ∷ [])) in
    let was : Leaves at_first at_first.moment (IsImage j.limit j.used j.area Nothing A) =
    subst (λ (d : Doubt). Leaves at_first at_first.moment (IsImage j.limit j.used j.area d A)) c.requires.settled c.requires.sound in
    let start_is : c.area_start.result ≡ start_of j.limit (other_area j.area) = c.area_start.ensures ∙ ap (start_of j.limit) c.other_of-other.ensures in
    let torn : IsSome at_first.content → Passes (IsTorn (start_of j.limit (other_area j.area)) (length bytes)) at_first at_second = λ told.
    subst (λ (i : ℕ). Passes (IsTorn i (length bytes)) at_first at_second) start_is
    (subst (λ (b : List ℕ). Passes (IsTorn c.area_start.result (length b)) at_first at_second) (c.requires.form told) c.write_synced.ensures.crash) in
    let at_third = D c.write_synced-2.new.disk in
    let tells = c.write_synced-2.ensures.crash.tells ∙ c.write_synced.ensures.crash.tells in
    let content : IsSome at_first.content → at_second.content ≡ option_map (written (start_of j.limit (other_area j.area)) bytes) at_first.content = λ told.
    subst (λ (i : ℕ). at_second.content ≡ option_map (written i bytes) at_first.content) start_is
    (subst (λ (b : List ℕ). at_second.content ≡ option_map (written c.area_start.result b) at_first.content) (c.requires.form told) c.in_ok-write_synced.ensures.written) in
    let prepared = λ (told : IsSome at_first.content). form_written j.limit j.used j.area A other (c.requires.restores told) (room told) at_first at_second at_third
    (laws.reads_image j.disk) was c.requires.reached c.in_ok-write_synced.ensures.synced (content told) in
    let run = passing _ at_first at_second at_third (passing _ at_first at_first at_second (started (λ image. Unit {0}) at_first (λ image left. tt)) c.write_synced.ensures.crash) c.write_synced-2.ensures.crash in
    let moments = λ (told : IsSome at_first.content). turn_moments j.limit j.used j.area A other (c.requires.restores told) (room told) at_first at_second at_third
    (form_moments j.limit j.used j.area A other (c.requires.restores told) (room told) at_first at_second at_third was (torn told)) (prepared told) c.write_synced-2.ensures.crash in
    where_told (HasRows j.limit (rows_of A)) at_first at_third (laws.tells_content c.write_synced-2.new.disk) tells run moments

pub returns-in_err-write_synced-clause-acknowledged : goal.returns-in_err-write_synced-clause-acknowledged
returns-in_err-write_synced-clause-acknowledged g c =
    let j = c.args.self.now in
    let A = acknowledged j in
    let other = short (rows_of A) in
    let bytes = short_bytes (rows_of A) in
    let D = g.D.Disk.state in
    let at_first = D j.disk in
    let at_second = D c.write_synced.new.disk in
    let laws = g.met.D.Disk g.world.𝓛 g.world.𝓜 g.world.𝓡 ((λ s x. x), (λ x. x), (λ x. x), λ x. x) in
    let room : IsSome at_first.content → records_end other < j.limit = λ told. omega (arith, c.requires.room, ap length (c.requires.form told), length-append (records other) (0 ∷ [])) in
    let was : Leaves at_first at_first.moment (IsImage j.limit j.used j.area Nothing A) =
    subst (λ (d : Doubt). Leaves at_first at_first.moment (IsImage j.limit j.used j.area d A)) c.requires.settled c.requires.sound in
    let start_is : c.area_start.result ≡ start_of j.limit (other_area j.area) = c.area_start.ensures ∙ ap (start_of j.limit) c.other_of-other.ensures in
    let torn : IsSome at_first.content → Passes (IsTorn (start_of j.limit (other_area j.area)) (length bytes)) at_first at_second = λ told.
    subst (λ (i : ℕ). Passes (IsTorn i (length bytes)) at_first at_second) start_is
    (subst (λ (b : List ℕ). Passes (IsTorn c.area_start.result (length b)) at_first at_second) (c.requires.form told) c.write_synced.ensures.crash) in
    let failed = now_where_told (IsImage j.limit j.used j.area Nothing A) at_first at_second (laws.tells_content c.write_synced.new.disk) c.write_synced.ensures.crash.tells (λ told. form_failed j.limit j.used j.area A other (c.requires.restores told) (room told) at_first at_second at_second was (torn told)) in
    on_err _ (still_acknowledged at_first at_second j.limit j.used j.area Nothing c.write_synced.ensures.crash.tells (laws.reads_image c.write_synced.new.disk) failed)

pub returns-in_err-write_synced-2-clause-acknowledged : goal.returns-in_err-write_synced-2-clause-acknowledged
returns-in_err-write_synced-2-clause-acknowledged g c =
    let j = c.args.self.now in
    let A = acknowledged j in
    let other = short (rows_of A) in
    let bytes = short_bytes (rows_of A) in
    let D = g.D.Disk.state in
    let at_first = D j.disk in
    let at_second = D c.write_synced.new.disk in
    let laws = g.met.D.Disk g.world.𝓛 g.world.𝓜 g.world.𝓡 ((λ s x. x), (λ x. x), (λ x. x), λ x. x) in
    let room : IsSome at_first.content → records_end other < j.limit = λ told. omega (arith, c.requires.room, ap length (c.requires.form told), length-append (records other) (0 ∷ [])) in
    let was : Leaves at_first at_first.moment (IsImage j.limit j.used j.area Nothing A) =
    subst (λ (d : Doubt). Leaves at_first at_first.moment (IsImage j.limit j.used j.area d A)) c.requires.settled c.requires.sound in
    let start_is : c.area_start.result ≡ start_of j.limit (other_area j.area) = c.area_start.ensures ∙ ap (start_of j.limit) c.other_of-other.ensures in
    let torn : IsSome at_first.content → Passes (IsTorn (start_of j.limit (other_area j.area)) (length bytes)) at_first at_second = λ told.
    subst (λ (i : ℕ). Passes (IsTorn i (length bytes)) at_first at_second) start_is
    (subst (λ (b : List ℕ). Passes (IsTorn c.area_start.result (length b)) at_first at_second) (c.requires.form told) c.write_synced.ensures.crash) in
    let at_third = D c.write_synced-2.new.disk in
    let tells = c.write_synced-2.ensures.crash.tells ∙ c.write_synced.ensures.crash.tells in
    let content : IsSome at_first.content → at_second.content ≡ option_map (written (start_of j.limit (other_area j.area)) bytes) at_first.content = λ told.
    subst (λ (i : ℕ). at_second.content ≡ option_map (written i bytes) at_first.content) start_is
    (subst (λ (b : List ℕ). at_second.content ≡ option_map (written c.area_start.result b) at_first.content) (c.requires.form told) c.in_ok-write_synced.ensures.written) in
    let prepared = λ (told : IsSome at_first.content). form_written j.limit j.used j.area A other (c.requires.restores told) (room told) at_first at_second at_third
    (laws.reads_image j.disk) was c.requires.reached c.in_ok-write_synced.ensures.synced (content told) in
    let run = passing _ at_first at_second at_third (passing _ at_first at_first at_second (started (λ image. Unit {0}) at_first (λ image left. tt)) c.write_synced.ensures.crash) c.write_synced-2.ensures.crash in
    let moments = λ (told : IsSome at_first.content). turn_moments j.limit j.used j.area A other (c.requires.restores told) (room told) at_first at_second at_third
    (form_moments j.limit j.used j.area A other (c.requires.restores told) (room told) at_first at_second at_third was (torn told)) (prepared told) c.write_synced-2.ensures.crash in
    let failed = now_where_told (IsImage j.limit j.used j.area OfArea A) at_first at_third (laws.tells_content c.write_synced-2.new.disk) tells (λ told. turn_failed j.limit j.used j.area A other (c.requires.restores told) (room told) at_first at_second at_third (prepared told) c.write_synced-2.ensures.crash) in
    on_err _ (still_acknowledged at_first at_third j.limit j.used j.area OfArea tells (laws.reads_image c.write_synced-2.new.disk) failed)

pub returns-clause-shortened : goal.returns-clause-shortened
returns-clause-shortened g c told =
    let j = c.args.self.now in
    let A = acknowledged j in
    let other = short (rows_of A) in
    let bytes = short_bytes (rows_of A) in
    let D = g.D.Disk.state in
    let at_first = D j.disk in
    let at_second = D c.write_synced.new.disk in
    let laws = g.met.D.Disk g.world.𝓛 g.world.𝓜 g.world.𝓡 ((λ s x. x), (λ x. x), (λ x. x), λ x. x) in
    let room : IsSome at_first.content → records_end other < j.limit = λ told. omega (arith, c.requires.room, ap length (c.requires.form told), length-append (records other) (0 ∷ [])) in
    let was : Leaves at_first at_first.moment (IsImage j.limit j.used j.area Nothing A) =
    subst (λ (d : Doubt). Leaves at_first at_first.moment (IsImage j.limit j.used j.area d A)) c.requires.settled c.requires.sound in
    let start_is : c.area_start.result ≡ start_of j.limit (other_area j.area) = c.area_start.ensures ∙ ap (start_of j.limit) c.other_of-other.ensures in
    let torn : IsSome at_first.content → Passes (IsTorn (start_of j.limit (other_area j.area)) (length bytes)) at_first at_second = λ told.
    subst (λ (i : ℕ). Passes (IsTorn i (length bytes)) at_first at_second) start_is
    (subst (λ (b : List ℕ). Passes (IsTorn c.area_start.result (length b)) at_first at_second) (c.requires.form told) c.write_synced.ensures.crash) in
    let at_third = D c.write_synced-2.new.disk in
    let tells = c.write_synced-2.ensures.crash.tells ∙ c.write_synced.ensures.crash.tells in
    let content : IsSome at_first.content → at_second.content ≡ option_map (written (start_of j.limit (other_area j.area)) bytes) at_first.content = λ told.
    subst (λ (i : ℕ). at_second.content ≡ option_map (written i bytes) at_first.content) start_is
    (subst (λ (b : List ℕ). at_second.content ≡ option_map (written c.area_start.result b) at_first.content) (c.requires.form told) c.in_ok-write_synced.ensures.written) in
    let prepared = λ (told : IsSome at_first.content). form_written j.limit j.used j.area A other (c.requires.restores told) (room told) at_first at_second at_third
    (laws.reads_image j.disk) was c.requires.reached c.in_ok-write_synced.ensures.synced (content told) in
    let run = passing _ at_first at_second at_third (passing _ at_first at_first at_second (started (λ image. Unit {0}) at_first (λ image left. tt)) c.write_synced.ensures.crash) c.write_synced-2.ensures.crash in
    let moments = λ (told : IsSome at_first.content). turn_moments j.limit j.used j.area A other (c.requires.restores told) (room told) at_first at_second at_third
    (form_moments j.limit j.used j.area A other (c.requires.restores told) (room told) at_first at_second at_third was (torn told)) (prepared told) c.write_synced-2.ensures.crash in
    let byte_is : c.byte_of.result ≡ area_byte (other_area j.area) = c.byte_of.ensures ∙ ap area_byte c.other_of-other.ensures in
    let turned : at_third.content ≡ option_map (written 8 (area_byte (other_area j.area) ∷ [])) at_second.content =
    subst (λ (b : ℕ). at_third.content ≡ option_map (written 8 (b ∷ [])) at_second.content) byte_is c.in_ok-write_synced-2.ensures.written in
    let size : IsSome at_first.content → records_end other ≡ 15 + length c.args.form.now = λ told.
    omega (arith, ap length (c.requires.form told), length-append (records other) (0 ∷ [])) in
    let done = λ (told : IsSome at_first.content).
    subst (λ (a : Area). Leaves at_third at_third.moment (IsImage j.limit (15 + length c.args.form.now) a Nothing other)) (sym c.other_of-other.ensures)
    (subst (λ (n : ℕ). Leaves at_third at_third.moment (IsImage j.limit n (other_area j.area) Nothing other)) (size told)
    (turn_written j.limit j.used j.area A other (c.requires.restores told) (room told) at_first at_second at_third (laws.reads_image c.write_synced.new.disk) (prepared told) c.in_ok-write_synced-2.ensures.synced turned)) in
    known_acknowledged at_third j.limit (15 + length c.args.form.now) c.other_of-other.result Nothing other (laws.reads_image c.write_synced-2.new.disk) (done told) (tells ∙ told)

pub returns-in_err-write_synced-clause-syncs : goal.returns-in_err-write_synced-clause-syncs
returns-in_err-write_synced-clause-syncs g c =
    let D = g.D.Disk.state in
    let at_first = D c.args.self.now.disk in
    one_sync at_first (D c.write_synced.new.disk) c.write_synced.result c.write_synced.ensures.syncs

pub returns-in_err-write_synced-2-clause-syncs : goal.returns-in_err-write_synced-2-clause-syncs
returns-in_err-write_synced-2-clause-syncs g c =
    let D = g.D.Disk.state in
    let at_first = D c.args.self.now.disk in
    let at_second = D c.write_synced.new.disk in
    let at_third = D c.write_synced-2.new.disk in
    more_syncs at_first at_second at_third (one_sync at_first at_second c.write_synced.result c.write_synced.ensures.syncs) c.write_synced.ensures.crash.tells
    (one_sync at_second at_third c.write_synced-2.result c.write_synced-2.ensures.syncs)

pub returns-clause-syncs : goal.returns-clause-syncs
returns-clause-syncs g c =
    let D = g.D.Disk.state in
    let at_first = D c.args.self.now.disk in
    let at_second = D c.write_synced.new.disk in
    let at_third = D c.write_synced-2.new.disk in
    more_syncs at_first at_second at_third (one_sync at_first at_second c.write_synced.result c.write_synced.ensures.syncs) c.write_synced.ensures.crash.tells
    (one_sync at_second at_third c.write_synced-2.result c.write_synced-2.ensures.syncs)
