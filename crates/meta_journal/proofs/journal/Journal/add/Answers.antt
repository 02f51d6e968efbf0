use Rattle.meta_journal.proofs.Syncs.{one_sync, more_syncs}
use Rattle.std.proofs.Common.{inl, inr, ◌≡◌, ℕ, ◌+◌, ◌<◌, [], ◌∷◌, ◌++◌, length, length-append, sym, ◌∙◌, ap, subst, arith}
use Rattle.std.specs.Prelude.{IsSome}
use Rattle.fam_disk.specs.Crash.{Leaves}
use Rattle.fam_disk.proofs.Moments.{started, passing, where_told, now_where_told}
use Rattle.fam_model.specs.Journal.{record_length, rows_of}
use Rattle.meta_journal.specs.Image.{IsImage}
use Rattle.meta_journal.specs.Layout.{record_bytes}
use Rattle.meta_journal.specs.Reading.{HasRows}
use Rattle.meta_journal.specs.State.{acknowledged, HasRowsOrAfter}
use Rattle.meta_journal.specs.declared.doubt.Doubt.{Doubt}
use Rattle.meta_journal.specs.declared.doubt.Doubt.TheVariants.{Nothing, OfChange}
use Rattle.meta_journal.proofs.Records.{body_is_counted}
use Rattle.meta_journal.proofs.Results.{on_err}
use Rattle.meta_journal.proofs.Settling.{still_acknowledged}
use Rattle.meta_journal.proofs.Adding.{sound_from, known_acknowledged, told_of, told_before, record_fits, record_failed, record_moments, record_unseen, record_written, gate_fits, gate_failed, gate_moments, gate_opened}
use Rattle.meta_journal.proofs.journal.Journal.add.Goals as goal

pub write_synced-requires-clause-within : goal.write_synced-requires-clause-within
write_synced-requires-clause-within g c κs within x is =
    let j = c.args.self.now in
    let change = c.args.reserved.change in
    let A = acknowledged j in
    let at_first = g.D.Disk.state j.disk in
    let laws = g.met.D.Disk g.world.𝓛 g.world.𝓜 g.world.𝓡 ((λ s x. x), (λ x. x), (λ x. x), λ x. x) in
    let room : j.used + record_length change < j.limit = omega arith in
    let was : Leaves at_first at_first.moment (IsImage j.limit j.used j.area Nothing A) =
    subst (λ (d : Doubt). Leaves at_first at_first.moment (IsImage j.limit j.used j.area d A)) c.requires.settled c.requires.sound in
    let told = told_of at_first.content x is in
    record_fits j.limit j.used j.area A change (c.requires.addable told) room c.disk_place-gate.result c.disk_place-gate.ensures c.as_slice.result.now (c.as_slice.ensures ∙ c.args.reserved.spells) at_first (laws.reads_image j.disk) was x is

pub returns-in_err-write_synced-clause-sound : goal.returns-in_err-write_synced-clause-sound
returns-in_err-write_synced-clause-sound g c =
    let j = c.args.self.now in
    let change = c.args.reserved.change in
    let A = acknowledged j in
    let at_first = g.D.Disk.state j.disk in
    let laws = g.met.D.Disk g.world.𝓛 g.world.𝓜 g.world.𝓡 ((λ s x. x), (λ x. x), (λ x. x), λ x. x) in
    let room : j.used + record_length change < j.limit = omega arith in
    let was : Leaves at_first at_first.moment (IsImage j.limit j.used j.area Nothing A) =
    subst (λ (d : Doubt). Leaves at_first at_first.moment (IsImage j.limit j.used j.area d A)) c.requires.settled c.requires.sound in
    let at_second = g.D.Disk.state c.write_synced.new.disk in
    sound_from at_second j.limit j.used j.area j.doubt A (laws.tells_content c.write_synced.new.disk) (laws.reads_image c.write_synced.new.disk)
    (subst (λ (d : Doubt). Leaves at_second at_second.moment (IsImage j.limit j.used j.area d A)) (sym c.requires.settled)
    (now_where_told (IsImage j.limit j.used j.area Nothing A) at_first at_second (laws.tells_content c.write_synced.new.disk) c.write_synced.ensures.crash.tells (λ told. record_failed j.limit j.used j.area A change (c.requires.addable told) room c.disk_place-gate.result c.disk_place-gate.ensures c.as_slice.result.now (c.as_slice.ensures ∙ c.args.reserved.spells) _ at_first at_second was c.write_synced.ensures.crash)))

pub returns-in_err-write_synced-clause-any_moment : goal.returns-in_err-write_synced-clause-any_moment
returns-in_err-write_synced-clause-any_moment g c =
    let j = c.args.self.now in
    let change = c.args.reserved.change in
    let A = acknowledged j in
    let at_first = g.D.Disk.state j.disk in
    let laws = g.met.D.Disk g.world.𝓛 g.world.𝓜 g.world.𝓡 ((λ s x. x), (λ x. x), (λ x. x), λ x. x) in
    let room : j.used + record_length change < j.limit = omega arith in
    let was : Leaves at_first at_first.moment (IsImage j.limit j.used j.area Nothing A) =
    subst (λ (d : Doubt). Leaves at_first at_first.moment (IsImage j.limit j.used j.area d A)) c.requires.settled c.requires.sound in
    let at_second = g.D.Disk.state c.write_synced.new.disk in
    where_told (HasRowsOrAfter j.limit A change) at_first at_second (laws.tells_content c.write_synced.new.disk) c.write_synced.ensures.crash.tells (passing _ at_first at_first at_second (started (λ image. Unit {0}) at_first (λ image left. tt)) c.write_synced.ensures.crash) (λ told. record_moments j.limit j.used j.area A change (c.requires.addable told) room c.disk_place-gate.result c.disk_place-gate.ensures c.as_slice.result.now (c.as_slice.ensures ∙ c.args.reserved.spells) _ at_first at_second was c.write_synced.ensures.crash)

pub write_synced-requires-2-clause-within : goal.write_synced-requires-2-clause-within
write_synced-requires-2-clause-within g c κs within x is =
    let j = c.args.self.now in
    let change = c.args.reserved.change in
    let A = acknowledged j in
    let at_first = g.D.Disk.state j.disk in
    let laws = g.met.D.Disk g.world.𝓛 g.world.𝓜 g.world.𝓡 ((λ s x. x), (λ x. x), (λ x. x), λ x. x) in
    let room : j.used + record_length change < j.limit = omega arith in
    let was : Leaves at_first at_first.moment (IsImage j.limit j.used j.area Nothing A) =
    subst (λ (d : Doubt). Leaves at_first at_first.moment (IsImage j.limit j.used j.area d A)) c.requires.settled c.requires.sound in
    let at_second = g.D.Disk.state c.write_synced.new.disk in
    let told = told_before at_second.content at_first.content x c.write_synced.ensures.crash.tells is in
    let staged = λ (told : IsSome at_first.content). record_written j.limit j.used j.area A change (c.requires.addable told) room c.disk_place-gate.result c.disk_place-gate.ensures c.as_slice.result.now (c.as_slice.ensures ∙ c.args.reserved.spells) at_first at_second (laws.reads_image j.disk) was c.in_ok-write_synced.ensures.synced c.in_ok-write_synced.ensures.written in
    gate_fits j.limit j.used j.area A change (c.requires.addable told) room c.disk_place-gate.result c.disk_place-gate.ensures c.as_slice.result.now (c.as_slice.ensures ∙ c.args.reserved.spells) at_second (laws.reads_image c.write_synced.new.disk) (staged told) x is

pub returns-in_err-write_synced-2-clause-sound : goal.returns-in_err-write_synced-2-clause-sound
returns-in_err-write_synced-2-clause-sound g c =
    let j = c.args.self.now in
    let change = c.args.reserved.change in
    let A = acknowledged j in
    let at_first = g.D.Disk.state j.disk in
    let laws = g.met.D.Disk g.world.𝓛 g.world.𝓜 g.world.𝓡 ((λ s x. x), (λ x. x), (λ x. x), λ x. x) in
    let room : j.used + record_length change < j.limit = omega arith in
    let was : Leaves at_first at_first.moment (IsImage j.limit j.used j.area Nothing A) =
    subst (λ (d : Doubt). Leaves at_first at_first.moment (IsImage j.limit j.used j.area d A)) c.requires.settled c.requires.sound in
    let at_second = g.D.Disk.state c.write_synced.new.disk in
    let at_third = g.D.Disk.state c.write_synced-2.new.disk in
    let tells = c.write_synced-2.ensures.crash.tells ∙ c.write_synced.ensures.crash.tells in
    let run = passing _ at_first at_second at_third (passing _ at_first at_first at_second (started (λ image. Unit {0}) at_first (λ image left. tt)) c.write_synced.ensures.crash) c.write_synced-2.ensures.crash in
    let staged = λ (told : IsSome at_first.content). record_written j.limit j.used j.area A change (c.requires.addable told) room c.disk_place-gate.result c.disk_place-gate.ensures c.as_slice.result.now (c.as_slice.ensures ∙ c.args.reserved.spells) at_first at_second (laws.reads_image j.disk) was c.in_ok-write_synced.ensures.synced c.in_ok-write_synced.ensures.written in
    sound_from at_third j.limit j.used j.area (OfChange change) A (laws.tells_content c.write_synced-2.new.disk) (laws.reads_image c.write_synced-2.new.disk)
    (now_where_told (IsImage j.limit j.used j.area (OfChange change) A) at_first at_third (laws.tells_content c.write_synced-2.new.disk) tells (λ told. gate_failed j.limit j.used j.area A change (c.requires.addable told) room c.disk_place-gate.result c.disk_place-gate.ensures c.as_slice.result.now (c.as_slice.ensures ∙ c.args.reserved.spells) at_second at_third (staged told) c.write_synced-2.ensures.crash))

pub returns-in_err-write_synced-2-clause-any_moment : goal.returns-in_err-write_synced-2-clause-any_moment
returns-in_err-write_synced-2-clause-any_moment g c =
    let j = c.args.self.now in
    let change = c.args.reserved.change in
    let A = acknowledged j in
    let at_first = g.D.Disk.state j.disk in
    let laws = g.met.D.Disk g.world.𝓛 g.world.𝓜 g.world.𝓡 ((λ s x. x), (λ x. x), (λ x. x), λ x. x) in
    let room : j.used + record_length change < j.limit = omega arith in
    let was : Leaves at_first at_first.moment (IsImage j.limit j.used j.area Nothing A) =
    subst (λ (d : Doubt). Leaves at_first at_first.moment (IsImage j.limit j.used j.area d A)) c.requires.settled c.requires.sound in
    let at_second = g.D.Disk.state c.write_synced.new.disk in
    let at_third = g.D.Disk.state c.write_synced-2.new.disk in
    let tells = c.write_synced-2.ensures.crash.tells ∙ c.write_synced.ensures.crash.tells in
    let run = passing _ at_first at_second at_third (passing _ at_first at_first at_second (started (λ image. Unit {0}) at_first (λ image left. tt)) c.write_synced.ensures.crash) c.write_synced-2.ensures.crash in
    let staged = λ (told : IsSome at_first.content). record_written j.limit j.used j.area A change (c.requires.addable told) room c.disk_place-gate.result c.disk_place-gate.ensures c.as_slice.result.now (c.as_slice.ensures ∙ c.args.reserved.spells) at_first at_second (laws.reads_image j.disk) was c.in_ok-write_synced.ensures.synced c.in_ok-write_synced.ensures.written in
    where_told (HasRowsOrAfter j.limit A change) at_first at_third (laws.tells_content c.write_synced-2.new.disk) tells run
    (λ told. gate_moments j.limit j.used j.area A change (c.requires.addable told) room c.disk_place-gate.result c.disk_place-gate.ensures c.as_slice.result.now (c.as_slice.ensures ∙ c.args.reserved.spells) at_first at_second at_third (record_moments j.limit j.used j.area A change (c.requires.addable told) room c.disk_place-gate.result c.disk_place-gate.ensures c.as_slice.result.now (c.as_slice.ensures ∙ c.args.reserved.spells) _ at_first at_second was c.write_synced.ensures.crash) (staged told) c.write_synced-2.ensures.crash)

pub returns-clause-sound : goal.returns-clause-sound
returns-clause-sound g c =
    let j = c.args.self.now in
    let change = c.args.reserved.change in
    let A = acknowledged j in
    let at_first = g.D.Disk.state j.disk in
    let laws = g.met.D.Disk g.world.𝓛 g.world.𝓜 g.world.𝓡 ((λ s x. x), (λ x. x), (λ x. x), λ x. x) in
    let room : j.used + record_length change < j.limit = omega arith in
    let was : Leaves at_first at_first.moment (IsImage j.limit j.used j.area Nothing A) =
    subst (λ (d : Doubt). Leaves at_first at_first.moment (IsImage j.limit j.used j.area d A)) c.requires.settled c.requires.sound in
    let at_second = g.D.Disk.state c.write_synced.new.disk in
    let at_third = g.D.Disk.state c.write_synced-2.new.disk in
    let tells = c.write_synced-2.ensures.crash.tells ∙ c.write_synced.ensures.crash.tells in
    let run = passing _ at_first at_second at_third (passing _ at_first at_first at_second (started (λ image. Unit {0}) at_first (λ image left. tt)) c.write_synced.ensures.crash) c.write_synced-2.ensures.crash in
    let staged = λ (told : IsSome at_first.content). record_written j.limit j.used j.area A change (c.requires.addable told) room c.disk_place-gate.result c.disk_place-gate.ensures c.as_slice.result.now (c.as_slice.ensures ∙ c.args.reserved.spells) at_first at_second (laws.reads_image j.disk) was c.in_ok-write_synced.ensures.synced c.in_ok-write_synced.ensures.written in
    let need : c.len-need.result ≡ record_length change = omega (arith, body_is_counted change, c.len-need.ensures, ap length c.args.reserved.spells, length-append (record_bytes change) (0 ∷ [])) in
    let added = λ (told : IsSome at_first.content). subst (λ (n : ℕ). Leaves at_third at_third.moment (IsImage j.limit (j.used + n) j.area Nothing (A ++ change ∷ []))) (sym need)
    (gate_opened j.limit j.used j.area A change (c.requires.addable told) room c.disk_place-gate.result c.disk_place-gate.ensures c.as_slice.result.now (c.as_slice.ensures ∙ c.args.reserved.spells) at_second at_third (laws.reads_image c.write_synced.new.disk) (staged told) c.in_ok-write_synced-2.ensures.synced c.in_ok-write_synced-2.ensures.written) in
    sound_from at_third j.limit (j.used + c.len-need.result) j.area Nothing (A ++ change ∷ []) (laws.tells_content c.write_synced-2.new.disk) (laws.reads_image c.write_synced-2.new.disk)
    (now_where_told (IsImage j.limit (j.used + c.len-need.result) j.area Nothing (A ++ change ∷ [])) at_first at_third (laws.tells_content c.write_synced-2.new.disk) tells added)

pub returns-clause-any_moment : goal.returns-clause-any_moment
returns-clause-any_moment g c =
    let j = c.args.self.now in
    let change = c.args.reserved.change in
    let A = acknowledged j in
    let at_first = g.D.Disk.state j.disk in
    let laws = g.met.D.Disk g.world.𝓛 g.world.𝓜 g.world.𝓡 ((λ s x. x), (λ x. x), (λ x. x), λ x. x) in
    let room : j.used + record_length change < j.limit = omega arith in
    let was : Leaves at_first at_first.moment (IsImage j.limit j.used j.area Nothing A) =
    subst (λ (d : Doubt). Leaves at_first at_first.moment (IsImage j.limit j.used j.area d A)) c.requires.settled c.requires.sound in
    let at_second = g.D.Disk.state c.write_synced.new.disk in
    let at_third = g.D.Disk.state c.write_synced-2.new.disk in
    let tells = c.write_synced-2.ensures.crash.tells ∙ c.write_synced.ensures.crash.tells in
    let run = passing _ at_first at_second at_third (passing _ at_first at_first at_second (started (λ image. Unit {0}) at_first (λ image left. tt)) c.write_synced.ensures.crash) c.write_synced-2.ensures.crash in
    let staged = λ (told : IsSome at_first.content). record_written j.limit j.used j.area A change (c.requires.addable told) room c.disk_place-gate.result c.disk_place-gate.ensures c.as_slice.result.now (c.as_slice.ensures ∙ c.args.reserved.spells) at_first at_second (laws.reads_image j.disk) was c.in_ok-write_synced.ensures.synced c.in_ok-write_synced.ensures.written in
    where_told (HasRowsOrAfter j.limit A change) at_first at_third (laws.tells_content c.write_synced-2.new.disk) tells run
    (λ told. gate_moments j.limit j.used j.area A change (c.requires.addable told) room c.disk_place-gate.result c.disk_place-gate.ensures c.as_slice.result.now (c.as_slice.ensures ∙ c.args.reserved.spells) at_first at_second at_third (record_moments j.limit j.used j.area A change (c.requires.addable told) room c.disk_place-gate.result c.disk_place-gate.ensures c.as_slice.result.now (c.as_slice.ensures ∙ c.args.reserved.spells) _ at_first at_second was c.write_synced.ensures.crash) (staged told) c.write_synced-2.ensures.crash)

pub returns-clause-appended : goal.returns-clause-appended
returns-clause-appended g c told =
    let j = c.args.self.now in
    let change = c.args.reserved.change in
    let A = acknowledged j in
    let at_first = g.D.Disk.state j.disk in
    let laws = g.met.D.Disk g.world.𝓛 g.world.𝓜 g.world.𝓡 ((λ s x. x), (λ x. x), (λ x. x), λ x. x) in
    let room : j.used + record_length change < j.limit = omega arith in
    let was : Leaves at_first at_first.moment (IsImage j.limit j.used j.area Nothing A) =
    subst (λ (d : Doubt). Leaves at_first at_first.moment (IsImage j.limit j.used j.area d A)) c.requires.settled c.requires.sound in
    let at_second = g.D.Disk.state c.write_synced.new.disk in
    let at_third = g.D.Disk.state c.write_synced-2.new.disk in
    let tells = c.write_synced-2.ensures.crash.tells ∙ c.write_synced.ensures.crash.tells in
    let run = passing _ at_first at_second at_third (passing _ at_first at_first at_second (started (λ image. Unit {0}) at_first (λ image left. tt)) c.write_synced.ensures.crash) c.write_synced-2.ensures.crash in
    let staged = λ (told : IsSome at_first.content). record_written j.limit j.used j.area A change (c.requires.addable told) room c.disk_place-gate.result c.disk_place-gate.ensures c.as_slice.result.now (c.as_slice.ensures ∙ c.args.reserved.spells) at_first at_second (laws.reads_image j.disk) was c.in_ok-write_synced.ensures.synced c.in_ok-write_synced.ensures.written in
    let need : c.len-need.result ≡ record_length change = omega (arith, body_is_counted change, c.len-need.ensures, ap length c.args.reserved.spells, length-append (record_bytes change) (0 ∷ [])) in
    let added = λ (told : IsSome at_first.content). subst (λ (n : ℕ). Leaves at_third at_third.moment (IsImage j.limit (j.used + n) j.area Nothing (A ++ change ∷ []))) (sym need)
    (gate_opened j.limit j.used j.area A change (c.requires.addable told) room c.disk_place-gate.result c.disk_place-gate.ensures c.as_slice.result.now (c.as_slice.ensures ∙ c.args.reserved.spells) at_second at_third (laws.reads_image c.write_synced.new.disk) (staged told) c.in_ok-write_synced-2.ensures.synced c.in_ok-write_synced-2.ensures.written) in
    known_acknowledged at_third j.limit (j.used + c.len-need.result) j.area Nothing (A ++ change ∷ []) (laws.reads_image c.write_synced-2.new.disk) (added told) (tells ∙ told)

pub returns-in_err-write_synced-clause-acknowledged : goal.returns-in_err-write_synced-clause-acknowledged
returns-in_err-write_synced-clause-acknowledged g c =
    let j = c.args.self.now in
    let change = c.args.reserved.change in
    let A = acknowledged j in
    let at_first = g.D.Disk.state j.disk in
    let laws = g.met.D.Disk g.world.𝓛 g.world.𝓜 g.world.𝓡 ((λ s x. x), (λ x. x), (λ x. x), λ x. x) in
    let room : j.used + record_length change < j.limit = omega arith in
    let was : Leaves at_first at_first.moment (IsImage j.limit j.used j.area Nothing A) =
    subst (λ (d : Doubt). Leaves at_first at_first.moment (IsImage j.limit j.used j.area d A)) c.requires.settled c.requires.sound in
    let at_second = g.D.Disk.state c.write_synced.new.disk in
    on_err _ (still_acknowledged at_first at_second j.limit j.used j.area Nothing c.write_synced.ensures.crash.tells (laws.reads_image c.write_synced.new.disk)
    (now_where_told (IsImage j.limit j.used j.area Nothing A) at_first at_second (laws.tells_content c.write_synced.new.disk) c.write_synced.ensures.crash.tells (λ told. record_failed j.limit j.used j.area A change (c.requires.addable told) room c.disk_place-gate.result c.disk_place-gate.ensures c.as_slice.result.now (c.as_slice.ensures ∙ c.args.reserved.spells) _ at_first at_second was c.write_synced.ensures.crash)))

pub returns-in_err-write_synced-2-clause-acknowledged : goal.returns-in_err-write_synced-2-clause-acknowledged
returns-in_err-write_synced-2-clause-acknowledged g c =
    let j = c.args.self.now in
    let change = c.args.reserved.change in
    let A = acknowledged j in
    let at_first = g.D.Disk.state j.disk in
    let laws = g.met.D.Disk g.world.𝓛 g.world.𝓜 g.world.𝓡 ((λ s x. x), (λ x. x), (λ x. x), λ x. x) in
    let room : j.used + record_length change < j.limit = omega arith in
    let was : Leaves at_first at_first.moment (IsImage j.limit j.used j.area Nothing A) =
    subst (λ (d : Doubt). Leaves at_first at_first.moment (IsImage j.limit j.used j.area d A)) c.requires.settled c.requires.sound in
    let at_second = g.D.Disk.state c.write_synced.new.disk in
    let at_third = g.D.Disk.state c.write_synced-2.new.disk in
    let tells = c.write_synced-2.ensures.crash.tells ∙ c.write_synced.ensures.crash.tells in
    let run = passing _ at_first at_second at_third (passing _ at_first at_first at_second (started (λ image. Unit {0}) at_first (λ image left. tt)) c.write_synced.ensures.crash) c.write_synced-2.ensures.crash in
    let staged = λ (told : IsSome at_first.content). record_written j.limit j.used j.area A change (c.requires.addable told) room c.disk_place-gate.result c.disk_place-gate.ensures c.as_slice.result.now (c.as_slice.ensures ∙ c.args.reserved.spells) at_first at_second (laws.reads_image j.disk) was c.in_ok-write_synced.ensures.synced c.in_ok-write_synced.ensures.written in
    on_err _ (still_acknowledged at_first at_third j.limit j.used j.area (OfChange change) tells (laws.reads_image c.write_synced-2.new.disk)
    (now_where_told (IsImage j.limit j.used j.area (OfChange change) A) at_first at_third (laws.tells_content c.write_synced-2.new.disk) tells (λ told. gate_failed j.limit j.used j.area A change (c.requires.addable told) room c.disk_place-gate.result c.disk_place-gate.ensures c.as_slice.result.now (c.as_slice.ensures ∙ c.args.reserved.spells) at_second at_third (staged told) c.write_synced-2.ensures.crash)))

pub returns-in_err-write_synced-clause-syncs : goal.returns-in_err-write_synced-clause-syncs
returns-in_err-write_synced-clause-syncs g c =
    let D = g.D.Disk.state in
    let at_first = D c.args.self.now.disk in
    one_sync at_first (D c.write_synced.new.disk) c.write_synced.result c.write_synced.ensures.syncs

pub returns-in_err-write_synced-2-clause-syncs : goal.returns-in_err-write_synced-2-clause-syncs
returns-in_err-write_synced-2-clause-syncs g c =
    let D = g.D.Disk.state in
    let at_first = D c.args.self.now.disk in
    let at_second = D c.write_synced.new.disk in
    let at_third = D c.write_synced-2.new.disk in
    more_syncs at_first at_second at_third (one_sync at_first at_second c.write_synced.result c.write_synced.ensures.syncs) c.write_synced.ensures.crash.tells
    (one_sync at_second at_third c.write_synced-2.result c.write_synced-2.ensures.syncs)

pub returns-clause-syncs : goal.returns-clause-syncs
returns-clause-syncs g c =
    let D = g.D.Disk.state in
    let at_first = D c.args.self.now.disk in
    let at_second = D c.write_synced.new.disk in
    let at_third = D c.write_synced-2.new.disk in
    more_syncs at_first at_second at_third (one_sync at_first at_second c.write_synced.result c.write_synced.ensures.syncs) c.write_synced.ensures.crash.tells
    (one_sync at_second at_third c.write_synced-2.result c.write_synced-2.ensures.syncs)

pub returns-in_err-write_synced-clause-not_yet : goal.returns-in_err-write_synced-clause-not_yet
returns-in_err-write_synced-clause-not_yet g c =
    let j = c.args.self.now in
    let change = c.args.reserved.change in
    let A = acknowledged j in
    let at_first = g.D.Disk.state j.disk in
    let laws = g.met.D.Disk g.world.𝓛 g.world.𝓜 g.world.𝓡 ((λ s x. x), (λ x. x), (λ x. x), λ x. x) in
    let room : j.used + record_length change < j.limit = omega arith in
    let was : Leaves at_first at_first.moment (IsImage j.limit j.used j.area Nothing A) =
    subst (λ (d : Doubt). Leaves at_first at_first.moment (IsImage j.limit j.used j.area d A)) c.requires.settled c.requires.sound in
    let at_second = g.D.Disk.state c.write_synced.new.disk in
    on_err _ (inr (where_told (HasRows j.limit (rows_of A)) at_first at_second (laws.tells_content c.write_synced.new.disk) c.write_synced.ensures.crash.tells (passing _ at_first at_first at_second (started (λ image. Unit {0}) at_first (λ image left. tt)) c.write_synced.ensures.crash) (λ told. record_unseen j.limit j.used j.area A change (c.requires.addable told) room c.disk_place-gate.result c.disk_place-gate.ensures c.as_slice.result.now (c.as_slice.ensures ∙ c.args.reserved.spells) _ at_first at_second was c.write_synced.ensures.crash)))
